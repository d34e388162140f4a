-- Builtins of one operand, by the bits that it is.
use Rattle.std.proofs.Common.{◌≡◌, List, [], ◌∷◌, Some, false, refl}
use Rattle.xb_bits.specs.Word.{Word}
use Rattle.dslx_meaning.specs.Lists.{and_then}
use Rattle.dslx_meaning.specs.Operators.{counted, reduced}
use Rattle.dslx_meaning.specs.declared.value.DslxValue.{DslxValue, Bits}
use Rattle.dslx_values.specs.Operators.Inner.Operands.{only_operand}

pub counted_by_bits : (f : Word → Word) (vs : List DslxValue) → counted f vs ≡ and_then (only_operand vs) (λ x. Some (Bits x.signed (f x.word)))
counted_by_bits f [] = refl
counted_by_bits f (v ∷ []) = refl
counted_by_bits f (v ∷ w ∷ vs) = refl

pub reduced_by_bits : (f : Word → Word) (vs : List DslxValue) → reduced f vs ≡ and_then (only_operand vs) (λ x. Some (Bits false (f x.word)))
reduced_by_bits f [] = refl
reduced_by_bits f (v ∷ []) = refl
reduced_by_bits f (v ∷ w ∷ vs) = refl
