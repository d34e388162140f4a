-- Values that no word of the code holds.
use Rattle.std.proofs.Common.{◌≡◌, ℕ, Bool, true, false, nat_le, Option, Some, None, if◌then◌else◌, refl, ap}
use Rattle.xb_bits.specs.Word.{Word}
use Rattle.xb_bits.specs.Operations as op
use Rattle.dslx_meaning.specs.Lists.{and_then}
use Rattle.dslx_meaning.specs.Values.{signed_step}
use Rattle.dslx_meaning.specs.Operators.{cast_word}
use Rattle.dslx_meaning.specs.declared.value.DslxValue.{Bits}
use Rattle.dslx_meaning.specs.declared.value.DslxValue.TheViews.{outs-Bits}
use Rattle.dslx_values.specs.Operators.Widths.{is_width, is_held, is_held_word, are_held_bits}

-- bits are held where their width is one of words
pub bits_held : (s : Bool) (x : Word) → is_held (Some (Bits s x)) ≡ is_width x.width
bits_held s x = ap (λ l. are_held_bits (signed_step l)) (outs-Bits s x)

pub word_held : (s : Bool) (o : Option Word) → is_held (and_then o (λ x. Some (Bits s x))) ≡ is_held_word o
word_held s None = refl
word_held s (Some x) = bits_held s x

pub cast_width : (s : Bool) (w : ℕ) (x : Word) → (cast_word s w x).width ≡ w
cast_width s w x = by_test (nat_le w x.width) s
  where
    by_test : (t u : Bool) → (if t then op.slice x 0 w else (if u then op.sext x w else op.zext x w)).width ≡ w
    by_test true u = refl
    by_test false true = refl
    by_test false false = refl
