-- The bounds of loops.
use Rattle.std.specs.Prelude.{Option, Some}
use Rattle.dslx_tree.specs.declared.expr.For.{For, out-For}
use Rattle.dslx_meaning.specs.Lists.{and_then, with_both}
use Rattle.dslx_meaning.specs.Values.{bits_of}
use Rattle.dslx_meaning.specs.declared.value.SignedWord.{SignedWord}
use Rattle.dslx_core.specs.Lowering.CoreScopes.{CoreScope, constant_at}

-- both, if they are bits
abbrev pub bounds_of : CoreScope → For → Option (SignedWord × SignedWord)
bounds_of scope f = with_both (and_then (constant_at scope (out-For f).from) bits_of) (and_then (constant_at scope (out-For f).to) bits_of) (λ a b. Some (a, b))
