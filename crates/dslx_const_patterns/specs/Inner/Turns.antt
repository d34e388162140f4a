-- The turns of a loop, where it is known how many there are.
use Rattle.std.specs.Prelude.{ℕ, [], ◌∷◌, Option, Some, None}
use Rattle.dslx_tree.specs.declared.expr.For.{For}
use Rattle.dslx_meaning.specs.declared.value.DslxValue.{DslxValue}
use Rattle.dslx_meaning.specs.declared.value.SignedWord.{SignedWord}
use Rattle.dslx_meaning.specs.Names.ConstMachine.States.{doing, finds_value}
use Rattle.dslx_meaning.specs.Names.ConstMachine.Tasks.{ConstState, Turns}

abbrev pub turns_begin : Option ℕ → For → DslxValue → SignedWord → ConstState → ConstState
turns_begin None f start a run = finds_value None run
turns_begin (Some n) f start a run = doing (Turns f a.signed n a.word ∷ []) (finds_value (Some start) run)
