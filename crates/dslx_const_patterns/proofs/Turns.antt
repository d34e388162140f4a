-- A loop has turns where its ends are of one type.
use Rattle.std.proofs.Common.{◌≡◌, ℕ, [], ◌∷◌, Bool, true, false, Some, None, refl, if◌then◌else◌}
use Rattle.dslx_tree.specs.declared.expr.For.{For}
use Rattle.dslx_meaning.specs.Lists.{where_true}
use Rattle.dslx_meaning.specs.Meaning.{turn_count}
use Rattle.dslx_meaning.specs.Operators.{of_one_type}
use Rattle.dslx_meaning.specs.declared.value.DslxValue.{DslxValue}
use Rattle.dslx_meaning.specs.declared.value.SignedWord.{SignedWord}
use Rattle.dslx_meaning.specs.Names.ConstMachine.States.{doing, finds_value}
use Rattle.dslx_meaning.specs.Names.ConstMachine.Tasks.{ConstState, Turns}
use Rattle.dslx_meaning.specs.Names.ConstMachine.Patterns.{last_found}
use Rattle.dslx_const_patterns.specs.Inner.Turns.{turns_begin}

counted : (alike : Bool) (n : ℕ) (f : For) (start : DslxValue) (a : SignedWord) (run : ConstState)
    → turns_begin (where_true alike (Some n)) f start a run ≡ (if alike then doing (Turns f a.signed n a.word ∷ []) (finds_value (Some start) run) else finds_value None run)
counted true n f start a run = refl
counted false n f start a run = refl

pub turns_counted : (f : For) (start : DslxValue) (a b : SignedWord) (run : ConstState)
    → turns_begin (where_true (of_one_type a b) (Some (turn_count a b))) f start a run ≡ last_found f start a (Some b) run
turns_counted f start a b run = counted (of_one_type a b) (turn_count a b) f start a run
