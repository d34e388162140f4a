-- The public library: what comes of the machine, which each step keeps.
use Rattle.std.proofs.Common.{◌≡◌, ℕ, zero, suc, List, [], ◌∷◌, Some, refl, sym, ◌∙◌}
use Rattle.dslx_tree.specs.declared.expr.Expr.{Expr}
use Rattle.dslx_tree.specs.declared.item.Module.{Module}
use Rattle.dslx_tree.specs.declared.type_expr.TypeExpr.{TypeExpr}
use Rattle.dslx_meaning.specs.Environment.{Given}
use Rattle.dslx_meaning.specs.Items.{meanings_of}
use Rattle.dslx_meaning.specs.Meaning.{denotation, value_of, written_type, size_of, bound_of}
use Rattle.dslx_meaning.specs.Names.ConstMachine.Tasks.{ConstTask, ConstState, Finding, ValueDen, FindsType, CountsSize, CountsBound}
use Rattle.dslx_meaning.specs.Names.ConstMachine.States.{value_in, type_in, count_in_finding}
use Rattle.dslx_meaning.specs.Names.ConstMachine.Steps.{stepped, behind, after, begins}
use Rattle.dslx_meaning.proofs.OnNames.OnConstMachine.Keeps.{keeps}
use Rattle.dslx_meaning.proofs.OnNames.OnConstMachine.Places.{answer_of}

-- what is found when all is done
abbrev pub comes_to : ConstState → Finding
comes_to run = (answer_of run).found

-- the value of the expression that it begins with
pub comes_to_value : (m : Module) (bound : List Given) (e : Expr) → value_in (comes_to (begins m bound (ValueDen e))) ≡ value_of e (record { items = meanings_of m; bound = bound })
comes_to_value m bound e = refl

-- a written type, a size and a bound
pub comes_to_type : (m : Module) (bound : List Given) (t : TypeExpr) → type_in (comes_to (begins m bound (FindsType t))) ≡ written_type t (record { items = meanings_of m; bound = bound })
comes_to_type m bound t = refl

pub comes_to_size : (m : Module) (bound : List Given) (e : Expr) → count_in_finding (comes_to (begins m bound (CountsSize e))) ≡ size_of (denotation e) (record { items = meanings_of m; bound = bound })
comes_to_size m bound e = refl

pub comes_to_bound : (m : Module) (bound : List Given) (e : Expr) → count_in_finding (comes_to (begins m bound (CountsBound e))) ≡ bound_of (denotation e) (record { items = meanings_of m; bound = bound })
comes_to_bound m bound e = refl

-- a step keeps it
pub comes_to_stepped : (d : ConstTask) (todo : List ConstTask) (run : ConstState) → comes_to (behind (d ∷ todo) run) ≡ comes_to (stepped d (behind todo run))
comes_to_stepped d todo run = λ i. (keeps d (behind todo run) i).found

-- nothing is left to be done
pub comes_to_ends : (run : ConstState) → comes_to (behind [] run) ≡ run.found
comes_to_ends run = refl

-- what is found after so many steps
pub comes_to_after : (n : ℕ) (todo : List ConstTask) (run : ConstState) (f : Finding) → after n (behind todo run) ≡ Some f → f ≡ comes_to (behind todo run)
comes_to_after zero [] run f e = cc
comes_to_after zero (d ∷ todo) run f e = absurd (cc)
comes_to_after (suc n) [] run f e = comes_to_after n [] run f e
comes_to_after (suc n) (d ∷ todo) run f e =
    let next : ConstState = stepped d (behind todo run) in
    comes_to_after n next.todo next f e ∙ sym (comes_to_stepped d todo run)
