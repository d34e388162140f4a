-- A body whose next task needs an instance that is missing: nothing comes of it by instances that lack this one.
use Rattle.std.proofs.Common.{◌≡◌, ◌∙◌, ◌||◌, ◌++◌, ℕ, Bool, true, false, List, ◌∷◌, Option, Some, None, refl, sym, ap, subst}
use mathlib.Core.Bool.{true≢false}
use Rattle.std.proofs.lemmas.List.Folds.{list_any-append}
use Rattle.dslx_meaning.specs.Lists.{and_then}
use Rattle.dslx_core.proofs.Lemmas.Typing.Typed.{none_some, same_some}
use Rattle.dslx_core.specs.Lowering.Functions.{CoreInstance, Instantiated, callee_of, is_instance}
use Rattle.dslx_core.specs.Lowering.Lowering.{cores_of, lowered, types_of_lowered}
use Rattle.dslx_core.specs.declared.expr.CoreExpr as core
use Rattle.dslx_core.specs.Machines.Machine.Machines.{missing_for, needed_for, unless_done}
use Rattle.dslx_core.specs.Machines.Machine.Reached.{at_table}
use Rattle.dslx_core.specs.Machines.Machine.Steps.{call_made, instance_of}
use Rattle.dslx_core.specs.Machines.Machine.Tasks as task
use Rattle.dslx_core.specs.Machines.Machine.Tasks.{InstanceEnv, LowerTask}
use Rattle.dslx_core.proofs.Lemmas.Machines.Machine.Options.{from_then}
use Rattle.dslx_core.proofs.Lemmas.Machines.Machine.Scopes.{Spot, does_all, done, having}
use Rattle.dslx_core.specs.Machines.Alike.Tables.{has_instance}
use Rattle.dslx_core.proofs.Lemmas.Machines.Alike.{found_has, has_found}

abbrev IsFound : InstanceEnv → Instantiated → Type 0
IsFound context i = (p : ℕ × CoreInstance) × (instance_of context i ≡ Some p)

-- a task that needs an instance comes to nothing without it
needed_found : (context : InstanceEnv) (d : LowerTask) (i : Instantiated) (p q : Spot) → needed_for d ≡ Some i → done context d p ≡ Some q → IsFound context i
needed_found context (task.LowersExpr e) i p q h k = none_some i h
needed_found context (task.LowersBlock b) i p q h k = none_some i h
needed_found context (task.LowersStatements ss last) i p q h k = none_some i h
needed_found context (task.Makes maker) i p q h k = none_some i h
needed_found context (task.BindsValue x ss last) i p q h k = none_some i h
needed_found context (task.MakesBind e s) i p q h k = none_some i h
needed_found context (task.Gathers before es maker) i p q h k = none_some i h
needed_found context (task.TakesOthers t fields ts written) i p q h k = none_some i h
needed_found context (task.GathersFields work before t fields ts) i p q h k = none_some i h
needed_found context (task.LowersArms arms) i p q h k = none_some i h
needed_found context (task.TakesArm work shapes) i p q h k = none_some i h
needed_found context (task.LoopBegins f) i p q h k = none_some i h
needed_found context (task.MakesLoop start a b index acc) i p q h k = none_some i h
needed_found context (task.Restores n count) i p q h k = none_some i h
needed_found context (task.NeedsInstance j) i p q h k =
    let x = from_then (instance_of context j) (λ r. Some p) q k in
    (x.0, ap (instance_of context) (sym (same_some j i h)) ∙ x.1)
needed_found context (task.CallsInstance j es) i p q h k =
    let e = from_then (call_made context j es) (λ e. Some (having (e ∷ p.made) p)) q k in
    let c = from_then (and_then (instance_of context j) (callee_of (types_of_lowered es))) (λ callee. lowered (core.Call callee.number (cores_of es)) callee.result) e.0 e.1 in
    let x = from_then (instance_of context j) (callee_of (types_of_lowered es)) c.0 c.1 in
    (x.0, ap (instance_of context) (sym (same_some j i h)) ∙ x.1)

-- an instance that is missing is needed, and isn't found
missing : (context : InstanceEnv) (d : LowerTask) (i : Instantiated) → missing_for d context ≡ Some i → (needed_for d ≡ Some i) × (instance_of context i ≡ None)
missing context d i e =
    let j = from_then (needed_for d) (λ j. unless_done (instance_of context j) j) i e in
    by j.0 j.1 (instance_of context j.0) refl j.2
  where
    by : (j : Instantiated) → needed_for d ≡ Some j → (o : Option (ℕ × CoreInstance)) → instance_of context j ≡ o → unless_done o j ≡ Some i → (needed_for d ≡ Some i) × (instance_of context i ≡ None)
    by j h None q k = (h ∙ k, ap (instance_of context) (sym (same_some j i k)) ∙ q)
    by j h (Some p) q k = none_some i k

not_there : (context : InstanceEnv) (i : Instantiated) → instance_of context i ≡ None → has_instance i.name i.parametric_args context.table ≡ false
not_there context i e = by (has_instance i.name i.parametric_args context.table) refl
  where
    by : (b : Bool) → has_instance i.name i.parametric_args context.table ≡ b → b ≡ false
    by true h = let p = has_found i.name i.parametric_args 0 context.table h in none_some p.0 (sym e ∙ p.1)
    by false h = refl

-- where the instance is missing, and others lack it, nothing comes by all of them
pub lacks : {X : Type 0} (context : InstanceEnv) (these : List CoreInstance) (all : List LowerTask) (d : LowerTask) (todo : List LowerTask) (spot p : Spot) (i : Instantiated)
    → missing_for d context ≡ Some i → has_instance i.name i.parametric_args these ≡ false → all ≡ d ∷ todo → does_all (at_table context (context.table ++ these)) all spot ≡ Some p → X
lacks context these all d todo spot p i e without is comes =
    let both : InstanceEnv = at_table context (context.table ++ these) in
    let h = missing context d i e in
    let q = from_then (done both d spot) (does_all both todo) p (subst (λ l. does_all both l spot ≡ Some p) is comes) in
    let x = needed_found both d i spot q.0 h.0 q.1 in
    absurd (true≢false (sym (found_has i.name i.parametric_args 0 both.table x.0 x.1) ∙ list_any-append (is_instance i.name i.parametric_args) context.table these
    ∙ ap (λ b. b || has_instance i.name i.parametric_args these) (not_there context i h.1) ∙ without))
