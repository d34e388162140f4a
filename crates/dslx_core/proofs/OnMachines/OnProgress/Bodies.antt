-- A body from which something comes where calls come to the instances of two tables, of which the first is there: its next step is
-- there, or it needs an instance of the second.
use Rattle.std.proofs.Common.{◌≡◌, ◌||◌, ℕ, Bool, true, false, List, ◌∷◌, Option, Some, None, refl, sym, ap, ◌∙◌}
use Rattle.dslx_meaning.specs.Lists.{and_then}
use Rattle.dslx_core.proofs.Lemmas.Typing.Typed.{none_some, same_some}
use Rattle.dslx_core.specs.Lowering.Functions.{CoreInstance, Instantiated, callee_of}
use Rattle.dslx_core.specs.Lowering.Lowering.{cores_of, lowered, types_of_lowered}
use Rattle.dslx_core.specs.declared.expr.CoreExpr as core
use Rattle.dslx_core.specs.Machines.Machine.Bodies.{behind}
use Rattle.dslx_core.specs.Machines.Machine.Machines.{missing_for, needed_for, unless_done}
use Rattle.dslx_core.specs.Machines.Machine.Reached.{at_table}
use Rattle.dslx_core.specs.Machines.Machine.Steps.{call_made, instance_of, stepped}
use Rattle.dslx_core.specs.Machines.Machine.Tasks as task
use Rattle.dslx_core.specs.Machines.Machine.Tasks.{InstanceEnv, LowerTask, OpenBody}
use Rattle.dslx_core.proofs.Lemmas.Machines.Machine.Keeps.{keeps}
use Rattle.dslx_core.proofs.Lemmas.Machines.Machine.Options.{from_then}
use Rattle.dslx_core.proofs.Lemmas.Machines.Machine.Scopes.{Spot, does_all, done, end_of, having, spot_of}
use Rattle.dslx_core.specs.Machines.Alike.Tables.{JoinedTable, has_instance}
use Rattle.dslx_core.proofs.Lemmas.Machines.Alike.{found_has, has_found}

-- ---- instances that are needed

abbrev IsFound : InstanceEnv → Instantiated → Type 0
IsFound context i = (p : ℕ × CoreInstance) × (instance_of context i ≡ Some p)

-- a task that needs an instance comes to nothing without it
needed_found : (context : InstanceEnv) (d : LowerTask) (i : Instantiated) (p q : Spot) → needed_for d ≡ Some i → done context d p ≡ Some q → IsFound context i
needed_found context (task.LowersExpr e) i p q h k = none_some i h
needed_found context (task.LowersBlock b) i p q h k = none_some i h
needed_found context (task.LowersStatements ss last) i p q h k = none_some i h
needed_found context (task.Makes maker) i p q h k = none_some i h
needed_found context (task.BindsValue x ss last) i p q h k = none_some i h
needed_found context (task.MakesBind e s) i p q h k = none_some i h
needed_found context (task.Gathers before es maker) i p q h k = none_some i h
needed_found context (task.TakesOthers t fields ts written) i p q h k = none_some i h
needed_found context (task.GathersFields work before t fields ts) i p q h k = none_some i h
needed_found context (task.LowersArms arms) i p q h k = none_some i h
needed_found context (task.TakesArm work shapes) i p q h k = none_some i h
needed_found context (task.LoopBegins f) i p q h k = none_some i h
needed_found context (task.MakesLoop start a b index acc) i p q h k = none_some i h
needed_found context (task.Restores n count) i p q h k = none_some i h
needed_found context (task.NeedsInstance j) i p q h k =
    let x = from_then (instance_of context j) (λ r. Some p) q k in
    (x.0, ap (instance_of context) (sym (same_some j i h)) ∙ x.1)
needed_found context (task.CallsInstance j es) i p q h k =
    let e = from_then (call_made context j es) (λ e. Some (having (e ∷ p.made) p)) q k in
    let c = from_then (and_then (instance_of context j) (callee_of (types_of_lowered es))) (λ callee. lowered (core.Call callee.number (cores_of es)) callee.result) e.0 e.1 in
    let x = from_then (instance_of context j) (callee_of (types_of_lowered es)) c.0 c.1 in
    (x.0, ap (instance_of context) (sym (same_some j i h)) ∙ x.1)

-- an instance that is missing is needed, and isn't found
missing : (context : InstanceEnv) (d : LowerTask) (i : Instantiated) → missing_for d context ≡ Some i → (needed_for d ≡ Some i) × (instance_of context i ≡ None)
missing context d i e =
    let j = from_then (needed_for d) (λ j. unless_done (instance_of context j) j) i e in
    by j.0 j.1 (instance_of context j.0) refl j.2
  where
    by : (j : Instantiated) → needed_for d ≡ Some j → (o : Option (ℕ × CoreInstance)) → instance_of context j ≡ o → unless_done o j ≡ Some i → (needed_for d ≡ Some i) × (instance_of context i ≡ None)
    by j h None q k = (h ∙ k, ap (instance_of context) (sym (same_some j i k)) ∙ q)
    by j h (Some p) q k = none_some i k

-- ---- the next step

module _ (context : InstanceEnv) (front : List CoreInstance) (both : JoinedTable context.text context.items context.table front) where
  -- what comes of the body where calls come to the instances of both tables
  abbrev pub TableResult : OpenBody → Type 0
  TableResult body = (p : Spot) × (end_of (at_table context both.table) body ≡ Some p)

  pub goes : (d : LowerTask) (todo : List LowerTask) (body : OpenBody) → TableResult (behind (d ∷ todo) body) → missing_for d context ≡ None → (next : OpenBody) × (stepped d context (behind todo body) ≡ Some next)
  goes d todo body comes there =
      let s = from_then (stepped d context (behind todo body)) (end_of (at_table context both.table)) comes.0 (keeps context both.table d (behind todo body) both.begins there ∙ comes.1) in
      (s.0, s.1)

  not_there : (i : Instantiated) → instance_of context i ≡ None → has_instance i.name i.parametric_args context.table ≡ false
  not_there i e = by (has_instance i.name i.parametric_args context.table) refl
    where
      by : (b : Bool) → has_instance i.name i.parametric_args context.table ≡ b → b ≡ false
      by true h = let p = has_found i.name i.parametric_args 0 context.table h in none_some p.0 (sym e ∙ p.1)
      by false h = refl

  -- an instance that is missing is one of the second table, and isn't done
  pub needs : (d : LowerTask) (todo : List LowerTask) (body : OpenBody) (i : Instantiated) → TableResult (behind (d ∷ todo) body) → missing_for d context ≡ Some i
      → (has_instance i.name i.parametric_args front ≡ true) × (instance_of context i ≡ None)
  needs d todo body i comes e =
      let m = missing context d i e in
      let q = from_then (done (at_table context both.table) d (spot_of (at_table context both.table) body)) (does_all (at_table context both.table) todo) comes.0 comes.1 in
      let x = needed_found (at_table context both.table) d i (spot_of (at_table context both.table) body) q.0 m.0 q.1 in
      (ap (λ b. b || has_instance i.name i.parametric_args front) (sym (not_there i m.1)) ∙ sym (both.has i.name i.parametric_args) ∙ found_has i.name i.parametric_args 0 both.table x.0 x.1, m.1)
