-- Expressions of a body that are lowered.
use Rattle.std.proofs.lemmas.List.{reverse-reverse}
use Rattle.std.proofs.Common.{◌≡◌, ℕ, true, false, List, [], ◌∷◌, map, reverse, Option, Some, None, refl, sym, subst, ap, ◌∙◌}
use Rattle.dslx_tree.specs.declared.expr.Expr.{Expr}
use Rattle.dslx_tree.specs.declared.item.Module.{Module}
use Rattle.dslx_meaning.specs.Environment.{Given}
use Rattle.dslx_meaning.specs.Items.{meanings_of}
use Rattle.dslx_meaning.specs.Lists.{and_then}
use Rattle.dslx_core.specs.Lowering.Functions.{CoreInstance}
use Rattle.dslx_core.specs.Lowering.Lowering.{LoweredExpr}
use Rattle.dslx_core.specs.Lowering.Trees.{lower_expression}
use Rattle.dslx_core.specs.Machines.Machine.Bodies.{scope_in}
use Rattle.dslx_core.specs.Machines.Machine.Machines.{last_made, machine_at}
use Rattle.dslx_core.specs.Machines.Machine.Reached.{ExtendsTable, HasEnded, IsTable, at_table, lowering_alone}
use Rattle.dslx_core.specs.Machines.Machine.Tasks.{InstanceMachine, InstanceEnv, LowersExpr, OpenBody}
use Rattle.dslx_core.proofs.Lemmas.Machines.Machine.Instances.{MachineStands, begins_itself}
use Rattle.dslx_core.proofs.Lemmas.Machines.Machine.{reached_by_steps, reached_expression, reached_longer, reached_table}
use Rattle.dslx_core.proofs.Lemmas.Machines.Machine.Scopes.{Spot, does_all, end_of, having, makes, spot_of}
use Rattle.dslx_core.proofs.Lemmas.Typing.Typed.{none_some, same_some}
use Rattle.dslx_core.proofs.Lemmas.Machines.Progress.Stops.{lowered_by_no_table}
use Rattle.dslx_param.specs.Run.Runs.{MachineRuns, Ends, Lacks}
use Rattle.dslx_instance.specs.Tasks.Shown.{machine_shown, instance_env_of}
use Rattle.dslx_instance.specs.Tasks.Works.{work_scope}
use Rattle.dslx_instance.specs.declared.tasks.machine.InstanceMachine as code
use Rattle.dslx_meaning.specs.Names.Bound.{given}
use Rattle.dslx_param.specs.Works.{LowerResult, IsLowered, IsNone, taken_from}
use Rattle.dslx_param.proofs.Adding.{MachineOnce}
use Rattle.dslx_param.proofs.OnNeeded.Called.{adds_by}
use Rattle.dslx_param.proofs.OnNeeded.Machines.{machine_calls}
use Rattle.dslx_param.proofs.OnNeeded.More.{ExprsAreMono, InstancesAreMono}
use Rattle.dslx_param.proofs.OnNeeded.Roots.{expression_comes}
use Rattle.dslx_instance.specs.declared.tasks.work.BodyWork.{BodyWork}

-- where a root ends that lowers an expression alone: this was made, and what is bound stays
pub record EndsWith (context : InstanceEnv) (e : Expr) (body : OpenBody) (m : InstanceMachine) : Type 0 where
  pub made : LoweredExpr
  pub is_made : m.root.made ≡ made ∷ []
  pub given : m.root.given ≡ body.given
  pub locals : m.root.locals ≡ body.locals
  pub count : m.root.count ≡ body.count
  pub becomes : (table : List CoreInstance) → ExtendsTable table m.context.table → lower_expression e (scope_in (at_table context table) body) ≡ Some made

-- all that was to be done comes to where the root stands
root_ends : (began : InstanceEnv) (root : OpenBody) (m : InstanceMachine) → MachineStands began root m → HasEnded m → (table : List CoreInstance) → ExtendsTable table m.context.table
    → end_of (at_table began table) root ≡ Some (spot_of (at_table began table) m.root)
root_ends began root m stands ended table begins =
    subst (λ (s : InstanceEnv). end_of s root ≡ Some (spot_of s m.root)) (λ i. record { text = stands.text i; items = stands.items i; table = table })
    (stands.comes table begins ∙ ap (λ todo. does_all (at_table m.context table) todo (spot_of (at_table m.context table) m.root)) ended.root)

-- an expression that makes a spot of another was made there
record Made (o : Option LoweredExpr) (spot end : Spot) : Type 0 where
  made : LoweredExpr
  is : o ≡ Some made
  ends : having (made ∷ spot.made) spot ≡ end

made_there : (o : Option LoweredExpr) (spot end : Spot) → and_then (makes o spot) (λ p. Some p) ≡ Some end → Made o spot end
made_there None spot end h = none_some end h
made_there (Some r) spot end h = record { made = r; is = refl; ends = same_some (having (r ∷ spot.made) spot) end h }

ends_with : (began : InstanceEnv) (e : Expr) (body : OpenBody) (m : InstanceMachine) → MachineStands began (lowering_alone e body) m → HasEnded m → EndsWith began e body m
ends_with began e body m stands ended =
    let first = m.context.table in
    let here = made_there (lower_expression e (scope_in (at_table began first) body)) (spot_of (at_table began first) (lowering_alone e body)) (spot_of (at_table began first) m.root)
    (root_ends began (lowering_alone e body) m stands ended first (begins_itself first)) in
    record {
      made = here.made;
      is_made = sym (ap (λ (p : Spot). p.made) here.ends);
      given = sym (ap (λ (p : Spot). p.scope.known.parametric_args) here.ends);
      locals = sym (ap (λ (p : Spot). p.scope.locals) here.ends);
      count = sym (ap (λ (p : Spot). p.scope.count) here.ends);
      becomes = λ table begins. reached_expression began e body m stands ended table begins ∙ ap last_made (sym (ap (λ (p : Spot). p.made) here.ends));
    }

-- ---- in code

-- what is to be lowered in a body, and nothing else
abbrev pub root_of : BodyWork → Expr → OpenBody
root_of w e = record { given = reverse (map given w.given.items); todo = LowersExpr e ∷ []; made = []; locals = w.locals; count = w.count }

turned_back : (xs ys : List Given) → reverse xs ≡ reverse ys → xs ≡ ys
turned_back xs ys h = sym (reverse-reverse xs) ∙ ap reverse h ∙ reverse-reverse ys

-- the machine ended
pub lowers_made : (m : Module) (limit : ℕ) (w : BodyWork) (e : Expr) (x : code.InstanceMachine) (o : Option (LoweredExpr × BodyWork))
    → MachineRuns (machine_at (instance_env_of m w.table) limit (root_of w e)) (machine_shown x) true → IsTable m (meanings_of m) w.table → o ≡ taken_from x.table x.root x.root.made → MachineOnce → ExprsAreMono → InstancesAreMono → LowerResult m limit w e o
lowers_made m limit w e x o (Ends n steps done) is h once exprs instances =
    let began = instance_env_of m w.table in
    let reached = reached_by_steps began (root_of w e) limit n (machine_shown x) is steps in
    let ends = ends_with began e (root_of w e) (machine_shown x) reached done in
    subst (LowerResult m limit w e) (sym (h ∙ ap (taken_from x.table x.root) ends.is_made))
    (IsLowered ends.made (record { table = x.table; given = x.root.given; locals = x.root.locals; count = x.root.count })
    (reached_table began (root_of w e) (machine_shown x) reached) (reached_longer began (root_of w e) (machine_shown x) reached)
    (turned_back (map given x.root.given.items) (map given w.given.items) ends.given) ends.locals ends.count ends.becomes
    (adds_by m limit w.table x.table (λ t. lower_expression e (work_scope m t w)) (λ each. once began each limit n (root_of w e) (machine_shown x) steps)
    (machine_calls m w.table limit (root_of w e) (λ t. lower_expression e (work_scope m t w)) (expression_comes exprs m e (root_of w e)) instances n (machine_shown x) is steps)))

-- it lacks a step
pub lowers_none : (m : Module) (limit : ℕ) (w : BodyWork) (e : Expr) (end : InstanceMachine) → MachineRuns (machine_at (instance_env_of m w.table) limit (root_of w e)) end false
    → IsTable m (meanings_of m) w.table → LowerResult m limit w e None
lowers_none m limit w e end (Lacks n machine steps last) is = IsNone (lowered_by_no_table (instance_env_of m w.table) is limit n e (root_of w e) machine steps last)
