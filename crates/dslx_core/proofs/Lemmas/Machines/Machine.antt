-- The public library: what is so of the machine, which each step keeps, and what follows of it when nothing is left to do.
-- each step of the machine keeps what is so of its instances
pub mod Instances
-- each step keeps what comes of a body
pub mod Keeps
-- values that may be missing
pub mod Options
-- what each task comes to
pub mod Scopes
-- trees beside what they become
pub mod Rebuilt
-- what is the same in several scopes
pub mod Steady
use Rattle.std.proofs.Common.{◌≡◌, ℕ, List, Option, Some, None, refl, subst, ap, ◌∙◌}
use Rattle.dslx_tree.specs.declared.expr.Expr.{Expr}
use Rattle.dslx_meaning.specs.Lists.{and_then}
use Rattle.dslx_core.proofs.Lemmas.Typing.Typed.{none_some}
use Rattle.dslx_core.specs.Lowering.Functions.{CoreInstance, Instantiated}
use Rattle.dslx_core.specs.Lowering.Lowering.{LoweredExpr}
use Rattle.dslx_core.specs.Lowering.Trees.{lower_expression}
use Rattle.dslx_core.specs.Machines.Machine.Bodies.{scope_in}
use Rattle.dslx_core.specs.Machines.Machine.Machines.{after_steps, last_made, machine_at, machine_stepped, needing}
use Rattle.dslx_core.specs.Machines.Machine.Reached.{ExtendsTable, HasEnded, IsTable, MakesExpression, at_table, lowering_alone}
use Rattle.dslx_core.specs.Machines.Machine.Steps.{instance_of}
use Rattle.dslx_core.specs.Machines.Machine.Tasks.{InstanceMachine, InstanceEnv, OpenBody}
use Rattle.dslx_core.proofs.Lemmas.Machines.Machine.Instances.{MachineStands, begins_itself, stands_at_first, step_keeps, steps_keep}
use Rattle.dslx_core.proofs.Lemmas.Machines.Machine.Scopes.{Spot, does_all, end_of, makes, spot_of}

-- what is so of a machine that began so
abbrev pub IsReached : InstanceEnv → OpenBody → InstanceMachine → Type 0
IsReached began root m = MachineStands began root m

pub reached_at_first : (began : InstanceEnv) (limit : ℕ) (root : OpenBody) → IsTable began.text began.items began.table → IsReached began root (machine_at began limit root)
reached_at_first began limit root is = stands_at_first began root limit is

-- a step keeps it
pub reached_by_step : (began : InstanceEnv) (root : OpenBody) (m r : InstanceMachine) → IsReached began root m → machine_stepped m ≡ Some r → IsReached began root r
reached_by_step began root m r stands e = step_keeps began root m r stands e

pub reached_by_steps : (began : InstanceEnv) (root : OpenBody) (limit n : ℕ) (m : InstanceMachine) → IsTable began.text began.items began.table → after_steps n (machine_at began limit root) ≡ Some m → IsReached began root m
reached_by_steps began root limit n m is e = steps_keep began root n (machine_at began limit root) m (reached_at_first began limit root is) e

-- the same text and items
instance_env_is : (began : InstanceEnv) (root : OpenBody) (m : InstanceMachine) (table : List CoreInstance) → IsReached began root m → at_table m.context table ≡ at_table began table
instance_env_is began root m table stands = λ i. record { text = stands.text i; items = stands.items i; table = table }

-- ---- at every time

pub reached_table : (began : InstanceEnv) (root : OpenBody) (m : InstanceMachine) → IsReached began root m → IsTable began.text began.items m.context.table
reached_table began root m stands = subst (λ (s : InstanceEnv). IsTable s.text s.items m.context.table) (instance_env_is began root m m.context.table stands) stands.is_table

pub reached_longer : (began : InstanceEnv) (root : OpenBody) (m : InstanceMachine) → IsReached began root m → ExtendsTable m.context.table began.table
reached_longer began root m stands = stands.begins

-- ---- at the end

-- all that was to be done comes to where the root stands
root_comes : (began : InstanceEnv) (root : OpenBody) (m : InstanceMachine) → IsReached began root m → HasEnded m → (table : List CoreInstance) → ExtendsTable table m.context.table
    → end_of (at_table began table) root ≡ Some (spot_of (at_table began table) m.root)
root_comes began root m stands ended table begins =
    subst (λ (s : InstanceEnv). end_of s root ≡ Some (spot_of s m.root)) (instance_env_is began root m table stands)
    (stands.comes table begins ∙ ap (λ todo. does_all (at_table m.context table) todo (spot_of (at_table m.context table) m.root)) ended.root)

pub reached_instance : (began : InstanceEnv) (i : Instantiated) (m : InstanceMachine) → IsReached began (needing i) m → HasEnded m → (p : ℕ × CoreInstance) × (instance_of m.context i ≡ Some p)
reached_instance began i m stands ended = by (instance_of m.context i) refl (stands.comes m.context.table (begins_itself m.context.table) ∙ ap (λ todo. does_all m.context todo (spot_of m.context m.root)) ended.root)
  where
    by : (o : Option (ℕ × CoreInstance)) → instance_of m.context i ≡ o
        → and_then (and_then o (λ p. Some (spot_of m.context (needing i)))) (λ p. Some p) ≡ Some (spot_of m.context m.root) → (p : ℕ × CoreInstance) × (instance_of m.context i ≡ Some p)
    by None e h = none_some (spot_of m.context m.root) h
    by (Some p) e h = (p, e)

pub reached_expression : (began : InstanceEnv) (e : Expr) (body : OpenBody) (m : InstanceMachine) → IsReached began (lowering_alone e body) m → HasEnded m → MakesExpression began e body m
reached_expression began e body m stands ended table begins = by (lower_expression e (scope_in (at_table began table) body)) (root_comes began (lowering_alone e body) m stands ended table begins)
  where
    by : (o : Option LoweredExpr) → and_then (makes o (spot_of (at_table began table) (lowering_alone e body))) (λ p. Some p) ≡ Some (spot_of (at_table began table) m.root) → o ≡ last_made m.root.made
    by None h = none_some (spot_of (at_table began table) m.root) h
    by (Some r) h = ap (λ o. and_then o (λ (p : Spot). last_made p.made)) h
