-- What comes of expressions in the body of a `next`, with the body behind them.
use Rattle.std.specs.Prelude.{◌≡◌, List, Option, None, Some, map, reverse}
use Rattle.dslx_tree.specs.declared.expr.Expr.{Expr}
use Rattle.dslx_tree.specs.declared.item.Module.{Module}
use Rattle.dslx_meaning.specs.Activation.{SiteAct}
use Rattle.dslx_meaning.specs.Items.{meanings_of}
use Rattle.dslx_meaning.specs.Names.Bound.{given}
use Rattle.dslx_meaning.specs.declared.names.scope.Binding.{Binding}
use Rattle.dslx_core.specs.Lowering.CoreScopes.{BodyEnv, CoreScope}
use Rattle.dslx_core.specs.Lowering.Functions.{CoreInstance, callee_in, outer_scope}
use Rattle.dslx_core.specs.Machines.Machine.Reached.{IsTable}
use Rattle.dslx_instance.specs.Tasks.Works.{work_scope}
use Rattle.dslx_instance.specs.declared.tasks.work.BodyWork.{BodyWork}
use Rattle.dslx_core.specs.Machines.Extension.Results.{StableFrom, NoTableGives}
use Rattle.dslx_param.specs.Needed.{AddsNeeded}
use Rattle.dslx_next.specs.Opening.Opened.{act_opened}
use Rattle.dslx_next.specs.declared.opening.opened.OpenStep.{OpenStep}
use Rattle.dslx_next.specs.declared.opening.work.NextScope.{NextScope}

-- ---- scopes

-- parametrics, the last one last, and what calls resolve to among these instances
abbrev pub parametric_args_known : Module → List Binding → List CoreInstance → BodyEnv
parametric_args_known m parametric_args table = record { items = meanings_of m; parametric_args = reverse (map given parametric_args); callee = callee_in m (meanings_of m) table }

-- where nothing is bound but parametrics
abbrev pub outer_at : NextScope → BodyWork → List CoreInstance → CoreScope
outer_at k w table = outer_scope (parametric_args_known k.text.now w.given.items table)

abbrev pub scope_at : NextScope → BodyWork → List CoreInstance → CoreScope
scope_at k w table = work_scope k.text.now table w

-- the instances that are made are of the text
abbrev pub HasTable : NextScope → BodyWork → Type 0
HasTable k w = IsTable k.text.now (meanings_of k.text.now) w.table

-- the same is bound
pub record IsThere (before after : BodyWork) : Type 0 where
  pub parametric_args : map given after.given.items ≡ map given before.given.items
  pub locals : after.locals ≡ before.locals
  pub count : after.count ≡ before.count

-- ---- expressions

-- nothing, or a value and the body behind it, where the same is bound and what was added is needed for the value
abbrev pub BodyMakes : {A : Type 0} → NextScope → BodyWork → (List CoreInstance → Option A) → Option (A × BodyWork) → Type 0
BodyMakes k w meaning None = NoTableGives k.text.now k.limit meaning
BodyMakes k w meaning (Some (a, after)) = StableFrom k.text.now w.table after.table meaning a × IsThere w after × AddsNeeded k.text.now k.limit w.table after.table meaning

-- a step that binds nothing yet
abbrev pub opened_at : NextScope → BodyWork → SiteAct → Expr → List CoreInstance → Option OpenStep
opened_at k w a e table = act_opened (outer_at k w table) k.ends.now a e (scope_at k w table)
