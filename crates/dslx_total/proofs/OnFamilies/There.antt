-- Instances of procs that are checked, whose parametric arguments are of their own types: the type environment in them is well typed.
use Rattle.std.proofs.Common.{ℕ, List, [], Option}
use Rattle.dslx_tree.specs.declared.item.Module.{Module}
use Rattle.dslx_tree.specs.declared.process.Proc.{Proc}
use Rattle.dslx_meaning.specs.Items.{parametric_args_bound}
use Rattle.dslx_meaning.specs.declared.value.DslxValue.{DslxValue}
use Rattle.dslx_meaning.specs.Rules.TypeEnvs.{GlobalEnv}
use Rattle.dslx_meaning.specs.Rules.ProcRules.{proc_type_env}
use Rattle.dslx_core.specs.Typing.Typed.Complete.{IsComplete}
use Rattle.dslx_core.specs.Typing.Typed.Numbers.{AllOwn}
use Rattle.dslx_core.specs.Typing.Typed.WellTyped.{IsWellTypedEnv}
use Rattle.dslx_core.proofs.Lemmas.Typing.Typed.{own_bound}
use Rattle.dslx_core.specs.Typing.Complete.HasValue.{AreTyped}
use Rattle.dslx_core.proofs.Lemmas.Typing.Complete.{item_env, item_typed, none_own}
use Rattle.dslx_core.proofs.Lemmas.Typing.Accepted.{IsAccepted}
use Rattle.dslx_total.proofs.OnFamilies.Acts.{IsChecked}

module _ (m : Module) (top : Option (List ℕ)) (s : IsAccepted m top) (known : GlobalEnv) where
  -- an instance of a proc of the text that is checked, and whose parametric arguments are of their own types
  pub record IsThere (p : Proc) (parametric_args : List DslxValue) : Type 0 where
    pub checked : IsChecked m top s p parametric_args
    pub own : AllOwn known.items.type_named parametric_args

  pub well : IsComplete known → AreTyped known → (p : Proc) (parametric_args : List DslxValue) → IsThere p parametric_args → IsWellTypedEnv (proc_type_env known p parametric_args) (item_env known (parametric_args_bound [] p.parametrics parametric_args))
  well complete typed p parametric_args h = item_typed known complete typed p.name.name (parametric_args_bound [] p.parametrics parametric_args) (own_bound known.items.type_named [] p.parametrics parametric_args (none_own known) h.own)
