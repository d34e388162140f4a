use Rattle.std.proofs.Common.{◌≡◌, List, drop}
use Rattle.dslx_meaning.specs.Lists.{all_some}
use Rattle.dslx_core.specs.Lowering.Functions.{CoreInstance}
use Rattle.dslx_core.specs.Machines.Machine.Bodies.{scope_in}
use Rattle.dslx_core.specs.Machines.Machine.Parts.{parametric_args_at}
use Rattle.dslx_instance.specs.Tasks.Shown.{body_shown, instance_env_of}
use Rattle.dslx_scope_names.proofs.OnScopes.Constants.{behind}
use Rattle.dslx_scope_names.proofs.scopes.known.constants_in_body.Given as goal

-- all of them are those that are there and all that are left
abbrev pub invariant-exprs : goal.invariant-exprs
invariant-exprs l = (table : List CoreInstance)
    → behind l.values.items (parametric_args_at (scope_in (instance_env_of l.text table) (body_shown l.body)) (drop l.expr-index l.exprs))
    ≡ all_some (parametric_args_at (scope_in (instance_env_of l.text table) (body_shown l.body)) l.exprs)
