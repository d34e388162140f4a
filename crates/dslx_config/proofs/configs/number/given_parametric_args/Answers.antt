use Rattle.std.proofs.Common.{◌+◌, ◌∙◌, List, Option, ap, drop, map, refl, sym, arith}
use Rattle.dslx_tree.specs.declared.expr.Arg.{Arg, out-Arg}
use Rattle.dslx_meaning.specs.Lists.{all_some}
use Rattle.dslx_meaning.specs.declared.value.DslxValue.{DslxValue}
use Rattle.dslx_core.specs.Lowering.CoreScopes.{constant_at}
use Rattle.dslx_scope_names.specs.Values.Seen.{scope_seen}
use Rattle.dslx_scope_names.specs.declared.values.context.ScopeEnv.{ScopeEnv}
use Rattle.dslx_scope_names.proofs.Lemmas.Numbers.InOrder.{behind}
use Rattle.dslx_config.proofs.OnConfigs.InOrder.{all_made, next_made, next_missing, none_first, some_first}
use Rattle.dslx_config.proofs.configs.number.given_parametric_args.Goals as goal

abbrev value_at : ScopeEnv → Arg → Option DslxValue
value_at context a = constant_at (scope_seen context) (out-Arg a).value

abbrev values_at : ScopeEnv → List Arg → Option (List DslxValue)
values_at context as' = all_some (map (value_at context) as')

pub returns-in-None : goal.returns-in-None
returns-in-None c =
    next_missing (values_at c.args.context) c.args.arguments.now c.arguments.argument-index c.argument-item.result c.arguments.given.items (omega arith) c.argument-item.is
    (none_first (value_at c.args.context) c.argument-item.result (sym c.in_ok-number.ensures ∙ c.in-None.is)) ∙ c.arguments.invariant

pub arguments-preserved : goal.arguments-preserved
arguments-preserved c =
    ap (λ (vs : List DslxValue). behind vs (values_at c.args.context (drop (c.arguments.argument-index + 1) c.args.arguments.now))) c.in_ok-push-in-Some.ensures.items
    ∙ next_made (values_at c.args.context) c.args.arguments.now c.arguments.argument-index c.argument-item.result c.arguments.given.items c.in-Some.number (omega arith) c.argument-item.is
    (some_first (value_at c.args.context) c.argument-item.result c.in-Some.number (sym c.in_ok-number.ensures ∙ c.in-Some.is)) ∙ c.arguments.invariant

pub returns : goal.returns
returns c = all_made (values_at c.args.context) c.args.arguments.now c.arguments.argument-index c.arguments.given.items (omega arith) refl ∙ c.arguments.invariant
