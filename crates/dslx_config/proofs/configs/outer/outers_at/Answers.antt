use Rattle.std.proofs.Common.{◌+◌, ◌∙◌, List, Option, Some, ap, drop, map, refl, sym, arith}
use Rattle.dslx_tree.specs.declared.process.End.{End}
use Rattle.dslx_meaning.specs.Lists.{all_some}
use Rattle.dslx_core.specs.declared.design.Outer.{Outer}
use Rattle.dslx_core.specs.Networks.Assembly.{lower_outer}
use Rattle.dslx_scope_names.specs.Values.Seen.{scope_seen}
use Rattle.dslx_scope_names.specs.declared.values.context.ScopeEnv.{ScopeEnv}
use Rattle.dslx_scope_names.proofs.Lemmas.Numbers.InOrder.{behind}
use Rattle.dslx_config.proofs.OnConfigs.InOrder.{all_made, next_made, next_missing, none_first, some_first}
use Rattle.dslx_config.proofs.configs.outer.outers_at.Goals as goal

abbrev outers : ScopeEnv → List End → Option (List Outer)
outers context es = all_some (map (lower_outer (scope_seen context)) es)

pub returns-in-None : goal.returns-in-None
returns-in-None c =
    next_missing (outers c.args.context) c.args.ends.now c.ends.end-index c.end-item.result c.ends.outers.items (omega arith) c.end-item.is
    (none_first (lower_outer (scope_seen c.args.context)) c.end-item.result (sym c.in_ok-outer.ensures ∙ c.in-None.is)) ∙ c.ends.invariant

pub ends-preserved : goal.ends-preserved
ends-preserved c =
    ap (λ (os : List Outer). behind os (outers c.args.context (drop (c.ends.end-index + 1) c.args.ends.now))) c.in_ok-push-in-Some.ensures.items
    ∙ next_made (outers c.args.context) c.args.ends.now c.ends.end-index c.end-item.result c.ends.outers.items c.in-Some.outer (omega arith) c.end-item.is
    (some_first (lower_outer (scope_seen c.args.context)) c.end-item.result c.in-Some.outer (sym c.in_ok-outer.ensures ∙ c.in-Some.is)) ∙ c.ends.invariant

pub returns : goal.returns
returns c = ap Some c.from_vec.ensures ∙ all_made (outers c.args.context) c.args.ends.now c.ends.end-index c.ends.outers.items (omega arith) refl ∙ c.ends.invariant
