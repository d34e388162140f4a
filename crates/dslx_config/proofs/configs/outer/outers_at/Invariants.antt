use Rattle.std.proofs.Common.{◌≡◌, drop, map}
use Rattle.dslx_meaning.specs.Lists.{all_some}
use Rattle.dslx_core.specs.Networks.Assembly.{lower_outer}
use Rattle.dslx_scope_names.specs.Values.Seen.{scope_seen}
use Rattle.dslx_scope_names.proofs.Lemmas.Numbers.InOrder.{behind}
use Rattle.dslx_config.proofs.configs.outer.outers_at.Given as goal

abbrev pub invariant-ends : goal.invariant-ends
invariant-ends l = behind l.outers.items (all_some (map (lower_outer (scope_seen l.context)) (drop l.end-index l.ends))) ≡ all_some (map (lower_outer (scope_seen l.context)) l.ends)
