use Rattle.std.proofs.Common.{◌≡◌, drop}
use Rattle.std.specs.List.{list_any}
use Rattle.ir_lower.specs.Deep.{is_deep_site}
use Rattle.ir_lower.proofs.deep.is_deep_head.Given as goal

abbrev pub invariant-sites : goal.invariant-sites
invariant-sites l = list_any (is_deep_site l.chans) (drop l.site-index l.site-items) ≡ list_any (is_deep_site l.chans) l.site-items
