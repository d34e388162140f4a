use Rattle.std.proofs.Common.{◌≡◌, drop}
use Rattle.std.specs.List.{fold}
use Rattle.dslx_check_rules.specs.Rows.{fed_by_parts}
use Rattle.dslx_check_rules.proofs.table.row.feed.Given as goal

abbrev pub invariant-parts : goal.invariant-parts
invariant-parts g l = fold g.H.Hasher.write l.state (fed_by_parts (drop l.part-index l.parts)) ≡ fold g.H.Hasher.write l.initial.state (fed_by_parts l.parts)
