use Rattle.std.proofs.Common.{◌≡◌, drop}
use Rattle.pass_narrow.specs.Views.{part_from}
use Rattle.pass_narrow.proofs.operands.part_from.Given as goal

abbrev pub invariant-parts : goal.invariant-parts
invariant-parts l = part_from l.state l.nodes (drop l.part-index l.parts) l.left l.start l.width ≡ part_from l.state l.nodes l.parts l.total l.start l.width
