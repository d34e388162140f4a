use Rattle.ir_rebuild.specs.Normal.Normal.{AreLive}
use Rattle.pass_dead.proofs.MarkSteps.{AreVisited}
use Rattle.pass_dead.proofs.marks.live.Given as goal

abbrev pub invariant-nodes : goal.invariant-nodes
invariant-nodes l = AreVisited l.proc l.k l.kept.items × AreLive l.proc l.kept.items
