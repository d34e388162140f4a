use Rattle.std.proofs.Common.{◌≤◌, ◌+◌, drop, length}
use Rattle.net_core.specs.Keeps.{IsNothing}
use Rattle.ir_tree.specs.Activations.{sites_of}
use Rattle.ir_eval.specs.Inner.Walks.{StandsFor}
use Rattle.ir_eval.proofs.body.IrBodyBody.next.Given as goal

abbrev pub invariant-nodes : goal.invariant-nodes
invariant-nodes l =
    record {
      few : l.walk.site + length (sites_of (drop l.number l.self.proc.now.nodes)) ≤ length (sites_of l.self.proc.now.nodes);
      less : l.walk.taken ≤ l.number;
      stands : StandsFor l.self.ir.now.channels l.self.proc.now l.state l.got l.done l.walk (drop l.number l.self.proc.now.nodes);
      nothing : IsNothing l.kept;
    }
