use Rattle.std.proofs.Common.{◌≡◌, [], take, drop}
use Rattle.ir_tree.specs.Rules.Checks.{noted}
use Rattle.ir_tree.specs.Rules.Verified.{nodes_checks, seen_after}
use Rattle.ir_tree.specs.Rules.Inner.Scopes.{seen_by}
use Rattle.ir_tree.proofs.rules.verified.note_nodes.Given as goal

abbrev pub invariant-nodes : goal.invariant-nodes
invariant-nodes l =
    record {
      faults : noted l.held (nodes_checks l.channels l.state l.spans (take l.i l.nodes) l.i (seen_by l.seen) (drop l.i l.nodes)) ≡ noted l.fn.held (nodes_checks l.channels l.state l.spans [] 0 (seen_by l.initial.seen) l.nodes);
      after : seen_after l.i (seen_by l.seen) (drop l.i l.nodes) ≡ seen_after 0 (seen_by l.initial.seen) l.nodes;
    }
