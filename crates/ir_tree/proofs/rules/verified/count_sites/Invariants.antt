use Rattle.std.proofs.Common.{◌≡◌, ◌+◌, ◌≤◌, drop, length}
use Rattle.ir_tree.specs.Activations.{sites_of}
use Rattle.ir_tree.proofs.rules.verified.count_sites.Given as goal

abbrev pub invariant-nodes : goal.invariant-nodes
invariant-nodes l =
    record {
      few : l.count ≤ l.node-index;
      total : l.count + length (sites_of (drop l.node-index l.nodes)) ≡ length (sites_of l.nodes);
    }
