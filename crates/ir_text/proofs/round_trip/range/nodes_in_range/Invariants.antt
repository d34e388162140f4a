use Rattle.std.proofs.Common.{◌≡◌, drop}
use Rattle.std.specs.List.{list_all}
use Rattle.ir_text.specs.RoundTrip.InRange.{node_in_range}
use Rattle.ir_text.proofs.round_trip.range.nodes_in_range.Given as goal

abbrev pub invariant-nodes : goal.invariant-nodes
invariant-nodes l = list_all node_in_range l.nodes ≡ list_all node_in_range (drop l.node-index l.nodes)
