use Rattle.std.proofs.Common.{◌≡◌, drop}
use Rattle.std.specs.List.{list_any}
use Rattle.ir_tree.specs.Activations.{sites_of}
use Rattle.block_verilog.specs.Sides.{stands_at, has_site}
use Rattle.block_verilog.proofs.sides.stands.Given as goal

abbrev pub invariant-nodes : goal.invariant-nodes
invariant-nodes l = list_any (stands_at l.sends l.channel) (sites_of (drop l.i l.nodes)) ≡ has_site l.sends l.channel l.proc
