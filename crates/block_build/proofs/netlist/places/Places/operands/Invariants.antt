use Rattle.std.proofs.Common.{◌≡◌, map, take}
use Rattle.block_build.specs.Netlist.Places.{shown_at}
use Rattle.block_build.proofs.netlist.places.Places.operands.Given as goal

abbrev pub invariant-operands : goal.invariant-operands
invariant-operands l = l.shown.items ≡ map (shown_at l.self l.stage) (take l.operand-index l.operands)
