use Rattle.std.proofs.Common.{◌≡◌, take, map}
use Rattle.ir_rebuild.specs.Putting.Given.{type_at}
use Rattle.ir_rebuild.proofs.putting.nodes.Nodes.copy_types.Given as goal

abbrev pub invariant-operands : goal.invariant-operands
invariant-operands l = l.types.items ≡ map (type_at l.self) (take l.operand-index l.operands)
