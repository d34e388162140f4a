use Rattle.std.proofs.Common.{◌≡◌, take, map}
use Rattle.ir_rebuild.specs.Moves.{moved}
use Rattle.ir_rebuild.proofs.moves.moved_all.Given as goal

abbrev pub invariant-operands : goal.invariant-operands
invariant-operands l = l.all ≡ map (moved l.places) (take l.operand-index l.operands)
