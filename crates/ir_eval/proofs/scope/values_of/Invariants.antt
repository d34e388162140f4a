use Rattle.std.proofs.Common.{◌≡◌, take, map}
use Rattle.ir_tree.specs.NodeValues.{operand_value}
use Rattle.ir_eval.proofs.scope.values_of.Given as goal

abbrev pub invariant-operands : goal.invariant-operands
invariant-operands l = l.values.items ≡ map (operand_value l.scope.state.now l.scope.values.now) (take l.operand-index l.operands)
