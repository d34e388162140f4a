use Rattle.std.proofs.Common.{◌≡◌, ◌+◌, sum, map, drop}
use Rattle.ir_tree.specs.declared.node.Operand.{Operand}
use Rattle.ir_tree.specs.NodeTypes.Types.{bits_width}
use Rattle.ir_tree.specs.Rules.Fitting.{type_in}
use Rattle.ir_tree.specs.Rules.Inner.Scopes.{types_of}
use Rattle.ir_tree.proofs.rules.fitting.make_width.Given as goal

abbrev pub invariant-operands : goal.invariant-operands
invariant-operands l =
    let width = λ (o : Operand). bits_width (type_in (types_of l.scope) o) in
    sum (map width l.operands) + l.left ≡ l.width + sum (map width (drop l.operand-index l.operands))
