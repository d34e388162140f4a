use Rattle.std.proofs.Common.{◌≡◌, map, take}
use Rattle.pass_fold.specs.Folds.{literal_value}
use Rattle.pass_fold.proofs.literals.literal_values.Given as goal

abbrev pub invariant-operands : goal.invariant-operands
invariant-operands l = l.values.items ≡ map (literal_value l.nodes) (take l.operand-index l.operands)
