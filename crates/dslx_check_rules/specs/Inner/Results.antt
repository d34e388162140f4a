-- Which type a binary operator gives.
use Rattle.dslx_tree.specs.declared.operator.Binary.{Binary}
use Rattle.dslx_tree.specs.declared.operator.Binary.TheVariants as b
use Rattle.dslx_check_rules.specs.declared.binary.BinaryResult.{BinaryResult}
use Rattle.dslx_check_rules.specs.declared.binary.BinaryResult.TheVariants.{Left, Joined, Bool}

abbrev pub binary_result : Binary → BinaryResult
binary_result b.Mul = Left
binary_result b.Div = Left
binary_result b.Rem = Left
binary_result b.Add = Left
binary_result b.Sub = Left
binary_result b.Concat = Joined
binary_result b.Shl = Left
binary_result b.Shr = Left
binary_result b.And = Left
binary_result b.Xor = Left
binary_result b.Or = Left
binary_result b.Eq = Bool
binary_result b.Ne = Bool
binary_result b.Lt = Bool
binary_result b.Le = Bool
binary_result b.Gt = Bool
binary_result b.Ge = Bool
binary_result b.Both = Bool
binary_result b.Either = Bool
