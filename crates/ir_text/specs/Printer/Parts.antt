-- The texts of types, constants and operands.
use Rattle.std.specs.Prelude.{ℕ, List, [], ◌∷◌, ◌++◌, codes, decimal, slice_get, Option, Some, None}
use Rattle.xb_value.specs.Text.{listed}
use Rattle.delay_model.specs.Names.{name_of}
use Rattle.ir_tree.specs.declared.ir_type.IrType.{IrType, fold-IrType}
use Rattle.ir_tree.specs.declared.ir_type.IrType.TheOpen.{IrType-F}
use Rattle.ir_tree.specs.declared.constant.Constant.{Constant, fold-Constant}
use Rattle.ir_tree.specs.declared.constant.Constant.TheOpen.{Constant-F}
use Rattle.ir_tree.specs.declared.node.Operand.{Operand}
use Rattle.ir_tree.specs.declared.node.Operand.TheVariants as operand
use Rattle.ir_tree.specs.declared.node.Node.{Node}

-- sizes of arrays, of which the list has the outermost first and the text the innermost
abbrev pub sizes_text : List ℕ → List ℕ
sizes_text [] = []
sizes_text (n ∷ ns) = sizes_text ns ++ (codes "[" ++ (decimal n ++ codes "]"))

abbrev pub type_step : IrType-F (List ℕ) → List ℕ
type_step (IrType-F.Bits w ns) = codes "bits[" ++ (decimal w ++ (codes "]" ++ sizes_text ns))
type_step (IrType-F.Token ns) = codes "token" ++ sizes_text ns
type_step (IrType-F.Tuple ts ns) = codes "(" ++ (listed [] ts ++ (codes ")" ++ sizes_text ns))

abbrev pub type_text : IrType → List ℕ
type_text = fold-IrType (List ℕ) type_step

abbrev pub constant_step : Constant-F (List ℕ) → List ℕ
constant_step (Constant-F.Number n) = decimal n
constant_step (Constant-F.Tuple cs) = codes "(" ++ (listed [] cs ++ codes ")")
constant_step (Constant-F.Array cs) = codes "[" ++ (listed [] cs ++ codes "]")

abbrev pub constant_text : Constant → List ℕ
constant_text = fold-Constant (List ℕ) constant_step

-- `OP.ID`
abbrev pub node_name : Node → List ℕ
node_name n = name_of n.op ++ (codes "." ++ decimal n.id)

abbrev pub name_there : Option Node → List ℕ
name_there None = []
name_there (Some n) = node_name n

-- an operand of a proc of these nodes
abbrev pub operand_text : List Node → Operand → List ℕ
operand_text nodes operand.State = codes "st"
operand_text nodes (operand.Node i) = name_there (slice_get nodes i)

-- operands with `, ` behind each
abbrev pub operands_text : List Node → List Operand → List ℕ
operands_text nodes [] = []
operands_text nodes (o ∷ os) = operand_text nodes o ++ (codes ", " ++ operands_text nodes os)
