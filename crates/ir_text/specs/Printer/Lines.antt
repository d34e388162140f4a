-- The text of each line of a package.
use Rattle.std.specs.Prelude.{ℕ, List, [], ◌∷◌, ◌++◌, map, codes, decimal, slice_get, Option, Some, None}
use Rattle.xb_value.specs.Text.{listed}
use Rattle.delay_model.specs.Names.{name_of}
use Rattle.ir_tree.specs.declared.node.Operand.{Operand}
use Rattle.ir_tree.specs.declared.node.Attributes.{Attributes}
use Rattle.ir_tree.specs.declared.node.Attributes.TheVariants as attributes
use Rattle.ir_tree.specs.declared.node.Node.{Node}
use Rattle.ir_tree.specs.declared.package.Channel.{Channel}
use Rattle.ir_tree.specs.declared.package.Ends.{Ends}
use Rattle.ir_tree.specs.declared.package.Ends.TheVariants as ends
use Rattle.ir_tree.specs.declared.package.Proc.{Proc}
use Rattle.ir_tree.specs.declared.package.Package.{Package}
use Rattle.ir_text.specs.Printer.Parts.{type_text, constant_text, node_name, operand_text, operands_text}

-- ---- `chan NAME(TYPE, id=N, kind=..)`

abbrev pub depth_text : ℕ → List ℕ
depth_text depth = codes "depth=" ++ decimal depth

abbrev pub inner_text : ℕ → List ℕ
inner_text depth = codes "inner, " ++ depth_text depth

abbrev pub ends_text : Ends → List ℕ
ends_text ends.Input = codes "input"
ends_text ends.Output = codes "output"
ends_text (ends.Inner depth) = inner_text depth

unfoldable pub channel_start : Channel → List ℕ
channel_start c = codes "chan " ++ (c.name ++ (codes "(" ++ type_text c.ty))

unfoldable pub channel_id : Channel → List ℕ
channel_id c = codes ", id=" ++ decimal c.id

unfoldable pub channel_kind : Channel → List ℕ
channel_kind c = codes ", kind=" ++ (ends_text c.ends ++ codes ")\n")

abbrev pub channel_text : Channel → List ℕ
channel_text c = channel_start c ++ (channel_id c ++ channel_kind c)

-- ---- nodes

abbrev pub default_text : List Node → Option Operand → List ℕ
default_text nodes None = []
default_text nodes (Some o) = codes "default=" ++ (operand_text nodes o ++ codes ", ")

abbrev pub predicate_text : List Node → Option Operand → List ℕ
predicate_text nodes None = []
predicate_text nodes (Some o) = codes "predicate=" ++ (operand_text nodes o ++ codes ", ")

abbrev pub channel_name : Option Channel → List ℕ
channel_name None = []
channel_name (Some c) = c.name

-- each attribute with `, ` behind it
abbrev pub attributes_text : List Channel → List Node → Attributes → List ℕ
attributes_text channels nodes attributes.None = []
attributes_text channels nodes (attributes.StartAndWidth start width) = (codes "start=" ++ (decimal start ++ codes ", ")) ++ (codes "width=" ++ (decimal width ++ codes ", "))
attributes_text channels nodes (attributes.Width width) = codes "width=" ++ (decimal width ++ codes ", ")
attributes_text channels nodes (attributes.NewBitCount width) = codes "new_bit_count=" ++ (decimal width ++ codes ", ")
attributes_text channels nodes (attributes.Cases cases default) =
    codes "cases=[" ++ (listed [] (map (operand_text nodes) cases) ++ (codes "], " ++ default_text nodes default))
attributes_text channels nodes (attributes.Index i) = codes "index=" ++ (decimal i ++ codes ", ")
attributes_text channels nodes (attributes.Indices o) = codes "indices=[" ++ (operand_text nodes o ++ codes "], ")
attributes_text channels nodes (attributes.Value c) = codes "value=" ++ (constant_text c ++ codes ", ")
attributes_text channels nodes (attributes.Channel predicate c) =
    predicate_text nodes predicate ++ (codes "channel=" ++ (channel_name (slice_get channels c) ++ codes ", "))

unfoldable pub node_start : Node → List ℕ
node_start n = codes "  " ++ (node_name n ++ (codes ": " ++ type_text n.ty))

unfoldable pub node_call : Node → List ℕ
node_call n = codes " = " ++ (name_of n.op ++ codes "(")

unfoldable pub node_end : Node → List ℕ
node_end n = codes "id=" ++ (decimal n.id ++ codes ")\n")

-- `  OP.ID: TYPE = OP(OPERANDS, ATTRIBUTES, id=ID)`
abbrev pub node_text : List Channel → List Node → Node → List ℕ
node_text channels nodes n =
    node_start n ++ (node_call n ++ (operands_text nodes n.operands ++ (attributes_text channels nodes n.attributes ++ node_end n)))

-- ---- all lines

abbrev pub lines_text : List (List ℕ) → List ℕ
lines_text [] = []
lines_text (l ∷ ls) = l ++ lines_text ls

unfoldable pub proc_start : Proc → List ℕ
proc_start p = codes "proc " ++ (p.name ++ (codes "(st: " ++ type_text p.state))

unfoldable pub proc_init : Proc → List ℕ
proc_init p = codes ", init=" ++ (constant_text p.init ++ codes ") {\n")

unfoldable pub proc_end : Proc → List ℕ
proc_end p = codes "  next(" ++ (operand_text p.nodes p.next ++ codes ")\n}\n")

abbrev pub proc_text : List Channel → Proc → List ℕ
proc_text channels p = proc_start p ++ (proc_init p ++ (lines_text (map (node_text channels p.nodes) p.nodes) ++ proc_end p))

-- the text of a package: one form a line, numbers in decimal, no comment
abbrev pub package_text : Package → List ℕ
package_text ir =
    codes "package " ++ (ir.name ++ (codes "\n" ++ (lines_text (map channel_text ir.channels) ++ lines_text (map (proc_text ir.channels) ir.procs))))
