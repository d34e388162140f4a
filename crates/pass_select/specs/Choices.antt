-- What a select always chooses, as its operands and the nodes that they name show.
use Rattle.std.specs.Prelude.{ℕ, Bool, true, ◌&&◌, if◌then◌else◌, List, [], ◌∷◌, Option, Some, None}
use Rattle.std.specs.List.{list_all}
use Rattle.delay_model.specs.declared.op.Op.{Op}
use Rattle.delay_model.specs.declared.op.Op.TheVariants as op
use Rattle.ir_tree.specs.declared.constant.Constant.{Constant, out-Constant}
use Rattle.ir_tree.specs.declared.constant.Constant.TheOpen.{Constant-F}
use Rattle.ir_tree.specs.declared.node.Operand.{Operand}
use Rattle.ir_tree.specs.declared.node.Node.{Node}
use Rattle.ir_tree.specs.declared.node.Attributes.{Attributes}
use Rattle.ir_tree.specs.declared.node.Attributes.TheVariants as attributes
use Rattle.ir_tree.specs.Operations.{chosen}
use Rattle.ir_rebuild.specs.Operands.{node_of}
use Rattle.ir_rebuild.specs.Normal.Normal.{same_operand}

abbrev pub number_there : Constant-F Constant → Option ℕ
number_there (Constant-F.Number n) = Some n
number_there (Constant-F.Tuple cs) = None
number_there (Constant-F.Array cs) = None

abbrev pub literal_of : Attributes → Option ℕ
literal_of attributes.None = None
literal_of (attributes.StartAndWidth start width) = None
literal_of (attributes.Width width) = None
literal_of (attributes.NewBitCount width) = None
literal_of (attributes.Cases cases default) = None
literal_of (attributes.Index i) = None
literal_of (attributes.Indices i) = None
literal_of (attributes.Value c) = number_there (out-Constant c)
literal_of (attributes.Channel predicate c) = None

abbrev pub literal_at : Op → Attributes → Option ℕ
literal_at op.Literal a = literal_of a
literal_at _ a = None

abbrev pub number_in : Option Node → Option ℕ
number_in None = None
number_in (Some n) = literal_at n.op n.attributes

-- the number of the literal that an operand names
abbrev pub literal_number : List Node → Operand → Option ℕ
literal_number nodes o = number_in (node_of nodes o)

abbrev pub is_default : Operand → Option Operand → Bool
is_default first None = true
is_default first (Some o) = same_operand first o

-- the one operand that all cases and the default are
abbrev pub one_of : List Operand → Option Operand → Option Operand
one_of [] default = None
one_of (c ∷ cs) default = if is_default c default && list_all (same_operand c) (c ∷ cs) then Some c else None

abbrev pub choice_by : List Operand → Option Operand → Option ℕ → Option Operand
choice_by cases default None = one_of cases default
choice_by cases default (Some n) = chosen cases default n

abbrev pub choice_among : List Node → List Operand → Option Operand → List Operand → Option Operand
choice_among nodes cases default [] = None
choice_among nodes cases default (s ∷ []) = choice_by cases default (literal_number nodes s)
choice_among nodes cases default (s ∷ o ∷ os) = None

abbrev pub choice_in : List Node → List Operand → Attributes → Option Operand
choice_in nodes os attributes.None = None
choice_in nodes os (attributes.StartAndWidth start width) = None
choice_in nodes os (attributes.Width width) = None
choice_in nodes os (attributes.NewBitCount width) = None
choice_in nodes os (attributes.Cases cases default) = choice_among nodes cases default os
choice_in nodes os (attributes.Index i) = None
choice_in nodes os (attributes.Indices i) = None
choice_in nodes os (attributes.Value c) = None
choice_in nodes os (attributes.Channel predicate c) = None

abbrev pub choice_of : List Node → Node → Option Operand
choice_of nodes n = choice_in nodes n.operands n.attributes
