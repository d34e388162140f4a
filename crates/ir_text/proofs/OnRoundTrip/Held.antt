-- Parts of a package whose numbers tokens have, and whose lists are no longer than memory can be.
use Rattle.std.specs.Prelude.{ℕ, ◌^◌, ◌&&◌, nat_lt, Bool, true, List, length}
use Rattle.std.specs.List.{list_all}
use Rattle.ir_tree.specs.declared.ir_type.IrType.{IrType, fold-IrType}
use Rattle.ir_tree.specs.declared.ir_type.IrType.TheOpen.{IrType-F}
use Rattle.ir_tree.specs.declared.constant.Constant.{Constant, fold-Constant}
use Rattle.ir_tree.specs.declared.constant.Constant.TheOpen.{Constant-F}
use Rattle.ir_tree.specs.declared.node.Attributes.{Attributes}
use Rattle.ir_tree.specs.declared.node.Attributes.TheVariants as attributes
use Rattle.ir_tree.specs.declared.node.Node.{Node}
use Rattle.ir_tree.specs.declared.package.Channel.{Channel}
use Rattle.ir_tree.specs.declared.package.Proc.{Proc}
use Rattle.ir_text.specs.RoundTrip.InRange.{all_true, is_held}
use Rattle.ir_text.proofs.OnRoundTrip.Writable.{is_one_word}

-- no list is longer than memory can be
abbrev pub is_short : {A : Type 0} → List A → Bool
is_short xs = nat_lt (length xs) (2 ^ 64)

abbrev pub are_held : List ℕ → Bool
are_held ns = list_all is_held ns && is_short ns

abbrev pub type_held_step : IrType-F Bool → Bool
type_held_step (IrType-F.Bits w ns) = is_held w && are_held ns
type_held_step (IrType-F.Token ns) = are_held ns
type_held_step (IrType-F.Tuple ts ns) = (all_true ts && is_short ts) && are_held ns

-- the numbers and the lists of a type
abbrev pub type_held : IrType → Bool
type_held = fold-IrType Bool type_held_step

abbrev pub constant_held_step : Constant-F Bool → Bool
constant_held_step (Constant-F.Number n) = is_held n
constant_held_step (Constant-F.Tuple cs) = all_true cs && is_short cs
constant_held_step (Constant-F.Array cs) = all_true cs && is_short cs

-- those of a constant
abbrev pub constant_held : Constant → Bool
constant_held = fold-Constant Bool constant_held_step

abbrev pub attributes_held : Attributes → Bool
attributes_held attributes.None = true
attributes_held (attributes.StartAndWidth start width) = is_held start && is_held width
attributes_held (attributes.Width width) = is_held width
attributes_held (attributes.NewBitCount width) = is_held width
attributes_held (attributes.Cases cases default) = is_short cases
attributes_held (attributes.Index i) = is_held i
attributes_held (attributes.Indices o) = true
attributes_held (attributes.Value c) = constant_held c
attributes_held (attributes.Channel predicate c) = true

-- a node's id is below 2^32
abbrev pub node_held : Node → Bool
node_held n = (nat_lt n.id (2 ^ 32) && type_held n.ty) && (is_short n.operands && attributes_held n.attributes)

abbrev pub channel_held : Channel → Bool
channel_held c = is_one_word c.name && type_held c.ty

abbrev pub proc_held : Proc → Bool
proc_held p =
    (is_one_word p.name && (type_held p.state && constant_held p.init))
    && (list_all node_held p.nodes && is_short p.nodes)
