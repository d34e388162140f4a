-- Packages whose numbers are in the range of their types in the code. Each value of the code is one; a law that speaks of all packages
-- has to say so, since its numbers have no bounds.
use Rattle.std.specs.Prelude.{ℕ, ◌^◌, ◌&&◌, nat_lt, Bool, true, List, IsTrue}
use Rattle.std.specs.List.{list_all}
use Rattle.ir_tree.specs.declared.ir_type.IrType.{IrType, fold-IrType}
use Rattle.ir_tree.specs.declared.ir_type.IrType.TheOpen.{IrType-F}
use Rattle.ir_tree.specs.declared.constant.Constant.{Constant, fold-Constant}
use Rattle.ir_tree.specs.declared.constant.Constant.TheOpen.{Constant-F}
use Rattle.ir_tree.specs.declared.node.Attributes.{Attributes}
use Rattle.ir_tree.specs.declared.node.Attributes.TheVariants as attributes
use Rattle.ir_tree.specs.declared.node.Node.{Node}
use Rattle.ir_tree.specs.declared.package.Channel.{Channel}
use Rattle.ir_tree.specs.declared.package.Proc.{Proc}
use Rattle.ir_tree.specs.declared.package.Package.{Package}

-- a number that the code holds, and tokens have
abbrev pub is_held : ℕ → Bool
is_held n = nat_lt n (2 ^ 128)

abbrev pub all_true : List Bool → Bool
all_true bs = list_all (λ b. b) bs

abbrev pub type_range_step : IrType-F Bool → Bool
type_range_step (IrType-F.Bits w ns) = is_held w && list_all is_held ns
type_range_step (IrType-F.Token ns) = list_all is_held ns
type_range_step (IrType-F.Tuple ts ns) = all_true ts && list_all is_held ns

-- the numbers of a type
abbrev pub type_in_range : IrType → Bool
type_in_range = fold-IrType Bool type_range_step

abbrev pub constant_range_step : Constant-F Bool → Bool
constant_range_step (Constant-F.Number n) = is_held n
constant_range_step (Constant-F.Tuple cs) = all_true cs
constant_range_step (Constant-F.Array cs) = all_true cs

-- those of a constant
abbrev pub constant_in_range : Constant → Bool
constant_in_range = fold-Constant Bool constant_range_step

abbrev pub attributes_in_range : Attributes → Bool
attributes_in_range attributes.None = true
attributes_in_range (attributes.StartAndWidth start width) = is_held start && is_held width
attributes_in_range (attributes.Width width) = is_held width
attributes_in_range (attributes.NewBitCount width) = is_held width
attributes_in_range (attributes.Cases cases default) = true
attributes_in_range (attributes.Index i) = is_held i
attributes_in_range (attributes.Indices o) = true
attributes_in_range (attributes.Value c) = constant_in_range c
attributes_in_range (attributes.Channel predicate c) = true

-- a node's id is below 2^32
abbrev pub node_in_range : Node → Bool
node_in_range n = (nat_lt n.id (2 ^ 32) && type_in_range n.ty) && attributes_in_range n.attributes

abbrev pub channel_in_range : Channel → Bool
channel_in_range c = type_in_range c.ty

abbrev pub proc_in_range : Proc → Bool
proc_in_range p = (type_in_range p.state && constant_in_range p.init) && list_all node_in_range p.nodes

abbrev pub is_in_range : Package → Bool
is_in_range ir = list_all channel_in_range ir.channels && list_all proc_in_range ir.procs

abbrev pub IsInRange : Package → Type 0
IsInRange ir = IsTrue (is_in_range ir)
