-- The value of each node of a proc, in an activation from a state, where each site has a word: what its receive gets if it is on.
--
-- The nodes have their values in line order, each by those before it.
use Rattle.std.specs.Prelude.{ℕ, suc, Bool, true, false, ◌==◌, if◌then◌else◌, List, [], ◌∷◌, ◌++◌, map, get_or, slice_get, Option, Some, None, option_map}
use Rattle.xb_bits.specs.Word.{Word, word}
use Rattle.xb_value.specs.declared.value.Value.{Value, out-Value, Tuple}
use Rattle.xb_value.specs.declared.value.Value.TheOpen.{Value-F}
use Rattle.xb_value.specs.Unflat.{unflat_of}
use Rattle.xb_value.specs.Width.{width_of}
use Rattle.delay_model.specs.declared.op.Op.{Op}
use Rattle.delay_model.specs.declared.op.Op.TheVariants as op
use Rattle.ir_tree.specs.declared.ir_type.IrType.{IrType}
use Rattle.ir_tree.specs.declared.node.Operand.{Operand}
use Rattle.ir_tree.specs.declared.node.Operand.TheVariants as operand
use Rattle.ir_tree.specs.declared.node.Node.{Node}
use Rattle.ir_tree.specs.declared.node.Role.{Role}
use Rattle.ir_tree.specs.declared.node.Role.TheVariants as role
use Rattle.ir_tree.specs.declared.node.Attributes.{Attributes}
use Rattle.ir_tree.specs.declared.node.Attributes.TheVariants as attributes
use Rattle.ir_tree.specs.declared.package.Channel.{Channel}
use Rattle.ir_tree.specs.Types.{ty_of}
use Rattle.ir_tree.specs.Constants.{no_value, constant_value}
use Rattle.ir_tree.specs.Operations.{plain_value, on_word, on_tuple, of_one, of_two, slice_value, dyn_slice_value, chosen, element_at, index_value, longer_value, on_words}

-- ---- operands

-- the value of an operand, where the nodes before have these values
abbrev pub operand_value : Value → List Value → Operand → Value
operand_value s values operand.State = s
operand_value s values (operand.Node i) = get_or values i no_value

abbrev pub optional_value : Value → List Value → Option Operand → Value
optional_value s values None = no_value
optional_value s values (Some o) = operand_value s values o

-- ---- nodes that are no sites

-- by the attributes, and by the operation where several have the same
abbrev pub pure_value : Node → Value → List Value → Value
pure_value n s values = by_attributes n.attributes
  where
    operands : List Value
    operands = map (operand_value s values) n.operands

    by_attributes : Attributes → Value
    by_attributes attributes.None = plain_value n.op operands
    by_attributes (attributes.StartAndWidth start width) = of_one (on_word (slice_value start width)) operands
    by_attributes (attributes.Width width) = of_two (on_words (dyn_slice_value width)) operands
    by_attributes (attributes.NewBitCount width) = longer_value n.op width operands
    by_attributes (attributes.Cases cases default) = of_one (on_word (λ x. optional_value s values (chosen cases default x.value))) operands
    by_attributes (attributes.Index i) = of_one (on_tuple (element_at i)) operands
    by_attributes (attributes.Indices i) = index_value n.op (operand_value s values i) operands
    by_attributes (attributes.Value c) = constant_value (ty_of n.ty) c
    by_attributes (attributes.Channel predicate c) = no_value

-- ---- sites

abbrev pub role_at : Op → Option Operand → ℕ → Role
role_at op.Receive predicate c = role.Receive predicate c
role_at op.Send predicate c = role.Send predicate c
role_at _ predicate c = role.Pure

abbrev pub role_by : Op → Attributes → Role
role_by o (attributes.Channel predicate c) = role_at o predicate c
role_by o _ = role.Pure

-- what a node is to the outside: nothing, or a receive or a send, on under a predicate, at a channel
abbrev pub role_of : Node → Role
role_of n = role_by n.op n.attributes

abbrev pub is_one : Value-F Value → Bool
is_one (Value-F.Bits x) = x.value == 1
is_one (Value-F.Tuple vs) = false
is_one (Value-F.Array vs) = false

-- a site without a predicate is on
abbrev pub is_on : Value → List Value → Option Operand → Bool
is_on s values None = true
is_on s values (Some o) = is_one (out-Value (operand_value s values o))

-- the word of a receive that is off, and of one that gets none
abbrev pub no_word : Word
no_word = word 0 0

abbrev pub channel_type : List Channel → ℕ → Option IrType
channel_type channels c = option_map (λ (channel : Channel). channel.ty) (slice_get channels c)

-- the value of the type whose flat word this is; a word of another width counts as 0
abbrev pub heard : Option IrType → Word → Value
heard None x = no_value
heard (Some t) x = unflat_of (ty_of t) (if x.width == width_of (ty_of t) then x.value else 0)

-- what a receive gives: a token, and what it got
abbrev pub received : List Channel → ℕ → Bool → Word → Value
received channels c on x = Tuple (no_value ∷ heard (channel_type channels c) (if on then x else no_word) ∷ [])

-- ---- all nodes

-- an activation: the channels, the state that it began with, and each site's word, by the site's index
pub record Setting : Type 0 where
  pub channels : List Channel
  pub state : Value
  pub words : ℕ → Word

abbrev pub role_value : Setting → List Value → ℕ → Node → Role → Value
role_value m values i n role.Pure = pure_value n m.state values
role_value m values i n (role.Receive predicate c) = received m.channels c (is_on m.state values predicate) (m.words i)
role_value m values i n (role.Send predicate c) = no_value

-- the value of a node, where the nodes before have these values and i sites stand among them
abbrev pub value_by : Setting → List Value → ℕ → Node → Value
value_by m values i n = role_value m values i n (role_of n)

abbrev pub next_site : ℕ → Role → ℕ
next_site i role.Pure = i
next_site i (role.Receive predicate c) = suc i
next_site i (role.Send predicate c) = suc i

-- the values of all nodes, where those before have these values and i sites stand among them
unfoldable pub values_from : Setting → List Value → ℕ → List Node → List Value
values_from m values i [] = values
values_from m values i (n ∷ ns) = values_from m (values ++ value_by m values i n ∷ []) (next_site i (role_of n)) ns

-- the values of the nodes of a proc
abbrev pub node_values : Setting → List Node → List Value
node_values m nodes = values_from m [] 0 nodes

-- the value of the node of an index
abbrev pub node_value : Setting → List Node → ℕ → Value
node_value m nodes n = get_or (node_values m nodes) n no_value

-- how many sites there are
unfoldable pub count_sites : ℕ → List Node → ℕ
count_sites i [] = i
count_sites i (n ∷ ns) = count_sites (next_site i (role_of n)) ns
