-- Which nodes fit the table of operations: the number and types of their operands, their attributes, and their type.
use Rattle.std.specs.Prelude.{ℕ, ◌+◌, ◌^◌, min, nat_lt, nat_le, nat_eq, sum, Bool, true, false, ◌&&◌, not, List, [], ◌∷◌, length, map, slice_get, Option, Some, None}
use Rattle.std.specs.List.{list_all}
use Rattle.delay_model.specs.declared.op.Op.{Op}
use Rattle.delay_model.specs.declared.op.Op.TheVariants as op
use Rattle.delay_model.specs.Signatures.{is_met, count_of}
use Rattle.ir_tree.specs.declared.ir_type.IrType.{IrType, Token}
use Rattle.ir_tree.specs.declared.node.Operand.{Operand}
use Rattle.ir_tree.specs.declared.node.Operand.TheVariants as operand
use Rattle.ir_tree.specs.declared.node.Attributes.{Attributes}
use Rattle.ir_tree.specs.declared.node.Attributes.TheVariants as attributes
use Rattle.ir_tree.specs.declared.node.Node.{Node}
use Rattle.ir_tree.specs.declared.package.Channel.{Channel}
use Rattle.ir_tree.specs.NodeValues.{channel_type}
use Rattle.ir_tree.specs.NodeTypes.Types.{is_token, is_bits, is_bits_of, is_bits_where, bits_width, same_type, each_same, is_array_of, is_array_sized, is_tuple_where}

-- what decides the types of operands: the state's, the nodes before, and what one that isn't there is taken for
pub record Types : Type 0 where
  pub state : IrType
  pub before : List Node
  pub missing : IrType

abbrev pub type_or : IrType → Option Node → IrType
type_or missing None = missing
type_or missing (Some n) = n.ty

-- the type of an operand
abbrev pub type_in : Types → Operand → IrType
type_in scope operand.State = scope.state
type_in scope (operand.Node i) = type_or scope.missing (slice_get scope.before i)

-- the types of operands behind these nodes. One that isn't there is taken for a token; it breaks a rule by itself
abbrev pub types_behind : IrType → List Node → Types
types_behind state before = record { state = state; before = before; missing = Token [] }

abbrev pub all_bits_of : ℕ → Types → List Operand → Bool
all_bits_of w scope os = list_all (λ o. is_bits_of w (type_in scope o)) os

abbrev pub all_bits : Types → List Operand → Bool
all_bits scope os = list_all (λ o. is_bits (type_in scope o)) os

-- two of one width
abbrev pub compare_fits : Types → List Operand → Bool
compare_fits scope [] = false
compare_fits scope (a ∷ os) = is_bits_where (λ w. all_bits_of w scope os) (type_in scope a)

-- the first has the type of the result
abbrev pub shift_fits : Types → List Operand → IrType → Bool
shift_fits scope [] result = false
shift_fits scope (a ∷ os) result = is_bits_where (λ w. is_bits_of w (type_in scope a)) result && all_bits scope os

-- as wide as all together
abbrev pub concat_fits : Types → List Operand → IrType → Bool
concat_fits scope os result =
    all_bits scope os && is_bits_where (λ w. nat_eq (sum (map (λ o. bits_width (type_in scope o)) os)) w) result

abbrev pub elements_fit : Types → List Operand → IrType → Bool
elements_fit scope os result = is_array_sized (length os) result && list_all (λ o. is_array_of result (type_in scope o)) os

abbrev pub parts_fit : Types → List Operand → IrType → Bool
parts_fit scope os result = is_tuple_where (λ ts. each_same (map same_type ts) (map (type_in scope) os)) result

-- operations without attributes
abbrev pub plain_fits : Op → Types → List Operand → IrType → Bool
plain_fits (op.Binary o) scope os result = is_bits_where (λ w. all_bits_of w scope os) result
plain_fits (op.Unary o) scope os result = is_bits_where (λ w. all_bits_of w scope os) result
plain_fits (op.Compare o) scope os result = compare_fits scope os && is_bits_of 1 result
plain_fits (op.Shift o) scope os result = shift_fits scope os result
plain_fits (op.Reduce o) scope os result = all_bits scope os && is_bits_of 1 result
plain_fits op.Concat scope os result = concat_fits scope os result
plain_fits op.Tuple scope os result = parts_fit scope os result
plain_fits op.Array scope os result = elements_fit scope os result
plain_fits op.AfterAll scope os result = is_token result
plain_fits (op.Extend o) scope os result = false
plain_fits op.BitSlice scope os result = false
plain_fits op.DynamicBitSlice scope os result = false
plain_fits op.Sel scope os result = false
plain_fits op.TupleIndex scope os result = false
plain_fits op.ArrayIndex scope os result = false
plain_fits op.ArrayUpdate scope os result = false
plain_fits op.Literal scope os result = false
plain_fits op.Receive scope os result = false
plain_fits op.Send scope os result = false

abbrev pub is_bit_slice : Op → Bool
is_bit_slice op.BitSlice = true
is_bit_slice _ = false

abbrev pub is_dynamic_bit_slice : Op → Bool
is_dynamic_bit_slice op.DynamicBitSlice = true
is_dynamic_bit_slice _ = false

abbrev pub is_extend : Op → Bool
is_extend (op.Extend o) = true
is_extend _ = false

abbrev pub is_sel : Op → Bool
is_sel op.Sel = true
is_sel _ = false

abbrev pub is_tuple_index : Op → Bool
is_tuple_index op.TupleIndex = true
is_tuple_index _ = false

abbrev pub is_literal : Op → Bool
is_literal op.Literal = true
is_literal _ = false

-- all bits that are taken are bits of the operand
abbrev pub slice_fits : ℕ → ℕ → Types → List Operand → IrType → Bool
slice_fits start width scope os result =
    is_bits_of width result && list_all (λ o. is_bits_where (nat_le (start + width)) (type_in scope o)) os

abbrev pub dynamic_fits : ℕ → Types → List Operand → IrType → Bool
dynamic_fits width scope os result = is_bits_of width result && all_bits scope os

abbrev pub extend_fits : ℕ → Types → List Operand → IrType → Bool
extend_fits width scope os result =
    is_bits_of width result && list_all (λ o. is_bits_where (λ v. nat_le v width) (type_in scope o)) os

-- one case or more, and no more than the selector has numbers; a default exactly where they are fewer. No selector is wider
-- than 128 bits
abbrev pub defaults : Bool → Option Operand → Bool
defaults fewer None = not fewer
defaults fewer (Some d) = fewer

abbrev pub cases_count : ℕ → Option Operand → ℕ → Bool
cases_count count default k =
    nat_lt 0 count && (nat_le count (2 ^ min k 128) && defaults (nat_lt count (2 ^ min k 128)) default)

abbrev pub is_like : Types → IrType → Option Operand → Bool
is_like scope result None = true
is_like scope result (Some o) = same_type result (type_in scope o)

abbrev pub sel_fits : List Operand → Option Operand → Types → List Operand → IrType → Bool
sel_fits cases default scope os result =
    list_all (λ o. is_bits_where (cases_count (length cases) default) (type_in scope o)) os
    && (list_all (λ c. same_type result (type_in scope c)) cases && is_like scope result default)

abbrev pub part_is : ℕ → IrType → List IrType → Bool
part_is i result ts = is_there (slice_get ts i)
  where
    is_there : Option IrType → Bool
    is_there None = false
    is_there (Some t) = same_type t result

abbrev pub tuple_index_fits : ℕ → Types → List Operand → IrType → Bool
tuple_index_fits i scope os result = list_all (λ o. is_tuple_where (part_is i result) (type_in scope o)) os

abbrev pub update_fits : Types → List Operand → IrType → Bool
update_fits scope [] result = false
update_fits scope (x ∷ os) result =
    same_type result (type_in scope x) && list_all (λ e. is_array_of result (type_in scope e)) os

abbrev pub index_fits : Op → Operand → Types → List Operand → IrType → Bool
index_fits op.ArrayIndex i scope os result =
    is_bits (type_in scope i) && list_all (λ o. is_array_of (type_in scope o) result) os
index_fits op.ArrayUpdate i scope os result = is_bits (type_in scope i) && update_fits scope os result
index_fits _ i scope os result = false

-- a predicate is one bit
abbrev pub predicate_fits : Types → Option Operand → Bool
predicate_fits scope None = true
predicate_fits scope (Some p) = is_bits_of 1 (type_in scope p)

-- what a channel that isn't there would decide is left open
abbrev pub is_pair_of : Option IrType → IrType → Bool
is_pair_of None result = true
is_pair_of (Some t) result = is_tuple_where pair result
  where
    pair : List IrType → Bool
    pair (a ∷ b ∷ []) = is_token a && same_type t b
    pair _ = false

abbrev pub sends_type : Option IrType → Types → List Operand → IrType → Bool
sends_type None scope os result = true
sends_type (Some t) scope os result = is_token result && list_all (λ o. same_type t (type_in scope o)) os

abbrev pub first_is_token : Types → List Operand → Bool
first_is_token scope [] = false
first_is_token scope (o ∷ os) = is_token (type_in scope o)

abbrev pub rest_of : List Operand → List Operand
rest_of [] = []
rest_of (o ∷ os) = os

abbrev pub site_fits : Op → Option IrType → Types → List Operand → IrType → Bool
site_fits op.Receive t scope os result = is_pair_of t result
site_fits op.Send t scope os result = sends_type t scope (rest_of os) result
site_fits _ t scope os result = false

abbrev pub types_fit : List Channel → Types → Node → Attributes → Bool
types_fit channels scope n attributes.None = plain_fits n.op scope n.operands n.ty
types_fit channels scope n (attributes.StartAndWidth start width) = is_bit_slice n.op && slice_fits start width scope n.operands n.ty
types_fit channels scope n (attributes.Width width) = is_dynamic_bit_slice n.op && dynamic_fits width scope n.operands n.ty
types_fit channels scope n (attributes.NewBitCount width) = is_extend n.op && extend_fits width scope n.operands n.ty
types_fit channels scope n (attributes.Cases cases default) = is_sel n.op && sel_fits cases default scope n.operands n.ty
types_fit channels scope n (attributes.Index i) = is_tuple_index n.op && tuple_index_fits i scope n.operands n.ty
types_fit channels scope n (attributes.Indices i) = index_fits n.op i scope n.operands n.ty
types_fit channels scope n (attributes.Value c) = is_literal n.op
types_fit channels scope n (attributes.Channel predicate c) =
    predicate_fits scope predicate && (first_is_token scope n.operands && site_fits n.op (channel_type channels c) scope n.operands n.ty)

-- the node fits the table
abbrev pub node_fits : List Channel → Types → Node → Bool
node_fits channels scope n = is_met (count_of n.op) (length n.operands) && types_fit channels scope n n.attributes
