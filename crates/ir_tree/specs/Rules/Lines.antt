-- The rules and limits of each line.
use Rattle.std.specs.Prelude.{ℕ, ◌-◌, ◌==◌, nat_lt, nat_eq, Bool, true, false, ◌&&◌, ◌||◌, not, List, [], ◌∷◌, ◌++◌, length, map, slice_get, slice_index, slice_set, Option, Some, None}
use Rattle.std.specs.List.{list_all, list_any}
use Rattle.std.specs.Str.{bytes_eq}
use Rattle.base.specs.Texts.Words.{begins_word, is_word_byte}
use Rattle.xb_span.specs.declared.span.Span.{Span}
use Rattle.xb_span.specs.declared.limit.What.TheVariants as what
use Rattle.xb_value.specs.Width.{width_of, leaf_count}
use Rattle.delay_model.specs.declared.op.Op.{Op}
use Rattle.delay_model.specs.declared.op.Op.TheVariants as op
use Rattle.ir_tree.specs.declared.ir_type.IrType.{IrType}
use Rattle.ir_tree.specs.declared.constant.Constant.{Constant}
use Rattle.ir_tree.specs.declared.node.Operand.{Operand}
use Rattle.ir_tree.specs.declared.node.Operand.TheVariants as operand
use Rattle.ir_tree.specs.declared.node.Attributes.{Attributes}
use Rattle.ir_tree.specs.declared.node.Attributes.TheVariants as attributes
use Rattle.ir_tree.specs.declared.node.Node.{Node}
use Rattle.ir_tree.specs.declared.node.Role.{Role}
use Rattle.ir_tree.specs.declared.node.Role.TheVariants as role
use Rattle.ir_tree.specs.declared.package.Channel.{Channel}
use Rattle.ir_tree.specs.declared.package.Ends.{Ends}
use Rattle.ir_tree.specs.declared.package.Ends.TheVariants as ends
use Rattle.ir_tree.specs.declared.package.Proc.{Proc}
use Rattle.ir_tree.specs.Types.{ty_of}
use Rattle.ir_tree.specs.NodeValues.{role_of}
use Rattle.ir_tree.specs.Rules.Checks.{Check, rule_at, limit_at, bounded}
use Rattle.ir_tree.specs.NodeTypes.Constants.{constant_fits}
use Rattle.ir_tree.specs.Rules.Fitting.{type_in, types_behind, node_fits}
use Rattle.ir_tree.specs.NodeTypes.Types.{marks_of, levels_of, widths_in, same_type}
use Rattle.ir_tree.specs.Rules.RuleNumbers as rule

-- ---- what lines share

-- a name goes on with letters, digits, `_` and `.`, and with a `/` that has no other one behind it
abbrev pub name_goes_on : ℕ → ℕ → Bool
name_goes_on c behind = (is_word_byte c || (c == 46)) || ((c == 47) && not (behind == 47))

abbrev pub all_go_on : List ℕ → Bool
all_go_on [] = true
all_go_on (c ∷ cs) = name_goes_on c (slice_index cs 0) && all_go_on cs

-- a word that a text can have as a name: it begins with a letter or `_`
abbrev pub is_name : List ℕ → Bool
is_name [] = false
is_name (c ∷ cs) = begins_word c && all_go_on (c ∷ cs)

-- names of the outside have no `.` and no `/`
abbrev pub is_plain : List ℕ → Bool
is_plain name = list_all (λ b. not (nat_eq b 46) && not (nat_eq b 47)) name

abbrev pub is_among : List (List ℕ) → List ℕ → Bool
is_among names name = list_any (λ n. bytes_eq n name) names

-- the limits on a type, of which the outermost `own` levels don't count
abbrev pub type_limits : ℕ → IrType → ℕ → List Check
type_limits end t own =
    map (λ w. limit_at end what.Width w 128) (widths_in t)
    ++ limit_at end what.Leaves (leaf_count (ty_of t)) 256
    ∷ limit_at end what.Levels (bounded (levels_of t) - own) 64
    ∷ []

-- a written value has the type, and no token
abbrev pub is_value_of : IrType → Constant → Bool
is_value_of t c = not (marks_of t).token && constant_fits (ty_of t) c

-- ---- `package NAME`

abbrev pub is_some_proc : List Proc → Bool
is_some_proc [] = false
is_some_proc (p ∷ ps) = true

-- a package of these procs
abbrev pub is_package_named : List ℕ → List Proc → Bool
is_package_named name ps = is_name name && (is_plain name && is_some_proc ps)

abbrev pub package_checks : Span → List ℕ → List Proc → List Check
package_checks span name ps = rule_at span rule.NODES_ARE_NAMED (not (is_package_named name ps)) ∷ []

-- ---- `chan NAME(..)`

abbrev pub is_named_well : Ends → List ℕ → Bool
is_named_well ends.Input name = is_plain name
is_named_well ends.Output name = is_plain name
is_named_well (ends.Inner depth) name = true

abbrev pub is_some_depth : Ends → Bool
is_some_depth ends.Input = true
is_some_depth ends.Output = true
is_some_depth (ends.Inner depth) = nat_lt 0 depth

abbrev pub depth_in : Ends → ℕ
depth_in ends.Input = 0
depth_in ends.Output = 0
depth_in (ends.Inner depth) = depth

-- behind channels of these names, of which there are so many
abbrev pub is_channel_named : List (List ℕ) → ℕ → Channel → Bool
is_channel_named names place c = not (is_among names c.name) && (nat_eq c.id place && (is_name c.name && is_named_well c.ends c.name))

abbrev pub is_channel_typed : Channel → Bool
is_channel_typed c =
    (marks_of c.ty).sound && ((marks_of c.ty).bits && (not (marks_of c.ty).token && is_some_depth c.ends))

abbrev pub channel_checks : Span → List (List ℕ) → ℕ → Channel → List Check
channel_checks span names place c =
    rule_at span rule.NODES_ARE_NAMED (not (is_channel_named names place c))
    ∷ rule_at span rule.TYPES_ARE_SOUND (not (is_channel_typed c))
    ∷ limit_at span.to what.Word (width_of (ty_of c.ty)) 128
    ∷ limit_at span.to what.Depth (depth_in c.ends) 4096
    ∷ type_limits span.to c.ty 0

-- ---- `proc NAME(..) {`

abbrev pub is_state : Proc → Bool
is_state p = (marks_of p.state).sound && is_value_of p.state p.init

-- behind procs of these names
abbrev pub is_proc_named : List (List ℕ) → Proc → Bool
is_proc_named names p = not (is_among names p.name) && is_name p.name

abbrev pub head_checks : Span → List (List ℕ) → Proc → List Check
head_checks span names p =
    rule_at span rule.NODES_ARE_NAMED (not (is_proc_named names p))
    ∷ rule_at span rule.TYPES_ARE_SOUND (not (is_state p))
    ∷ type_limits span.to p.state 0

-- ---- nodes

-- what the nodes before leave: whether one of them is an `after_all`, the last site, and the ends of channels with a site
pub record Seen : Type 0 where
  pub after_all : Bool
  pub site : Option ℕ
  pub received : List Bool
  pub sent : List Bool

abbrev pub is_after_all : Op → Bool
is_after_all op.AfterAll = true
is_after_all _ = false

abbrev pub see_role : ℕ → Role → Seen → Seen
see_role i role.Pure seen = seen
see_role i (role.Receive predicate c) seen = record { after_all = seen.after_all; site = Some i; received = slice_set seen.received c true; sent = seen.sent }
see_role i (role.Send predicate c) seen = record { after_all = seen.after_all; site = Some i; received = seen.received; sent = slice_set seen.sent c true }

abbrev pub see_op : Op → Seen → Seen
see_op o seen = record { after_all = is_after_all o || seen.after_all; site = seen.site; received = seen.received; sent = seen.sent }

-- what the nodes up to the one of index i leave
abbrev pub see : ℕ → Node → Seen → Seen
see i n seen = see_op n.op (see_role i (role_of n) seen)

-- rule.NODES_ARE_NAMED: ids rise, and operands are there

abbrev pub is_id_after : Option Node → ℕ → Bool
is_id_after None id = true
is_id_after (Some n) id = nat_lt n.id id

abbrev pub is_there : ℕ → Operand → Bool
is_there place operand.State = true
is_there place (operand.Node i) = nat_lt i place

abbrev pub are_there : ℕ → List Operand → Bool
are_there place os = list_all (is_there place) os

abbrev pub is_there_if : ℕ → Option Operand → Bool
is_there_if place None = true
is_there_if place (Some o) = is_there place o

abbrev pub attributes_there : ℕ → Attributes → Bool
attributes_there place attributes.None = true
attributes_there place (attributes.StartAndWidth start width) = true
attributes_there place (attributes.Width width) = true
attributes_there place (attributes.NewBitCount width) = true
attributes_there place (attributes.Cases cases default) = are_there place cases && is_there_if place default
attributes_there place (attributes.Index i) = true
attributes_there place (attributes.Indices i) = is_there place i
attributes_there place (attributes.Value c) = true
attributes_there place (attributes.Channel predicate c) = is_there_if place predicate

abbrev pub is_named : Option Node → ℕ → Node → Bool
is_named previous place n = is_id_after previous n.id && (are_there place n.operands && attributes_there place n.attributes)

-- rule.TOKENS_ARE_CHAINED: the tokens lead from the one `after_all` from site to site

abbrev pub is_operand : ℕ → Operand → Bool
is_operand i operand.State = false
is_operand i (operand.Node j) = nat_eq j i

abbrev pub are_only : ℕ → List Operand → Bool
are_only i [] = false
are_only i (o ∷ []) = is_operand i o
are_only i (o ∷ p ∷ os) = false

abbrev pub is_first_part : Attributes → Bool
is_first_part (attributes.Index i) = nat_eq i 0
is_first_part _ = false

-- the node is the token of the receive of index i
abbrev pub is_token_of : ℕ → Option Node → Bool
is_token_of i None = false
is_token_of i (Some n) = is_first_part n.attributes && are_only i n.operands

abbrev pub is_start : Option Node → Bool
is_start None = false
is_start (Some n) = is_after_all n.op

-- whether the token of a site is that of the last site, which has this index
abbrev pub follows : List Node → ℕ → Role → ℕ → Bool
follows before last role.Pure j = false
follows before last (role.Receive predicate c) j = is_token_of last (slice_get before j)
follows before last (role.Send predicate c) j = nat_eq j last

abbrev pub role_there : Option Node → Role
role_there None = role.Pure
role_there (Some n) = role_of n

abbrev pub token_is : List Node → Option ℕ → ℕ → Bool
token_is before None j = is_start (slice_get before j)
token_is before (Some last) j = follows before last (role_there (slice_get before last)) j

abbrev pub first_token_is : List Node → Option ℕ → List Operand → Bool
first_token_is before last [] = false
first_token_is before last (operand.State ∷ os) = false
first_token_is before last (operand.Node j ∷ os) = token_is before last j

abbrev pub is_chained_role : List Node → Option ℕ → List Operand → Role → Bool
is_chained_role before last os role.Pure = true
is_chained_role before last os (role.Receive predicate c) = first_token_is before last os
is_chained_role before last os (role.Send predicate c) = first_token_is before last os

abbrev pub is_chained : List Node → Seen → Node → Bool
is_chained before seen n =
    not (is_after_all n.op && seen.after_all) && is_chained_role before seen.site n.operands (role_of n)

-- rule.SITE_FITS_CHANNEL: the end is one of a channel that is there, in its direction, and has no site yet

abbrev pub may_receive : Option Channel → Bool
may_receive None = false
may_receive (Some c) = receives c.ends
  where
    receives : Ends → Bool
    receives ends.Input = true
    receives ends.Output = false
    receives (ends.Inner depth) = true

abbrev pub may_send : Option Channel → Bool
may_send None = false
may_send (Some c) = sends c.ends
  where
    sends : Ends → Bool
    sends ends.Input = false
    sends ends.Output = true
    sends (ends.Inner depth) = true

abbrev pub is_free : List Bool → ℕ → Bool
is_free taken c = free (slice_get taken c)
  where
    free : Option Bool → Bool
    free None = true
    free (Some b) = not b

abbrev pub is_at_end : List Channel → Seen → Role → Bool
is_at_end channels seen role.Pure = true
is_at_end channels seen (role.Receive predicate c) = may_receive (slice_get channels c) && is_free seen.received c
is_at_end channels seen (role.Send predicate c) = may_send (slice_get channels c) && is_free seen.sent c

-- rule.TYPES_ARE_SOUND: the type is sound, and a literal has it

abbrev pub is_literal_of : IrType → Attributes → Bool
is_literal_of t (attributes.Value c) = is_value_of t c
is_literal_of t _ = true

abbrev pub is_typed : Node → Bool
is_typed n = (marks_of n.ty).sound && is_literal_of n.ty n.attributes

-- a receive's own pair isn't counted among its levels
abbrev pub own_levels : Role → ℕ
own_levels role.Pure = 0
own_levels (role.Receive predicate c) = 1
own_levels (role.Send predicate c) = 0

-- the checks of the node of index i, behind these, with what was seen before it
abbrev pub node_checks : List Channel → IrType → List Node → Span → ℕ → Seen → Node → List Check
node_checks channels state before span i seen n =
    rule_at span rule.NODES_ARE_NAMED (not (is_named (slice_get before (i - 1)) i n))
    ∷ rule_at span rule.NODE_FITS_TABLE (not (node_fits channels (types_behind state before) n))
    ∷ rule_at span rule.TOKENS_ARE_CHAINED (not (is_chained before seen n))
    ∷ rule_at span rule.SITE_FITS_CHANNEL (not (is_at_end channels seen (role_of n)))
    ∷ rule_at span rule.TYPES_ARE_SOUND (not (is_typed n))
    ∷ type_limits span.to n.ty (own_levels (role_of n))

-- ---- `next(..)`

abbrev pub next_checks : Span → Proc → List Check
next_checks span p =
    rule_at span rule.NODES_ARE_NAMED (not (is_there (length p.nodes) p.next))
    ∷ rule_at span rule.TYPES_ARE_SOUND (not (same_type p.state (type_in (types_behind p.state p.nodes) p.next)))
    ∷ []
