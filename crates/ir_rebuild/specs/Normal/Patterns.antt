-- The patterns: nodes that can be had with less, by what their operands are made of. In each row w is the node's width, and a and b
-- have p and q bits.
use Rattle.std.specs.Prelude.{ℕ, ◌+◌, max, nat_lt, nat_le, nat_eq, sum, Bool, true, false, ◌&&◌, ◌||◌, List, [], ◌∷◌, map, Option, Some, None}
use Rattle.delay_model.specs.declared.op.Op.{Op}
use Rattle.delay_model.specs.declared.op.Op.TheVariants as op
use Rattle.delay_model.specs.declared.op.Binary.{Binary}
use Rattle.delay_model.specs.declared.op.Binary.TheVariants as binary
use Rattle.delay_model.specs.declared.op.Compare.{Compare}
use Rattle.delay_model.specs.declared.op.Compare.TheVariants as compare
use Rattle.delay_model.specs.declared.op.Extend.{Extend}
use Rattle.delay_model.specs.declared.op.Extend.TheVariants as extend
use Rattle.ir_tree.specs.declared.ir_type.IrType.{IrType}
use Rattle.ir_tree.specs.declared.node.Attributes.{Attributes}
use Rattle.ir_tree.specs.declared.node.Attributes.TheVariants as attributes
use Rattle.ir_tree.specs.declared.node.Node.{Node}
use Rattle.ir_tree.specs.NodeTypes.Types.{bits_width}
use Rattle.ir_rebuild.specs.Normal.Origins.{Making, Origin, origin}

-- ---- what an operand is made of

abbrev pub same_extension : Extend → Extend → Bool
same_extension extend.Zero extend.Zero = true
same_extension extend.Zero extend.Sign = false
same_extension extend.Sign extend.Zero = false
same_extension extend.Sign extend.Sign = true

abbrev pub width_if : Bool → List IrType → Option ℕ
width_if true (t ∷ []) = Some (bits_width t)
width_if true [] = None
width_if true (t ∷ u ∷ ts) = None
width_if false ts = None

abbrev pub is_extension : Extend → Op → Bool
is_extension kind (op.Extend k) = same_extension kind k
is_extension kind _ = false

abbrev pub extended_in : Extend → Option Making → Option ℕ
extended_in kind None = None
extended_in kind (Some m) = width_if (is_extension kind m.op) m.types

-- the width of what is extended, where the operand is such an extension
abbrev pub extended_from : Extend → Origin → Option ℕ
extended_from kind o = extended_in kind o.made

abbrev pub is_slice_op : Op → Bool
is_slice_op op.BitSlice = true
is_slice_op _ = false

abbrev pub is_tuple_op : Op → Bool
is_tuple_op op.Tuple = true
is_tuple_op _ = false

abbrev pub is_literal_op : Op → Bool
is_literal_op op.Literal = true
is_literal_op _ = false

abbrev pub is_made : (Op → Bool) → Option Making → Bool
is_made p None = false
is_made p (Some m) = p m.op

abbrev pub widths_if : Op → List IrType → List ℕ
widths_if op.Concat ts = map bits_width ts
widths_if _ ts = []

-- the widths of the parts of a concatenation, the first in the high bits
abbrev pub parts_in : Option Making → List ℕ
parts_in None = []
parts_in (Some m) = widths_if m.op m.types

-- ---- rows of two extensions by zeros

abbrev pub both : (ℕ → ℕ → Bool) → Option ℕ → Option ℕ → Bool
both test (Some p) (Some q) = test p q
both test (Some p) None = false
both test None q = false

abbrev pub both_extended : (ℕ → ℕ → Bool) → List Origin → Bool
both_extended test [] = false
both_extended test (a ∷ []) = false
both_extended test (a ∷ b ∷ []) = both test (extended_from extend.Zero a) (extended_from extend.Zero b)
both_extended test (a ∷ b ∷ c ∷ os) = false

-- add(zero_ext(a), zero_ext(b)) with max(p, q) + 1 < w; umul of the same with p + q < w; and, or, xor with max(p, q) < w
abbrev pub binary_pattern : Binary → ℕ → List Origin → Bool
binary_pattern binary.Add w os = both_extended (λ p q. nat_lt (max p q + 1) w) os
binary_pattern binary.Umul w os = both_extended (λ p q. nat_lt (p + q) w) os
binary_pattern binary.And w os = both_extended (λ p q. nat_lt (max p q) w) os
binary_pattern binary.Or w os = both_extended (λ p q. nat_lt (max p q) w) os
binary_pattern binary.Xor w os = both_extended (λ p q. nat_lt (max p q) w) os
binary_pattern binary.Sub w os = false
binary_pattern binary.Udiv w os = false
binary_pattern binary.Umod w os = false

abbrev pub is_signed : Compare → Bool
is_signed compare.Slt = true
is_signed compare.Sle = true
is_signed compare.Sgt = true
is_signed compare.Sge = true
is_signed _ = false

abbrev pub first_width : List Origin → ℕ
first_width [] = 0
first_width (o ∷ os) = bits_width o.ty

abbrev pub unless : Bool → Bool → Bool
unless true b = false
unless false b = b

-- a comparison without signs of zero_ext(a) and zero_ext(b) to k bits, with max(p, q) < k
abbrev pub compare_pattern : Compare → List Origin → Bool
compare_pattern kind os = unless (is_signed kind) (both_extended (λ p q. nat_lt (max p q) (first_width os)) os)

-- ---- rows of slices, extensions and parts

abbrev pub is_narrower : Option ℕ → ℕ → Bool
is_narrower None k = false
is_narrower (Some p) k = nat_lt p k

-- so many bits from a bit index on lie in one part
abbrev pub lie_in_one : ℕ → ℕ → List ℕ → Bool
lie_in_one start w [] = false
lie_in_one start w (p ∷ ps) = nat_le (sum ps) start && nat_le (start + w) (sum ps + p) || lie_in_one start w ps

-- bit_slice of all bits, of zero_ext(a) to more bits, of a bit_slice, and of a concat whose bits lie in one part
abbrev pub slice_pattern : ℕ → ℕ → List Origin → Bool
slice_pattern start w [] = false
slice_pattern start w (x ∷ []) =
    nat_eq w (bits_width x.ty)
    || (is_narrower (extended_from extend.Zero x) (bits_width x.ty) || (is_made is_slice_op x.made || lie_in_one start w (parts_in x.made)))
slice_pattern start w (x ∷ y ∷ os) = false

abbrev pub is_some : Option ℕ → Bool
is_some None = false
is_some (Some p) = true

-- an extension to the same width, one of an extension of its kind, and sign_ext of zero_ext(a) to more bits
abbrev pub extend_pattern : Extend → ℕ → List Origin → Bool
extend_pattern kind w [] = false
extend_pattern extend.Zero w (x ∷ []) = nat_eq w (bits_width x.ty) || is_some (extended_from extend.Zero x)
extend_pattern extend.Sign w (x ∷ []) =
    nat_eq w (bits_width x.ty) || (is_some (extended_from extend.Sign x) || is_narrower (extended_from extend.Zero x) (bits_width x.ty))
extend_pattern kind w (x ∷ y ∷ os) = false

-- concat of one
abbrev pub concat_pattern : List Origin → Bool
concat_pattern [] = false
concat_pattern (x ∷ []) = true
concat_pattern (x ∷ y ∷ os) = false

-- tuple_index of a tuple
abbrev pub part_pattern : List Origin → Bool
part_pattern [] = false
part_pattern (x ∷ []) = is_made is_tuple_op x.made
part_pattern (x ∷ y ∷ os) = false

-- ---- the table

-- by the operation, its width, the bit index from which it slices, and its operands
abbrev pub node_pattern : Op → ℕ → ℕ → List Origin → Bool
node_pattern (op.Binary kind) w start os = binary_pattern kind w os
node_pattern (op.Compare kind) w start os = compare_pattern kind os
node_pattern (op.Extend kind) w start os = extend_pattern kind w os
node_pattern op.BitSlice w start os = slice_pattern start w os
node_pattern op.Concat w start os = concat_pattern os
node_pattern op.TupleIndex w start os = part_pattern os
node_pattern _ w start os = false

abbrev pub first_bit : Attributes → ℕ
first_bit (attributes.StartAndWidth start width) = start
first_bit _ = 0

abbrev pub has_pattern : IrType → List Node → Node → Bool
has_pattern state nodes n = node_pattern n.op (bits_width n.ty) (first_bit n.attributes) (map (origin state nodes) n.operands)
