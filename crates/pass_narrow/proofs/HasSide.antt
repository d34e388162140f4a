-- Where a replacement is found, a node has a pattern; so where it has none, none is found.
use Rattle.std.proofs.Common.{◌≡◌, ℕ, ◌+◌, ◌-◌, ◌≤◌, max, List, [], ◌∷◌, map, sum, length, Bool, true, false, ◌&&◌, IsTrue, Option, Some, None, refl, sym, ap, ap₂, subst, ◌∙◌, arith}
use Rattle.std.specs.Prelude.{slice_get, nat_eq, nat_le, nat_lt, ◌||◌, if◌then◌else◌}
use Rattle.std.proofs.lemmas.Bool.Decides.{nat_tests}
use Rattle.std.proofs.lemmas.Option.{slice_get_within}
use Rattle.delay_model.specs.declared.op.Op.{Op}
use Rattle.delay_model.specs.declared.op.Op.TheVariants as op
use Rattle.delay_model.specs.declared.op.Binary.{Binary}
use Rattle.delay_model.specs.declared.op.Binary.TheVariants as binary
use Rattle.delay_model.specs.declared.op.Compare.{Compare}
use Rattle.delay_model.specs.declared.op.Compare.TheVariants as compare
use Rattle.delay_model.specs.declared.op.Extend.{Extend}
use Rattle.delay_model.specs.declared.op.Extend.TheVariants as extend
use Rattle.delay_model.specs.Signatures.{is_met, count_of}
use Rattle.ir_tree.specs.declared.ir_type.IrType.{IrType}
use Rattle.ir_tree.specs.declared.node.Operand.{Operand}
use Rattle.ir_tree.specs.declared.node.Operand.TheVariants as operand
use Rattle.ir_tree.specs.declared.node.Node.{Node}
use Rattle.ir_tree.specs.declared.node.Attributes.{Attributes}
use Rattle.ir_tree.specs.declared.node.Attributes.TheVariants as attributes
use Rattle.ir_tree.specs.NodeTypes.Types.{bits_width}
use Rattle.ir_tree.specs.Rules.Fitting.{type_in, types_behind, types_fit, slice_fits, tuple_index_fits, is_bit_slice, is_tuple_index}
use Rattle.ir_tree.proofs.Lemmas.Rules.Typed.Checked.{both_true}
use Rattle.ir_rebuild.specs.Built.{FitsAt, AreBuilt, is_plain_op}
use Rattle.ir_rebuild.specs.Normal.Origins.{Origin, origin}
use Rattle.ir_rebuild.specs.Normal.Patterns as left
use Rattle.ir_rebuild.specs.Normal.Patterns.{extended_from, is_made, is_slice_op, is_tuple_op, lie_in_one, has_pattern}
use Rattle.pass_narrow.specs.declared.operands.Part.{Part}
use Rattle.pass_narrow.specs.declared.node_pattern.NodeReplacement.{NodeReplacement}
use Rattle.pass_narrow.specs.declared.node_pattern.NodeReplacement.TheVariants as right
use Rattle.pass_narrow.specs.Views.{width_in, extended, slice_by, slice_in, slice_at, sliced, part_inside, part_from, part_of, parts_by, parts_in, parts_at, element_by, element_of, element_in, element_at}
use Rattle.pass_narrow.specs.Replacements as sides
use Rattle.pass_narrow.specs.Replacements.{narrower, least_width, is_unsigned, replacement_of}
use Rattle.pass_narrow.specs.Inner.Bare.{row_test}
use Rattle.pass_narrow.proofs.Numbers.{width_is, number_width}
use Rattle.pass_narrow.proofs.Shown.{says_extension, says_slice}
use Rattle.pass_narrow.proofs.Views.{none_some, AreNumbers, says_concat}
use Rattle.pass_narrow.proofs.NoSide.{from_some, width_by_type, made_of, made_is, widths, widths_sum}

or_second : (a b : Bool) → b ≡ true → a || b ≡ true
or_second true b h = refl
or_second false b h = h

or_first : (a b : Bool) → a ≡ true → a || b ≡ true
or_first true b h = refl
or_first false b h = absurd (cc)

equal_back : (m n : ℕ) → nat_eq m n ≡ true → nat_eq n m ≡ true
equal_back m n h = grind (arith, nat_tests, h)

-- ---- operations and comparisons

narrower_some : (k w m : ℕ) → narrower k w ≡ Some m → nat_lt k w ≡ true
narrower_some k w m h = by (nat_lt k w) refl h
  where
    by : (b : Bool) → nat_lt k w ≡ b → (if b then Some k else None) ≡ Some m → nat_lt k w ≡ true
    by true e k = e
    by false e k = none_some _ m k

row_some : (o : Binary) (p q w m : ℕ) → least_width o p q w ≡ Some m → row_test o w p q ≡ true
row_some binary.Add p q w m h = narrower_some (max p q + 1) w m h
row_some binary.Umul p q w m h = narrower_some (p + q) w m h
row_some binary.And p q w m h = narrower_some (max p q) w m h
row_some binary.Or p q w m h = narrower_some (max p q) w m h
row_some binary.Xor p q w m h = narrower_some (max p q) w m h
row_some binary.Sub p q w m h = none_some _ m h
row_some binary.Udiv p q w m h = none_some _ m h
row_some binary.Umod p q w m h = none_some _ m h

row_true : (o : Binary) (w : ℕ) (x y : Origin) (p q : ℕ) → extended_from extend.Zero x ≡ Some p → extended_from extend.Zero y ≡ Some q → row_test o w p q ≡ true → left.binary_pattern o w (x ∷ y ∷ []) ≡ true
row_true binary.Add w x y p q e f h = ap₂ (left.both (row_test binary.Add w)) e f ∙ h
row_true binary.Umul w x y p q e f h = ap₂ (left.both (row_test binary.Umul w)) e f ∙ h
row_true binary.And w x y p q e f h = ap₂ (left.both (row_test binary.And w)) e f ∙ h
row_true binary.Or w x y p q e f h = ap₂ (left.both (row_test binary.Or w)) e f ∙ h
row_true binary.Xor w x y p q e f h = ap₂ (left.both (row_test binary.Xor w)) e f ∙ h
row_true binary.Sub w x y p q e f h = absurd (cc)
row_true binary.Udiv w x y p q e f h = absurd (cc)
row_true binary.Umod w x y p q e f h = absurd (cc)

operation_side : (state : IrType) (nodes : List Node) (o : Binary) (w : ℕ) (os : List Operand) (r : NodeReplacement) → AreBuilt state nodes → sides.operation_of state nodes o w os ≡ Some r → left.binary_pattern o w (map (origin state nodes) os) ≡ true
operation_side state nodes o w [] r built h = none_some _ r h
operation_side state nodes o w (x ∷ []) r built h = none_some _ r h
operation_side state nodes o w (x ∷ y ∷ []) r built h = first (extended nodes extend.Zero x) refl h
  where
    found : (a b : Operand) → extended nodes extend.Zero x ≡ Some a → extended nodes extend.Zero y ≡ Some b → (l : Option ℕ) → least_width o (width_in state nodes a) (width_in state nodes b) w ≡ l → sides.operation_if o a b l ≡ Some r → left.binary_pattern o w (origin state nodes x ∷ origin state nodes y ∷ []) ≡ true
    found a b e f None l k = none_some _ r k
    found a b e f (Some m) l k =
        row_true o w (origin state nodes x) (origin state nodes y) (width_in state nodes a) (width_in state nodes b) (from_some state nodes extend.Zero x a built e) (from_some state nodes extend.Zero y b built f)
        (row_some o (width_in state nodes a) (width_in state nodes b) w m l)

    second : (a : Operand) → extended nodes extend.Zero x ≡ Some a → (q : Option Operand) → extended nodes extend.Zero y ≡ q → sides.operation_second state nodes o w a q ≡ Some r → left.binary_pattern o w (origin state nodes x ∷ origin state nodes y ∷ []) ≡ true
    second a e None f k = none_some _ r k
    second a e (Some b) f k = found a b e f (least_width o (width_in state nodes a) (width_in state nodes b) w) refl k

    first : (q : Option Operand) → extended nodes extend.Zero x ≡ q → sides.operation_first state nodes o w q (extended nodes extend.Zero y) ≡ Some r → left.binary_pattern o w (origin state nodes x ∷ origin state nodes y ∷ []) ≡ true
    first None e k = none_some _ r k
    first (Some a) e k = second a e (extended nodes extend.Zero y) refl k
operation_side state nodes o w (x ∷ y ∷ z ∷ os) r built h = none_some _ r h

unsigned_side : (o : Compare) (x y : Origin) (p q : ℕ) → is_unsigned o ≡ true → extended_from extend.Zero x ≡ Some p → extended_from extend.Zero y ≡ Some q → nat_lt (max p q) (bits_width x.ty) ≡ true → left.compare_pattern o (x ∷ y ∷ []) ≡ true
unsigned_side compare.Slt x y p q u e f h = absurd (cc)
unsigned_side compare.Sle x y p q u e f h = absurd (cc)
unsigned_side compare.Sgt x y p q u e f h = absurd (cc)
unsigned_side compare.Sge x y p q u e f h = absurd (cc)
unsigned_side o x y p q u e f h = ap₂ (left.both (λ m n. nat_lt (max m n) (bits_width x.ty))) e f ∙ h

comparison_side : (state : IrType) (nodes : List Node) (o : Compare) (os : List Operand) (r : NodeReplacement) → AreBuilt state nodes → sides.comparison_of state nodes o os ≡ Some r → left.compare_pattern o (map (origin state nodes) os) ≡ true
comparison_side state nodes o [] r built h = none_some _ r h
comparison_side state nodes o (x ∷ []) r built h = none_some _ r h
comparison_side state nodes o (x ∷ y ∷ []) r built h = first (extended nodes extend.Zero x) refl h
  where
    found : (a b : Operand) → extended nodes extend.Zero x ≡ Some a → extended nodes extend.Zero y ≡ Some b → is_unsigned o ≡ true → (l : Option ℕ) → narrower (max (width_in state nodes a) (width_in state nodes b)) (width_in state nodes x) ≡ l → sides.comparison_if o a b l ≡ Some r → left.compare_pattern o (origin state nodes x ∷ origin state nodes y ∷ []) ≡ true
    found a b e f u None l k = none_some _ r k
    found a b e f u (Some m) l k =
        unsigned_side o (origin state nodes x) (origin state nodes y) (width_in state nodes a) (width_in state nodes b) u (from_some state nodes extend.Zero x a built e) (from_some state nodes extend.Zero y b built f)
        (ap (nat_lt (max (width_in state nodes a) (width_in state nodes b))) (width_by_type state nodes x)
        ∙ narrower_some (max (width_in state nodes a) (width_in state nodes b)) (width_in state nodes x) m l)

    unsigned : (a b : Operand) → extended nodes extend.Zero x ≡ Some a → extended nodes extend.Zero y ≡ Some b → (c : Bool) → is_unsigned o ≡ c → (if c then (sides.comparison_if o a b (narrower (max (width_in state nodes a) (width_in state nodes b)) (width_in state nodes x))) else None) ≡ Some r → left.compare_pattern o (origin state nodes x ∷ origin state nodes y ∷ []) ≡ true
    unsigned a b e f false u k = none_some _ r k
    unsigned a b e f true u k = found a b e f u (narrower (max (width_in state nodes a) (width_in state nodes b)) (width_in state nodes x)) refl k

    second : (a : Operand) → extended nodes extend.Zero x ≡ Some a → (q : Option Operand) → extended nodes extend.Zero y ≡ q → sides.comparison_second state nodes o (width_in state nodes x) a q ≡ Some r → left.compare_pattern o (origin state nodes x ∷ origin state nodes y ∷ []) ≡ true
    second a e None f k = none_some _ r k
    second a e (Some b) f k = unsigned a b e f (is_unsigned o) refl k

    first : (q : Option Operand) → extended nodes extend.Zero x ≡ q → sides.comparison_first state nodes o (width_in state nodes x) q (extended nodes extend.Zero y) ≡ Some r → left.compare_pattern o (origin state nodes x ∷ origin state nodes y ∷ []) ≡ true
    first None e k = none_some _ r k
    first (Some a) e k = second a e (extended nodes extend.Zero y) refl k
comparison_side state nodes o (x ∷ y ∷ z ∷ os) r built h = none_some _ r h

-- ---- extensions

same_width : (state : IrType) (nodes : List Node) (x : Operand) (w : ℕ) → nat_eq (width_in state nodes x) w ≡ true → nat_eq w (bits_width (type_in (types_behind state nodes) x)) ≡ true
same_width state nodes x w h = ap (nat_eq w) (width_by_type state nodes x) ∙ equal_back (width_in state nodes x) w h

whole_extension : (kind : Extend) (w : ℕ) (z : Origin) → nat_eq w (bits_width z.ty) ≡ true → left.extend_pattern kind w (z ∷ []) ≡ true
whole_extension extend.Zero w z h = or_first (nat_eq w (bits_width z.ty)) _ h
whole_extension extend.Sign w z h = or_first (nat_eq w (bits_width z.ty)) _ h

twice_extended : (kind : Extend) (w p : ℕ) (z : Origin) → extended_from kind z ≡ Some p → left.extend_pattern kind w (z ∷ []) ≡ true
twice_extended extend.Zero w p z e = or_second (nat_eq w (bits_width z.ty)) _ (ap left.is_some e)
twice_extended extend.Sign w p z e = or_second (nat_eq w (bits_width z.ty)) _ (or_first (left.is_some (extended_from extend.Sign z)) _ (ap left.is_some e))

sign_of_zeros : (w p : ℕ) (z : Origin) → extended_from extend.Zero z ≡ Some p → nat_lt p (bits_width z.ty) ≡ true → left.extend_pattern extend.Sign w (z ∷ []) ≡ true
sign_of_zeros w p z e h =
    or_second (nat_eq w (bits_width z.ty)) _
    (or_second (left.is_some (extended_from extend.Sign z)) _ (ap (λ q. left.is_narrower q (bits_width z.ty)) e ∙ h))

-- the row of signs over zeros
sign_side : (state : IrType) (nodes : List Node) (w : ℕ) (x : Operand) (r : NodeReplacement) → AreBuilt state nodes → sides.sign_of_longer state nodes x ≡ Some r → left.extend_pattern extend.Sign w (origin state nodes x ∷ []) ≡ true
sign_side state nodes w x r built h = signed (extended nodes extend.Zero x) refl h
  where
    strict : (a : Operand) → extended nodes extend.Zero x ≡ Some a → (b : Bool) → nat_lt (width_in state nodes a) (width_in state nodes x) ≡ b → (if b then (Some (right.Extension extend.Zero a)) else None) ≡ Some r → left.extend_pattern extend.Sign w (origin state nodes x ∷ []) ≡ true
    strict a e false t k = none_some _ r k
    strict a e true t k = sign_of_zeros w (width_in state nodes a) (origin state nodes x) (from_some state nodes extend.Zero x a built e) (ap (nat_lt (width_in state nodes a)) (width_by_type state nodes x) ∙ t)

    signed : (q : Option Operand) → extended nodes extend.Zero x ≡ q → sides.sign_by state nodes x q ≡ Some r → left.extend_pattern extend.Sign w (origin state nodes x ∷ []) ≡ true
    signed None e k = none_some _ r k
    signed (Some a) e k = strict a e (nat_lt (width_in state nodes a) (width_in state nodes x)) refl k

other_side : (state : IrType) (nodes : List Node) (kind : Extend) (w : ℕ) (x : Operand) (r : NodeReplacement) → AreBuilt state nodes → sides.other_extension state nodes x kind ≡ Some r → left.extend_pattern kind w (origin state nodes x ∷ []) ≡ true
other_side state nodes extend.Zero w x r built h = none_some _ r h
other_side state nodes extend.Sign w x r built h = sign_side state nodes w x r built h

extension_side : (state : IrType) (nodes : List Node) (kind : Extend) (w : ℕ) (x : Operand) (r : NodeReplacement) → AreBuilt state nodes → sides.extension_of state nodes kind w (x ∷ []) ≡ Some r → left.extend_pattern kind w (origin state nodes x ∷ []) ≡ true
extension_side state nodes kind w x r built h = whole (nat_eq (width_in state nodes x) w) refl h
  where
    longer : (q : Option Operand) → extended nodes kind x ≡ q → sides.longer_by state nodes kind x q ≡ Some r → left.extend_pattern kind w (origin state nodes x ∷ []) ≡ true
    longer None e k = other_side state nodes kind w x r built k
    longer (Some a) e k = twice_extended kind w (width_in state nodes a) (origin state nodes x) (from_some state nodes kind x a built e)

    whole : (b : Bool) → nat_eq (width_in state nodes x) w ≡ b → (if b then (Some (right.Operand x)) else sides.longer_of state nodes kind x) ≡ Some r → left.extend_pattern kind w (origin state nodes x ∷ []) ≡ true
    whole true t k = whole_extension kind w (origin state nodes x) (same_width state nodes x w t)
    whole false t k = longer (extended nodes kind x) refl k

-- ---- slices

made_slice : (state : IrType) (nodes : List Node) (x : Operand) (part : Part) → sliced nodes x ≡ Some part → is_made is_slice_op (origin state nodes x).made ≡ true
made_slice state nodes operand.State part h = none_some _ part h
made_slice state nodes (operand.Node i) part h = by (slice_get nodes i) refl
  where
    by_op : (o : Op) (start : ℕ) (os : List Operand) → slice_by start os o ≡ Some part → is_slice_op o ≡ true
    by_op op.BitSlice start os k = refl
    by_op o start os k = none_some _ part k

    inside : (o : Op) (os : List Operand) (a : Attributes) → slice_in o os a ≡ Some part → is_slice_op o ≡ true
    inside o os (attributes.StartAndWidth start width) k = by_op o start os k
    inside o os a k = none_some _ part k

    by : (m : Option Node) → slice_get nodes i ≡ m → is_made is_slice_op (origin state nodes (operand.Node i)).made ≡ true
    by None e = none_some _ part (ap slice_at (sym e) ∙ h)
    by (Some n) e = made_is state nodes is_slice_op i n e ∙ inside n.op n.operands n.attributes (ap slice_at (sym e) ∙ h)

-- the part in which bits lie is one of all
part_lies : (state : IrType) (nodes : List Node) (place : ℕ) (os : List Operand) (total start w : ℕ) (part : Part) → AreNumbers state nodes place os total → part_from state nodes os total start w ≡ Some part → lie_in_one start w (widths state nodes os) ≡ true
part_lies state nodes place [] total start w part all h = none_some _ part h
part_lies state nodes place (o ∷ os) total start w part all h =
    by (λ k. part_lies state nodes place os all.1 start w part all.4 k) (nat_le all.1 start)
    (subst (λ k. (if nat_le k start then part_inside o k total start w else part_from state nodes os k start w) ≡ Some part) behind h)
  where
    own : width_in state nodes o ≡ all.0
    own = number_width state nodes o all.0 all.2

    behind : total - width_in state nodes o ≡ all.1
    behind = let e = own in let f = all.5 in omega (arith, e, f)

    rest : sum (widths state nodes os) ≡ all.1
    rest = widths_sum state nodes place os all.1 all.4

    whole : sum (widths state nodes os) + bits_width (type_in (types_behind state nodes) o) ≡ total
    whole = let a = rest in let b = width_by_type state nodes o ∙ own in let c = all.5 in omega (arith, a, b, c)

    inside : (b : Bool) → nat_le all.1 start && nat_le (start + w) total ≡ b → (if b then (Some (record { operand = o; start = start - all.1 })) else None) ≡ Some part → nat_le all.1 start && nat_le (start + w) total ≡ true
    inside true e k = e
    inside false e k = none_some _ part k

    by : (part_from state nodes os all.1 start w ≡ Some part → lie_in_one start w (widths state nodes os) ≡ true) → (b : Bool) → (if b then part_inside o all.1 total start w else part_from state nodes os all.1 start w) ≡ Some part → lie_in_one start w (widths state nodes (o ∷ os)) ≡ true
    by later true k = or_first _ (lie_in_one start w (widths state nodes os)) (ap₂ (λ a b. nat_le a start && nat_le (start + w) b) rest whole ∙ inside (nat_le all.1 start && nat_le (start + w) total) refl k)
    by later false k = or_second _ (lie_in_one start w (widths state nodes os)) (later k)

made_parts : (state : IrType) (nodes : List Node) (x : Operand) (start w : ℕ) (part : Part) → AreBuilt state nodes → part_of state nodes start w x ≡ Some part → lie_in_one start w (left.parts_in (origin state nodes x).made) ≡ true
made_parts state nodes operand.State start w part built h = none_some _ part h
made_parts state nodes (operand.Node i) start w part built h = by (slice_get nodes i) refl
  where
    by_op : (n : Node) → slice_get nodes i ≡ Some n → n.attributes ≡ attributes.None → (o : Op) → n.op ≡ o → parts_by state nodes start w (bits_width n.ty) n.operands o ≡ Some part → lie_in_one start w (left.widths_if o (map (type_in (types_behind state nodes)) n.operands)) ≡ true
    by_op n e a op.Concat o k =
        let fits_at = built.fits_at i n e (ap is_plain_op o) in
        let less = slice_get_within nodes i n e in
        let says = says_concat state nodes i n n.operands (omega (arith, less)) fits_at (record { op = o; operands = refl; attributes = a }) in
        let total : bits_width n.ty ≡ says.total = ap bits_width says.wide.ty ∙ width_is says.total in
        part_lies state nodes i n.operands says.total start w part says.numbers (ap (λ m. part_from state nodes n.operands m start w) (sym total) ∙ k)
    by_op n e a o same k = none_some _ part k

    inside : (n : Node) → slice_get nodes i ≡ Some n → (a : Attributes) → n.attributes ≡ a → parts_in state nodes start w (bits_width n.ty) n.op n.operands a ≡ Some part → lie_in_one start w (left.widths_if n.op (map (type_in (types_behind state nodes)) n.operands)) ≡ true
    inside n e attributes.None a k = by_op n e a n.op refl k
    inside n e other a k = none_some _ part k

    by : (m : Option Node) → slice_get nodes i ≡ m → lie_in_one start w (left.parts_in (origin state nodes (operand.Node i)).made) ≡ true
    by None e = none_some _ part (ap (parts_at state nodes start w) (sym e) ∙ h)
    by (Some n) e = ap (λ m. lie_in_one start w (left.parts_in m)) (made_of state nodes i n e) ∙ inside n e n.attributes refl (ap (parts_at state nodes start w) (sym e) ∙ h)

slice_pattern : (state : IrType) (nodes : List Node) (x : Operand) (start w : ℕ) (r : NodeReplacement) → AreBuilt state nodes → sides.slice_of state nodes start w x ≡ Some r → left.slice_pattern start w (origin state nodes x ∷ []) ≡ true
slice_pattern state nodes x start w r built h = whole (nat_eq (width_in state nodes x) w) refl h
  where
    same : Bool
    same = nat_eq w (bits_width (type_in (types_behind state nodes) x))

    narrow : Bool
    narrow = left.is_narrower (extended_from extend.Zero (origin state nodes x)) (bits_width (type_in (types_behind state nodes) x))

    by_part : (q : Option Part) → part_of state nodes start w x ≡ q → sides.slice_part q ≡ Some r → left.slice_pattern start w (origin state nodes x ∷ []) ≡ true
    by_part None e k = none_some _ r k
    by_part (Some part) e k =
        or_second same _ (or_second narrow _ (or_second (is_made is_slice_op (origin state nodes x).made) _ (made_parts state nodes x start w part built e)))

    by_slice : (q : Option Part) → sliced nodes x ≡ q → sides.slice_of_slice state nodes start w x q ≡ Some r → left.slice_pattern start w (origin state nodes x ∷ []) ≡ true
    by_slice None e k = by_part (part_of state nodes start w x) refl k
    by_slice (Some part) e k = or_second same _ (or_second narrow _ (or_first (is_made is_slice_op (origin state nodes x).made) _ (made_slice state nodes x part e)))

    strict : (a : Operand) → extended nodes extend.Zero x ≡ Some a → (b : Bool) → nat_lt (width_in state nodes a) (width_in state nodes x) ≡ b → (if b then sides.slice_of_longer (width_in state nodes a) start w a else None) ≡ Some r → left.slice_pattern start w (origin state nodes x ∷ []) ≡ true
    strict a e false t k = none_some _ r k
    strict a e true t k =
        or_second same _ (or_first narrow _ (ap₂ left.is_narrower (from_some state nodes extend.Zero x a built e) (width_by_type state nodes x) ∙ t))

    over : (q : Option Operand) → extended nodes extend.Zero x ≡ q → sides.slice_by state nodes start w x q ≡ Some r → left.slice_pattern start w (origin state nodes x ∷ []) ≡ true
    over None e k = by_slice (sliced nodes x) refl k
    over (Some a) e k = strict a e (nat_lt (width_in state nodes a) (width_in state nodes x)) refl k

    whole : (b : Bool) → nat_eq (width_in state nodes x) w ≡ b → (if b then (Some (right.Operand x)) else sides.slice_over state nodes start w x) ≡ Some r → left.slice_pattern start w (origin state nodes x ∷ []) ≡ true
    whole true t k = or_first same _ (same_width state nodes x w t)
    whole false t k = over (extended nodes extend.Zero x) refl k

-- ---- parts of tuples

made_tuple : (state : IrType) (nodes : List Node) (x a : Operand) (index : ℕ) → element_of nodes index x ≡ Some a → is_made is_tuple_op (origin state nodes x).made ≡ true
made_tuple state nodes operand.State a index h = none_some _ a h
made_tuple state nodes (operand.Node i) a index h = by (slice_get nodes i) refl
  where
    by_op : (o : Op) (os : List Operand) → element_by index os o ≡ Some a → is_tuple_op o ≡ true
    by_op op.Tuple os k = refl
    by_op o os k = none_some _ a k

    inside : (o : Op) (os : List Operand) (b : Attributes) → element_in index o os b ≡ Some a → is_tuple_op o ≡ true
    inside o os attributes.None k = by_op o os k
    inside o os b k = none_some _ a k

    by : (m : Option Node) → slice_get nodes i ≡ m → is_made is_tuple_op (origin state nodes (operand.Node i)).made ≡ true
    by None e = none_some _ a (ap (element_at index) (sym e) ∙ h)
    by (Some n) e = made_is state nodes is_tuple_op i n e ∙ inside n.op n.operands n.attributes (ap (element_at index) (sym e) ∙ h)

element_side : (state : IrType) (nodes : List Node) (index : ℕ) (os : List Operand) (r : NodeReplacement) → sides.element_replacement nodes index os ≡ Some r → left.part_pattern (map (origin state nodes) os) ≡ true
element_side state nodes index [] r h = none_some _ r h
element_side state nodes index (x ∷ []) r h = by (element_of nodes index x) refl h
  where
    by : (q : Option Operand) → element_of nodes index x ≡ q → sides.operand_if q ≡ Some r → is_made is_tuple_op (origin state nodes x).made ≡ true
    by None e k = none_some _ r k
    by (Some a) e k = made_tuple state nodes x a index e
element_side state nodes index (x ∷ y ∷ os) r h = none_some _ r h

-- ---- any node

alone : (state : IrType) (nodes : List Node) (os : List Operand) (r : NodeReplacement) → sides.concat_of os ≡ Some r → left.concat_pattern (map (origin state nodes) os) ≡ true
alone state nodes [] r h = none_some _ r h
alone state nodes (x ∷ []) r h = refl
alone state nodes (x ∷ y ∷ os) r h = none_some _ r h

is_slice : (o : Op) → IsTrue (is_bit_slice o) → o ≡ op.BitSlice
is_slice op.BitSlice h = refl
is_slice o h = absurd (cc)

is_part : (o : Op) → IsTrue (is_tuple_index o) → o ≡ op.TupleIndex
is_part op.TupleIndex h = refl
is_part o h = absurd (cc)

left_side_there : (state : IrType) (nodes : List Node) (n : Node) (r : NodeReplacement) → AreBuilt state nodes → FitsAt state nodes (length nodes) n → replacement_of state nodes n ≡ Some r → has_pattern state nodes n ≡ true
left_side_there state nodes n r built fits_at h = by n.attributes refl h
  where
    here : length nodes ≤ length nodes
    here = omega arith

    fits : IsTrue (types_fit [] (types_behind state nodes) n n.attributes)
    fits = (both_true (is_met (count_of n.op) (length n.operands)) (types_fit [] (types_behind state nodes) n n.attributes) fits_at.fits).1

    plain : (o : Op) → n.op ≡ o → sides.plain_replacement state nodes o (bits_width n.ty) n.operands ≡ Some r → left.node_pattern o (bits_width n.ty) (left.first_bit n.attributes) (map (origin state nodes) n.operands) ≡ true
    plain (op.Binary o) e k = operation_side state nodes o (bits_width n.ty) n.operands r built k
    plain (op.Compare o) e k = comparison_side state nodes o n.operands r built k
    plain op.Concat e k = alone state nodes n.operands r k
    plain o e k = none_some _ r k

    slice : (start width : ℕ) (os : List Operand) → n.op ≡ op.BitSlice → n.operands ≡ os → n.attributes ≡ attributes.StartAndWidth start width → sides.slice_of_one state nodes start width os ≡ Some r → has_pattern state nodes n ≡ true
    slice start width [] o f a k = none_some _ r k
    slice start width (x ∷ []) o f a k =
        let says = says_slice state nodes (length nodes) n op.BitSlice x start width here fits_at (record { op = o; operands = f; attributes = a }) in
        (λ i. left.node_pattern (o i) ((ap bits_width says.wide.ty ∙ width_is width) i) (left.first_bit (a i)) (map (origin state nodes) (f i))) ∙ slice_pattern state nodes x start width r built k
    slice start width (x ∷ y ∷ os) o f a k = none_some _ r k

    extension : (kind : Extend) (w : ℕ) (os : List Operand) → n.op ≡ op.Extend kind → n.operands ≡ os → n.attributes ≡ attributes.NewBitCount w → sides.extension_of state nodes kind w os ≡ Some r → has_pattern state nodes n ≡ true
    extension kind w [] o f a k = none_some _ r k
    extension kind w (x ∷ []) o f a k =
        let says = says_extension state nodes (length nodes) n kind x w here fits_at (record { op = o; operands = f; attributes = a }) in
        (λ i. left.node_pattern (o i) ((ap bits_width says.wide.ty ∙ width_is w) i) (left.first_bit (a i)) (map (origin state nodes) (f i))) ∙ extension_side state nodes kind w x r built k
    extension kind w (x ∷ y ∷ os) o f a k = none_some _ r k

    by_kind : (w : ℕ) → n.attributes ≡ attributes.NewBitCount w → (o : Op) → n.op ≡ o → sides.extension_by_op state nodes w n.operands o ≡ Some r → has_pattern state nodes n ≡ true
    by_kind w a (op.Extend kind) e k = extension kind w n.operands e refl a k
    by_kind w a o e k = none_some _ r k

    by : (a : Attributes) → n.attributes ≡ a → sides.replacement_by state nodes n.op (bits_width n.ty) n.operands a ≡ Some r → has_pattern state nodes n ≡ true
    by attributes.None a k = plain n.op refl k
    by (attributes.StartAndWidth start width) a k =
        let fit = subst (λ b. IsTrue (types_fit [] (types_behind state nodes) n b)) a fits in
        slice start width n.operands (is_slice n.op (both_true (is_bit_slice n.op) (slice_fits start width (types_behind state nodes) n.operands n.ty) fit).0) refl a k
    by (attributes.NewBitCount w) a k = by_kind w a n.op refl k
    by (attributes.Index i) a k =
        let fit = subst (λ b. IsTrue (types_fit [] (types_behind state nodes) n b)) a fits in
        let o = is_part n.op (both_true (is_tuple_index n.op) (tuple_index_fits i (types_behind state nodes) n.operands n.ty) fit).0 in
        ap (λ z. left.node_pattern z (bits_width n.ty) (left.first_bit n.attributes) (map (origin state nodes) n.operands)) o ∙ element_side state nodes i n.operands r k
    by (attributes.Width w) a k = none_some _ r k
    by (attributes.Cases cases default) a k = none_some _ r k
    by (attributes.Indices i) a k = none_some _ r k
    by (attributes.Value c) a k = none_some _ r k
    by (attributes.Channel predicate c) a k = none_some _ r k

-- a node without a pattern has no replacement
pub no_right_side : (state : IrType) (nodes : List Node) (n : Node) → AreBuilt state nodes → FitsAt state nodes (length nodes) n → has_pattern state nodes n ≡ false → replacement_of state nodes n ≡ None
no_right_side state nodes n built fits_at h = by (replacement_of state nodes n) refl
  where
    by : (q : Option NodeReplacement) → replacement_of state nodes n ≡ q → replacement_of state nodes n ≡ None
    by None e = e
    by (Some r) e = let never : true ≡ false = sym (left_side_there state nodes n r built fits_at e) ∙ h in absurd (cc)
