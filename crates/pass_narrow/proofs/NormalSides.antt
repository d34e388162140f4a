-- Replacements over normal nodes have no pattern, and what they need is normal.
use Rattle.std.proofs.Common.{◌≡◌, ℕ, ◌+◌, ◌≤◌, ◌≢◌, max, List, [], ◌∷◌, ◌++◌, map, length, Bool, true, false, ◌&&◌, IsTrue, Option, Some, None, Result, Ok, Err, IfOk, refl, sym, ap, ap₂, subst, ◌∙◌, arith}
use Rattle.std.specs.Prelude.{slice_get, nat_eq, nat_lt, ◌||◌, if◌then◌else◌}
use Rattle.std.proofs.lemmas.Bool.Decides.{nat_tests}
use Rattle.delay_model.specs.declared.op.Op.{Op}
use Rattle.delay_model.specs.declared.op.Op.TheVariants as op
use Rattle.delay_model.specs.declared.op.Binary.{Binary}
use Rattle.delay_model.specs.declared.op.Binary.TheVariants as binary
use Rattle.delay_model.specs.declared.op.Compare.{Compare}
use Rattle.delay_model.specs.declared.op.Extend.{Extend}
use Rattle.delay_model.specs.declared.op.Extend.TheVariants as extend
use Rattle.ir_tree.specs.declared.ir_type.IrType.{IrType}
use Rattle.ir_tree.specs.declared.node.Operand.{Operand}
use Rattle.ir_tree.specs.declared.node.Operand.TheVariants as operand
use Rattle.ir_tree.specs.declared.node.Node.{Node}
use Rattle.ir_tree.specs.declared.node.Attributes.{Attributes}
use Rattle.ir_tree.specs.declared.node.Attributes.TheVariants as attributes
use Rattle.ir_tree.specs.NodeTypes.Types.{bits_width}
use Rattle.ir_tree.specs.Rules.Fitting.{type_in, types_behind}
use Rattle.ir_tree.specs.Rules.Lines.{is_there}
use Rattle.ir_tree.proofs.Lemmas.Rules.Typed.Checked.{and_true}
use Rattle.ir_rebuild.specs.Operands.{operands_in}
use Rattle.ir_rebuild.specs.Built.{FitsAt, AreBuilt, Extends, is_plain_op, numbered}
use Rattle.ir_rebuild.proofs.Lemmas.{node_there, before_more, last_there}
use Rattle.ir_rebuild.specs.Normal.Origins.{Origin, origin}
use Rattle.ir_rebuild.specs.Normal.Patterns as left
use Rattle.ir_rebuild.specs.Normal.Patterns.{has_pattern}
use Rattle.ir_rebuild.specs.Normal.Normal.{is_literal_node, names_literal, all_literals, IsNormalNode, AreNormal}
use Rattle.ir_rebuild.proofs.Lemmas.Normal.{normal_more}
use Rattle.pass_narrow.specs.declared.node_pattern.NodeReplacement.{NodeReplacement}
use Rattle.pass_narrow.specs.declared.node_pattern.NodeReplacement.TheVariants as right
use Rattle.pass_narrow.specs.declared.rewritten_node.RewrittenNode.{RewrittenNode}
use Rattle.pass_narrow.specs.declared.rewritten_node.RewrittenNode.TheVariants as rewritten_node
use Rattle.pass_narrow.specs.declared.rewritten_node.LongSlice.{LongSlice}
use Rattle.pass_narrow.specs.Numbers.{number, IsNumber}
use Rattle.pass_narrow.specs.Nodes.{extension_node, slice_node, operation_node, comparison_node}
use Rattle.pass_narrow.specs.KeepsNormal.{IsNarrow, IsNarrowInside, HasNoPattern, KeepsNormal}
use Rattle.pass_narrow.specs.Views.{width_at, width_in, extension_at, extended, element_of}
use Rattle.pass_narrow.specs.Replacements as sides
use Rattle.pass_narrow.specs.Replacements.{narrower, least_width, is_unsigned, slice_of, replacement_of}
use Rattle.pass_narrow.specs.Inner.Meant.{GivesNumber, HasLonger, IsOperation, IsComparison, IsSliceOf, IsWhole, IsReplacement, IsInnermost, SaysOfSlice, slice_at}
use Rattle.pass_narrow.specs.Slices.{inner_part}
use Rattle.pass_narrow.specs.Inner.Bare.{row_test, IsBare, AreBare, IsNormalSide, IsLonger}
use Rattle.pass_narrow.proofs.Numbers.{width_is, number_width, number_later, extends_twice}
use Rattle.pass_narrow.proofs.Shown.{says_extension, says_slice}
use Rattle.pass_narrow.proofs.Views.{none_some, ShowsExtension, shows_extension}
use Rattle.pass_narrow.proofs.Rules.{slice_says}
use Rattle.pass_narrow.proofs.Right.{slice_of_node, right_says}
use Rattle.pass_narrow.proofs.Standing.{longer_later}
use Rattle.pass_narrow.proofs.NoSide.{names_extension, from_some, row_of, compare_row, extend_row, no_slice, no_left_side, width_by_type, or_false}

-- ---- operands of extensions that are normal

or_parts : (a b : Bool) → (a || b) ≡ false → (a ≡ false) × (b ≡ false)
or_parts true b h = absurd (cc)
or_parts false b h = (refl, h)

bare_none : (state : IrType) (nodes : List Node) (a : Operand) → AreBuilt state nodes → left.is_some (left.extended_from extend.Zero (origin state nodes a)) ≡ false → extended nodes extend.Zero a ≡ None
bare_none state nodes a built h = by (extended nodes extend.Zero a) refl
  where
    by : (q : Option Operand) → extended nodes extend.Zero a ≡ q → extended nodes extend.Zero a ≡ None
    by None e = e
    by (Some b) e = let never : true ≡ false = sym (ap left.is_some (from_some state nodes extend.Zero a b built e)) ∙ h in absurd (cc)

-- what is known of the extension of a normal list
record IsNormalExtension (state : IrType) (nodes : List Node) (kind : Extend) (x a : Operand) : Type 0 where
  written : names_literal nodes a ≡ false
  side : left.extend_pattern kind (width_in state nodes x) (origin state nodes a ∷ []) ≡ false

literal_one : (b : Bool) → b && true ≡ false → b ≡ false
literal_one true h = absurd (cc)
literal_one false h = refl

normal_extension : (state : IrType) (nodes : List Node) (kind : Extend) (x a : Operand) → AreNormal state nodes → extended nodes kind x ≡ Some a → IsNormalExtension state nodes kind x a
normal_extension state nodes kind x a normal h =
    let f = names_extension nodes kind x a h in
    let own = normal.each f.place f.node f.there (ap is_plain_op f.parts.op) in
    let width : width_in state nodes x ≡ bits_width f.node.ty = ap (width_in state nodes) f.is ∙ ap width_at f.there in
    let folded : names_literal nodes a && true ≡ false = sym (λ i. all_literals nodes (operands_in (record { id = f.node.id; ty = f.node.ty; op = f.node.op; operands = f.parts.operands i; attributes = f.parts.attributes i }))) ∙ own.folded in
    record {
      written = literal_one (names_literal nodes a) folded;
      side = ap (λ w. left.extend_pattern kind w (origin state nodes a ∷ [])) width ∙ sym (λ i. left.node_pattern (f.parts.op i) (bits_width f.node.ty) (left.first_bit (f.parts.attributes i)) (map (origin state nodes) (f.parts.operands i))) ∙ own.narrowed;
    }

-- an operand under zeros in a normal list
bare_operand : (state : IrType) (nodes : List Node) (x a : Operand) → AreBuilt state nodes → AreNormal state nodes → extended nodes extend.Zero x ≡ Some a → IsBare state nodes a
bare_operand state nodes x a built normal h =
    let n = normal_extension state nodes extend.Zero x a normal h in
    record {
      written = n.written;
      bare = bare_none state nodes a built (or_parts (nat_eq (width_in state nodes x) (bits_width (type_in (types_behind state nodes) a))) (left.is_some (left.extended_from extend.Zero (origin state nodes a))) n.side).1;
    }

-- ---- the rows of replacements

wider_side : (kind : Extend) (v w : ℕ) (z : Origin) → nat_eq w (bits_width z.ty) ≡ false → left.extend_pattern kind v (z ∷ []) ≡ false → left.extend_pattern kind w (z ∷ []) ≡ false
wider_side extend.Zero v w z other h = or_false (nat_eq w (bits_width z.ty)) (left.is_some (left.extended_from extend.Zero z)) other (or_parts (nat_eq v (bits_width z.ty)) (left.is_some (left.extended_from extend.Zero z)) h).1
wider_side extend.Sign v w z other h = or_false (nat_eq w (bits_width z.ty)) (left.is_some (left.extended_from extend.Sign z) || left.is_narrower (left.extended_from extend.Zero z) (bits_width z.ty)) other (or_parts (nat_eq v (bits_width z.ty)) (left.is_some (left.extended_from extend.Sign z) || left.is_narrower (left.extended_from extend.Zero z) (bits_width z.ty)) h).1

extension_side : (state : IrType) (nodes : List Node) (kind : Extend) (a : Operand) (w : ℕ) → left.extend_pattern kind w (origin state nodes a ∷ []) ≡ false → has_pattern state nodes (extension_node kind a w) ≡ false
extension_side state nodes kind a w h = ap (λ k. left.extend_pattern kind k (origin state nodes a ∷ [])) (width_is w) ∙ h

first_test : (kind : Extend) (v : ℕ) (z : Origin) → left.extend_pattern kind v (z ∷ []) ≡ false → nat_eq v (bits_width z.ty) ≡ false
first_test extend.Zero v z h = (or_parts (nat_eq v (bits_width z.ty)) _ h).0
first_test extend.Sign v z h = (or_parts (nat_eq v (bits_width z.ty)) _ h).0

unequal : (m n k l : ℕ) → nat_eq n m ≡ false → m ≤ n → n ≤ k → l ≡ m → nat_eq k l ≡ false
unequal m n k l h a b e = grind (arith, nat_tests, h, a, b, e)

-- an extension to as many bits or more
wider_extension : (state : IrType) (nodes : List Node) (own kind : Extend) (x a : Operand) (w total : ℕ) → (f : ShowsExtension state nodes kind x a) → IsNormalExtension state nodes kind x a → width_in state nodes x ≤ total → left.extend_pattern own (width_in state nodes x) (origin state nodes a ∷ []) ≡ false → has_pattern state nodes (extension_node own a total) ≡ false
wider_extension state nodes own kind x a w total f n more h =
    let p = number_width state nodes a f.own f.inner in
    let k = number_width state nodes x f.width f.outer in
    let longer = f.longer in
    extension_side state nodes own a total
    (wider_side own (width_in state nodes x) total (origin state nodes a)
    (unequal (width_in state nodes a) (width_in state nodes x) total (bits_width (type_in (types_behind state nodes) a))
    (ap (nat_eq (width_in state nodes x)) (sym (width_by_type state nodes a)) ∙ first_test own (width_in state nodes x) (origin state nodes a) h)
    (omega (arith, p, k, longer)) more (width_by_type state nodes a))
    h)

least : (k w m : ℕ) → narrower k w ≡ Some m → nat_lt k m ≡ false
least k w m h = by (nat_lt k w) h
  where
    by : (b : Bool) → (if b then Some k else None) ≡ Some m → nat_lt k m ≡ false
    by true e = let same : k ≡ m = cc in grind (arith, nat_tests, same)
    by false e = none_some _ m e

least_row : (o : Binary) (p q w m : ℕ) → least_width o p q w ≡ Some m → row_test o m p q ≡ false
least_row binary.Add p q w m h = least (max p q + 1) w m h
least_row binary.Umul p q w m h = least (p + q) w m h
least_row binary.And p q w m h = least (max p q) w m h
least_row binary.Or p q w m h = least (max p q) w m h
least_row binary.Xor p q w m h = least (max p q) w m h
least_row binary.Sub p q w m h = refl
least_row binary.Udiv p q w m h = refl
least_row binary.Umod p q w m h = refl

-- ---- each replacement

operation_side : (state : IrType) (nodes : List Node) (o : Binary) (w : ℕ) (os : List Operand) (r : NodeReplacement) (total : ℕ) → AreBuilt state nodes → AreNormal state nodes → sides.operation_of state nodes o w os ≡ Some r → IsNormalSide state nodes total r
operation_side state nodes o w [] r total built normal h = none_some _ r h
operation_side state nodes o w (x ∷ []) r total built normal h = none_some _ r h
operation_side state nodes o w (x ∷ y ∷ []) r total built normal h = first (extended nodes extend.Zero x) refl h
  where
    found : (a b : Operand) → extended nodes extend.Zero x ≡ Some a → extended nodes extend.Zero y ≡ Some b → (l : Option ℕ) → least_width o (width_in state nodes a) (width_in state nodes b) w ≡ l → sides.operation_if o a b l ≡ Some r → IsNormalSide state nodes total r
    found a b e f None l k = none_some _ r k
    found a b e f (Some m) l k =
        let same : right.Operation o a b m ≡ r = cc in
        subst (IsNormalSide state nodes total) same
        (record {
          first = bare_operand state nodes x a built normal e;
          second = bare_operand state nodes y b built normal f;
          least = least_row o (width_in state nodes a) (width_in state nodes b) w m l;
        })

    second : (a : Operand) → extended nodes extend.Zero x ≡ Some a → (q : Option Operand) → extended nodes extend.Zero y ≡ q → sides.operation_second state nodes o w a q ≡ Some r → IsNormalSide state nodes total r
    second a e None f k = none_some _ r k
    second a e (Some b) f k = found a b e f (least_width o (width_in state nodes a) (width_in state nodes b) w) refl k

    first : (q : Option Operand) → extended nodes extend.Zero x ≡ q → sides.operation_first state nodes o w q (extended nodes extend.Zero y) ≡ Some r → IsNormalSide state nodes total r
    first None e k = none_some _ r k
    first (Some a) e k = second a e (extended nodes extend.Zero y) refl k
operation_side state nodes o w (x ∷ y ∷ z ∷ os) r total built normal h = none_some _ r h

comparison_side : (state : IrType) (nodes : List Node) (o : Compare) (os : List Operand) (r : NodeReplacement) (total : ℕ) → AreBuilt state nodes → AreNormal state nodes → sides.comparison_of state nodes o os ≡ Some r → IsNormalSide state nodes total r
comparison_side state nodes o [] r total built normal h = none_some _ r h
comparison_side state nodes o (x ∷ []) r total built normal h = none_some _ r h
comparison_side state nodes o (x ∷ y ∷ []) r total built normal h = first (extended nodes extend.Zero x) refl h
  where
    found : (a b : Operand) → extended nodes extend.Zero x ≡ Some a → extended nodes extend.Zero y ≡ Some b → (l : Option ℕ) → narrower (max (width_in state nodes a) (width_in state nodes b)) (width_in state nodes x) ≡ l → sides.comparison_if o a b l ≡ Some r → IsNormalSide state nodes total r
    found a b e f None l k = none_some _ r k
    found a b e f (Some m) l k =
        let same : right.Comparison o a b m ≡ r = cc in
        subst (IsNormalSide state nodes total) same
        (record {
          first = bare_operand state nodes x a built normal e;
          second = bare_operand state nodes y b built normal f;
          least = least (max (width_in state nodes a) (width_in state nodes b)) (width_in state nodes x) m l;
        })

    unsigned : (a b : Operand) → extended nodes extend.Zero x ≡ Some a → extended nodes extend.Zero y ≡ Some b → (c : Bool) → (if c then (sides.comparison_if o a b (narrower (max (width_in state nodes a) (width_in state nodes b)) (width_in state nodes x))) else None) ≡ Some r → IsNormalSide state nodes total r
    unsigned a b e f false k = none_some _ r k
    unsigned a b e f true k = found a b e f (narrower (max (width_in state nodes a) (width_in state nodes b)) (width_in state nodes x)) refl k

    second : (a : Operand) → extended nodes extend.Zero x ≡ Some a → (q : Option Operand) → extended nodes extend.Zero y ≡ q → sides.comparison_second state nodes o (width_in state nodes x) a q ≡ Some r → IsNormalSide state nodes total r
    second a e None f k = none_some _ r k
    second a e (Some b) f k = unsigned a b e f (is_unsigned o) k

    first : (q : Option Operand) → extended nodes extend.Zero x ≡ q → sides.comparison_first state nodes o (width_in state nodes x) q (extended nodes extend.Zero y) ≡ Some r → IsNormalSide state nodes total r
    first None e k = none_some _ r k
    first (Some a) e k = second a e (extended nodes extend.Zero y) refl k
comparison_side state nodes o (x ∷ y ∷ z ∷ os) r total built normal h = none_some _ r h

extensions_side : (state : IrType) (nodes : List Node) (kind : Extend) (x : Operand) (w : ℕ) (r : NodeReplacement) → AreBuilt state nodes → AreNormal state nodes → width_in state nodes x ≤ w → sides.extension_of state nodes kind w (x ∷ []) ≡ Some r → IsNormalSide state nodes w r
extensions_side state nodes kind x w r built normal within h = whole (nat_eq (width_in state nodes x) w) h
  where
    strict : (a : Operand) → extended nodes extend.Zero x ≡ Some a → (b : Bool) → (if b then (Some (right.Extension extend.Zero a)) else None) ≡ Some r → IsNormalSide state nodes w r
    strict a e false k = none_some _ r k
    strict a e true k =
        let same : right.Extension extend.Zero a ≡ r = cc in
        let n = normal_extension state nodes extend.Zero x a normal e in
        subst (IsNormalSide state nodes w) same (wider_extension state nodes extend.Zero extend.Zero x a w w (shows_extension state nodes extend.Zero x a built e) n within n.side)

    signed : (q : Option Operand) → extended nodes extend.Zero x ≡ q → sides.sign_by state nodes x q ≡ Some r → IsNormalSide state nodes w r
    signed None e k = none_some _ r k
    signed (Some a) e k = strict a e (nat_lt (width_in state nodes a) (width_in state nodes x)) k

    other : (z : Extend) → sides.other_extension state nodes x z ≡ Some r → IsNormalSide state nodes w r
    other extend.Zero k = none_some _ r k
    other extend.Sign k = signed (extended nodes extend.Zero x) refl k

    longer : (q : Option Operand) → extended nodes kind x ≡ q → sides.longer_by state nodes kind x q ≡ Some r → IsNormalSide state nodes w r
    longer None e k = other kind k
    longer (Some a) e k =
        let same : right.Extension kind a ≡ r = cc in
        let n = normal_extension state nodes kind x a normal e in
        subst (IsNormalSide state nodes w) same (wider_extension state nodes kind kind x a w w (shows_extension state nodes kind x a built e) n within n.side)

    whole : (b : Bool) → (if b then (Some (right.Operand x)) else sides.longer_of state nodes kind x) ≡ Some r → IsNormalSide state nodes w r
    whole true k = let same : right.Operand x ≡ r = cc in subst (IsNormalSide state nodes w) same tt
    whole false k = longer (extended nodes kind x) refl k

-- those of slices and of parts need nothing
needs_nothing : (state : IrType) (nodes : List Node) (total : ℕ) (n : Node) (part : LongSlice) (r : NodeReplacement) → SaysOfSlice state nodes n part r → IsNormalSide state nodes total r
needs_nothing state nodes total n part (right.Operand o) h = tt
needs_nothing state nodes total n part right.Zero h = tt
needs_nothing state nodes total n part (right.Extension kind a) h = absurd h
needs_nothing state nodes total n part (right.Slice y start) h = tt
needs_nothing state nodes total n part (right.LongerSlice y start width) h = tt
needs_nothing state nodes total n part (right.Operation o a b m) h = absurd h
needs_nothing state nodes total n part (right.Comparison o a b m) h = absurd h

operand_side : (state : IrType) (nodes : List Node) (total : ℕ) (q : Option Operand) (r : NodeReplacement) → sides.operand_if q ≡ Some r → IsNormalSide state nodes total r
operand_side state nodes total None r h = none_some _ r h
operand_side state nodes total (Some o) r h = let same : right.Operand o ≡ r = cc in subst (IsNormalSide state nodes total) same tt

pub normal_side : (state : IrType) (nodes : List Node) (n : Node) (r : NodeReplacement) → AreBuilt state nodes → FitsAt state nodes (length nodes) n → replacement_of state nodes n ≡ Some r → AreNormal state nodes → IsNormalSide state nodes (bits_width n.ty) r
normal_side state nodes n r built fits_at h normal = by n.attributes refl h
  where
    here : length nodes ≤ length nodes
    here = omega arith

    alone : (os : List Operand) → sides.concat_of os ≡ Some r → IsNormalSide state nodes (bits_width n.ty) r
    alone [] k = none_some _ r k
    alone (x ∷ []) k = let same : right.Operand x ≡ r = cc in subst (IsNormalSide state nodes (bits_width n.ty)) same tt
    alone (x ∷ y ∷ os) k = none_some _ r k

    plain : (o : Op) → sides.plain_replacement state nodes o (bits_width n.ty) n.operands ≡ Some r → IsNormalSide state nodes (bits_width n.ty) r
    plain (op.Binary o) k = operation_side state nodes o (bits_width n.ty) n.operands r (bits_width n.ty) built normal k
    plain (op.Compare o) k = comparison_side state nodes o n.operands r (bits_width n.ty) built normal k
    plain op.Concat k = alone n.operands k
    plain o k = absurd (cc)

    slice : (start w : ℕ) (os : List Operand) → n.operands ≡ os → n.attributes ≡ attributes.StartAndWidth start w → sides.slice_of_one state nodes start w os ≡ Some r → IsNormalSide state nodes (bits_width n.ty) r
    slice start w [] f a k = none_some _ r k
    slice start w (x ∷ []) f a k =
        let says = says_slice state nodes (length nodes) n n.op x start w here fits_at (record { op = refl; operands = f; attributes = a }) in
        needs_nothing state nodes (bits_width n.ty) n (slice_at x start w w) r ((slice_says state nodes (slice_at x start w w) r built k).1 n (slice_of_node state nodes n x start w says))
    slice start w (x ∷ y ∷ os) f a k = none_some _ r k

    extension : (kind : Extend) (w : ℕ) (os : List Operand) → n.op ≡ op.Extend kind → n.operands ≡ os → n.attributes ≡ attributes.NewBitCount w → sides.extension_of state nodes kind w os ≡ Some r → IsNormalSide state nodes (bits_width n.ty) r
    extension kind w [] e f a k = none_some _ r k
    extension kind w (x ∷ []) e f a k =
        let says = says_extension state nodes (length nodes) n kind x w here fits_at (record { op = e; operands = f; attributes = a }) in
        let own = number_width state nodes x says.own says.is in
        let longer = says.longer in
        subst (λ v. IsNormalSide state nodes v r) (sym (ap bits_width says.wide.ty ∙ width_is w)) (extensions_side state nodes kind x w r built normal (omega (arith, own, longer)) k)
    extension kind w (x ∷ y ∷ os) e f a k = none_some _ r k

    extension_op : (o : Op) (w : ℕ) → n.op ≡ o → n.attributes ≡ attributes.NewBitCount w → sides.extension_by_op state nodes w n.operands o ≡ Some r → IsNormalSide state nodes (bits_width n.ty) r
    extension_op (op.Extend kind) w e a k = extension kind w n.operands e refl a k
    extension_op o w e a k = absurd (cc)

    part : (index : ℕ) (os : List Operand) → sides.element_replacement nodes index os ≡ Some r → IsNormalSide state nodes (bits_width n.ty) r
    part index [] k = none_some _ r k
    part index (x ∷ []) k = operand_side state nodes (bits_width n.ty) (element_of nodes index x) r k
    part index (x ∷ y ∷ os) k = none_some _ r k

    by : (t : Attributes) → n.attributes ≡ t → sides.replacement_by state nodes n.op (bits_width n.ty) n.operands t ≡ Some r → IsNormalSide state nodes (bits_width n.ty) r
    by attributes.None a k = plain n.op k
    by (attributes.StartAndWidth start width) a k = slice start width n.operands refl a k
    by (attributes.Width width) a k = none_some _ r k
    by (attributes.NewBitCount width) a k = extension_op n.op width refl a k
    by (attributes.Cases cases default) a k = none_some _ r k
    by (attributes.Index i) a k = part i n.operands k
    by (attributes.Indices i) a k = none_some _ r k
    by (attributes.Value c) a k = none_some _ r k
    by (attributes.Channel predicate c) a k = none_some _ r k

-- ---- operands that are made longer

unlike : (m n : ℕ) → m ≢ n → nat_eq m n ≡ false
unlike m n h = grind (arith, nat_tests, h)

no_sign : extend.Zero ≡ extend.Sign → ⊥
no_sign e = absurd (cc)

pub longer_normal : {E : Type 0} (r : Result Operand E) (state : IrType) (old new : List Node) (a : Operand) (w : ℕ) (n : Node) → width_in state old a ≢ w → n ≡ extension_node extend.Zero a w → IfOk r (λ o. new ≡ old ++ numbered (length old) n ∷ []) → IfOk r (λ o. o ≡ operand.Node (length old)) → IfOk r (λ o. AreBuilt state old → AreNormal state old → HasLonger state old a w → IsBare state old a → IsLonger state new a o)
longer_normal (Ok o) state old new a w n other m e f = λ built normal h bare.
    let x = extension_node extend.Zero a w in
    let own : IsNormalNode state old x = record {
      folded = ap (λ b. b && true) bare.written;
      chosen = refl;
      narrowed = extension_side state old extend.Zero a w (extend_row state old extend.Zero w a built (unlike (width_in state old a) w other) bare.bare (λ k. absurd (no_sign k)));
    } in
    let first : IsLonger state (old ++ numbered (length old) x ∷ []) a (operand.Node (length old)) = record {
      normal = normal_more state old x built.before normal (and_true (is_there (length old) a) true h.is.there refl) (λ plain. own);
      shown = λ z k. let same : Some a ≡ Some z = sym (ap (extension_at extend.Zero) (last_there old (numbered (length old) x))) ∙ k in cc;
    } in
    subst (λ ns. IsLonger state ns a o) (sym e)
    (subst (IsLonger state (old ++ numbered (length old) n ∷ []) a) (sym f)
    (subst (λ y. IsLonger state (old ++ numbered (length old) y ∷ []) a (operand.Node (length old))) (sym m) first))
longer_normal (Err x) state old new a w n other m e f = tt

-- ---- lists that grow

extended_later : (old new : List Node) (kind : Extend) (o : Operand) → Extends old new → IsTrue (is_there (length old) o) → extended new kind o ≡ extended old kind o
extended_later old new kind operand.State e h = refl
extended_later old new kind (operand.Node i) e h =
    let there = node_there old i h in
    ap (extension_at kind) (ap (λ ns. slice_get ns i) e.are ∙ before_more old e.more i there.0 there.1 ∙ sym there.1)

literal_later : (old new : List Node) (o : Operand) → Extends old new → IsTrue (is_there (length old) o) → names_literal new o ≡ names_literal old o
literal_later old new operand.State e h = refl
literal_later old new (operand.Node i) e h =
    let there = node_there old i h in
    ap is_literal_node (ap (λ ns. slice_get ns i) e.are ∙ before_more old e.more i there.0 there.1 ∙ sym there.1)

bare_later : (state : IrType) (old new : List Node) (o : Operand) → Extends old new → IsTrue (is_there (length old) o) → IsBare state old o → IsBare state new o
bare_later state old new o e h k = record { written = literal_later old new o e h ∙ k.written; bare = extended_later old new extend.Zero o e h ∙ k.bare }

width_later : (state : IrType) (old new : List Node) (o : Operand) (w : ℕ) → Extends old new → IsNumber state old o w → width_in state new o ≡ width_in state old o
width_later state old new o w e h = number_width state new o w (number_later state old new o w e h) ∙ sym (number_width state old o w h)

-- ---- operations and comparisons

pub operation_normal : (state : IrType) (old mid new : List Node) (m : Node) (o : Binary) (a b x y : Operand) (least : ℕ) → AreBuilt state mid → AreBuilt state new → Extends old mid → Extends mid new → Extends old new → (ha : HasLonger state old a least) → (hb : HasLonger state old b least) → IsNumber state mid x least → IsLonger state mid a x → IsLonger state new b y → m ≡ operation_node o x y least → AreBare state old a b (row_test o least) → AreNormal state new × IsNarrowInside state new m
operation_normal state old mid new m o a b x y least mid_built built e f g ha hb xn first second is bare = (
  second.normal,
  subst (IsNarrowInside state new) (sym is) (record {
    narrowed =
        ap (λ k. left.binary_pattern o k (origin state new x ∷ origin state new y ∷ [])) (width_is least)
        ∙ row_of state new o least x y built
        (λ p q i j.
        ap₂ (row_test o least)
        (ap (width_in state new) (first.shown p (sym (extended_later mid new extend.Zero x f xn.there) ∙ i)) ∙ width_later state old new a ha.own g ha.is)
        (ap (width_in state new) (second.shown q j) ∙ width_later state old new b hb.own g hb.is)
        ∙ bare.least);
    no_select = refl;
    no_extension = refl;
  }),
)

pub comparison_normal : (state : IrType) (old mid new : List Node) (n m : Node) (o : Compare) (a b x y : Operand) (least : ℕ) → AreBuilt state new → Extends mid new → Extends old new → (ha : HasLonger state old a least) → (hb : HasLonger state old b least) → IsNumber state mid x least → IsLonger state mid a x → IsLonger state new b y → m ≡ comparison_node o x y → AreBare state old a b (λ p q. nat_lt (max p q) least) → AreNormal state new × IsNarrow state new n m
comparison_normal state old mid new n m o a b x y least built f g ha hb xn first second is bare = (
  second.normal,
  subst (IsNarrow state new n) (sym is) (record {
    narrowed =
        compare_row state new o x y built
        (λ p q i j u.
        (λ t. nat_lt (max (left_width p i t) (right_width q j t)) (own t)) ∙ bare.least);
    select = λ k. absurd (cc);
  }),
)
  where
    own : width_in state new x ≡ least
    own = number_width state new x least (number_later state mid new x least f xn)

    left_width : (p : Operand) → extended new extend.Zero x ≡ Some p → width_in state new p ≡ width_in state old a
    left_width p i = ap (width_in state new) (first.shown p (sym (extended_later mid new extend.Zero x f xn.there) ∙ i)) ∙ width_later state old new a ha.own g ha.is

    right_width : (q : Operand) → extended new extend.Zero y ≡ Some q → width_in state new q ≡ width_in state old b
    right_width q j = ap (width_in state new) (second.shown q j) ∙ width_later state old new b hb.own g hb.is

-- ---- slices

slice_pattern : (state : IrType) (nodes : List Node) (n : Node) (part : LongSlice) → AreBuilt state nodes → IsSliceOf state nodes n part → slice_of state nodes part.start part.width part.operand ≡ None → has_pattern state nodes (slice_node part.operand part.start part.width) ≡ false
slice_pattern state nodes n part built h none = ap (λ k. left.slice_pattern part.start k (origin state nodes part.operand ∷ [])) (width_is part.width) ∙ no_slice state nodes part.operand part.start part.width h.some built none

pub slice_narrow : (state : IrType) (nodes : List Node) (n m : Node) (part : LongSlice) → m ≡ slice_node part.operand part.start part.width → AreBuilt state nodes → IsSliceOf state nodes n part → slice_of state nodes part.start part.width part.operand ≡ None → IsNarrow state nodes n m
slice_narrow state nodes n m part is built h none = subst (IsNarrow state nodes n) (sym is) (record { narrowed = slice_pattern state nodes n part built h none; select = λ k. absurd (cc) })

pub slice_narrow_inside : (state : IrType) (nodes : List Node) (n m : Node) (part : LongSlice) → m ≡ slice_node part.operand part.start part.width → AreBuilt state nodes → IsSliceOf state nodes n part → slice_of state nodes part.start part.width part.operand ≡ None → IsNarrowInside state nodes m
slice_narrow_inside state nodes n m part is built h none = subst (IsNarrowInside state nodes) (sym is) (record { narrowed = slice_pattern state nodes n part built h none; no_select = refl; no_extension = refl })

whole_narrow : (state : IrType) (nodes : List Node) (n : Node) (a : Operand) (total : ℕ) → has_pattern state nodes (extension_node extend.Zero a total) ≡ false → HasNoPattern state nodes n (rewritten_node.Node (extension_node extend.Zero a total))
whole_narrow state nodes n a total h = record { narrowed = h; select = λ k. absurd (cc) }

pub whole_extended_narrow : {E : Type 0} (r : Result RewrittenNode E) (nodes : List Node) (o : Operand) (width total : ℕ) → width ≢ total → extended nodes extend.Zero o ≡ None → IfOk r (λ x. x ≡ rewritten_node.Node (extension_node extend.Zero o total)) → IfOk r (λ x. (state : IrType) (n : Node) → AreBuilt state nodes → IsWhole state nodes n o width total → AreNormal state nodes → HasNoPattern state nodes n x)
whole_extended_narrow (Ok x) nodes o width total other none e = λ state n built h normal.
    let own = number_width state nodes o width h.is in
    subst (HasNoPattern state nodes n) (sym e)
    (whole_narrow state nodes n o total (extension_side state nodes extend.Zero o total (extend_row state nodes extend.Zero total o built (ap (λ k. nat_eq k total) own ∙ unlike width total other) none (λ k. absurd (no_sign k)))))
whole_extended_narrow (Err x) nodes o width total other none e = tt

pub whole_merged_narrow : {E : Type 0} (r : Result RewrittenNode E) (nodes : List Node) (o a : Operand) (width total : ℕ) → Some a ≡ extended nodes extend.Zero o → IfOk r (λ x. x ≡ rewritten_node.Node (extension_node extend.Zero a total)) → IfOk r (λ x. (state : IrType) (n : Node) → AreBuilt state nodes → IsWhole state nodes n o width total → AreNormal state nodes → HasNoPattern state nodes n x)
whole_merged_narrow (Ok x) nodes o a width total f e = λ state n built h normal.
    let own = number_width state nodes o width h.is in
    let longer = h.longer in
    let known = normal_extension state nodes extend.Zero o a normal (sym f) in
    subst (HasNoPattern state nodes n) (sym e)
    (whole_narrow state nodes n a total (wider_extension state nodes extend.Zero extend.Zero o a total total (shows_extension state nodes extend.Zero o a built (sym f)) known (omega (arith, own, longer)) known.side))
whole_merged_narrow (Err x) nodes o a width total f e = tt

-- a slice with none inside is an operand, zeros, or itself
pub last_is : (state : IrType) (nodes : List Node) (part : LongSlice) (r : NodeReplacement) → inner_part r part ≡ None → (n : Node) → SaysOfSlice state nodes n part r → (P : Type 0) → ((o : Operand) → r ≡ right.Operand o → P) → (r ≡ right.Zero → P) → P
last_is state nodes part (right.Operand o) e n h P f g = f o refl
last_is state nodes part right.Zero e n h P f g = g refl
last_is state nodes part (right.Extension kind a) e n h P f g = absurd h
last_is state nodes part (right.Slice y start) e n h P f g = absurd (cc)
last_is state nodes part (right.LongerSlice y start width) e n h P f g = absurd (cc)
last_is state nodes part (right.Operation o a b m) e n h P f g = absurd h
last_is state nodes part (right.Comparison o a b m) e n h P f g = absurd h

-- ---- in what calls answer

pub operation_keeps : (state : IrType) (old mid new : List Node) (n m : Node) (o : Binary) (a b x y : Operand) (least total : ℕ) → AreBuilt state old → (AreBuilt state old → HasLonger state old a least → GivesNumber state old mid x least (λ s values. number s values a)) → (AreBuilt state old → AreNormal state old → HasLonger state old a least → IsBare state old a → IsLonger state mid a x) → (AreBuilt state mid → HasLonger state mid b least → GivesNumber state mid new y least (λ s values. number s values b)) → (AreBuilt state mid → AreNormal state mid → HasLonger state mid b least → IsBare state mid b → IsLonger state new b y) → m ≡ operation_node o x y least → IsOperation state old n o a b least total → AreBare state old a b (row_test o least) → AreNormal state old → AreNormal state new × IsNarrowInside state new m
operation_keeps state old mid new n m o a b x y least total built first first_normal second second_normal is h bare normal =
    let f = first built h.first in
    let one = first_normal built normal h.first bare.first in
    let later = longer_later state old mid b least f.extends h.second in
    let g = second f.built later in
    let two = second_normal f.built one.normal later (bare_later state old mid b f.extends h.second.is.there bare.second) in
    operation_normal state old mid new m o a b x y least f.built g.built f.extends g.extends (extends_twice old mid new f.extends g.extends) h.first h.second f.is one two is bare

pub comparison_keeps : (state : IrType) (old mid new : List Node) (n m : Node) (o : Compare) (a b x y : Operand) (least : ℕ) → AreBuilt state old → (AreBuilt state old → HasLonger state old a least → GivesNumber state old mid x least (λ s values. number s values a)) → (AreBuilt state old → AreNormal state old → HasLonger state old a least → IsBare state old a → IsLonger state mid a x) → (AreBuilt state mid → HasLonger state mid b least → GivesNumber state mid new y least (λ s values. number s values b)) → (AreBuilt state mid → AreNormal state mid → HasLonger state mid b least → IsBare state mid b → IsLonger state new b y) → m ≡ comparison_node o x y → IsComparison state old n o a b least → AreBare state old a b (λ p q. nat_lt (max p q) least) → AreNormal state old → AreNormal state new × IsNarrow state new n m
comparison_keeps state old mid new n m o a b x y least built first first_normal second second_normal is h bare normal =
    let f = first built h.first in
    let one = first_normal built normal h.first bare.first in
    let later = longer_later state old mid b least f.extends h.second in
    let g = second f.built later in
    let two = second_normal f.built one.normal later (bare_later state old mid b f.extends h.second.is.there bare.second) in
    comparison_normal state old mid new n m o a b x y least g.built g.extends (extends_twice old mid new f.extends g.extends) h.first h.second f.is one two is bare

-- a node that stays
pub stays_normal : (state : IrType) (nodes : List Node) (n : Node) → AreBuilt state nodes → FitsAt state nodes (length nodes) n → replacement_of state nodes n ≡ None → AreNormal state nodes → AreNormal state nodes × IsNarrow state nodes n n
stays_normal state nodes n built fits_at none normal = (normal, record { narrowed = no_left_side state nodes n built fits_at none; select = λ k. refl })

pub right_keeps : {E : Type 0} (r : Result RewrittenNode E) (state : IrType) (old new seen : List Node) (n : Node) (side : NodeReplacement) (total : ℕ) → seen ≡ old → total ≡ bits_width n.ty → AreBuilt state old → FitsAt state old (length old) n → Some side ≡ replacement_of state seen n → IfOk r (λ x. (n : Node) → IsReplacement state old n total side → (AreNormal state old → IsNormalSide state old total side) → KeepsNormal state old new n x) → IfOk r (λ x. KeepsNormal state old new n x)
right_keeps (Ok x) state old new seen n side total e t built fits_at h f =
    let found : replacement_of state old n ≡ Some side = ap (λ ns. replacement_of state ns n) (sym e) ∙ sym h in
    f n (subst (λ k. IsReplacement state old n k side) (sym t) (right_says state old n side built fits_at found))
    (λ normal. subst (λ k. IsNormalSide state old k side) (sym t) (normal_side state old n side built fits_at found normal))
right_keeps (Err x) state old new seen n side total e t built fits_at h f = tt

pub some_part_normal : {E : Type 0} (r : Result RewrittenNode E) (state : IrType) (nodes : List Node) (side : NodeReplacement) (part : LongSlice) → AreBuilt state nodes → Some side ≡ slice_of state nodes part.start part.width part.operand → IfOk r (λ x. (state : IrType) (n : Node) → AreBuilt state nodes → IsSliceOf state nodes n part → SaysOfSlice state nodes n part side → inner_part side part ≡ None → AreNormal state nodes → HasNoPattern state nodes n x) → IfOk r (λ x. (n : Node) → IsInnermost state nodes part → IsSliceOf state nodes n part → AreNormal state nodes → HasNoPattern state nodes n x)
some_part_normal (Ok x) state nodes side part built e f = λ n last h normal. f state n built h ((slice_says state nodes part side built (sym e)).1 n h) (last side (sym e)) normal
some_part_normal (Err x) state nodes side part built e f = tt

pub pair_keeps : {E : Type 0} (r : Result RewrittenNode E) (state : IrType) (old new : List Node) (P : Node → Type 0) (Q : Type 0) → IfOk r (λ x. (n : Node) → P n → Q → KeepsNormal state old new n x) → IfOk r (λ x. (n : Node) → P n → (AreNormal state old → Q) → KeepsNormal state old new n x)
pair_keeps (Ok x) state old new P Q f = λ n p q normal. f n p (q normal) normal
pair_keeps (Err x) state old new P Q f = tt
