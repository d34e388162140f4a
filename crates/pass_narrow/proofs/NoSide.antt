-- Where no replacement is found, a node has no pattern.
use Rattle.std.proofs.Common.{◌≡◌, ℕ, ◌+◌, ◌-◌, ◌^◌, ◌≤◌, max, List, [], ◌∷◌, map, sum, length, Bool, true, false, ◌&&◌, IsTrue, Option, Some, None, refl, sym, ap, ap₂, subst, ◌∙◌, arith, inl, inr}
use Rattle.std.specs.Prelude.{◌⊎◌, slice_get, option_map, nat_eq, nat_le, nat_lt, ◌||◌, if◌then◌else◌}
use Rattle.std.proofs.lemmas.Bool.Decides.{nat_tests}
use Rattle.std.proofs.lemmas.List.Sums.{sum_by-cons}
use Rattle.std.proofs.lemmas.Option.{slice_get_within, slice_get-map}
use Rattle.delay_model.specs.declared.op.Op.{Op}
use Rattle.delay_model.specs.declared.op.Op.TheVariants as op
use Rattle.delay_model.specs.declared.op.Binary.{Binary}
use Rattle.delay_model.specs.declared.op.Binary.TheVariants as binary
use Rattle.delay_model.specs.declared.op.Compare.{Compare}
use Rattle.delay_model.specs.declared.op.Compare.TheVariants as compare
use Rattle.delay_model.specs.declared.op.Extend.{Extend}
use Rattle.delay_model.specs.declared.op.Extend.TheVariants as extend
use Rattle.delay_model.specs.declared.signature.Count.TheVariants.{Exactly}
use Rattle.delay_model.specs.declared.signature.AttributeKind.{AttributeKind}
use Rattle.delay_model.specs.declared.signature.AttributeKind.TheVariants as kinds
use Rattle.delay_model.specs.Signatures.{is_met, count_of, attribute_kind_of}
use Rattle.ir_tree.specs.declared.ir_type.IrType.{IrType, Token, Tuple}
use Rattle.ir_tree.specs.declared.ir_type.IrType.TheViews as ir_views
use Rattle.ir_tree.specs.declared.node.Operand.{Operand}
use Rattle.ir_tree.specs.declared.node.Operand.TheVariants as operand
use Rattle.ir_tree.specs.declared.node.Node.{Node}
use Rattle.ir_tree.specs.declared.node.Attributes.{Attributes}
use Rattle.ir_tree.specs.declared.node.Attributes.TheVariants as attributes
use Rattle.ir_tree.specs.NodeTypes.Types.{bits_width, width_there, is_tuple_where, passes, parts_there, each_same, same_type}
use Rattle.ir_tree.specs.Rules.Fitting.{Types, type_in, type_or, types_behind, part_is, types_fit, plain_fits, slice_fits, dynamic_fits, extend_fits, sel_fits, tuple_index_fits, index_fits, predicate_fits, first_is_token, site_fits, is_bit_slice, is_dynamic_bit_slice, is_extend, is_sel, is_tuple_index, is_literal}
use Rattle.ir_tree.proofs.Lemmas.Rules.Typed.Checked.{both_true}
use Rattle.ir_tree.proofs.Lemmas.Rules.Typed.Tests.{types_same, tuple_is}
use Rattle.ir_rebuild.specs.Built.{FitsAt, AreBuilt, is_plain_op}
use Rattle.ir_rebuild.specs.Normal.Origins.{Origin, made_by, origin}
use Rattle.ir_rebuild.specs.Normal.Patterns as left
use Rattle.ir_rebuild.specs.Normal.Patterns.{is_extension, width_if, extended_in, extended_from, is_made, is_slice_op, is_tuple_op, lie_in_one, has_pattern}
use Rattle.pass_narrow.specs.declared.operands.Part.{Part}
use Rattle.pass_narrow.specs.Views.{width_at, width_in, same_kind, extension_in, extension_at, extended, slice_in, slice_at, sliced, part_inside, part_from, part_of, parts_in, parts_at, element_of, element_in, element_at as tuple_at}
use Rattle.pass_narrow.specs.declared.node_pattern.NodeReplacement.TheVariants as right
use Rattle.pass_narrow.specs.Replacements as sides
use Rattle.pass_narrow.specs.Replacements.{narrower, least_width, is_unsigned, replacement_of}
use Rattle.pass_narrow.specs.Inner.Bare.{row_test}
use Rattle.pass_narrow.proofs.Numbers.{width_is, number_width}
use Rattle.pass_narrow.proofs.Shown.{HasParts, says_extension, says_slice, fitting}
use Rattle.pass_narrow.proofs.Views.{none_some, AreNumbers, says_concat, extension_parts}

some_none : {A : Type 0} (B : Type 0) (x : A) → Some x ≡ None → B
some_none B x e = absurd (cc)

true_false : (B : Type 0) (b : Bool) → b ≡ true → b ≡ false → B
true_false B b h k = absurd (cc)

-- ---- the attributes of a node are those of its operation

abbrev kind_in : Attributes → AttributeKind
kind_in attributes.None = kinds.None
kind_in (attributes.StartAndWidth start width) = kinds.StartAndWidth
kind_in (attributes.Width width) = kinds.Width
kind_in (attributes.NewBitCount width) = kinds.NewBitCount
kind_in (attributes.Cases cases default) = kinds.Cases
kind_in (attributes.Index i) = kinds.Index
kind_in (attributes.Indices i) = kinds.Indices
kind_in (attributes.Value c) = kinds.Value
kind_in (attributes.Channel predicate c) = kinds.Channel

plain_kind : (o : Op) (scope : Types) (os : List Operand) (t : IrType) → IsTrue (plain_fits o scope os t) → attribute_kind_of o ≡ kinds.None
plain_kind (op.Binary o) scope os t h = refl
plain_kind (op.Unary o) scope os t h = refl
plain_kind (op.Compare o) scope os t h = refl
plain_kind (op.Shift o) scope os t h = refl
plain_kind (op.Reduce o) scope os t h = refl
plain_kind op.Concat scope os t h = refl
plain_kind op.Tuple scope os t h = refl
plain_kind op.Array scope os t h = refl
plain_kind op.AfterAll scope os t h = refl
plain_kind o scope os t h = absurd (cc)

slice_kind : (o : Op) → IsTrue (is_bit_slice o) → attribute_kind_of o ≡ kinds.StartAndWidth
slice_kind op.BitSlice h = refl
slice_kind o h = absurd (cc)

dynamic_kind : (o : Op) → IsTrue (is_dynamic_bit_slice o) → attribute_kind_of o ≡ kinds.Width
dynamic_kind op.DynamicBitSlice h = refl
dynamic_kind o h = absurd (cc)

extend_kind : (o : Op) → IsTrue (is_extend o) → attribute_kind_of o ≡ kinds.NewBitCount
extend_kind (op.Extend k) h = refl
extend_kind o h = absurd (cc)

sel_kind : (o : Op) → IsTrue (is_sel o) → attribute_kind_of o ≡ kinds.Cases
sel_kind op.Sel h = refl
sel_kind o h = absurd (cc)

tuple_kind : (o : Op) → IsTrue (is_tuple_index o) → attribute_kind_of o ≡ kinds.Index
tuple_kind op.TupleIndex h = refl
tuple_kind o h = absurd (cc)

index_kind : (o : Op) (i : Operand) (scope : Types) (os : List Operand) (t : IrType) → IsTrue (index_fits o i scope os t) → attribute_kind_of o ≡ kinds.Indices
index_kind op.ArrayIndex i scope os t h = refl
index_kind op.ArrayUpdate i scope os t h = refl
index_kind o i scope os t h = absurd (cc)

literal_kind : (o : Op) → IsTrue (is_literal o) → attribute_kind_of o ≡ kinds.Value
literal_kind op.Literal h = refl
literal_kind o h = absurd (cc)

site_kind : (o : Op) (scope : Types) (os : List Operand) (t : IrType) → IsTrue (site_fits o None scope os t) → attribute_kind_of o ≡ kinds.Channel
site_kind op.Receive scope os t h = refl
site_kind op.Send scope os t h = refl
site_kind o scope os t h = absurd (cc)

fits_kind : (scope : Types) (n : Node) (a : Attributes) → IsTrue (types_fit [] scope n a) → attribute_kind_of n.op ≡ kind_in a
fits_kind scope n attributes.None h = plain_kind n.op scope n.operands n.ty h
fits_kind scope n (attributes.StartAndWidth start width) h = slice_kind n.op (both_true (is_bit_slice n.op) (slice_fits start width scope n.operands n.ty) h).0
fits_kind scope n (attributes.Width width) h = dynamic_kind n.op (both_true (is_dynamic_bit_slice n.op) (dynamic_fits width scope n.operands n.ty) h).0
fits_kind scope n (attributes.NewBitCount width) h = extend_kind n.op (both_true (is_extend n.op) (extend_fits width scope n.operands n.ty) h).0
fits_kind scope n (attributes.Cases cases default) h = sel_kind n.op (both_true (is_sel n.op) (sel_fits cases default scope n.operands n.ty) h).0
fits_kind scope n (attributes.Index i) h = tuple_kind n.op (both_true (is_tuple_index n.op) (tuple_index_fits i scope n.operands n.ty) h).0
fits_kind scope n (attributes.Indices i) h = index_kind n.op i scope n.operands n.ty h
fits_kind scope n (attributes.Value c) h = literal_kind n.op h
fits_kind scope n (attributes.Channel predicate c) h =
    let a = both_true (predicate_fits scope predicate) (first_is_token scope n.operands && site_fits n.op None scope n.operands n.ty) h in
    let b = both_true (first_is_token scope n.operands) (site_fits n.op None scope n.operands n.ty) a.1 in
    site_kind n.op scope n.operands n.ty b.1

none_is : (a : Attributes) → kinds.None ≡ kind_in a → a ≡ attributes.None
none_is attributes.None h = refl
none_is (attributes.StartAndWidth start width) h = absurd (cc)
none_is (attributes.Width width) h = absurd (cc)
none_is (attributes.NewBitCount width) h = absurd (cc)
none_is (attributes.Cases cases default) h = absurd (cc)
none_is (attributes.Index i) h = absurd (cc)
none_is (attributes.Indices i) h = absurd (cc)
none_is (attributes.Value c) h = absurd (cc)
none_is (attributes.Channel predicate c) h = absurd (cc)

start_is : (a : Attributes) → kinds.StartAndWidth ≡ kind_in a → (start : ℕ) × (width : ℕ) × (a ≡ attributes.StartAndWidth start width)
start_is attributes.None h = absurd (cc)
start_is (attributes.StartAndWidth start width) h = (start, width, refl)
start_is (attributes.Width width) h = absurd (cc)
start_is (attributes.NewBitCount width) h = absurd (cc)
start_is (attributes.Cases cases default) h = absurd (cc)
start_is (attributes.Index i) h = absurd (cc)
start_is (attributes.Indices i) h = absurd (cc)
start_is (attributes.Value c) h = absurd (cc)
start_is (attributes.Channel predicate c) h = absurd (cc)

count_is : (a : Attributes) → kinds.NewBitCount ≡ kind_in a → (w : ℕ) × (a ≡ attributes.NewBitCount w)
count_is attributes.None h = absurd (cc)
count_is (attributes.StartAndWidth start width) h = absurd (cc)
count_is (attributes.Width width) h = absurd (cc)
count_is (attributes.NewBitCount width) h = (width, refl)
count_is (attributes.Cases cases default) h = absurd (cc)
count_is (attributes.Index i) h = absurd (cc)
count_is (attributes.Indices i) h = absurd (cc)
count_is (attributes.Value c) h = absurd (cc)
count_is (attributes.Channel predicate c) h = absurd (cc)

index_is : (a : Attributes) → kinds.Index ≡ kind_in a → (i : ℕ) × (a ≡ attributes.Index i)
index_is attributes.None h = absurd (cc)
index_is (attributes.StartAndWidth start width) h = absurd (cc)
index_is (attributes.Width width) h = absurd (cc)
index_is (attributes.NewBitCount width) h = absurd (cc)
index_is (attributes.Cases cases default) h = absurd (cc)
index_is (attributes.Index i) h = (i, refl)
index_is (attributes.Indices i) h = absurd (cc)
index_is (attributes.Value c) h = absurd (cc)
index_is (attributes.Channel predicate c) h = absurd (cc)

one_operand : (os : List Operand) → IsTrue (is_met (Exactly 1) (length os)) → (a : Operand) × (os ≡ a ∷ [])
one_operand [] h = absurd (cc)
one_operand (a ∷ []) h = (a, refl)
one_operand (a ∷ b ∷ os) h = absurd (let one : length (a ∷ b ∷ os) ≡ 1 = grind (arith, nat_tests, h) in omega arith)

own_kind : (state : IrType) (nodes : List Node) (place : ℕ) (n : Node) (o : Op) → FitsAt state nodes place n → n.op ≡ o → attribute_kind_of o ≡ kind_in n.attributes
own_kind state nodes place n o h e =
    ap attribute_kind_of (sym e)
    ∙ fits_kind (types_behind state nodes) n n.attributes (both_true (is_met (count_of n.op) (length n.operands)) (types_fit [] (types_behind state nodes) n n.attributes) h.fits).1

own_count : (state : IrType) (nodes : List Node) (place : ℕ) (n : Node) (o : Op) → FitsAt state nodes place n → n.op ≡ o → IsTrue (is_met (count_of o) (length n.operands))
own_count state nodes place n o h e = subst (λ z. IsTrue (is_met (count_of z) (length n.operands))) e (both_true (is_met (count_of n.op) (length n.operands)) (types_fit [] (types_behind state nodes) n n.attributes) h.fits).0

-- ---- the nodes of operands

pub width_by_type : (state : IrType) (nodes : List Node) (o : Operand) → bits_width (type_in (types_behind state nodes) o) ≡ width_in state nodes o
width_by_type state nodes operand.State = refl
width_by_type state nodes (operand.Node i) = at (slice_get nodes i)
  where
    at : (m : Option Node) → bits_width (type_or (Token []) m) ≡ width_at m
    at None = ap width_there (ir_views.outs-Token [])
    at (Some n) = refl

-- how an operand was made
pub made_of : (state : IrType) (nodes : List Node) (i : ℕ) (n : Node) → slice_get nodes i ≡ Some n → (origin state nodes (operand.Node i)).made ≡ Some (record { op = n.op; types = map (type_in (types_behind state nodes)) n.operands })
made_of state nodes i n e = ap (made_by state nodes) e

same_itself : (kind : Extend) → left.same_extension kind kind ≡ true
same_itself extend.Zero = refl
same_itself extend.Sign = refl

pub op_is_extension : (kind : Extend) (o : Op) → is_extension kind o ≡ true → o ≡ op.Extend kind
op_is_extension extend.Zero (op.Extend extend.Zero) h = refl
op_is_extension extend.Zero (op.Extend extend.Sign) h = absurd (cc)
op_is_extension extend.Sign (op.Extend extend.Zero) h = absurd (cc)
op_is_extension extend.Sign (op.Extend extend.Sign) h = refl
op_is_extension kind o h = absurd (cc)

-- the operand names an extension
pub record NamesExtension (nodes : List Node) (kind : Extend) (x a : Operand) : Type 0 where
  pub place : ℕ
  pub is : x ≡ operand.Node place
  pub node : Node
  pub there : slice_get nodes place ≡ Some node
  pub width : ℕ
  pub parts : HasParts node (op.Extend kind) (a ∷ []) (attributes.NewBitCount width)

pub names_extension : (nodes : List Node) (kind : Extend) (x a : Operand) → extended nodes kind x ≡ Some a → NamesExtension nodes kind x a
names_extension nodes kind operand.State a h = none_some (NamesExtension nodes kind operand.State a) a h
names_extension nodes kind (operand.Node i) a h = by (slice_get nodes i) refl
  where
    by : (m : Option Node) → slice_get nodes i ≡ m → NamesExtension nodes kind (operand.Node i) a
    by None e = none_some (NamesExtension nodes kind (operand.Node i) a) a (ap (extension_at kind) (sym e) ∙ h)
    by (Some n) e =
        let p = extension_parts kind n n.attributes a refl (ap (extension_at kind) (sym e) ∙ h) in
        record { place = i; is = refl; node = n; there = e; width = p.0; parts = p.1 }

-- an extension by its parts
pub from_parts : (state : IrType) (nodes : List Node) (kind : Extend) (n : Node) (a : Operand) (w : ℕ) → HasParts n (op.Extend kind) (a ∷ []) (attributes.NewBitCount w) → extended_in kind (made_by state nodes (Some n)) ≡ Some (width_in state nodes a)
from_parts state nodes kind n a w p =
    (λ i. width_if (is_extension kind (p.op i)) (map (type_in (types_behind state nodes)) (p.operands i)))
    ∙ ap (λ b. width_if b (type_in (types_behind state nodes) a ∷ [])) (same_itself kind)
    ∙ ap Some (width_by_type state nodes a)

pub from_some : (state : IrType) (nodes : List Node) (kind : Extend) (x a : Operand) → AreBuilt state nodes → extended nodes kind x ≡ Some a → extended_from kind (origin state nodes x) ≡ Some (width_in state nodes a)
from_some state nodes kind x a built h =
    let f = names_extension nodes kind x a h in
    ap (λ (o : Operand). extended_from kind (origin state nodes o)) f.is ∙ ap (λ m. extended_in kind (made_by state nodes m)) f.there ∙ from_parts state nodes kind f.node a f.width f.parts

same_own_kind : (kind : Extend) → same_kind kind kind ≡ true
same_own_kind extend.Zero = refl
same_own_kind extend.Sign = refl

-- a placed extension shows what it extends
shown_extension : (kind : Extend) (n : Node) (a : Operand) (w : ℕ) → HasParts n (op.Extend kind) (a ∷ []) (attributes.NewBitCount w) → extension_in kind n.op n.operands n.attributes ≡ Some a
shown_extension kind n a w p =
    (λ i. extension_in kind (p.op i) (p.operands i) (p.attributes i)) ∙ ap (λ b. if b then (Some a) else None) (same_own_kind kind)

extension_shown : (state : IrType) (nodes : List Node) (place : ℕ) (kind : Extend) (n : Node) → FitsAt state nodes place n → n.op ≡ op.Extend kind → (a : Operand) × (extension_in kind n.op n.operands n.attributes ≡ Some a)
extension_shown state nodes place kind n h e =
    let w = count_is n.attributes (own_kind state nodes place n (op.Extend kind) h e) in
    let a = one_operand n.operands (own_count state nodes place n (op.Extend kind) h e) in
    (a.0, shown_extension kind n a.0 w.0 (record { op = e; operands = a.1; attributes = w.1 }))

pub from_none : (state : IrType) (nodes : List Node) (kind : Extend) (x : Operand) → AreBuilt state nodes → extended nodes kind x ≡ None → extended_from kind (origin state nodes x) ≡ None
from_none state nodes kind operand.State built h = refl
from_none state nodes kind (operand.Node i) built h = by (slice_get nodes i) refl
  where
    inside : (n : Node) → slice_get nodes i ≡ Some n → (b : Bool) → is_extension kind n.op ≡ b → width_if b (map (type_in (types_behind state nodes)) n.operands) ≡ None
    inside n e false t = refl
    inside n e true t =
        let o = op_is_extension kind n.op t in
        let shown = extension_shown state nodes i kind n (built.fits_at i n e (ap is_plain_op o)) o in
        some_none _ shown.0 (sym shown.1 ∙ (ap (extension_at kind) (sym e) ∙ h))

    by : (m : Option Node) → slice_get nodes i ≡ m → extended_in kind (made_by state nodes (slice_get nodes i)) ≡ None
    by None e = ap (λ m. extended_in kind (made_by state nodes m)) e
    by (Some n) e = ap (λ m. extended_in kind (made_by state nodes m)) e ∙ inside n e (is_extension kind n.op) refl

-- ---- operations and comparisons of extensions

pub narrower_none : (m w : ℕ) → narrower m w ≡ None → nat_lt m w ≡ false
narrower_none m w h = by (nat_lt m w) refl h
  where
    by : (b : Bool) → nat_lt m w ≡ b → (if b then Some m else None) ≡ None → nat_lt m w ≡ false
    by true e k = some_none _ m k
    by false e k = e

operation_none : (o : Binary) (a b : Operand) (l : Option ℕ) → sides.operation_if o a b l ≡ None → l ≡ None
operation_none o a b None h = refl
operation_none o a b (Some m) h = absurd (cc)

comparison_none : (o : Compare) (a b : Operand) (l : Option ℕ) → sides.comparison_if o a b l ≡ None → l ≡ None
comparison_none o a b None h = refl
comparison_none o a b (Some m) h = absurd (cc)

both_none : (test : ℕ → ℕ → Bool) (q : Option ℕ) → left.both test None q ≡ false
both_none test None = refl
both_none test (Some q) = refl

row_none : (o : Binary) (p q w : ℕ) → least_width o p q w ≡ None → row_test o w p q ≡ false
row_none binary.Add p q w h = narrower_none (max p q + 1) w h
row_none binary.Umul p q w h = narrower_none (p + q) w h
row_none binary.And p q w h = narrower_none (max p q) w h
row_none binary.Or p q w h = narrower_none (max p q) w h
row_none binary.Xor p q w h = narrower_none (max p q) w h
row_none binary.Sub p q w h = refl
row_none binary.Udiv p q w h = refl
row_none binary.Umod p q w h = refl

-- a row of the table for two operands
row_is : (o : Binary) (w : ℕ) (x y : Origin) (p q : Option ℕ) → extended_from extend.Zero x ≡ p → extended_from extend.Zero y ≡ q → left.both (row_test o w) p q ≡ false → left.binary_pattern o w (x ∷ y ∷ []) ≡ false
row_is binary.Add w x y p q e f h = ap₂ (left.both (row_test binary.Add w)) e f ∙ h
row_is binary.Umul w x y p q e f h = ap₂ (left.both (row_test binary.Umul w)) e f ∙ h
row_is binary.And w x y p q e f h = ap₂ (left.both (row_test binary.And w)) e f ∙ h
row_is binary.Or w x y p q e f h = ap₂ (left.both (row_test binary.Or w)) e f ∙ h
row_is binary.Xor w x y p q e f h = ap₂ (left.both (row_test binary.Xor w)) e f ∙ h
row_is binary.Sub w x y p q e f h = refl
row_is binary.Udiv w x y p q e f h = refl
row_is binary.Umod w x y p q e f h = refl

pub row_of : (state : IrType) (nodes : List Node) (o : Binary) (w : ℕ) (x y : Operand) → AreBuilt state nodes → ((a b : Operand) → extended nodes extend.Zero x ≡ Some a → extended nodes extend.Zero y ≡ Some b → row_test o w (width_in state nodes a) (width_in state nodes b) ≡ false) → left.binary_pattern o w (origin state nodes x ∷ origin state nodes y ∷ []) ≡ false
row_of state nodes o w x y built h = first (extended nodes extend.Zero x) refl
  where
    second : (a : Operand) → extended nodes extend.Zero x ≡ Some a → (q : Option Operand) → extended nodes extend.Zero y ≡ q → left.binary_pattern o w (origin state nodes x ∷ origin state nodes y ∷ []) ≡ false
    second a e None f = row_is o w (origin state nodes x) (origin state nodes y) (Some (width_in state nodes a)) None (from_some state nodes extend.Zero x a built e) (from_none state nodes extend.Zero y built f) refl
    second a e (Some b) f = row_is o w (origin state nodes x) (origin state nodes y) (Some (width_in state nodes a)) (Some (width_in state nodes b)) (from_some state nodes extend.Zero x a built e) (from_some state nodes extend.Zero y b built f) (h a b e f)

    first : (p : Option Operand) → extended nodes extend.Zero x ≡ p → left.binary_pattern o w (origin state nodes x ∷ origin state nodes y ∷ []) ≡ false
    first None e = row_is o w (origin state nodes x) (origin state nodes y) None (extended_from extend.Zero (origin state nodes y)) (from_none state nodes extend.Zero x built e) refl (both_none (row_test o w) (extended_from extend.Zero (origin state nodes y)))
    first (Some a) e = second a e (extended nodes extend.Zero y) refl

no_operation : (state : IrType) (nodes : List Node) (o : Binary) (w : ℕ) (os : List Operand) → AreBuilt state nodes → sides.operation_of state nodes o w os ≡ None → left.binary_pattern o w (map (origin state nodes) os) ≡ false
no_operation state nodes o w [] built h = short o
  where
    short : (o : Binary) → left.binary_pattern o w [] ≡ false
    short binary.Add = refl
    short binary.Sub = refl
    short binary.Umul = refl
    short binary.Udiv = refl
    short binary.Umod = refl
    short binary.And = refl
    short binary.Or = refl
    short binary.Xor = refl
no_operation state nodes o w (x ∷ []) built h = short o (origin state nodes x)
  where
    short : (o : Binary) (z : Origin) → left.binary_pattern o w (z ∷ []) ≡ false
    short binary.Add z = refl
    short binary.Sub z = refl
    short binary.Umul z = refl
    short binary.Udiv z = refl
    short binary.Umod z = refl
    short binary.And z = refl
    short binary.Or z = refl
    short binary.Xor z = refl
no_operation state nodes o w (x ∷ y ∷ []) built h =
    row_of state nodes o w x y built
    (λ a b e f.
    row_none o (width_in state nodes a) (width_in state nodes b) w
    (operation_none o a b (least_width o (width_in state nodes a) (width_in state nodes b) w)
    (sym (ap₂ (sides.operation_first state nodes o w) e f) ∙ h)))
no_operation state nodes o w (x ∷ y ∷ z ∷ os) built h = long o (origin state nodes x) (origin state nodes y) (origin state nodes z) (map (origin state nodes) os)
  where
    long : (o : Binary) (x y z : Origin) (os : List Origin) → left.binary_pattern o w (x ∷ y ∷ z ∷ os) ≡ false
    long binary.Add x y z os = refl
    long binary.Sub x y z os = refl
    long binary.Umul x y z os = refl
    long binary.Udiv x y z os = refl
    long binary.Umod x y z os = refl
    long binary.And x y z os = refl
    long binary.Or x y z os = refl
    long binary.Xor x y z os = refl

-- the same of comparisons
pub compare_row : (state : IrType) (nodes : List Node) (o : Compare) (x y : Operand) → AreBuilt state nodes → ((a b : Operand) → extended nodes extend.Zero x ≡ Some a → extended nodes extend.Zero y ≡ Some b → is_unsigned o ≡ true → nat_lt (max (width_in state nodes a) (width_in state nodes b)) (width_in state nodes x) ≡ false) → left.compare_pattern o (origin state nodes x ∷ origin state nodes y ∷ []) ≡ false
compare_row state nodes o x y built h = by o refl
  where
    second : is_unsigned o ≡ true → (a : Operand) → extended nodes extend.Zero x ≡ Some a → (q : Option Operand) → extended nodes extend.Zero y ≡ q → left.both (λ p q. nat_lt (max p q) (bits_width (type_in (types_behind state nodes) x))) (extended_from extend.Zero (origin state nodes x)) (extended_from extend.Zero (origin state nodes y)) ≡ false
    second u a e None f = ap₂ (left.both (λ p q. nat_lt (max p q) (bits_width (type_in (types_behind state nodes) x)))) (from_some state nodes extend.Zero x a built e) (from_none state nodes extend.Zero y built f)
    second u a e (Some b) f =
        ap₂ (left.both (λ p q. nat_lt (max p q) (bits_width (type_in (types_behind state nodes) x)))) (from_some state nodes extend.Zero x a built e) (from_some state nodes extend.Zero y b built f)
        ∙ ap (λ k. nat_lt (max (width_in state nodes a) (width_in state nodes b)) k) (width_by_type state nodes x)
        ∙ h a b e f u

    first : is_unsigned o ≡ true → (p : Option Operand) → extended nodes extend.Zero x ≡ p → left.both (λ p q. nat_lt (max p q) (bits_width (type_in (types_behind state nodes) x))) (extended_from extend.Zero (origin state nodes x)) (extended_from extend.Zero (origin state nodes y)) ≡ false
    first u None e =
        ap (λ p. left.both (λ p q. nat_lt (max p q) (bits_width (type_in (types_behind state nodes) x))) p (extended_from extend.Zero (origin state nodes y))) (from_none state nodes extend.Zero x built e)
        ∙ both_none (λ p q. nat_lt (max p q) (bits_width (type_in (types_behind state nodes) x))) (extended_from extend.Zero (origin state nodes y))
    first u (Some a) e = second u a e (extended nodes extend.Zero y) refl

    by : (z : Compare) → z ≡ o → left.compare_pattern z (origin state nodes x ∷ origin state nodes y ∷ []) ≡ false
    by compare.Slt e = refl
    by compare.Sle e = refl
    by compare.Sgt e = refl
    by compare.Sge e = refl
    by compare.Eq e = first (ap is_unsigned (sym e)) (extended nodes extend.Zero x) refl
    by compare.Ne e = first (ap is_unsigned (sym e)) (extended nodes extend.Zero x) refl
    by compare.Ult e = first (ap is_unsigned (sym e)) (extended nodes extend.Zero x) refl
    by compare.Ule e = first (ap is_unsigned (sym e)) (extended nodes extend.Zero x) refl
    by compare.Ugt e = first (ap is_unsigned (sym e)) (extended nodes extend.Zero x) refl
    by compare.Uge e = first (ap is_unsigned (sym e)) (extended nodes extend.Zero x) refl

no_comparison : (state : IrType) (nodes : List Node) (o : Compare) (os : List Operand) → AreBuilt state nodes → sides.comparison_of state nodes o os ≡ None → left.compare_pattern o (map (origin state nodes) os) ≡ false
no_comparison state nodes o [] built h = short o
  where
    short : (o : Compare) → left.compare_pattern o [] ≡ false
    short compare.Slt = refl
    short compare.Sle = refl
    short compare.Sgt = refl
    short compare.Sge = refl
    short o = refl
no_comparison state nodes o (x ∷ []) built h = short o (origin state nodes x)
  where
    short : (o : Compare) (z : Origin) → left.compare_pattern o (z ∷ []) ≡ false
    short compare.Slt z = refl
    short compare.Sle z = refl
    short compare.Sgt z = refl
    short compare.Sge z = refl
    short o z = refl
no_comparison state nodes o (x ∷ y ∷ []) built h =
    compare_row state nodes o x y built
    (λ a b e f u.
    let k : (if true then (sides.comparison_if o a b (narrower (max (width_in state nodes a) (width_in state nodes b)) (width_in state nodes x))) else None) ≡ None = ap (λ c. if c then (sides.comparison_if o a b (narrower (max (width_in state nodes a) (width_in state nodes b)) (width_in state nodes x))) else None) (sym u) ∙ sym (ap₂ (sides.comparison_first state nodes o (width_in state nodes x)) e f) ∙ h in
    narrower_none (max (width_in state nodes a) (width_in state nodes b)) (width_in state nodes x)
    (comparison_none o a b (narrower (max (width_in state nodes a) (width_in state nodes b)) (width_in state nodes x)) k))
no_comparison state nodes o (x ∷ y ∷ z ∷ os) built h = long o (origin state nodes x) (origin state nodes y) (origin state nodes z) (map (origin state nodes) os)
  where
    long : (o : Compare) (x y z : Origin) (os : List Origin) → left.compare_pattern o (x ∷ y ∷ z ∷ os) ≡ false
    long compare.Slt x y z os = refl
    long compare.Sle x y z os = refl
    long compare.Sgt x y z os = refl
    long compare.Sge x y z os = refl
    long o x y z os = refl

-- ---- extensions

pub or_false : (a b : Bool) → a ≡ false → b ≡ false → (a || b) ≡ false
or_false true b h k = absurd (cc)
or_false false b h k = k

pub other_width : (m n : ℕ) → nat_eq m n ≡ false → nat_eq n m ≡ false
other_width m n h = grind (arith, nat_tests, h)

-- the rows of extensions, for an operand that is no such extension and has another width
pub extend_row : (state : IrType) (nodes : List Node) (kind : Extend) (w : ℕ) (x : Operand) → AreBuilt state nodes → nat_eq (width_in state nodes x) w ≡ false → extended nodes kind x ≡ None → (kind ≡ extend.Sign → (a : Operand) → extended nodes extend.Zero x ≡ Some a → nat_lt (width_in state nodes a) (width_in state nodes x) ≡ false) → left.extend_pattern kind w (origin state nodes x ∷ []) ≡ false
extend_row state nodes extend.Zero w x built other none sign =
    or_false (nat_eq w (bits_width (type_in (types_behind state nodes) x))) (left.is_some (extended_from extend.Zero (origin state nodes x)))
    (ap (nat_eq w) (width_by_type state nodes x) ∙ other_width (width_in state nodes x) w other)
    (ap left.is_some (from_none state nodes extend.Zero x built none))
extend_row state nodes extend.Sign w x built other none sign =
    or_false (nat_eq w (bits_width (type_in (types_behind state nodes) x))) (left.is_some (extended_from extend.Sign (origin state nodes x)) || left.is_narrower (extended_from extend.Zero (origin state nodes x)) (bits_width (type_in (types_behind state nodes) x)))
    (ap (nat_eq w) (width_by_type state nodes x) ∙ other_width (width_in state nodes x) w other)
    (or_false (left.is_some (extended_from extend.Sign (origin state nodes x))) (left.is_narrower (extended_from extend.Zero (origin state nodes x)) (bits_width (type_in (types_behind state nodes) x)))
    (ap left.is_some (from_none state nodes extend.Sign x built none))
    (strict (extended nodes extend.Zero x) refl))
  where
    strict : (q : Option Operand) → extended nodes extend.Zero x ≡ q → left.is_narrower (extended_from extend.Zero (origin state nodes x)) (bits_width (type_in (types_behind state nodes) x)) ≡ false
    strict None e = ap (λ p. left.is_narrower p (bits_width (type_in (types_behind state nodes) x))) (from_none state nodes extend.Zero x built e)
    strict (Some a) e = ap₂ left.is_narrower (from_some state nodes extend.Zero x a built e) (width_by_type state nodes x) ∙ sign refl a e

extension_none : (state : IrType) (nodes : List Node) (kind : Extend) (x : Operand) (w : ℕ) → sides.extension_of state nodes kind w (x ∷ []) ≡ None → (nat_eq (width_in state nodes x) w ≡ false) × (sides.longer_of state nodes kind x ≡ None)
extension_none state nodes kind x w h = by (nat_eq (width_in state nodes x) w) refl h
  where
    by : (b : Bool) → nat_eq (width_in state nodes x) w ≡ b → (if b then (Some (right.Operand x)) else sides.longer_of state nodes kind x) ≡ None → (nat_eq (width_in state nodes x) w ≡ false) × (sides.longer_of state nodes kind x ≡ None)
    by true e k = some_none _ (right.Operand x) k
    by false e k = (e, k)

longer_none : (state : IrType) (nodes : List Node) (kind : Extend) (x : Operand) → sides.longer_of state nodes kind x ≡ None → (extended nodes kind x ≡ None) × (sides.other_extension state nodes x kind ≡ None)
longer_none state nodes kind x h = by (extended nodes kind x) refl h
  where
    by : (q : Option Operand) → extended nodes kind x ≡ q → sides.longer_by state nodes kind x q ≡ None → (extended nodes kind x ≡ None) × (sides.other_extension state nodes x kind ≡ None)
    by None e k = (e, k)
    by (Some a) e k = some_none _ (right.Extension kind a) k

sign_none : (state : IrType) (nodes : List Node) (x a : Operand) → sides.sign_of_longer state nodes x ≡ None → extended nodes extend.Zero x ≡ Some a → nat_lt (width_in state nodes a) (width_in state nodes x) ≡ false
sign_none state nodes x a h e = by (nat_lt (width_in state nodes a) (width_in state nodes x)) refl (sym (ap (sides.sign_by state nodes x) e) ∙ h)
  where
    by : (b : Bool) → nat_lt (width_in state nodes a) (width_in state nodes x) ≡ b → (if b then (Some (right.Extension extend.Zero a)) else None) ≡ None → nat_lt (width_in state nodes a) (width_in state nodes x) ≡ false
    by true f k = some_none _ (right.Extension extend.Zero a) k
    by false f k = f

no_extension : (state : IrType) (nodes : List Node) (kind : Extend) (x : Operand) (w : ℕ) → AreBuilt state nodes → sides.extension_of state nodes kind w (x ∷ []) ≡ None → left.extend_pattern kind w (origin state nodes x ∷ []) ≡ false
no_extension state nodes kind x w built h =
    let first = extension_none state nodes kind x w h in
    let second = longer_none state nodes kind x first.1 in
    extend_row state nodes kind w x built first.0 second.0 (λ e a f. sign_none state nodes x a (sym (ap (sides.other_extension state nodes x) e) ∙ second.1) f)

-- ---- slices

pub made_is : (state : IrType) (nodes : List Node) (p : Op → Bool) (i : ℕ) (n : Node) → slice_get nodes i ≡ Some n → is_made p (origin state nodes (operand.Node i)).made ≡ p n.op
made_is state nodes p i n e = ap (is_made p) (made_of state nodes i n e)

op_is_slice : (o : Op) → is_slice_op o ≡ true → o ≡ op.BitSlice
op_is_slice op.BitSlice h = refl
op_is_slice o h = absurd (cc)

op_is_tuple : (o : Op) → is_tuple_op o ≡ true → o ≡ op.Tuple
op_is_tuple op.Tuple h = refl
op_is_tuple o h = absurd (cc)

slice_shown : (n : Node) (y : Operand) (start w : ℕ) → HasParts n op.BitSlice (y ∷ []) (attributes.StartAndWidth start w) → slice_in n.op n.operands n.attributes ≡ Some (record { operand = y; start = start })
slice_shown n y start w p = λ i. slice_in (p.op i) (p.operands i) (p.attributes i)

no_slice_made : (state : IrType) (nodes : List Node) (x : Operand) → AreBuilt state nodes → sliced nodes x ≡ None → is_made is_slice_op (origin state nodes x).made ≡ false
no_slice_made state nodes operand.State built h = refl
no_slice_made state nodes (operand.Node i) built h = by (slice_get nodes i) refl
  where
    inside : (n : Node) → slice_get nodes i ≡ Some n → (b : Bool) → is_slice_op n.op ≡ b → is_slice_op n.op ≡ false
    inside n e false t = t
    inside n e true t =
        let o = op_is_slice n.op t in
        let fits_at = built.fits_at i n e (ap is_plain_op o) in
        let a = start_is n.attributes (own_kind state nodes i n op.BitSlice fits_at o) in
        let y = one_operand n.operands (own_count state nodes i n op.BitSlice fits_at o) in
        some_none _ (record { operand = y.0; start = a.0 }) (sym (slice_shown n y.0 a.0 a.1 (record { op = o; operands = y.1; attributes = a.2 })) ∙ (ap slice_at (sym e) ∙ h))

    by : (m : Option Node) → slice_get nodes i ≡ m → is_made is_slice_op (origin state nodes (operand.Node i)).made ≡ false
    by None e = ap (λ m. is_made is_slice_op (made_by state nodes m)) e
    by (Some n) e = made_is state nodes is_slice_op i n e ∙ inside n e (is_slice_op n.op) refl

-- bits that begin past all parts lie in none of them
lie_past : (start w : ℕ) (ps : List ℕ) → 1 ≤ w → sum ps ≤ start → lie_in_one start w ps ≡ false
lie_past start w [] some h = refl
lie_past start w (p ∷ ps) some h =
    let parts : sum (p ∷ ps) ≡ p + sum ps = sum_by-cons (λ x. x) p ps in
    let short : nat_le (start + w) (sum ps + p) ≡ false = grind (arith, nat_tests, some, h, parts) in
    or_false (nat_le (sum ps) start && nat_le (start + w) (sum ps + p)) (lie_in_one start w ps)
    (and_false (nat_le (sum ps) start) (nat_le (start + w) (sum ps + p)) short)
    (lie_past start w ps some (omega (arith, parts, h)))
  where
    and_false : (a b : Bool) → b ≡ false → a && b ≡ false
    and_false true b e = e
    and_false false b e = refl

abbrev pub widths : IrType → List Node → List Operand → List ℕ
widths state nodes os = map bits_width (map (type_in (types_behind state nodes)) os)

pub widths_sum : (state : IrType) (nodes : List Node) (place : ℕ) (os : List Operand) (total : ℕ) → AreNumbers state nodes place os total → sum (widths state nodes os) ≡ total
widths_sum state nodes place [] total h = sym h
widths_sum state nodes place (o ∷ os) total h =
    let own = width_by_type state nodes o ∙ number_width state nodes o h.0 h.2 in
    sum_by-cons (λ x. x) (bits_width (type_in (types_behind state nodes) o)) (widths state nodes os)
    ∙ ap₂ (λ a b. a + b) own (widths_sum state nodes place os h.1 h.4)
    ∙ sym h.5

abbrev part_at : Operand → ℕ → Part
part_at o start = record { operand = o; start = start }

abbrev part_choice : IrType → List Node → Operand → List Operand → ℕ → ℕ → ℕ → ℕ → Option Part
part_choice state nodes o os total start w k = if nat_le k start then part_inside o k total start w else part_from state nodes os k start w

no_part : (state : IrType) (nodes : List Node) (place : ℕ) (os : List Operand) (total start w : ℕ) → 1 ≤ w → AreNumbers state nodes place os total → part_from state nodes os total start w ≡ None → lie_in_one start w (widths state nodes os) ≡ false
no_part state nodes place [] total start w some all h = refl
no_part state nodes place (o ∷ os) total start w some all h =
    by (λ k. no_part state nodes place os all.1 start w some all.4 k) (nat_le all.1 start) refl
    (subst (λ k. part_choice state nodes o os total start w k ≡ None) behind h)
  where
    own : width_in state nodes o ≡ all.0
    own = number_width state nodes o all.0 all.2

    behind : total - width_in state nodes o ≡ all.1
    behind = let e = own in let f = all.5 in omega (arith, e, f)

    rest : sum (widths state nodes os) ≡ all.1
    rest = widths_sum state nodes place os all.1 all.4

    whole : sum (widths state nodes os) + bits_width (type_in (types_behind state nodes) o) ≡ total
    whole = let a = rest in let b = width_by_type state nodes o ∙ own in let c = all.5 in omega (arith, a, b, c)

    inside : (b : Bool) → nat_le all.1 start && nat_le (start + w) total ≡ b → (if b then (Some (part_at o (start - all.1))) else None) ≡ None → nat_le all.1 start && nat_le (start + w) total ≡ false
    inside true e k = some_none _ (part_at o (start - all.1)) k
    inside false e k = e

    first : nat_le all.1 start && nat_le (start + w) total ≡ false → nat_le (sum (widths state nodes os)) start && nat_le (start + w) (sum (widths state nodes os) + bits_width (type_in (types_behind state nodes) o)) ≡ false
    first e = ap₂ (λ a b. nat_le a start && nat_le (start + w) b) rest whole ∙ e

    and_left : (a b : Bool) → a ≡ false → a && b ≡ false
    and_left true b e = absurd (cc)
    and_left false b e = refl

    by : (part_from state nodes os all.1 start w ≡ None → lie_in_one start w (widths state nodes os) ≡ false) → (b : Bool) → nat_le all.1 start ≡ b → (if b then part_inside o all.1 total start w else part_from state nodes os all.1 start w) ≡ None → lie_in_one start w (widths state nodes (o ∷ os)) ≡ false
    by later true e k =
        let a = rest in
        let past : sum (widths state nodes os) ≤ start = grind (arith, nat_tests, e, a) in
        or_false _ (lie_in_one start w (widths state nodes os)) (first (inside (nat_le all.1 start && nat_le (start + w) total) refl k)) (lie_past start w (widths state nodes os) some past)
    by later false e k = or_false _ (lie_in_one start w (widths state nodes os)) (first (and_left (nat_le all.1 start) (nat_le (start + w) total) e)) (later k)

op_is_concat : (o : Op) → (o ≡ op.Concat) ⊎ ((ts : List IrType) → left.widths_if o ts ≡ [])
op_is_concat op.Concat = inl refl
op_is_concat o = inr (λ ts. refl)

no_part_made : (state : IrType) (nodes : List Node) (x : Operand) (start w : ℕ) → 1 ≤ w → AreBuilt state nodes → part_of state nodes start w x ≡ None → lie_in_one start w (left.parts_in (origin state nodes x).made) ≡ false
no_part_made state nodes operand.State start w some built h = refl
no_part_made state nodes (operand.Node i) start w some built h = by (slice_get nodes i) refl
  where
    inside : (n : Node) → slice_get nodes i ≡ Some n → (n.op ≡ op.Concat) ⊎ ((ts : List IrType) → left.widths_if n.op ts ≡ []) → lie_in_one start w (left.widths_if n.op (map (type_in (types_behind state nodes)) n.operands)) ≡ false
    inside n e (inr none) = ap (lie_in_one start w) (none (map (type_in (types_behind state nodes)) n.operands))
    inside n e (inl o) =
        let fits_at = built.fits_at i n e (ap is_plain_op o) in
        let a = none_is n.attributes (own_kind state nodes i n op.Concat fits_at o) in
        let less = slice_get_within nodes i n e in
        let says = says_concat state nodes i n n.operands (omega (arith, less)) fits_at (record { op = o; operands = refl; attributes = a }) in
        let total : bits_width n.ty ≡ says.total = ap bits_width says.wide.ty ∙ width_is says.total in
        let found : part_from state nodes n.operands says.total start w ≡ None =
        sym (ap (λ k. part_from state nodes n.operands k start w) total)
        ∙ sym (λ i. parts_in state nodes start w (bits_width n.ty) (o i) n.operands (a i))
        ∙ (ap (parts_at state nodes start w) (sym e) ∙ h) in
        ap (λ z. lie_in_one start w (left.widths_if z (map (type_in (types_behind state nodes)) n.operands))) o
        ∙ no_part state nodes i n.operands says.total start w some says.numbers found

    by : (m : Option Node) → slice_get nodes i ≡ m → lie_in_one start w (left.parts_in (origin state nodes (operand.Node i)).made) ≡ false
    by None e = ap (λ m. lie_in_one start w (left.parts_in (made_by state nodes m))) e
    by (Some n) e = ap (λ m. lie_in_one start w (left.parts_in m)) (made_of state nodes i n e) ∙ inside n e (op_is_concat n.op)

-- an extension is no slice and no concatenation
no_slice_here : (state : IrType) (nodes : List Node) (kind : Extend) (x a : Operand) (start w : ℕ) → extended nodes kind x ≡ Some a → (is_made is_slice_op (origin state nodes x).made ≡ false) × (lie_in_one start w (left.parts_in (origin state nodes x).made) ≡ false)
no_slice_here state nodes kind x a start w e =
    let f = names_extension nodes kind x a e in
    let made : (origin state nodes x).made ≡ Some (record { op = f.node.op; types = map (type_in (types_behind state nodes)) f.node.operands }) = ap (λ (o : Operand). (origin state nodes o).made) f.is ∙ made_of state nodes f.place f.node f.there in (
      ap (is_made is_slice_op) made ∙ ap is_slice_op f.parts.op,
      ap (λ m. lie_in_one start w (left.parts_in m)) made ∙ ap (λ z. lie_in_one start w (left.widths_if z (map (type_in (types_behind state nodes)) f.node.operands))) f.parts.op,
    )

longer_some : (own start width : ℕ) (a : Operand) → sides.slice_of_longer own start width a ≡ None → ⊥
longer_some own start width a h = by (nat_le own start) (nat_le width (own - start)) h
  where
    by : (b c : Bool) → (if b then (Some right.Zero) else (if c then (Some (right.Slice a start)) else (Some (right.LongerSlice a start (own - start))))) ≡ None → ⊥
    by true c k = some_none ⊥ right.Zero k
    by false true k = some_none ⊥ (right.Slice a start) k
    by false false k = some_none ⊥ (right.LongerSlice a start (own - start)) k

pub no_slice : (state : IrType) (nodes : List Node) (x : Operand) (start w : ℕ) → 1 ≤ w → AreBuilt state nodes → sides.slice_of state nodes start w x ≡ None → left.slice_pattern start w (origin state nodes x ∷ []) ≡ false
no_slice state nodes x start w some built h = whole (nat_eq (width_in state nodes x) w) refl h
  where
    rows : nat_eq (width_in state nodes x) w ≡ false → left.is_narrower (extended_from extend.Zero (origin state nodes x)) (bits_width (type_in (types_behind state nodes) x)) ≡ false → is_made is_slice_op (origin state nodes x).made ≡ false → lie_in_one start w (left.parts_in (origin state nodes x).made) ≡ false → left.slice_pattern start w (origin state nodes x ∷ []) ≡ false
    rows a b c d =
        or_false (nat_eq w (bits_width (type_in (types_behind state nodes) x))) _ (ap (nat_eq w) (width_by_type state nodes x) ∙ other_width (width_in state nodes x) w a)
        (or_false (left.is_narrower (extended_from extend.Zero (origin state nodes x)) (bits_width (type_in (types_behind state nodes) x))) _ b
        (or_false (is_made is_slice_op (origin state nodes x).made) (lie_in_one start w (left.parts_in (origin state nodes x).made)) c d))

    strict : nat_eq (width_in state nodes x) w ≡ false → (a : Operand) → extended nodes extend.Zero x ≡ Some a → (b : Bool) → nat_lt (width_in state nodes a) (width_in state nodes x) ≡ b → (if b then sides.slice_of_longer (width_in state nodes a) start w a else None) ≡ None → left.slice_pattern start w (origin state nodes x ∷ []) ≡ false
    strict t a e true f k = absurd (longer_some (width_in state nodes a) start w a k)
    strict t a e false f k =
        let none = no_slice_here state nodes extend.Zero x a start w e in
        rows t (ap₂ left.is_narrower (from_some state nodes extend.Zero x a built e) (width_by_type state nodes x) ∙ f) none.0 none.1

    joined : nat_eq (width_in state nodes x) w ≡ false → extended nodes extend.Zero x ≡ None → sliced nodes x ≡ None → (q : Option Part) → part_of state nodes start w x ≡ q → sides.slice_part q ≡ None → left.slice_pattern start w (origin state nodes x ∷ []) ≡ false
    joined t e f (Some part) g k = some_none _ (right.Slice part.operand part.start) k
    joined t e f None g k =
        rows t (ap (λ p. left.is_narrower p (bits_width (type_in (types_behind state nodes) x))) (from_none state nodes extend.Zero x built e))
        (no_slice_made state nodes x built f) (no_part_made state nodes x start w some built g)

    added : (inner : Part) (b : Bool) → (if b then (Some (right.Slice inner.operand (inner.start + start))) else (Some right.Zero)) ≡ None → left.slice_pattern start w (origin state nodes x ∷ []) ≡ false
    added inner true k = some_none _ (right.Slice inner.operand (inner.start + start)) k
    added inner false k = some_none _ right.Zero k

    sliced_too : nat_eq (width_in state nodes x) w ≡ false → extended nodes extend.Zero x ≡ None → (q : Option Part) → sliced nodes x ≡ q → sides.slice_of_slice state nodes start w x q ≡ None → left.slice_pattern start w (origin state nodes x ∷ []) ≡ false
    sliced_too t e (Some inner) f k = added inner (nat_le start ((2 ^ 128 - 1) - inner.start)) k
    sliced_too t e None f k = joined t e f (part_of state nodes start w x) refl k

    under : nat_eq (width_in state nodes x) w ≡ false → (q : Option Operand) → extended nodes extend.Zero x ≡ q → sides.slice_by state nodes start w x q ≡ None → left.slice_pattern start w (origin state nodes x ∷ []) ≡ false
    under t None e k = sliced_too t e (sliced nodes x) refl k
    under t (Some a) e k = strict t a e (nat_lt (width_in state nodes a) (width_in state nodes x)) refl k

    whole : (b : Bool) → nat_eq (width_in state nodes x) w ≡ b → (if b then (Some (right.Operand x)) else sides.slice_over state nodes start w x) ≡ None → left.slice_pattern start w (origin state nodes x ∷ []) ≡ false
    whole true t k = some_none _ (right.Operand x) k
    whole false t k = under t (extended nodes extend.Zero x) refl k

-- ---- parts of tuples

no_part_type : (i : ℕ) (t : IrType) (ts : List IrType) → slice_get ts i ≡ None → IsTrue (part_is i t ts) → ⊥
no_part_type i t ts e h = let k = rw e at h in absurd (cc)

element_shown : (index : ℕ) (m : Node) → HasParts m op.Tuple m.operands attributes.None → element_in index m.op m.operands m.attributes ≡ slice_get m.operands index
element_shown index m p = λ i. element_in index (p.op i) m.operands (p.attributes i)

no_tuple_made : (state : IrType) (nodes : List Node) (n : Node) (x : Operand) (index : ℕ) → AreBuilt state nodes → FitsAt state nodes (length nodes) n → HasParts n op.TupleIndex (x ∷ []) (attributes.Index index) → element_of nodes index x ≡ None → is_made is_tuple_op (origin state nodes x).made ≡ false
no_tuple_made state nodes n operand.State index built fits_at p h = refl
no_tuple_made state nodes n (operand.Node i) index built fits_at p h = by (slice_get nodes i) refl
  where
    inside : (m : Node) → slice_get nodes i ≡ Some m → (b : Bool) → is_tuple_op m.op ≡ b → is_tuple_op m.op ≡ false
    inside m e false t = t
    inside m e true t =
        let scope = types_behind state nodes in
        let o = op_is_tuple m.op t in
        let own = built.fits_at i m e (ap is_plain_op o) in
        let q : HasParts m op.Tuple m.operands attributes.None = record { op = o; operands = refl; attributes = none_is m.attributes (own_kind state nodes i m op.Tuple own o) } in
        let r = tuple_is (λ ts. each_same (map same_type ts) (map (type_in scope) m.operands)) m.ty (fitting state nodes i m op.Tuple m.operands attributes.None own q) in
        let same : r.parts ≡ map (type_in scope) m.operands = types_same r.parts (map (type_in scope) m.operands) r.test in
        let whole : type_in scope (operand.Node i) ≡ Tuple (map (type_in scope) m.operands) [] = ap (type_or (Token [])) e ∙ r.is ∙ ap (λ ts. Tuple ts []) same in
        let fits = (both_true (is_tuple_index op.TupleIndex) (tuple_index_fits index scope (operand.Node i ∷ []) n.ty) (fitting state nodes (length nodes) n op.TupleIndex (operand.Node i ∷ []) (attributes.Index index) fits_at p)).1 in
        let one = (both_true (is_tuple_where (part_is index n.ty) (type_in scope (operand.Node i))) true fits).0 in
        let test : IsTrue (part_is index n.ty (map (type_in scope) m.operands)) = sym (ap (is_tuple_where (part_is index n.ty)) whole ∙ ap (λ y. passes (part_is index n.ty) (parts_there y)) (ir_views.outs-Tuple (map (type_in scope) m.operands) [])) ∙ one in
        let none : slice_get m.operands index ≡ None = sym (element_shown index m q) ∙ (ap (tuple_at index) (sym e) ∙ h) in
        absurd (no_part_type index n.ty (map (type_in scope) m.operands) (slice_get-map (type_in scope) m.operands index ∙ ap (option_map (type_in scope)) none) test)

    by : (m : Option Node) → slice_get nodes i ≡ m → is_made is_tuple_op (origin state nodes (operand.Node i)).made ≡ false
    by None e = ap (λ m. is_made is_tuple_op (made_by state nodes m)) e
    by (Some m) e = made_is state nodes is_tuple_op i m e ∙ inside m e (is_tuple_op m.op) refl

element_none : (q : Option Operand) → sides.operand_if q ≡ None → q ≡ None
element_none None h = refl
element_none (Some o) h = absurd (cc)

-- ---- any node

alone_none : (state : IrType) (nodes : List Node) (os : List Operand) → sides.concat_of os ≡ None → left.concat_pattern (map (origin state nodes) os) ≡ false
alone_none state nodes [] h = refl
alone_none state nodes (x ∷ []) h = absurd (cc)
alone_none state nodes (x ∷ y ∷ os) h = refl

-- what is found by the attributes that the operation has
found_by : (state : IrType) (nodes : List Node) (n : Node) (o : Op) (a : Attributes) → n.op ≡ o → n.attributes ≡ a → replacement_of state nodes n ≡ None → sides.replacement_by state nodes o (bits_width n.ty) n.operands a ≡ None
found_by state nodes n o a e f h = sym (ap₂ (λ z b. sides.replacement_by state nodes z (bits_width n.ty) n.operands b) e f) ∙ h

side_at : (state : IrType) (nodes : List Node) (n : Node) (o : Op) (w start : ℕ) (os : List Operand) → n.op ≡ o → bits_width n.ty ≡ w → left.first_bit n.attributes ≡ start → n.operands ≡ os → left.node_pattern o w start (map (origin state nodes) os) ≡ false → has_pattern state nodes n ≡ false
side_at state nodes n o w start os e f g h k = (λ i. left.node_pattern (e i) (f i) (g i) (map (origin state nodes) (h i))) ∙ k

pub no_left_side : (state : IrType) (nodes : List Node) (n : Node) → AreBuilt state nodes → FitsAt state nodes (length nodes) n → replacement_of state nodes n ≡ None → has_pattern state nodes n ≡ false
no_left_side state nodes n built fits_at h = by n.op refl
  where
    here : length nodes ≤ length nodes
    here = omega arith

    none_of : (o : Op) → n.op ≡ o → attribute_kind_of o ≡ kinds.None → n.attributes ≡ attributes.None
    none_of o e k = none_is n.attributes (sym k ∙ own_kind state nodes (length nodes) n o fits_at e)

    slice : n.op ≡ op.BitSlice → has_pattern state nodes n ≡ false
    slice e =
        let a = start_is n.attributes (own_kind state nodes (length nodes) n op.BitSlice fits_at e) in
        let x = one_operand n.operands (own_count state nodes (length nodes) n op.BitSlice fits_at e) in
        let says = says_slice state nodes (length nodes) n op.BitSlice x.0 a.0 a.1 here fits_at (record { op = e; operands = x.1; attributes = a.2 }) in
        let found : sides.slice_of state nodes a.0 a.1 x.0 ≡ None = sym (ap (sides.slice_of_one state nodes a.0 a.1) x.1) ∙ found_by state nodes n op.BitSlice (attributes.StartAndWidth a.0 a.1) e a.2 h in
        side_at state nodes n op.BitSlice a.1 a.0 (x.0 ∷ []) e (ap bits_width says.wide.ty ∙ width_is a.1) (ap left.first_bit a.2) x.1 (no_slice state nodes x.0 a.0 a.1 says.wide.some built found)

    extension : (kind : Extend) → n.op ≡ op.Extend kind → has_pattern state nodes n ≡ false
    extension kind e =
        let a = count_is n.attributes (own_kind state nodes (length nodes) n (op.Extend kind) fits_at e) in
        let x = one_operand n.operands (own_count state nodes (length nodes) n (op.Extend kind) fits_at e) in
        let says = says_extension state nodes (length nodes) n kind x.0 a.0 here fits_at (record { op = e; operands = x.1; attributes = a.1 }) in
        let found : sides.extension_of state nodes kind a.0 (x.0 ∷ []) ≡ None = sym (ap (sides.extension_of state nodes kind a.0) x.1) ∙ found_by state nodes n (op.Extend kind) (attributes.NewBitCount a.0) e a.1 h in
        side_at state nodes n (op.Extend kind) a.0 (left.first_bit n.attributes) (x.0 ∷ []) e (ap bits_width says.wide.ty ∙ width_is a.0) refl x.1 (no_extension state nodes kind x.0 a.0 built found)

    part : n.op ≡ op.TupleIndex → has_pattern state nodes n ≡ false
    part e =
        let a = index_is n.attributes (own_kind state nodes (length nodes) n op.TupleIndex fits_at e) in
        let x = one_operand n.operands (own_count state nodes (length nodes) n op.TupleIndex fits_at e) in
        let found : sides.operand_if (element_of nodes a.0 x.0) ≡ None = sym (ap (sides.element_replacement nodes a.0) x.1) ∙ found_by state nodes n op.TupleIndex (attributes.Index a.0) e a.1 h in
        side_at state nodes n op.TupleIndex (bits_width n.ty) (left.first_bit n.attributes) (x.0 ∷ []) e refl refl x.1
        (no_tuple_made state nodes n x.0 a.0 built fits_at (record { op = e; operands = x.1; attributes = a.1 }) (element_none (element_of nodes a.0 x.0) found))

    by : (o : Op) → n.op ≡ o → has_pattern state nodes n ≡ false
    by (op.Binary o) e = side_at state nodes n (op.Binary o) (bits_width n.ty) (left.first_bit n.attributes) n.operands e refl refl refl (no_operation state nodes o (bits_width n.ty) n.operands built (found_by state nodes n (op.Binary o) attributes.None e (none_of (op.Binary o) e refl) h))
    by (op.Compare o) e = side_at state nodes n (op.Compare o) (bits_width n.ty) (left.first_bit n.attributes) n.operands e refl refl refl (no_comparison state nodes o n.operands built (found_by state nodes n (op.Compare o) attributes.None e (none_of (op.Compare o) e refl) h))
    by op.Concat e = side_at state nodes n op.Concat (bits_width n.ty) (left.first_bit n.attributes) n.operands e refl refl refl (alone_none state nodes n.operands (found_by state nodes n op.Concat attributes.None e (none_of op.Concat e refl) h))
    by op.BitSlice e = slice e
    by (op.Extend kind) e = extension kind e
    by op.TupleIndex e = part e
    by o e = side_at state nodes n o (bits_width n.ty) (left.first_bit n.attributes) n.operands e refl refl refl refl
