-- A node that fits has the attributes of its operation.
use Rattle.std.proofs.Common.{◌≡◌, List, ◌&&◌, IsTrue, refl}
use Rattle.delay_model.specs.declared.op.Op.{Op}
use Rattle.delay_model.specs.declared.op.Op.TheVariants as op
use Rattle.delay_model.specs.Signatures.{attribute_kind_of}
use Rattle.ir_builder.specs.declared.token.rules.generated.kind.TheConstants as kinds
use Rattle.ir_builder.specs.Token.Kinds.{class_by}
use Rattle.ir_tree.specs.declared.ir_type.IrType.{IrType}
use Rattle.ir_tree.specs.declared.node.Attributes.{Attributes}
use Rattle.ir_tree.specs.declared.node.Attributes.TheVariants as attributes
use Rattle.ir_tree.specs.declared.node.Node.{Node}
use Rattle.ir_tree.specs.declared.node.Operand.{Operand}
use Rattle.ir_tree.specs.declared.package.Channel.{Channel}
use Rattle.ir_tree.specs.NodeValues.{channel_type}
use Rattle.std.specs.Prelude.{Option}
use Rattle.ir_tree.specs.Rules.Fitting.{Types, dynamic_fits, extend_fits, first_is_token, index_fits, is_bit_slice, is_dynamic_bit_slice, is_extend, is_literal, is_sel, is_tuple_index, plain_fits, predicate_fits, sel_fits, site_fits, slice_fits, tuple_index_fits, types_fit}
use Rattle.ir_tree.proofs.Lemmas.Rules.Typed.Checked.{both_true}
use Rattle.ir_text.proofs.OnRoundTrip.Calls.{class_like}

plain_class : (o : Op) (scope : Types) (os : List Operand) (t : IrType) → IsTrue (plain_fits o scope os t) → class_by (attribute_kind_of o) ≡ kinds.PLAIN
plain_class (op.Binary o) scope os t h = refl
plain_class (op.Unary o) scope os t h = refl
plain_class (op.Compare o) scope os t h = refl
plain_class (op.Shift o) scope os t h = refl
plain_class (op.Reduce o) scope os t h = refl
plain_class op.Concat scope os t h = refl
plain_class op.Tuple scope os t h = refl
plain_class op.Array scope os t h = refl
plain_class op.AfterAll scope os t h = refl
plain_class (op.Extend o) scope os t h = absurd (cc)
plain_class op.BitSlice scope os t h = absurd (cc)
plain_class op.DynamicBitSlice scope os t h = absurd (cc)
plain_class op.Sel scope os t h = absurd (cc)
plain_class op.TupleIndex scope os t h = absurd (cc)
plain_class op.ArrayIndex scope os t h = absurd (cc)
plain_class op.ArrayUpdate scope os t h = absurd (cc)
plain_class op.Literal scope os t h = absurd (cc)
plain_class op.Receive scope os t h = absurd (cc)
plain_class op.Send scope os t h = absurd (cc)

slice_class : (o : Op) → IsTrue (is_bit_slice o) → class_by (attribute_kind_of o) ≡ kinds.SLICE
slice_class op.BitSlice h = refl
slice_class _ h = absurd (cc)

dynamic_class : (o : Op) → IsTrue (is_dynamic_bit_slice o) → class_by (attribute_kind_of o) ≡ kinds.DYNAMIC
dynamic_class op.DynamicBitSlice h = refl
dynamic_class _ h = absurd (cc)

extend_class : (o : Op) → IsTrue (is_extend o) → class_by (attribute_kind_of o) ≡ kinds.EXTEND
extend_class (op.Extend o) h = refl
extend_class _ h = absurd (cc)

sel_class : (o : Op) → IsTrue (is_sel o) → class_by (attribute_kind_of o) ≡ kinds.SEL
sel_class op.Sel h = refl
sel_class _ h = absurd (cc)

tuple_class : (o : Op) → IsTrue (is_tuple_index o) → class_by (attribute_kind_of o) ≡ kinds.TUPLEINDEX
tuple_class op.TupleIndex h = refl
tuple_class _ h = absurd (cc)

index_class : (o : Op) (i : Operand) (scope : Types) (os : List Operand) (t : IrType) → IsTrue (index_fits o i scope os t) → class_by (attribute_kind_of o) ≡ kinds.ARRAYAT
index_class op.ArrayIndex i scope os t h = refl
index_class op.ArrayUpdate i scope os t h = refl
index_class _ i scope os t h = absurd (cc)

literal_class : (o : Op) → IsTrue (is_literal o) → class_by (attribute_kind_of o) ≡ kinds.LITERAL
literal_class op.Literal h = refl
literal_class _ h = absurd (cc)

site_class : (o : Op) (c : Option IrType) (scope : Types) (os : List Operand) (t : IrType) → IsTrue (site_fits o c scope os t) → class_by (attribute_kind_of o) ≡ kinds.SITE
site_class op.Receive c scope os t h = refl
site_class op.Send c scope os t h = refl
site_class _ c scope os t h = absurd (cc)

pub class_fits : (channels : List Channel) (scope : Types) (n : Node) (a : Attributes) → IsTrue (types_fit channels scope n a) → class_by (attribute_kind_of n.op) ≡ class_like a
class_fits channels scope n attributes.None h = plain_class n.op scope n.operands n.ty h
class_fits channels scope n (attributes.StartAndWidth start width) h = slice_class n.op (both_true (is_bit_slice n.op) (slice_fits start width scope n.operands n.ty) h).0
class_fits channels scope n (attributes.Width width) h = dynamic_class n.op (both_true (is_dynamic_bit_slice n.op) (dynamic_fits width scope n.operands n.ty) h).0
class_fits channels scope n (attributes.NewBitCount width) h = extend_class n.op (both_true (is_extend n.op) (extend_fits width scope n.operands n.ty) h).0
class_fits channels scope n (attributes.Cases cases default) h = sel_class n.op (both_true (is_sel n.op) (sel_fits cases default scope n.operands n.ty) h).0
class_fits channels scope n (attributes.Index i) h = tuple_class n.op (both_true (is_tuple_index n.op) (tuple_index_fits i scope n.operands n.ty) h).0
class_fits channels scope n (attributes.Indices i) h = index_class n.op i scope n.operands n.ty h
class_fits channels scope n (attributes.Value c) h = literal_class n.op h
class_fits channels scope n (attributes.Channel predicate c) h =
    let parts = both_true (predicate_fits scope predicate) (first_is_token scope n.operands && site_fits n.op (channel_type channels c) scope n.operands n.ty) h in
    let inner = both_true (first_is_token scope n.operands) (site_fits n.op (channel_type channels c) scope n.operands n.ty) parts.1 in
    site_class n.op (channel_type channels c) scope n.operands n.ty inner.1
