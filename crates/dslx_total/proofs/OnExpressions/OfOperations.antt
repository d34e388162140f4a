-- Operators, casts, indices, parts of bits and fields become something.
use Rattle.std.proofs.Common.{◌≡◌, ◌&&◌, ◌++◌, ◌+◌, ℕ, Bool, true, false, not, List, [], Option, Some, None, refl, sym, ap, ◌∙◌}
use mathlib.Core.Bool.{true≢false}
use Rattle.std.specs.Prelude.{nat_le, nat_lt, slice_get}
use Rattle.xb_span.specs.declared.span.Span.{Span}
use Rattle.dslx_tree.specs.declared.ident.Ident.{Ident}
use Rattle.dslx_tree.specs.declared.operator.Binary.{Binary}
use Rattle.dslx_tree.specs.declared.operator.Binary.TheVariants as b
use Rattle.dslx_tree.specs.declared.operator.Prefix.{Prefix}
use Rattle.dslx_meaning.specs.Lists.{and_then, index_in, where_true}
use Rattle.dslx_meaning.specs.Types.{bits_in, same_type, unsigned}
use Rattle.dslx_meaning.specs.declared.ty.BitKind.{BitKind}
use Rattle.dslx_meaning.specs.declared.ty.DslxType.{DslxType, out-DslxType}
use Rattle.dslx_meaning.specs.declared.ty.DslxType as ty
use Rattle.dslx_meaning.specs.declared.ty.DslxType.TheOpen.{DslxType-F}
use Rattle.dslx_meaning.specs.Rules.AggregateRules.{array_in, element_type, field_part_typing, field_type, index_typing, is_array, struct_field_type}
use Rattle.dslx_meaning.specs.Rules.ConstantRules.{is_unsigned, is_unsigned_kind}
use Rattle.dslx_meaning.specs.Rules.TypeEnvs.{ExprPair, alone, one_and, plus_size, span_of, type_limits}
use Rattle.dslx_meaning.specs.Rules.Typings.{TypeExprTyping}
use Rattle.dslx_meaning.specs.Rules.OperatorRules.{binary_faults, binary_typing, binary_type, cast_typing, is_bits, is_bits_or_enum, one_comparable_type, part_typing, prefix_typing, unless_type, unless_types, width_of_type}
use Rattle.dslx_meaning.specs.Rules.PatternRules.{is_there}
use Rattle.dslx_core.proofs.Lemmas.Typing.Laws.{and_true, is_bits_type}
use Rattle.dslx_core.specs.Typing.Typed.Declared.{Declarations, IsDeclared}
use Rattle.dslx_core.specs.Typing.Typed.WellTyped.{types_at}
use Rattle.dslx_core.proofs.Lemmas.Typing.Typed.{none_some, same_some}
use Rattle.dslx_core.proofs.Lemmas.Typing.Sound.{all_in, all_in_three, none_in, none_in_three, passed, settled_well_typed}
use Rattle.dslx_core.specs.CoreValues.{is_width}
use Rattle.dslx_core.specs.declared.expr.CoreExpr.{CoreExpr}
use Rattle.dslx_core.specs.declared.expr.CoreExpr as core
use Rattle.dslx_core.specs.Lowering.Lowering.{LoweredExpr, binary_core, lower_binary, lower_cast, lower_field, field_index, fits_operands, lower_index, lowered, lower_part, lower_prefix, result_of_binary, sign_of}
use Rattle.dslx_core.specs.Lowering.Patterns.{ExprLowering}
use Rattle.dslx_core.specs.Lowering.Trees.{TypeLowering}
use Rattle.dslx_total.specs.Expressions.ExprLowering.{ExprLowers, PartLowers, WrittenLowers, reaching, type_of_lowered}
use Rattle.dslx_total.proofs.OnExpressions.Equal.{equal_of_text}
use Rattle.dslx_total.proofs.OnExpressions.Limits.{bits_width, narrow, settled_limits}
use Rattle.dslx_total.proofs.OnExpressions.Parts.{alone_lowers_to, type_lowers_to}

-- ---- operators

result_is : (o : Binary) (t u : DslxType) → binary_type o (Some t) (Some u) ≡ Some (result_of_binary o t u)
result_is b.Mul t u = refl
result_is b.Div t u = refl
result_is b.Rem t u = refl
result_is b.Add t u = refl
result_is b.Sub t u = refl
result_is b.Concat t u = refl
result_is b.Shl t u = refl
result_is b.Shr t u = refl
result_is b.And t u = refl
result_is b.Xor t u = refl
result_is b.Or t u = refl
result_is b.Eq t u = refl
result_is b.Ne t u = refl
result_is b.Lt t u = refl
result_is b.Le t u = refl
result_is b.Gt t u = refl
result_is b.Ge t u = refl
result_is b.Both t u = refl
result_is b.Either t u = refl

compared : (types : Declarations) (span : Span) (t u : DslxType) → IsDeclared types t → IsDeclared types u → unless_types one_comparable_type 14 span (Some t) (Some u) ≡ [] → fits_operands b.Eq t u ≡ true
compared types span t u dt du e = equal_of_text types t u (and_true (is_bits_or_enum t) (same_type t u) (passed (one_comparable_type t u) 14 span e)).1 dt du

-- operands that break no rule fit, where what comes of them keeps the limits
operands_fit : (types : Declarations) (o : Binary) (span left right : Span) (t u : DslxType) → IsDeclared types t → IsDeclared types u → binary_faults o span left (Some t) right (Some u) ≡ []
    → type_limits span.to (Some (result_of_binary o t u)) ≡ [] → fits_operands o t u ≡ true
operands_fit types b.Mul span left right t u dt du e k = refl
operands_fit types b.Div span left right t u dt du e k = refl
operands_fit types b.Rem span left right t u dt du e k = refl
operands_fit types b.Add span left right t u dt du e k = refl
operands_fit types b.Sub span left right t u dt du e k = refl
operands_fit types b.Concat span left right t u dt du e k =
    sym (ap (λ w. nat_le w 128) (bits_width false (width_of_type t + width_of_type u))) ∙ narrow span.to (unsigned (width_of_type t + width_of_type u)) k
operands_fit types b.Shl span left right t u dt du e k = refl
operands_fit types b.Shr span left right t u dt du e k = refl
operands_fit types b.And span left right t u dt du e k = refl
operands_fit types b.Xor span left right t u dt du e k = refl
operands_fit types b.Or span left right t u dt du e k = refl
operands_fit types b.Eq span left right t u dt du e k = compared types span t u dt du e
operands_fit types b.Ne span left right t u dt du e k = compared types span t u dt du e
operands_fit types b.Lt span left right t u dt du e k = refl
operands_fit types b.Le span left right t u dt du e k = refl
operands_fit types b.Gt span left right t u dt du e k = refl
operands_fit types b.Ge span left right t u dt du e k = refl
operands_fit types b.Both span left right t u dt du e k = refl
operands_fit types b.Either span left right t u dt du e k = refl

pub lower_total_binary : (span : Span) (o : Binary) (l r : ExprPair) (x y : ExprLowering) → ExprLowers l x → ExprLowers r y → PartLowers (λ context. binary_typing span context o l r) (λ scope. lower_binary o (x scope) (y scope))
lower_total_binary span o l r x y sl sr here context env scope h at well_typed =
    let a = alone context l in
    let c = alone context r in
    let wrong = binary_faults o span (span_of l) a.ty (span_of r) c.ty in
    let own = binary_type o a.ty c.ty in
    let s = settled_well_typed (reaching context.known here) span own ((a.faults ++ c.faults) ++ wrong) (a.reached ++ c.reached) (one_and (plus_size a.size c.size)) well_typed in
    let f = none_in_three a.faults c.faults wrong s.faults in
    let k = all_in here a.reached c.reached s.reached in
    let p = alone_lowers_to here context env scope l x sl h at f.0 k.0 in
    let q = alone_lowers_to here context env scope r y sr h at f.1 k.1 in
    let is : own ≡ Some (result_of_binary o p.expr.ty q.expr.ty) = (λ i. binary_type o (p.typed i) (q.typed i)) ∙ result_is o p.expr.ty q.expr.ty in
    let limits = sym (ap (type_limits span.to) is) ∙ settled_limits span own ((a.faults ++ c.faults) ++ wrong) (a.reached ++ c.reached) (one_and (plus_size a.size c.size)) well_typed.faults in
    let fit = operands_fit (types_at context) o span (span_of l) (span_of r) p.expr.ty q.expr.ty p.declared q.declared ((λ i. binary_faults o span (span_of l) (sym p.typed i) (span_of r) (sym q.typed i)) ∙ f.2) limits in
    (λ i. type_of_lowered (lower_binary o (p.is i) (q.is i)))
    ∙ ap (λ t. type_of_lowered (where_true t (lowered (core.Binary (binary_core o (sign_of p.expr.ty)) p.expr.core q.expr.core) (result_of_binary o p.expr.ty q.expr.ty)))) fit
    ∙ sym is ∙ sym s.ty

pub lower_total_prefix : (span : Span) (o : Prefix) (e : ExprPair) (x : ExprLowering) → ExprLowers e x → PartLowers (λ context. prefix_typing span context e) (λ scope. lower_prefix o (x scope))
lower_total_prefix span o e x se here context env scope h at well_typed =
    let a = alone context e in
    let wrong = unless_type is_bits 11 span a.ty in
    let s = settled_well_typed (reaching context.known here) span a.ty (a.faults ++ wrong) a.reached (one_and a.size) well_typed in
    let p = alone_lowers_to here context env scope e x se h at (none_in a.faults wrong s.faults).0 s.reached in
    ap (λ o'. type_of_lowered (lower_prefix o o')) p.is ∙ sym p.typed ∙ sym s.ty

-- ---- casts

pub unless_passed : (test : DslxType → Bool) (rule : ℕ) (span : Span) (o : Option DslxType) (t : DslxType) → o ≡ Some t → unless_type test rule span o ≡ [] → test t ≡ true
unless_passed test rule span o t e f = passed (test t) rule span (ap (unless_type test rule span) (sym e) ∙ f)

pub there : {A : Type 0} (o : Option A) → is_there o ≡ true → (a : A) × (o ≡ Some a)
there None e = absurd (true≢false (sym e))
there (Some a) e = (a, refl)

-- bits that have a width, within the limits
width_fits : (t : DslxType) (kind : BitKind) → bits_in t ≡ Some kind → nat_lt 0 kind.width ≡ true → nat_le (width_of_type t) 128 ≡ true → is_width kind.width ≡ true
width_fits t kind e some few = λ i. some i && (sym (ap (λ o. nat_le (width_in o) 128) e) ∙ few) i
  where
    width_in : Option BitKind → ℕ
    width_in None = 0
    width_in (Some kind) = kind.width

pub lower_total_cast : (span : Span) (e : ExprPair) (j : TypeExprTyping) (x : ExprLowering) (l : TypeLowering) → ExprLowers e x → WrittenLowers j l → PartLowers (λ context. cast_typing span context e (j context)) (λ scope. lower_cast (x scope) (l scope))
lower_total_cast span e j x l se st here context env scope h at well_typed =
    let a = alone context e in
    let target = j context in
    let from = unless_type is_bits_or_enum 20 span a.ty in
    let to = unless_type is_bits 20 span target.ty in
    let own = and_then a.ty (λ t. target.ty) in
    let s = settled_well_typed (reaching context.known here) span own (((a.faults ++ target.faults) ++ from) ++ to) (a.reached ++ target.reached) (one_and a.size) well_typed in
    let p = none_in_three (a.faults ++ target.faults) from to s.faults in
    let q = none_in a.faults target.faults p.0 in
    let k = all_in here a.reached target.reached s.reached in
    let g = alone_lowers_to here context env scope e x se h at q.0 k.0 in
    let t = type_lowers_to here context env scope j l st h at (record { faults = q.1; reached = k.1 }) in
    let kind = there (bits_in t.ty) (unless_passed is_bits 20 span target.ty t.ty t.typed p.2) in
    let is : own ≡ Some t.ty = ap (λ o. and_then o (λ t. target.ty)) g.typed ∙ t.typed in
    let few = narrow span.to t.ty (sym (ap (type_limits span.to) is) ∙ settled_limits span own (((a.faults ++ target.faults) ++ from) ++ to) (a.reached ++ target.reached) (one_and a.size) well_typed.faults) in
    (λ i. type_of_lowered (lower_cast (g.is i) (t.is i)))
    ∙ ap (λ o. type_of_lowered (and_then o (λ kind. where_true (is_width kind.width) (lowered (core.Cast (sign_of g.expr.ty) kind.width g.expr.core) t.ty)))) kind.1
    ∙ ap (λ b. type_of_lowered (where_true b (lowered (core.Cast (sign_of g.expr.ty) kind.0.width g.expr.core) t.ty))) (width_fits t.ty kind.0 kind.1 (t.wide kind.0 kind.1) few)
    ∙ sym is ∙ sym s.ty

-- ---- indices, parts of bits and fields

pub lower_total_index : (span : Span) (e i : ExprPair) (x y : ExprLowering) → ExprLowers e x → ExprLowers i y → PartLowers (λ context. index_typing span context e i) (λ scope. lower_index (x scope) (y scope))
lower_total_index span e i x y se si here context env scope h at well_typed =
    let a = alone context e in
    let c = alone context i in
    let array = unless_type is_array 19 span a.ty in
    let start = unless_type is_unsigned 19 span c.ty in
    let own = and_then c.ty (λ k. element_type (and_then a.ty array_in)) in
    let s = settled_well_typed (reaching context.known here) span own (((a.faults ++ c.faults) ++ array) ++ start) (a.reached ++ c.reached) (one_and (plus_size a.size c.size)) well_typed in
    let p = none_in_three (a.faults ++ c.faults) array start s.faults in
    let q = none_in a.faults c.faults p.0 in
    let k = all_in here a.reached c.reached s.reached in
    let ga = alone_lowers_to here context env scope e x se h at q.0 k.0 in
    let gc = alone_lowers_to here context env scope i y si h at q.1 k.1 in
    let parts = there (array_in ga.expr.ty) (unless_passed is_array 19 span a.ty ga.expr.ty ga.typed p.1) in
    (λ d. type_of_lowered (lower_index (ga.is d) (gc.is d)))
    ∙ ap (λ o. type_of_lowered (and_then o (λ parts. lowered (core.Index ga.expr.core gc.expr.core) parts.0))) parts.1
    ∙ sym ((λ d. and_then (gc.typed d) (λ k. element_type (and_then (ga.typed d) array_in))) ∙ ap element_type parts.1) ∙ sym s.ty

-- unsigned bits are named by their width
unsigned_is : (t : DslxType) (kind : BitKind) → bits_in t ≡ Some kind → is_unsigned t ≡ true → unsigned kind.width ≡ t
unsigned_is t kind e u =
    let q = is_bits_type t (ap is_there e) in
    let same = same_some q.0 kind (sym q.2 ∙ e) in
    sym (q.1 ∙ (λ i. ty.Bits (same i).signed (same i).width) ∙ ap (λ s. ty.Bits s kind.width) (positive kind.signed (sym (ap is_unsigned_kind e) ∙ u)))
  where
    positive : (s : Bool) → not s ≡ true → s ≡ false
    positive true h = absurd (true≢false (sym h))
    positive false h = refl

pub lower_total_part : (span : Span) (e i : ExprPair) (j : TypeExprTyping) (x y : ExprLowering) (l : TypeLowering) → ExprLowers e x → ExprLowers i y → WrittenLowers j l
    → PartLowers (λ context. part_typing span context e i (j context)) (λ scope. lower_part (x scope) (y scope) (l scope))
lower_total_part span e i j x y l se si st here context env scope h at well_typed =
    let a = alone context e in
    let c = alone context i in
    let target = j context in
    let bits = unless_type is_bits 18 span a.ty in
    let start = unless_type is_unsigned 18 span c.ty in
    let width = unless_type is_unsigned 18 span target.ty in
    let own = and_then a.ty (λ t. and_then c.ty (λ u. target.ty)) in
    let three = (a.faults ++ c.faults) ++ target.faults in
    let reached = (a.reached ++ c.reached) ++ target.reached in
    let size = one_and (plus_size a.size c.size) in
    let s = settled_well_typed (reaching context.known here) span own (((three ++ bits) ++ start) ++ width) reached size well_typed in
    let p = none_in_three (three ++ bits) start width s.faults in
    let q = none_in three bits p.0 in
    let r = none_in_three a.faults c.faults target.faults q.0 in
    let k = all_in_three here a.reached c.reached target.reached s.reached in
    let ga = alone_lowers_to here context env scope e x se h at r.0 k.0 in
    let gc = alone_lowers_to here context env scope i y si h at r.1 k.1 in
    let t = type_lowers_to here context env scope j l st h at (record { faults = r.2; reached = k.2 }) in
    let plain = unless_passed is_unsigned 18 span target.ty t.ty t.typed p.2 in
    let kind = unsigned_kind (bits_in t.ty) plain in
    let is : own ≡ Some t.ty = (λ d. and_then (ga.typed d) (λ t. and_then (gc.typed d) (λ u. target.ty))) ∙ t.typed in
    let few = narrow span.to t.ty (sym (ap (type_limits span.to) is) ∙ settled_limits span own (((three ++ bits) ++ start) ++ width) reached size well_typed.faults) in
    (λ d. type_of_lowered (lower_part (ga.is d) (gc.is d) (t.is d)))
    ∙ ap (λ o. type_of_lowered (and_then o (λ kind. where_true (is_width kind.width) (lowered (core.Part ga.expr.core gc.expr.core kind.width) (unsigned kind.width))))) kind.1
    ∙ ap (λ b. type_of_lowered (where_true b (lowered (core.Part ga.expr.core gc.expr.core kind.0.width) (unsigned kind.0.width)))) (width_fits t.ty kind.0 kind.1 (t.wide kind.0 kind.1) few)
    ∙ ap Some (unsigned_is t.ty kind.0 kind.1 plain)
    ∙ sym is ∙ sym s.ty
  where
    unsigned_kind : (o : Option BitKind) → is_unsigned_kind o ≡ true → (kind : BitKind) × (o ≡ Some kind)
    unsigned_kind None u = absurd (true≢false (sym u))
    unsigned_kind (Some kind) u = (kind, refl)

-- the place of a field and its type
field_there : (t u : DslxType) (name : List ℕ) → field_type (Some t) name ≡ Some u → (k : ℕ) × (field_index name (out-DslxType t) ≡ Some (k, u))
field_there t u name e = by_level (out-DslxType t) e
  where
    by_scope : (ts : List DslxType) (o : Option ℕ) → and_then o (λ k. slice_get ts k) ≡ Some u → (k : ℕ) × (and_then {B = ℕ × DslxType} o (λ k. and_then {B = ℕ × DslxType} (slice_get ts k) (λ t. Some (k, t))) ≡ Some (k, u))
    by_scope ts None q = none_some u q
    by_scope ts (Some k) q = (k, ap (λ o. and_then {B = ℕ × DslxType} o (λ t. Some (k, t))) q)

    by_level : (l : DslxType-F DslxType) → struct_field_type l name ≡ Some u → (k : ℕ) × (field_index name l ≡ Some (k, u))
    by_level (DslxType-F.Struct own fields ts) q = by_scope ts (index_in name fields) q
    by_level (DslxType-F.Bits s w) q = none_some u q
    by_level (DslxType-F.Tuple ts) q = none_some u q
    by_level (DslxType-F.Array v n) q = none_some u q
    by_level (DslxType-F.Enum own s w) q = none_some u q
    by_level DslxType-F.Token q = none_some u q

-- a field of what stands for the struct
pub field_typed : (o : Option LoweredExpr) (e : LoweredExpr) (u : DslxType) (name : List ℕ) → o ≡ Some e → field_type (Some e.ty) name ≡ Some u → type_of_lowered (lower_field o name) ≡ Some u
field_typed o e u name is k =
    let f = field_there e.ty u name k in
    ap (λ o'. type_of_lowered (lower_field o' name)) is ∙ ap (λ p. type_of_lowered (and_then p (λ p. lowered (core.Element e.core p.0) p.1))) f.1

pub lower_total_field : (span : Span) (e : ExprPair) (name : Ident) (x : ExprLowering) → ExprLowers e x → PartLowers (λ context. field_part_typing span context e name) (λ scope. lower_field (x scope) name.name)
lower_total_field span e name x se here context env scope h at well_typed =
    let a = alone context e in
    let wrong = unless_type (λ t. is_there (field_type (Some t) name.name)) 19 span a.ty in
    let s = settled_well_typed (reaching context.known here) span (field_type a.ty name.name) (a.faults ++ wrong) a.reached (one_and a.size) well_typed in
    let f = none_in a.faults wrong s.faults in
    let g = alone_lowers_to here context env scope e x se h at f.0 s.reached in
    let t = there (field_type (Some g.expr.ty) name.name) (unless_passed (λ t. is_there (field_type (Some t) name.name)) 19 span a.ty g.expr.ty g.typed f.1) in
    field_typed (x scope) g.expr t.0 name.name g.is t.1 ∙ sym (ap (λ o. field_type o name.name) g.typed ∙ t.1) ∙ sym s.ty
