-- Operators, casts, indices and fields, where nothing is wrong with them.
use Rattle.std.proofs.Common.{◌≡◌, ◌++◌, ℕ, Bool, true, not, [], Option, Some, None, refl, sym, ap, ◌∙◌}
use mathlib.Core.Bool.{true≢false}
use Rattle.xb_span.specs.declared.span.Span.{Span}
use Rattle.dslx_tree.specs.declared.ident.Ident.{Ident}
use Rattle.dslx_tree.specs.declared.operator.Binary.{Binary}
use Rattle.dslx_tree.specs.declared.operator.Binary.TheVariants as b
use Rattle.dslx_tree.specs.declared.operator.Prefix.{Prefix}
use Rattle.dslx_meaning.specs.Lists.{and_then, where_true, with_both}
use Rattle.dslx_meaning.specs.Types.{bits_in, bool_type}
use Rattle.dslx_meaning.specs.Environment.{Env}
use Rattle.dslx_meaning.specs.Meaning.{ExprDen, TypeDen, field_of}
use Rattle.dslx_meaning.specs.Operators.{binary_value, cast_value, index_value, part_value, prefix_value}
use Rattle.dslx_meaning.specs.declared.ty.DslxType.{DslxType}
use Rattle.dslx_meaning.specs.Rules.AggregateRules.{array_in, element_type, field_part_typing, field_type, index_typing, is_array}
use Rattle.dslx_meaning.specs.Rules.ConstantRules.{is_unsigned}
use Rattle.dslx_meaning.specs.Rules.TypeEnvs.{ExprPair, TypeEnv, alone, one_and, plus_size, span_of}
use Rattle.dslx_meaning.specs.Rules.Typings.{TypeExprTyping}
use Rattle.dslx_meaning.specs.Rules.OperatorRules.{binary_faults, binary_typing, binary_type, cast_typing, is_bits, is_bits_or_enum, part_typing, prefix_typing, unless_type}
use Rattle.dslx_meaning.specs.Rules.PatternRules.{is_there}
use Rattle.dslx_core.specs.Typing.Typed.Complete.{IsWellTypedPart}
use Rattle.dslx_core.specs.Typing.Typed.WellTyped.{IsWellTypedEnv, types_at}
use Rattle.dslx_core.proofs.Lemmas.Typing.Typed.{binary_gives, cast_gives, field_gives, index_gives, part_gives, prefix_gives}
use Rattle.dslx_core.specs.Typing.Sound.Sound.{HasTypedValue, ExprGives, TypeHasDen}
use Rattle.dslx_core.proofs.OnTyping.OnSound.WellTypedParts.{all_in, all_in_three, alone_has, given, none_in, none_in_three, one_sized, passed, plus_sized, settled_well_typed, whole}

-- ---- operators

binary_known : (o : Binary) (t u : DslxType) → (w : DslxType) × (binary_type o (Some t) (Some u) ≡ Some w)
binary_known b.Mul t u = (t, refl)
binary_known b.Div t u = (t, refl)
binary_known b.Rem t u = (t, refl)
binary_known b.Add t u = (t, refl)
binary_known b.Sub t u = (t, refl)
binary_known b.Concat t u = (_, refl)
binary_known b.Shl t u = (t, refl)
binary_known b.Shr t u = (t, refl)
binary_known b.And t u = (t, refl)
binary_known b.Xor t u = (t, refl)
binary_known b.Or t u = (t, refl)
binary_known b.Eq t u = (bool_type, refl)
binary_known b.Ne t u = (bool_type, refl)
binary_known b.Lt t u = (bool_type, refl)
binary_known b.Le t u = (bool_type, refl)
binary_known b.Gt t u = (bool_type, refl)
binary_known b.Ge t u = (bool_type, refl)
binary_known b.Both t u = (bool_type, refl)
binary_known b.Either t u = (bool_type, refl)

pub binary_has : (span : Span) (context : TypeEnv) (env : Env) (o : Binary) (l r : ExprPair) (x y : ExprDen) → ExprGives l x → ExprGives r y → IsWellTypedEnv context env → IsWellTypedPart context.known (binary_typing span context o l r)
    → HasTypedValue (types_at context) (binary_typing span context o l r) (with_both (x.value env) (y.value env) (binary_value o))
binary_has span context env o l r x y sl sr h well_typed =
    let a = alone context l in
    let c = alone context r in
    let wrong = binary_faults o span (span_of l) a.ty (span_of r) c.ty in
    let s = settled_well_typed context.known span (binary_type o a.ty c.ty) ((a.faults ++ c.faults) ++ wrong) (a.reached ++ c.reached) (one_and (plus_size a.size c.size)) well_typed in
    let f = none_in_three a.faults c.faults wrong s.faults in
    let k = all_in context.known.is_sound a.reached c.reached s.reached in
    let ga = alone_has context env l x sl h f.0 k.0 in
    let gc = alone_has context env r y sr h f.1 k.1 in
    let w = binary_known o ga.0 gc.0 in
    whole (types_at context) context.known span (binary_type o a.ty c.ty) ((a.faults ++ c.faults) ++ wrong) (a.reached ++ c.reached) (one_and (plus_size a.size c.size)) w.0
    (with_both (x.value env) (y.value env) (binary_value o)) s ((λ i. binary_type o (ga.1 i) (gc.1 i)) ∙ w.1) (one_sized (plus_size a.size c.size) (plus_sized a.size c.size ga.3 gc.3))
    (binary_gives (types_at context) span context o l r (x.value env) (y.value env) (given (types_at context) a (x.value env) ga) (given (types_at context) c (y.value env) gc))

pub prefix_has : (span : Span) (context : TypeEnv) (env : Env) (o : Prefix) (e : ExprPair) (x : ExprDen) → ExprGives e x → IsWellTypedEnv context env → IsWellTypedPart context.known (prefix_typing span context e)
    → HasTypedValue (types_at context) (prefix_typing span context e) (and_then (x.value env) (prefix_value o))
prefix_has span context env o e x se h well_typed =
    let a = alone context e in
    let wrong = unless_type is_bits 11 span a.ty in
    let s = settled_well_typed context.known span a.ty (a.faults ++ wrong) a.reached (one_and a.size) well_typed in
    let f = none_in a.faults wrong s.faults in
    let g = alone_has context env e x se h f.0 s.reached in
    whole (types_at context) context.known span a.ty (a.faults ++ wrong) a.reached (one_and a.size) g.0 (and_then (x.value env) (prefix_value o)) s g.1 (one_sized a.size g.3)
    (prefix_gives (types_at context) span context o e (x.value env) (given (types_at context) a (x.value env) g))

-- ---- casts

pub cast_has : (span : Span) (context : TypeEnv) (env : Env) (e : ExprPair) (j : TypeExprTyping) (x : ExprDen) (f : TypeDen) → ExprGives e x → TypeHasDen j f → IsWellTypedEnv context env → IsWellTypedPart context.known (cast_typing span context e (j context))
    → HasTypedValue (types_at context) (cast_typing span context e (j context)) (with_both (f env) (x.value env) cast_value)
cast_has span context env e j x f se st h well_typed =
    let a = alone context e in
    let target = j context in
    let from = unless_type is_bits_or_enum 20 span a.ty in
    let to = unless_type is_bits 20 span target.ty in
    let s = settled_well_typed context.known span (and_then a.ty (λ t. target.ty)) (((a.faults ++ target.faults) ++ from) ++ to) (a.reached ++ target.reached) (one_and a.size) well_typed in
    let p = none_in_three (a.faults ++ target.faults) from to s.faults in
    let q = none_in a.faults target.faults p.0 in
    let k = all_in context.known.is_sound a.reached target.reached s.reached in
    let g = alone_has context env e x se h q.0 k.0 in
    let t = st.known context env h (record { faults = q.1; reached = k.1 }) in
    whole (types_at context) context.known span (and_then a.ty (λ t. target.ty)) (((a.faults ++ target.faults) ++ from) ++ to) (a.reached ++ target.reached) (one_and a.size) t.0
    (with_both (f env) (x.value env) cast_value) s (ap (λ o. and_then o (λ t. target.ty)) g.1 ∙ t.1) (one_sized a.size g.3)
    (cast_gives (types_at context) span context e target (x.value env) (f env) (given (types_at context) a (x.value env) g) (λ u q. (st.means context env h u q).0))

-- ---- indices, parts of bits and fields

pub unless_passed : (test : DslxType → Bool) (rule : ℕ) (span : Span) (o : Option DslxType) (t : DslxType) → o ≡ Some t → unless_type test rule span o ≡ [] → test t ≡ true
unless_passed test rule span o t e f = passed (test t) rule span (ap (unless_type test rule span) (sym e) ∙ f)

element_known : (t : DslxType) → is_array t ≡ true → (u : DslxType) × (element_type (array_in t) ≡ Some u)
element_known t e = by_parts (array_in t) e
  where
    by_parts : (o : Option (DslxType × ℕ)) → is_there o ≡ true → (u : DslxType) × (element_type o ≡ Some u)
    by_parts None q = absurd (true≢false (sym q))
    by_parts (Some p) q = (p.0, refl)

pub index_has : (span : Span) (context : TypeEnv) (env : Env) (e i : ExprPair) (x y : ExprDen) → ExprGives e x → ExprGives i y → IsWellTypedEnv context env → IsWellTypedPart context.known (index_typing span context e i)
    → HasTypedValue (types_at context) (index_typing span context e i) (with_both (x.value env) (y.value env) index_value)
index_has span context env e i x y se si h well_typed =
    let a = alone context e in
    let c = alone context i in
    let array = unless_type is_array 19 span a.ty in
    let place = unless_type is_unsigned 19 span c.ty in
    let ty = and_then c.ty (λ k. element_type (and_then a.ty array_in)) in
    let s = settled_well_typed context.known span ty (((a.faults ++ c.faults) ++ array) ++ place) (a.reached ++ c.reached) (one_and (plus_size a.size c.size)) well_typed in
    let p = none_in_three (a.faults ++ c.faults) array place s.faults in
    let q = none_in a.faults c.faults p.0 in
    let k = all_in context.known.is_sound a.reached c.reached s.reached in
    let ga = alone_has context env e x se h q.0 k.0 in
    let gc = alone_has context env i y si h q.1 k.1 in
    let u = element_known ga.0 (unless_passed is_array 19 span a.ty ga.0 ga.1 p.1) in
    whole (types_at context) context.known span ty (((a.faults ++ c.faults) ++ array) ++ place) (a.reached ++ c.reached) (one_and (plus_size a.size c.size)) u.0
    (with_both (x.value env) (y.value env) index_value) s ((λ d. and_then (gc.1 d) (λ k. element_type (and_then (ga.1 d) array_in))) ∙ u.1) (one_sized (plus_size a.size c.size) (plus_sized a.size c.size ga.3 gc.3))
    (index_gives (types_at context) span context e i (x.value env) (y.value env) (given (types_at context) a (x.value env) ga) (given (types_at context) c (y.value env) gc))

pub part_has : (span : Span) (context : TypeEnv) (env : Env) (e i : ExprPair) (j : TypeExprTyping) (x y : ExprDen) (f : TypeDen) → ExprGives e x → ExprGives i y → TypeHasDen j f → IsWellTypedEnv context env
    → IsWellTypedPart context.known (part_typing span context e i (j context))
    → HasTypedValue (types_at context) (part_typing span context e i (j context))
    (with_both (x.value env) (y.value env) (λ v k. and_then (and_then (f env) bits_in) (λ kind. where_true (not kind.signed) (part_value v k kind.width))))
part_has span context env e i j x y f se si st h well_typed =
    let a = alone context e in
    let c = alone context i in
    let target = j context in
    let bits = unless_type is_bits 18 span a.ty in
    let start = unless_type is_unsigned 18 span c.ty in
    let width = unless_type is_unsigned 18 span target.ty in
    let ty = and_then a.ty (λ t. and_then c.ty (λ u. target.ty)) in
    let own = (a.faults ++ c.faults) ++ target.faults in
    let s = settled_well_typed context.known span ty (((own ++ bits) ++ start) ++ width) ((a.reached ++ c.reached) ++ target.reached) (one_and (plus_size a.size c.size)) well_typed in
    let p = none_in_three (own ++ bits) start width s.faults in
    let q = none_in own bits p.0 in
    let r = none_in_three a.faults c.faults target.faults q.0 in
    let k = all_in_three context.known.is_sound a.reached c.reached target.reached s.reached in
    let ga = alone_has context env e x se h r.0 k.0 in
    let gc = alone_has context env i y si h r.1 k.1 in
    let t = st.known context env h (record { faults = r.2; reached = k.2 }) in
    whole (types_at context) context.known span ty (((own ++ bits) ++ start) ++ width) ((a.reached ++ c.reached) ++ target.reached) (one_and (plus_size a.size c.size)) t.0
    (with_both (x.value env) (y.value env) (λ v k. and_then (and_then (f env) bits_in) (λ kind. where_true (not kind.signed) (part_value v k kind.width)))) s
    ((λ d. and_then (ga.1 d) (λ t. and_then (gc.1 d) (λ u. target.ty))) ∙ t.1) (one_sized (plus_size a.size c.size) (plus_sized a.size c.size ga.3 gc.3))
    (part_gives (types_at context) span context e i target (x.value env) (y.value env) (f env) (given (types_at context) a (x.value env) ga) (given (types_at context) c (y.value env) gc)
    (λ u q. (st.means context env h u q).0))

pub there_known : (o : Option DslxType) → is_there o ≡ true → (t : DslxType) × (o ≡ Some t)
there_known None e = absurd (true≢false (sym e))
there_known (Some t) e = (t, refl)

pub field_has : (span : Span) (context : TypeEnv) (env : Env) (e : ExprPair) (name : Ident) (x : ExprDen) → ExprGives e x → IsWellTypedEnv context env → IsWellTypedPart context.known (field_part_typing span context e name)
    → HasTypedValue (types_at context) (field_part_typing span context e name) (and_then (x.value env) (λ v. field_of v name.name))
field_has span context env e name x se h well_typed =
    let a = alone context e in
    let wrong = unless_type (λ t. is_there (field_type (Some t) name.name)) 19 span a.ty in
    let s = settled_well_typed context.known span (field_type a.ty name.name) (a.faults ++ wrong) a.reached (one_and a.size) well_typed in
    let f = none_in a.faults wrong s.faults in
    let g = alone_has context env e x se h f.0 s.reached in
    let t = there_known (field_type (Some g.0) name.name) (unless_passed (λ t. is_there (field_type (Some t) name.name)) 19 span a.ty g.0 g.1 f.1) in
    whole (types_at context) context.known span (field_type a.ty name.name) (a.faults ++ wrong) a.reached (one_and a.size) t.0 (and_then (x.value env) (λ v. field_of v name.name)) s
    (ap (λ o. field_type o name.name) g.1 ∙ t.1) (one_sized a.size g.3)
    (field_gives (types_at context) h.known.parts span context e name (x.value env) (given (types_at context) a (x.value env) g))
