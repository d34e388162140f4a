-- Expressions that must be constant, where nothing is wrong with them: they have values, widths and sizes their numbers, and
-- bounds of slices theirs.
use Rattle.std.proofs.Common.{◌≡◌, ◌&&◌, ◌||◌, ◌++◌, ◌-◌, ℕ, zero, suc, Bool, true, false, not, if◌then◌else◌, Option, Some, None, refl, sym, ap, ◌∙◌}
use mathlib.Core.Bool.{true≢false}
use Rattle.xb_bits.specs.Word.{Word}
use Rattle.xb_span.specs.declared.span.Span.{Span}
use Rattle.dslx_meaning.specs.Lists.{and_then, with_both}
use Rattle.dslx_meaning.specs.Types.{unsigned}
use Rattle.dslx_meaning.specs.Values.{amount_in, unsigned_of}
use Rattle.dslx_meaning.specs.Environment.{Env}
use Rattle.dslx_meaning.specs.Meaning as m
use Rattle.dslx_meaning.specs.Meaning.{ExprDen, bound_of, size_of, some_count}
use Rattle.dslx_meaning.specs.Operators.{slice_value}
use Rattle.dslx_meaning.specs.declared.ty.DslxType.{DslxType}
use Rattle.dslx_meaning.specs.declared.value.DslxValue.{DslxValue}
use Rattle.dslx_meaning.specs.declared.value.UntypedLiteral.{UntypedLiteral}
use Rattle.dslx_meaning.specs.Rules.ConstantRules.{ConstantSeen, CountSeen, untyped_count, untyped_typing, constant_of, constant_or_untyped, count_faults, count_number, count_of, count_type_faults, count_with, is_unsigned, is_zero, names_a_local, number_of_value, size_faults}
use Rattle.dslx_meaning.specs.Rules.TypeEnvs.{ExprPair, TypeEnv, alone, untyped_of, breaks_if, one_and, plus_size, span_of}
use Rattle.dslx_meaning.specs.Rules.OperatorRules.{bound_number, bounds_fall, is_bits, is_negative_bound, is_past, is_wrong_bound, slice_faults, slice_typing, unless_type}
use Rattle.dslx_meaning.specs.Rules.PatternRules.{is_there}
use Rattle.dslx_core.specs.Typing.Typed.Complete.{IsWellTypedPart}
use Rattle.dslx_core.specs.Typing.Typed.InTypeEnv.{env_there}
use Rattle.dslx_core.specs.Typing.Typed.Kinds.{is_of}
use Rattle.dslx_core.specs.Typing.Typed.WellTyped.{IsWellTypedEnv, types_at}
use Rattle.dslx_core.proofs.Lemmas.Typing.Laws.{is_unsigned_value}
use Rattle.dslx_core.proofs.Lemmas.Typing.Typed.{bound_is_denoted, denoted_is_known, not_false, one_type, or_false, size_is_denoted, slice_gives}
use Rattle.dslx_core.specs.Typing.Sound.Sound.{ExprGives, HasTypedValue, HasKnownValue}
use Rattle.dslx_core.proofs.OnTyping.OnSound.WellTypedParts.{all_in_three, alone_has, given, none_in, none_in_three, not_broken, one_sized, passed, plus_sized, settled_well_typed, sized_if, whole}
use Rattle.dslx_core.specs.Typing.Typed.Given.{IsSized}

-- ---- places

-- where items mean what is known of them, a place is its own
pub place_is : (context : TypeEnv) (env : Env) → IsWellTypedEnv context env → env_there context env.bound ≡ env
place_is context env h = λ i. record { items = sym h.items i; bound = env.bound }

value_is : (context : TypeEnv) (env : Env) (e : ExprPair) (x : ExprDen) → ExprGives e x → IsWellTypedEnv context env → m.value_of e.0 (env_there context env.bound) ≡ x.value env
value_is context env e x s h = λ i. (s.is i).value (place_is context env h i)

-- ---- constants

pub constant_has : (context : TypeEnv) (env : Env) (e : ExprPair) (x : ExprDen) → ExprGives e x → IsWellTypedEnv context env → IsWellTypedPart context.known (constant_of context e).judgement → HasKnownValue context env e x
constant_has context env e x s h well_typed =
    let a = alone context e in
    let local = breaks_if (names_a_local context e) 5 (span_of e) in
    let size = size_faults context.known (span_of e).to (record a { faults = a.faults ++ local }) in
    let f = none_in_three a.faults local size well_typed.faults in
    let g = alone_has context env e x s h f.0 well_typed.reached in
    let known = denoted_is_known context env.bound e g.0 g.3.0 g.2.value h.place well_typed g.1 g.3.1 (value_is context env e x s h ∙ g.2.is) in
    let typed = ap (λ o. and_then o (λ v. a.ty)) known ∙ g.1 in
    record { ty = g.0; typed = typed; gives = g.2; known = known; sized = sized_if _ g.0 a.size typed g.3 }

-- ---- widths and sizes

-- a number that isn't 0 counts
counts : (n : ℕ) → is_zero n ≡ false → some_count n ≡ Some n
counts zero e = absurd (true≢false e)
counts (suc n) e = refl

unsigned_given : (t : DslxType) (v : DslxValue) → is_unsigned t ≡ true → is_of t v ≡ true → (w : Word) × (unsigned_of v ≡ Some w)
unsigned_given t v u o =
    let b = is_unsigned_value v (ap is_unsigned (one_type t v o) ∙ u) in
    (b.0.word, ap amount_in b.1.0 ∙ ap (λ s. if s then None else Some b.0.word) b.2)

-- a constant, or the number without a type that an expression is
abbrev seen_by : TypeEnv → ExprPair → Option UntypedLiteral → ConstantSeen
seen_by context e None = constant_of context e
seen_by context e (Some number) = record { judgement = untyped_typing; bare = Some number; value = None }

abbrev counted_by : TypeEnv → ExprPair → Option UntypedLiteral → CountSeen
counted_by context e o = count_with (span_of e) (seen_by context e o) (count_number (seen_by context e o))

pub count_has : (context : TypeEnv) (env : Env) (e : ExprPair) (x : ExprDen) → ExprGives e x → IsWellTypedEnv context env → IsWellTypedPart context.known (count_of context e).judgement → (n : ℕ) × ((count_of context e).count ≡ Some n)
count_has context env e x s h well_typed = by_untyped (untyped_of e) well_typed
  where
    by_untyped : (o : Option UntypedLiteral) → IsWellTypedPart context.known (counted_by context e o).judgement → (n : ℕ) × ((counted_by context e o).count ≡ Some n)
    by_untyped None f =
        let c = constant_of context e in
        let q = none_in_three c.judgement.faults (count_type_faults (span_of e) c.judgement.ty) (count_faults (span_of e) (number_of_value c.value)) f.faults in
        let k = constant_has context env e x s h (record { faults = q.0; reached = f.reached }) in
        let u = unsigned_given k.ty k.gives.value (passed (is_unsigned k.ty) 4 (span_of e) (ap (count_type_faults (span_of e)) (sym k.typed) ∙ q.1)) k.gives.of in
        let number : number_of_value c.value ≡ Some u.0.value = ap number_of_value k.known ∙ ap (λ o. and_then o (λ w. Some w.value)) u.1 in
        (u.0.value, ap (λ o. and_then o some_count) number ∙ counts u.0.value (not_broken (is_zero u.0.value) 4 (span_of e) (ap (count_faults (span_of e)) (sym number) ∙ q.2)))
    by_untyped (Some number) f = (untyped_count number, counts (untyped_count number) (not_broken (is_zero (untyped_count number)) 4 (span_of e) f.faults))

-- the number that is known is the one that is meant
pub count_is : (context : TypeEnv) (env : Env) (e : ExprPair) (x : ExprDen) → ExprGives e x → IsWellTypedEnv context env → (n : ℕ) → (count_of context e).count ≡ Some n → size_of x env ≡ Some n
count_is context env e x s h n q = sym (λ i. size_of (s.is i) (place_is context env h i)) ∙ size_is_denoted context env.bound e n h.place q

-- ---- slices

bound_there : (o : Option ℕ) → is_there o ≡ true → (n : ℕ) × (o ≡ Some n)
bound_there None e = absurd (true≢false (sym e))
bound_there (Some n) e = (n, refl)

not_negative : (p q b : Bool) → (p || q) ≡ true → ((p || q) && not b) ≡ false → b ≡ true
not_negative true q b e f = not_false b f
not_negative false true b e f = not_false b f
not_negative false false b e f = absurd (true≢false (sym e))

pub bound_has : (context : TypeEnv) (env : Env) (e : ExprPair) (x : ExprDen) → ExprGives e x → IsWellTypedEnv context env → IsWellTypedPart context.known (constant_or_untyped context e).judgement → is_negative_bound (constant_or_untyped context e) ≡ false
    → (n : ℕ) × (bound_number (constant_or_untyped context e) ≡ Some n) × IsSized (constant_or_untyped context e).judgement.size
bound_has context env e x s h well_typed positive = by_untyped (untyped_of e) well_typed positive
  where
    by_untyped : (o : Option UntypedLiteral) → IsWellTypedPart context.known (seen_by context e o).judgement → is_negative_bound (seen_by context e o) ≡ false → (n : ℕ) × (bound_number (seen_by context e o) ≡ Some n) × IsSized (seen_by context e o).judgement.size
    by_untyped None f q =
        let k = constant_has context env e x s h (record { faults = f.faults; reached = f.reached }) in
        let n = bound_there (bound_number (constant_of context e))
        (not_negative (is_there (constant_of context e).value) false (is_there (bound_number (constant_of context e))) (ap (λ o. is_there o || false) k.known) q) in
        (n.0, n.1, k.sized)
    by_untyped (Some number) f q =
        let n = bound_there (bound_number (seen_by context e (Some number))) (not_negative false true (is_there (bound_number (seen_by context e (Some number)))) refl q) in
        (n.0, n.1, (1, refl))

bound_is : (context : TypeEnv) (env : Env) (e : ExprPair) (x : ExprDen) → ExprGives e x → IsWellTypedEnv context env → (n : ℕ) → bound_number (constant_or_untyped context e) ≡ Some n → bound_of x env ≡ Some n
bound_is context env e x s h n q = sym (λ i. bound_of (s.is i) (place_is context env h i)) ∙ bound_is_denoted context env.bound e n h.place q

pub slice_has : (span : Span) (context : TypeEnv) (env : Env) (e a c : ExprPair) (x y z : ExprDen) → ExprGives e x → ExprGives a y → ExprGives c z → IsWellTypedEnv context env → IsWellTypedPart context.known (slice_typing span context e a c)
    → HasTypedValue (types_at context) (slice_typing span context e a c) (and_then (x.value env) (λ v. with_both (bound_of y env) (bound_of z env) (slice_value v)))
slice_has span context env e a c x y z se sa sc h well_typed =
    let own = alone context e in
    let from = constant_or_untyped context a in
    let to = constant_or_untyped context c in
    let ty = and_then own.ty (λ t. with_both (bound_number from) (bound_number to) (λ i j. Some (unsigned (j - i)))) in
    let faults = ((own.faults ++ from.judgement.faults) ++ to.judgement.faults) ++ slice_faults span own.ty from to in
    let reached = (own.reached ++ from.judgement.reached) ++ to.judgement.reached in
    let size = one_and (plus_size own.size (plus_size from.judgement.size to.judgement.size)) in
    let s = settled_well_typed context.known span ty faults reached size well_typed in
    let p = none_in ((own.faults ++ from.judgement.faults) ++ to.judgement.faults) (slice_faults span own.ty from to) s.faults in
    let q = none_in_three own.faults from.judgement.faults to.judgement.faults p.0 in
    let k = all_in_three context.known.is_sound own.reached from.judgement.reached to.judgement.reached s.reached in
    let types = (unless_type is_bits 18 span own.ty ++ unless_type is_bits 18 span from.judgement.ty) ++ unless_type is_bits 18 span to.judgement.ty in
    let wrong = (is_wrong_bound own.ty from || is_wrong_bound own.ty to) || bounds_fall (bound_number from) (bound_number to) in
    let r = not_broken wrong 18 span (none_in types (breaks_if wrong 18 span) p.1).1 in
    let right = or_false (is_wrong_bound own.ty from) (is_wrong_bound own.ty to) (or_false (is_wrong_bound own.ty from || is_wrong_bound own.ty to) (bounds_fall (bound_number from) (bound_number to)) r).0 in
    let low = or_false (is_negative_bound from) (is_past own.ty (bound_number from)) right.0 in
    let high = or_false (is_negative_bound to) (is_past own.ty (bound_number to)) right.1 in
    let g = alone_has context env e x se h q.0 k.0 in
    let m = bound_has context env a y sa h (record { faults = q.1; reached = k.1 }) low.0 in
    let n = bound_has context env c z sc h (record { faults = q.2; reached = k.2 }) high.0 in
    whole (types_at context) context.known span ty faults reached size (unsigned (n.0 - m.0)) (and_then (x.value env) (λ v. with_both (bound_of y env) (bound_of z env) (slice_value v))) s
    (λ d. and_then (g.1 d) (λ t. with_both (m.1 d) (n.1 d) (λ i j. Some (unsigned (j - i)))))
    (one_sized (plus_size own.size (plus_size from.judgement.size to.judgement.size)) (plus_sized own.size (plus_size from.judgement.size to.judgement.size) g.3 (plus_sized from.judgement.size to.judgement.size m.2 n.2)))
    (slice_gives (types_at context) span context e a c (x.value env) (bound_of y env) (bound_of z env) (given (types_at context) own (x.value env) g) (bound_is context env a y sa h) (bound_is context env c z sc h))
