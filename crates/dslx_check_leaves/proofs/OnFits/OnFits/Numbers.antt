-- Patterns that are numbers: what the number means is what it is in the type of the value.
use Rattle.std.proofs.Common.{ℕ, ◌≡◌, ◌∙◌, ◌++◌, Bool, true, false, List, [], ◌∷◌, map, Option, Some, None, refl, sym, ap, subst}
use mathlib.Core.Bool.{true≢false}
use Rattle.std.specs.Prelude.{◌==◌, not}
use Rattle.std.specs.Option.{option_map}
use Rattle.std.proofs.lemmas.Option.{none-some}
use Rattle.std.proofs.lemmas.Bool.Decides.{Decides-eqb}
use Rattle.xb_span.specs.declared.span.Span.{Span}
use Rattle.xb_span.specs.declared.fault.Fault.{Fault}
use Rattle.dslx_tree.specs.declared.block.Stmt.TheOpen.{Shape-F}
use Rattle.dslx_tree.specs.declared.expr.Number.{Number, out-Number}
use Rattle.dslx_tree.specs.declared.pattern.Pattern.{Pattern, out-Pattern}
use Rattle.dslx_tree.specs.declared.pattern.Shape.{roll-Shape}
use Rattle.dslx_tree.specs.declared.type_expr.TypeExpr.{TypeExpr}
use Rattle.dslx_meaning.specs.Lists.{and_then}
use Rattle.dslx_meaning.specs.Meaning as m
use Rattle.dslx_meaning.specs.Meaning.{ExprDen, written_type}
use Rattle.dslx_meaning.specs.Operators.{number_in, number_value}
use Rattle.dslx_meaning.specs.Types.{array_is, bits_are, bits_in, bits_step, enum_is, same_bool, same_type, same_type_step, struct_is, token_is, tuple_is}
use Rattle.dslx_meaning.specs.declared.ty.BitKind.{BitKind}
use Rattle.dslx_meaning.specs.declared.ty.DslxType.{DslxType, out-DslxType}
use Rattle.dslx_meaning.specs.declared.ty.DslxType.TheFolds.{fold_out-DslxType, map-DslxType}
use Rattle.dslx_meaning.specs.declared.ty.DslxType.TheOpen.{DslxType-F}
use Rattle.dslx_meaning.specs.declared.value.UntypedLiteral.{UntypedLiteral}
use Rattle.dslx_meaning.specs.Rules.AggregateRules.{number_typing, range_faults}
use Rattle.dslx_meaning.specs.Rules.ControlRules.{written_typing}
use Rattle.dslx_meaning.specs.Rules.PatternRules.{is_there, shape_faults}
use Rattle.dslx_meaning.specs.Rules.RuleNumbers as rule
use Rattle.dslx_meaning.specs.Rules.TypeEnvs.{Judgement, TypeEnv, breaks, breaks_if, constant_env}
use Rattle.dslx_check_leaves.specs.Fits.Fits.{IsFine, literal_of}
use Rattle.dslx_check_leaves.specs.Fits.Typed.{PatternFrom, number_at, type_typed}
use Rattle.dslx_check_leaves.proofs.OnFits.Among.{both_true, nothing_both}
use Rattle.dslx_check_leaves.proofs.Lemmas.Fits.Levels.{pattern_number}
use Rattle.dslx_check_leaves.proofs.OnFits.OnFits.Meanings.{number_means, number_opened}
use Rattle.dslx_check_leaves.proofs.OnFits.OnFits.Written.{type_means, type_stays}

breaks_not : (b : Bool) (n : ℕ) (span : Span) → breaks_if (not b) n span ≡ [] → b ≡ true
breaks_not true n span e = refl
breaks_not false n span e = absurd (true≢false (ap some e))
  where
    some : List Fault → Bool
    some [] = false
    some (x ∷ xs) = true

pub there : {A : Type 0} (o : Option A) → is_there o ≡ true → (a : A) × (o ≡ Some a)
there None e = absurd (true≢false (sym e))
there (Some a) e = (a, refl)

-- one type is bits as the other
same_sign : (a b : Bool) → same_bool a b ≡ true → a ≡ b
same_sign true true e = refl
same_sign true false e = absurd (true≢false (sym e))
same_sign false true e = absurd (true≢false (sym e))
same_sign false false e = refl

bits_as : (l : DslxType-F DslxType) (u : DslxType) (s : Bool) (w : ℕ) → out-DslxType u ≡ DslxType-F.Bits s w → same_type_step (map-DslxType DslxType (DslxType → Bool) same_type l) u ≡ true
    → bits_step l ≡ Some (record { signed = s; width = w })
bits_as (DslxType-F.Bits s' w') u s w is h =
    let q = both_true (same_bool s' s) (w' == w) (sym (ap (bits_are s' w') is) ∙ h) in
    λ i. Some (record { signed = same_sign s' s q.0 i; width = (Decides-eqb w' w).0 q.1 i })
bits_as (DslxType-F.Tuple ts) u s w is h = absurd (true≢false (sym h ∙ ap (tuple_is (map same_type ts)) is))
bits_as (DslxType-F.Array t n) u s w is h = absurd (true≢false (sym h ∙ ap (array_is (same_type t) n) is))
bits_as (DslxType-F.Struct name fields ts) u s w is h = absurd (true≢false (sym h ∙ ap (struct_is name) is))
bits_as (DslxType-F.Enum name s' w') u s w is h = absurd (true≢false (sym h ∙ ap (enum_is name) is))
bits_as DslxType-F.Token u s w is h = absurd (true≢false (sym h ∙ ap token_is is))

same_bits : (t u : DslxType) (k : BitKind) → same_type t u ≡ true → bits_in u ≡ Some k → bits_in t ≡ Some k
same_bits t u k h e = by (out-DslxType u) refl e
  where
    step : same_type_step (map-DslxType DslxType (DslxType → Bool) same_type (out-DslxType t)) u ≡ true
    step = sym (ap (λ f. f u) (fold_out-DslxType (DslxType → Bool) same_type_step t)) ∙ h

    by : (l : DslxType-F DslxType) → out-DslxType u ≡ l → bits_step l ≡ Some k → bits_in t ≡ Some k
    by (DslxType-F.Bits s w) is e = bits_as (out-DslxType t) u s w is step ∙ e
    by (DslxType-F.Tuple ts) is e = absurd (none-some k e)
    by (DslxType-F.Array x n) is e = absurd (none-some k e)
    by (DslxType-F.Struct name fields ts) is e = absurd (none-some k e)
    by (DslxType-F.Enum name s w) is e = absurd (none-some k e)
    by DslxType-F.Token is e = absurd (none-some k e)

-- a number that fits one of them has the same value as the other
same_number : (t u : DslxType) (number : UntypedLiteral) → same_type t u ≡ true → is_there (number_value u number) ≡ true → number_value u number ≡ number_value t number
same_number t u number h fits = by (bits_in u) refl fits
  where
    by : (o : Option BitKind) → bits_in u ≡ o → is_there (number_in o number) ≡ true → number_value u number ≡ number_value t number
    by None e fits = absurd (true≢false (sym fits))
    by (Some k) e fits = ap (λ o. number_in o number) (e ∙ sym (same_bits t u k h e))

pub record FineNumber (context : TypeEnv) (t u : DslxType) (number : UntypedLiteral) (own : Judgement) : Type 0 where
  pub ty : own.ty ≡ Some u
  pub faults : own.faults ≡ []
  pub same : same_type t u ≡ true

fine_number : (context : TypeEnv) (t : DslxType) (p : Pattern) (n : Number) → (out-Pattern p).shape ≡ roll-Shape (Shape-F.Shape::Number n) → IsFine context t p
    → (u : DslxType) × FineNumber context t u (literal_of n) (number_at (out-Pattern p).span n context)
fine_number context t p n is fine =
    let span : Span = (out-Pattern p).span in
    let own : Judgement = number_at span n context in
    let e = sym (pattern_number p true n is) in
    let faults : own.faults ++ shape_faults span (Some t) own.ty ++ [] ≡ [] = subst (λ (D : PatternFrom). (D context (Some t) fine.names fine.locals).faults ≡ []) e fine.faults in
    let known : is_there own.ty ≡ true = subst (λ (D : PatternFrom). (D context (Some t) fine.names fine.locals).is_known ≡ true) e fine.known in
    let both = nothing_both own.faults (shape_faults span (Some t) own.ty) (nothing_both (own.faults ++ shape_faults span (Some t) own.ty) [] faults).0 in
    let u = there own.ty known in
    (u.0, record { ty = u.1; faults = both.0; same = breaks_not (same_type t u.0) rule.PATTERN_FITS_TYPE span (sym (ap (shape_faults span (Some t)) u.1) ∙ both.1) })

pub number_known : (context : TypeEnv) (t : DslxType) (p : Pattern) (n : Number) → (out-Pattern p).shape ≡ roll-Shape (Shape-F.Shape::Number n) → IsFine context t p
    → (number_means n).value (constant_env context) ≡ number_value t (literal_of n)
number_known context t p n is fine = ap (λ (x : ExprDen). x.value (constant_env context)) (number_opened n) ∙ by (out-Number n).ty q.1.ty q.1.faults
  where
    span : Span
    span = (out-Pattern p).span

    number : UntypedLiteral
    number = literal_of n

    q : (u : DslxType) × FineNumber context t u number (number_at span n context)
    q = fine_number context t p n is fine

    own : Option TypeExpr → Judgement
    own o = number_typing span (written_typing context (option_map type_typed o)) number

    by : (o : Option TypeExpr) → (own o).ty ≡ Some q.0 → (own o).faults ≡ [] → (m.number_den (option_map written_type o) number).value (constant_env context) ≡ number_value t number
    by None e f = absurd (none-some q.0 (type_stays (breaks rule.NUMBER_HAS_TYPE span ∷ []) None q.0 e))
    by (Some te) e f =
        let j : Judgement = (type_typed te).1 context in
        let ty : j.ty ≡ Some q.0 = type_stays (j.faults ++ range_faults span j.ty number) j.ty q.0 e in
        let fits : is_there (number_value q.0 number) ≡ true =
        breaks_not (is_there (number_value q.0 number)) rule.NUMBER_FITS_TYPE span (sym (ap (λ o. range_faults span o number) ty) ∙ (nothing_both j.faults (range_faults span j.ty number) f).1) in
        ap (λ o. and_then o (λ t. number_value t number)) (type_means te context q.0 ty) ∙ same_number t q.0 number q.1.same fits
