-- Tuples and arrays have types.
use Rattle.std.proofs.Common.{◌≡◌, ◌||◌, ◌==◌, ◌++◌, ◌+◌, ◌-◌, ◌<◌, ◌≤◌, ℕ, zero, suc, Bool, true, false, not, if◌then◌else◌, List, [], ◌∷◌, map, length, Option, Some, None, refl, sym, ap, subst, ◌∙◌, arith, length-append}
use Rattle.std.specs.Prelude.{nat_le, nat_lt, slice_get}
use Rattle.std.specs.List.{list_all}
use Rattle.std.proofs.lemmas.Bool.Decides.{Decides-eqb, nat_tests}
use Rattle.std.proofs.lemmas.List.{append_assoc, append-nil}
use Rattle.xb_span.specs.declared.span.Span.{Span}
use Rattle.xb_value.specs.declared.ty.Ty.{Ty}
use Rattle.xb_value.specs.declared.ty.Ty as plain
use Rattle.dslx_meaning.specs.Environment.{Env}
use Rattle.dslx_meaning.specs.Lists.{all_some, and_then, repeated, where_true}
use Rattle.dslx_meaning.specs.Meaning.{denotation}
use Rattle.dslx_meaning.specs.Operators.{number_value}
use Rattle.dslx_meaning.specs.Types.{plain_type}
use Rattle.dslx_meaning.specs.Values.{type_of_value}
use Rattle.dslx_meaning.specs.declared.ty.DslxType.{DslxType, out-DslxType}
use Rattle.dslx_meaning.specs.declared.ty.DslxType as ty
use Rattle.dslx_meaning.specs.declared.value.DslxValue.{DslxValue}
use Rattle.dslx_meaning.specs.declared.value.UntypedLiteral.{UntypedLiteral}
use Rattle.dslx_meaning.specs.Rules.AggregateRules.{array_faults, array_in, element_alone, element_in, element_type, first_type_of, is_some_tuple, like_first, pair_alone, pair_or_alone, part_type, range_faults, tuple_element_typing, tuple_typing, typed_array, untyped_array, wanted_faults, when_all}
use Rattle.dslx_meaning.specs.Rules.ConstantRules.{is_empty, is_zero, untyped_typing}
use Rattle.dslx_meaning.specs.Rules.OperatorRules.{unless_type}
use Rattle.dslx_meaning.specs.Rules.PatternRules.{is_there}
use Rattle.dslx_meaning.specs.Rules.TypeEnvs.{ExprPair, Instance, Judgement, TypeEnv, alone, breaks_if, faults_of_all, no_token, one_and, reached_of_all, settled, size_of_all, span_of, type_limits, types_of, untyped_of, within}
use Rattle.dslx_meaning.specs.Rules.Typings.{TypeExprTyping}
use Rattle.dslx_core.proofs.Lemmas.Typing.Laws.{and_true}
use Rattle.dslx_core.proofs.Lemmas.Typing.Sound.{all_in, alone_well_typed, none_in, none_in_three, settled_well_typed}
use Rattle.dslx_core.proofs.Lemmas.Typing.Typed.{all_are, all_there, none_some, same_some}
use Rattle.dslx_core.specs.declared.expr.CoreExpr.{CoreExpr}
use Rattle.dslx_core.specs.declared.expr.CoreExpr as core
use Rattle.dslx_core.specs.declared.expr.Shape as shape
use Rattle.dslx_core.specs.Lowering.CoreScopes.{CoreScope}
use Rattle.dslx_core.specs.Lowering.EqualTypes.{equal_type}
use Rattle.dslx_core.specs.Lowering.Lowering.{LoweredExpr, cores_of, literal, lower_element, lower_number, lower_tuple, lowered, types_of_lowered}
use Rattle.dslx_core.specs.Lowering.Patterns.{ExprLowering}
use Rattle.dslx_core.specs.Lowering.Trees.{LoweredPair, TypeLowering, element_or_number, filled_array, lower_all, lower_array, lower_array_elements, lower_filled, of_type, slots_from}
use Rattle.dslx_core.specs.Typing.Typed.Complete.{IsWellTypedPart}
use Rattle.dslx_core.specs.Typing.Typed.WellTyped.{IsWellTypedEnv, types_at}
use Rattle.dslx_core.specs.Types.Typing.{FunctionTypes, Typing, binds_each, binds_types, core_type}
use Rattle.dslx_core.proofs.Lemmas.Types.{binds_bound, binds_tuple, parts_of, type_array, type_bind, type_slot}
use Rattle.dslx_total.proofs.Lemmas.Expressions.{LowersToType, array_is, settled_limits}
use Rattle.dslx_total.specs.Expressions.Beside.{ScopeMatchesEnv}
use Rattle.dslx_total.specs.Expressions.ExprLowering.{IsWide, reaching}
use Rattle.dslx_total.specs.Typed.Scopes.{IsTypedExpr, TypedIfThere, TypedScope, is_sound_type}
use Rattle.dslx_total.specs.Typed.Claims.{PartIsTyped}
use Rattle.dslx_total.proofs.OnTyped.OnConstructs.{AllOf, array_core, element_typed, literal_typed, tuple_core, tuple_typed}
use Rattle.dslx_total.proofs.OnTyped.OnLiterals.{EachIs, elements_are_alike}
use Rattle.dslx_total.proofs.OnTyped.OnOneType.{one_by_test}
use Rattle.dslx_total.proofs.OnTyped.OnOptions.{AllTyped, EachTypedIfThere, all_typed, then_typed, where_typed}
use Rattle.dslx_total.proofs.OnTyped.OnParts.{EachExprTyped, ExprTyped, alone_typed_to, elements_typed}
use Rattle.dslx_total.proofs.OnTyped.OnSound.{written_sound}
use Rattle.dslx_total.proofs.OnTyped.OnTypes.{plain_array, plain_tuple, positive, sound_array, sound_tuple}
use Rattle.dslx_total.proofs.OnTyped.OfNames.{number_owns}

-- a written type becomes what is known of it, and all bits in it have a width
pub record TypeTyped (j : TypeExprTyping) (l : TypeLowering) : Type 0 where
  pub lowers : (here : Instance → Bool) (context : TypeEnv) (env : Env) (scope : CoreScope) → IsWellTypedEnv context env → ScopeMatchesEnv here context scope → IsWellTypedPart (reaching context.known here) (j context)
      → LowersToType (types_at context) (j context) (l scope)
  pub wide : IsWide j

-- ---- tuples

pub typed_tuple : (span : Span) (es : List ExprPair) (xs : List LoweredPair) → EachExprTyped es xs → PartIsTyped (λ context. tuple_typing span context es) (λ scope. lower_tuple (lower_all scope xs))
typed_tuple span es xs k here context env scope fs ts h at scoped well_typed =
    let js = map (element_alone context) es in
    let s = settled_well_typed (reaching context.known here) span (and_then (all_some (types_of js)) (λ ts. Some (ty.Tuple ts))) (faults_of_all js) (reached_of_all js) (one_and (size_of_all js)) well_typed in
    tuple_typed fs ts (lower_all scope xs) (elements_typed here context env scope fs ts h at scoped es xs k s.faults s.reached)

-- a receive's pair stands as it is
abbrev pair_by : TypeEnv → ExprPair → Option DslxType → Judgement
pair_by context e None = within context e
pair_by context e (Some t) = if is_some_tuple (out-DslxType t) then within context e else no_token (span_of e) (within context e)

pair_well_typed : (here : Instance → Bool) (context : TypeEnv) (e : ExprPair) → IsWellTypedPart (reaching context.known here) (pair_alone context e) → IsWellTypedPart (reaching context.known here) (within context e)
pair_well_typed here context e well_typed = by_type (within context e).ty well_typed
  where
    by_test : (b : Bool) → IsWellTypedPart (reaching context.known here) (if b then within context e else no_token (span_of e) (within context e)) → IsWellTypedPart (reaching context.known here) (within context e)
    by_test true f = f
    by_test false f = (alone_well_typed (reaching context.known here) (span_of e) (within context e) f).well_typed

    by_type : (o : Option DslxType) → IsWellTypedPart (reaching context.known here) (pair_by context e o) → IsWellTypedPart (reaching context.known here) (within context e)
    by_type None f = f
    by_type (Some t) f = by_test (is_some_tuple (out-DslxType t)) f

taken_well_typed : (k : ℕ) (here : Instance → Bool) (context : TypeEnv) (e : ExprPair) → IsWellTypedPart (reaching context.known here) (pair_or_alone k context e) → IsWellTypedPart (reaching context.known here) (within context e)
taken_well_typed zero here context e f = pair_well_typed here context e f
taken_well_typed (suc zero) here context e f = pair_well_typed here context e f
taken_well_typed (suc (suc k)) here context e f = (alone_well_typed (reaching context.known here) (span_of e) (within context e) f).well_typed

element_if : (fs : FunctionTypes) (ts : List Ty) (o : Option LoweredExpr) (k : ℕ) → TypedIfThere fs ts o → TypedIfThere fs ts (lower_element o k)
element_if fs ts None k h = tt
element_if fs ts (Some e) k h = element_typed fs ts e k h

pub typed_element : (span : Span) (e : ExprPair) (k : ℕ) (x : ExprLowering) → ExprTyped e x → PartIsTyped (λ context. tuple_element_typing span context e k) (λ scope. lower_element (x scope) k)
typed_element span e k x se here context env scope fs ts h at scoped well_typed =
    let a = pair_or_alone k context e in
    let wrong = unless_type (λ t. is_there (part_type t k)) 19 span a.ty in
    let s = settled_well_typed (reaching context.known here) span (and_then a.ty (λ t. part_type t k)) (a.faults ++ wrong) a.reached (one_and a.size) well_typed in
    let f = none_in a.faults wrong s.faults in
    element_if fs ts (x scope) k (se.typed here context env scope fs ts h at scoped (taken_well_typed k here context e (record { faults = f.0; reached = s.reached })))

-- ---- arrays whose first element decides

abbrev elements_of : CoreScope → List LoweredPair → List (Option UntypedLiteral × Option LoweredExpr)
elements_of scope xs = map (λ (e : LoweredPair). ((denotation e.0).bare, e.1 scope)) xs

values_alone : (scope : CoreScope) (xs : List LoweredPair) → map (λ (e : Option UntypedLiteral × Option LoweredExpr). e.1) (elements_of scope xs) ≡ lower_all scope xs
values_alone scope [] = refl
values_alone scope (x ∷ xs) = ap (λ os. x.1 scope ∷ os) (values_alone scope xs)

some_many : (n : ℕ) → nat_lt 0 (suc n) ≡ true
some_many n = grind (arith, nat_tests)

module _ (fs : FunctionTypes) (ts : List Ty) where
  all_of_equal : (t : DslxType) (es : List LoweredExpr) → AllTyped fs ts es → list_all (λ (c : LoweredExpr). equal_type t c.ty) es ≡ true → AllOf fs ts t es
  all_of_equal t [] h e = tt
  all_of_equal t (c ∷ es) h e =
      let q = and_true (equal_type t c.ty) (list_all (λ (c : LoweredExpr). equal_type t c.ty) es) e in
      ((h.0, one_by_test t c.ty q.0), all_of_equal t es h.1 q.1)

  array_elements_typed : (es : List LoweredExpr) → AllTyped fs ts es → TypedIfThere fs ts (lower_array_elements es)
  array_elements_typed [] h = tt
  array_elements_typed (e ∷ es) h =
      where_typed fs ts (list_all (λ (c : LoweredExpr). equal_type e.ty c.ty) es) (lowered (core.Array (cores_of (e ∷ es))) (ty.Array e.ty (suc (length es))))
      (λ same. array_core fs ts (e ∷ es) e.ty (suc (length es)) ((h.0, refl), all_of_equal e.ty es h.1 same) refl (sound_array e.ty (suc (length es)) ∙ h.0.sound) (some_many (length es)))

  untyped_array_typed : (count : ℕ) (os : List (Option UntypedLiteral × Option LoweredExpr)) (dots : Bool) → EachTypedIfThere fs ts (map (λ (e : Option UntypedLiteral × Option LoweredExpr). e.1) os) → TypedIfThere fs ts (lower_array count None os dots)
  untyped_array_typed count os true h = tt
  untyped_array_typed count os false h =
      then_typed fs ts (all_some (map (λ (e : Option UntypedLiteral × Option LoweredExpr). e.1) os)) lower_array_elements
      (λ es is. array_elements_typed es (all_typed fs ts (map (λ (e : Option UntypedLiteral × Option LoweredExpr). e.1) os) es h is))

pub typed_untyped : (span : Span) (es : List ExprPair) (dots : Bool) (xs : List LoweredPair) → EachExprTyped es xs → PartIsTyped (λ context. untyped_array span context es dots) (λ scope. lower_array scope.count None (elements_of scope xs) dots)
typed_untyped span es dots xs k here context env scope fs ts h at scoped well_typed =
    let js = map (element_alone context) es in
    let own = when_all (types_of js) (and_then (first_type_of (types_of js)) (λ t. Some (ty.Array t (length es)))) in
    let like = like_first (first_type_of (types_of js)) es (types_of js) in
    let wrong = breaks_if (dots || is_empty es) 21 span in
    let s = settled_well_typed (reaching context.known here) span own ((faults_of_all js ++ like) ++ wrong) (reached_of_all js) (one_and (size_of_all js)) well_typed in
    let f = none_in_three (faults_of_all js) like wrong s.faults in
    untyped_array_typed fs ts scope.count (elements_of scope xs) dots (subst (EachTypedIfThere fs ts) (sym (values_alone scope xs)) (elements_typed here context env scope fs ts h at scoped es xs k f.0 s.reached))

-- ---- arrays with a type

-- an element of this type, where it is there
abbrev OfIfThere : FunctionTypes → List Ty → DslxType → Option LoweredExpr → Type 0
OfIfThere fs ts w None = Unit {0}
OfIfThere fs ts w (Some e) = IsTypedExpr fs ts e × (w ≡ e.ty)

abbrev EachOfIfThere : FunctionTypes → List Ty → DslxType → List (Option LoweredExpr) → Type 0
EachOfIfThere fs ts w [] = Unit {0}
EachOfIfThere fs ts w (o ∷ os) = OfIfThere fs ts w o × EachOfIfThere fs ts w os

module _ (fs : FunctionTypes) (ts : List Ty) (w : DslxType) where
  by_test : (b : Bool) (e : LoweredExpr) → IsTypedExpr fs ts e → (b ≡ true → w ≡ e.ty) → OfIfThere fs ts w (where_true b (Some e))
  by_test true e h k = (h, k refl)
  by_test false e h k = tt

  of_type_typed : (o : Option LoweredExpr) → TypedIfThere fs ts o → OfIfThere fs ts w (of_type w o)
  of_type_typed None h = tt
  of_type_typed (Some e) h = by_test (equal_type w e.ty) e h (one_by_test w e.ty)

  number_typed : (number : UntypedLiteral) → is_sound_type w ≡ true → OfIfThere fs ts w (of_type w (lower_number (Some w) number))
  number_typed number sound = by_value (number_value w number) refl
    where
      by_equal : (v : DslxValue) → number_value w number ≡ Some v → (b : Bool) → equal_type w (type_of_value v) ≡ b → OfIfThere fs ts w (where_true b (literal v))
      by_equal v q true e =
          let same = one_by_test w (type_of_value v) e in
          (literal_typed fs ts v (record { own = number_owns w number v q; sound = ap is_sound_type (sym same) ∙ sound }), same)
      by_equal v q false e = tt

      by_value : (o : Option DslxValue) → number_value w number ≡ o → OfIfThere fs ts w (of_type w (and_then o literal))
      by_value None q = tt
      by_value (Some v) q = by_equal v q (equal_type w (type_of_value v)) refl

  all_of : (us : List LoweredExpr) → EachOfIfThere fs ts w (map Some us) → AllOf fs ts w us
  all_of [] h = tt
  all_of (u ∷ us) h = (h.0, all_of us h.1)

  all_of_there : (os : List (Option LoweredExpr)) (us : List LoweredExpr) → EachOfIfThere fs ts w os → all_some os ≡ Some us → AllOf fs ts w us
  all_of_there os us h is = all_of us (subst (EachOfIfThere fs ts w) (all_there os us is) h)

  all_typed_of : (us : List LoweredExpr) → AllOf fs ts w us → AllTyped fs ts us
  all_typed_of [] h = tt
  all_typed_of (u ∷ us) h = (h.0.0, all_typed_of us h.1)

-- ---- arrays whose last element is repeated

-- all parts of a tuple are bound
all_bound : (es : List LoweredExpr) (ps ts : List Ty) → length ps ≡ length es → binds_each (map (binds_types true) (map (λ (e : LoweredExpr). shape.Bound) es)) ps ts ≡ Some (ts ++ ps)
all_bound [] [] ts e = ap Some (sym (append-nil ts))
all_bound [] (p ∷ ps) ts e = absurd (omega (arith, e))
all_bound (c ∷ es) [] ts e = absurd (omega (arith, e))
all_bound (c ∷ es) (p ∷ ps) ts e =
    let rest : length ps ≡ length es = omega (arith, e) in
    ap (λ q. and_then (q p ts) (binds_each (map (binds_types true) (map (λ (e : LoweredExpr). shape.Bound) es)) ps)) (binds_bound true)
    ∙ all_bound es ps (ts ++ p ∷ []) rest ∙ ap Some (append_assoc ts (p ∷ []) ps)

-- what stands behind others
get_behind : (ts ps : List Ty) (k : ℕ) (t : Ty) → slice_get ps k ≡ Some t → slice_get (ts ++ ps) (length ts + k) ≡ Some t
get_behind [] ps k t h = let own : 0 + k ≡ k = omega arith in ap (slice_get ps) own ∙ h
get_behind (u ∷ ts) ps k t h = let more : suc (length ts) + k ≡ suc (length ts + k) = omega arith in ap (slice_get (u ∷ (ts ++ ps))) more ∙ get_behind ts ps k t h

all_one : (fs : FunctionTypes) (ts : List Ty) (w : DslxType) (us : List LoweredExpr) → AllOf fs ts w us → (k : ℕ) → k < length us → slice_get (map plain_type (types_of_lowered us)) k ≡ Some (plain_type w)
all_one fs ts w [] h k less = absurd (omega (arith, less))
all_one fs ts w (u ∷ us) h zero less = ap (λ t. Some (plain_type t)) (sym h.0.1)
all_one fs ts w (u ∷ us) h (suc k) less = all_one fs ts w us h.1 k (omega (arith, less))

slot_is : (fs : FunctionTypes) (all : List Ty) (k : ℕ) (p : Ty) → slice_get all k ≡ Some p → core_type (core.Slot k) fs all ≡ Some p
slot_is fs all k p h = ap (λ (q : Typing). q fs all) (type_slot k) ∙ h

slots_are : (fs : FunctionTypes) (all : List Ty) (p : Ty) (n : ℕ) (es : List LoweredExpr) → ((k : ℕ) → k < length es → slice_get all (n + k) ≡ Some p) → EachIs p (map (λ (q : Typing). q fs all) (map core_type (slots_from n es)))
slots_are fs all p n [] h = tt
slots_are fs all p n (e ∷ es) h = (
  slot_is fs all n p (ap (slice_get all) (omega arith) ∙ h 0 (omega arith)),
  slots_are fs all p (suc n) es (λ k less. ap (slice_get all) (omega arith) ∙ h (suc k) (omega (arith, less))),
)

repeated_are : (fs : FunctionTypes) (all : List Ty) (p : Ty) (m k : ℕ) → slice_get all k ≡ Some p → EachIs p (map (λ (q : Typing). q fs all) (map core_type (repeated m (core.Slot k))))
repeated_are fs all p zero k h = tt
repeated_are fs all p (suc m) k h = (slot_is fs all k p h, repeated_are fs all p m k h)

both_are : (fs : FunctionTypes) (all : List Ty) (p : Ty) (xs ys : List CoreExpr) → EachIs p (map (λ (q : Typing). q fs all) (map core_type xs)) → EachIs p (map (λ (q : Typing). q fs all) (map core_type ys))
    → EachIs p (map (λ (q : Typing). q fs all) (map core_type (xs ++ ys)))
both_are fs all p [] ys h k = k
both_are fs all p (x ∷ xs) ys h k = (h.0, both_are fs all p xs ys h.1 k)

as_many : (fs : FunctionTypes) (all : List Ty) (xs : List CoreExpr) → length (map (λ (q : Typing). q fs all) (map core_type xs)) ≡ length xs
as_many fs all [] = refl
as_many fs all (x ∷ xs) = ap suc (as_many fs all xs)

slots_many : (n : ℕ) (es : List LoweredExpr) → length (slots_from n es) ≡ length es
slots_many n [] = refl
slots_many n (e ∷ es) = ap suc (slots_many (suc n) es)

repeated_many : (m : ℕ) (x : CoreExpr) → length (repeated m x) ≡ m
repeated_many zero x = refl
repeated_many (suc m) x = ap suc (repeated_many m x)

types_many : (us : List LoweredExpr) → length (map plain_type (types_of_lowered us)) ≡ length us
types_many [] = refl
types_many (u ∷ us) = ap suc (types_many us)

filled_many : (n k : ℕ) (xs ys : List CoreExpr) → length xs ≡ suc k → length ys ≡ n - suc k → suc k ≤ n → length (xs ++ ys) ≡ n
filled_many n k xs ys a b few = let sum = length-append xs ys in omega (arith, sum, a, b, few)

filled_typed : (fs : FunctionTypes) (ts : List Ty) (w : DslxType) (n : ℕ) (u : LoweredExpr) (us : List LoweredExpr) → AllOf fs ts w (u ∷ us) → suc (length us) ≤ n → is_sound_type (ty.Array w n) ≡ true → nat_lt 0 n ≡ true
    → IsTypedExpr fs ts (record { core = filled_array (length ts) n u us; ty = ty.Array w n })
filled_typed fs ts w n u us h few sound some =
    let es = u ∷ us in
    let ps = map plain_type (types_of_lowered es) in
    let all = ts ++ ps in
    let slots = slots_from (length ts) es in
    let others = repeated (n - suc (length us)) (core.Slot (length ts + length us)) in
    let whole = tuple_core fs ts es (ty.Tuple (types_of_lowered es)) (all_typed_of fs ts w es h) (plain_tuple (types_of_lowered es)) (sound_tuple (types_of_lowered es)) in
    let first = slots_are fs all (plain_type w) (length ts) es (λ k less. get_behind ts ps k (plain_type w) (all_one fs ts w es h k less)) in
    let last = repeated_are fs all (plain_type w) (n - suc (length us)) (length ts + length us) (get_behind ts ps (length us) (plain_type w) (all_one fs ts w es h (length us) (omega arith))) in
    record {
      core = ap (λ (q : Typing). q fs ts) (type_bind (core.Tuple (cores_of es)) (shape.Tuple (map (λ (e : LoweredExpr). shape.Bound) es)) (core.Array (slots ++ others)))
          ∙ ap (λ o. and_then o (λ t. and_then (binds_types true (shape.Tuple (map (λ (e : LoweredExpr). shape.Bound) es)) t ts) (core_type (core.Array (slots ++ others)) fs))) (whole.core ∙ ap Some (plain_tuple (types_of_lowered es)))
          ∙ ap (λ q. and_then (q (plain.Tuple ps) ts) (core_type (core.Array (slots ++ others)) fs)) (binds_tuple true (map (λ (e : LoweredExpr). shape.Bound) es))
          ∙ ap (λ o. and_then (and_then o (λ us. binds_each (map (binds_types true) (map (λ (e : LoweredExpr). shape.Bound) es)) us ts)) (core_type (core.Array (slots ++ others)) fs)) (parts_of ps)
          ∙ ap (λ o. and_then o (core_type (core.Array (slots ++ others)) fs)) (all_bound es ps ts (types_many es))
          ∙ ap (λ (q : Typing). q fs all) (type_array (slots ++ others))
          ∙ elements_are_alike (plain_type w) (map (λ (q : Typing). q fs all) (map core_type (slots ++ others))) n (both_are fs all (plain_type w) slots others first last)
          (as_many fs all (slots ++ others) ∙ filled_many n (length us) slots others (slots_many (length ts) es) (repeated_many (n - suc (length us)) (core.Slot (length ts + length us))) few) some
          ∙ ap Some (sym (plain_array w n));
      sound = sound;
    }

array_filled : (fs : FunctionTypes) (ts : List Ty) (w : DslxType) (n count : ℕ) (dots : Bool) (us : List LoweredExpr) → AllOf fs ts w us → length ts ≡ count → is_sound_type (ty.Array w n) ≡ true → TypedIfThere fs ts (lower_filled count w dots n us)
array_filled fs ts w n count dots [] h at sound = tt
array_filled fs ts w n count false (u ∷ us) h at sound =
    where_typed fs ts (suc (length us) == n) (lowered (core.Array (cores_of (u ∷ us))) (ty.Array w n))
    (λ many. array_core fs ts (u ∷ us) w n h ((Decides-eqb (suc (length us)) n).0 many) sound (positive n (and_true (not (is_zero n)) (is_sound_type w) (sym (sound_array w n) ∙ sound)).0))
array_filled fs ts w n count true (u ∷ us) h at sound =
    where_typed fs ts (nat_le (suc (length us)) n) (lowered (filled_array count n u us) (ty.Array w n))
    (λ many.
    let few : suc (length us) ≤ n = grind (arith, nat_tests, many) in
    subst (λ k. IsTypedExpr fs ts (record { core = filled_array k n u us; ty = ty.Array w n })) at
    (filled_typed fs ts w n u us h few sound (positive n (and_true (not (is_zero n)) (is_sound_type w) (sym (sound_array w n) ∙ sound)).0)))

-- ---- elements by their types

-- an element that may be a number without a type
abbrev element_by : TypeEnv → DslxType → ExprPair → Option UntypedLiteral → Judgement
element_by context w e None = record (alone context e) { faults = (alone context e).faults ++ wanted_faults (span_of e) (Some w) (alone context e).ty }
element_by context w e (Some number) = record untyped_typing { ty = Some w; faults = range_faults (span_of e) (Some w) number }

abbrev typed_elements : DslxType → List (Option UntypedLiteral × Option LoweredExpr) → List (Option LoweredExpr)
typed_elements w es = map (λ (e : Option UntypedLiteral × Option LoweredExpr). element_or_number w e.0 e.1) es

module _ (here : Instance → Bool) (context : TypeEnv) (env : Env) (scope : CoreScope) (fs : FunctionTypes) (ts : List Ty) (h : IsWellTypedEnv context env) (at : ScopeMatchesEnv here context scope) (scoped : TypedScope fs ts scope) (w : DslxType) where
  one_type_there : (e : ExprPair) (l : ExprLowering) → ExprTyped e l → (o : Option UntypedLiteral) → IsWellTypedPart (reaching context.known here) (element_by context w e o) → (u : DslxType) × ((element_by context w e o).ty ≡ Some u)
  one_type_there e l s None well_typed =
      let a = alone context e in
      let g = alone_typed_to here context env scope fs ts h at scoped e l s (none_in a.faults (wanted_faults (span_of e) (Some w) a.ty) well_typed.faults).0 well_typed.reached in
      (g.expr.ty, g.typed)
  one_type_there e l s (Some number) well_typed = (w, refl)

  types_there : (es : List ExprPair) (xs : List LoweredPair) → EachExprTyped es xs → faults_of_all (map (element_in context (Some w)) es) ≡ [] → list_all here (reached_of_all (map (element_in context (Some w)) es)) ≡ true
      → (us : List DslxType) × (types_of (map (element_in context (Some w)) es) ≡ map Some us)
  types_there [] [] k f r = ([], refl)
  types_there [] (x ∷ xs) k f r = absurd k
  types_there (e ∷ es) [] k f r = absurd k
  types_there (e ∷ es) (x ∷ xs) k f r =
      let j = element_in context (Some w) e in
      let p = none_in j.faults (faults_of_all (map (element_in context (Some w)) es)) f in
      let q = all_in here j.reached (reached_of_all (map (element_in context (Some w)) es)) r in
      let one = one_type_there e x.1 k.1 (untyped_of e) (record { faults = p.0; reached = q.0 }) in
      let more = types_there es xs k.2 p.1 q.1 in
      (one.0 ∷ more.0, λ i. one.1 i ∷ more.1 i)

  one_element : (e : ExprPair) (l : ExprLowering) → ExprTyped e l → is_sound_type w ≡ true → (o : Option UntypedLiteral) → IsWellTypedPart (reaching context.known here) (element_by context w e o) → OfIfThere fs ts w (element_or_number w o (l scope))
  one_element e l s sound None well_typed =
      let a = alone context e in
      let f = (none_in a.faults (wanted_faults (span_of e) (Some w) a.ty) well_typed.faults).0 in
      of_type_typed fs ts w (l scope) (s.typed here context env scope fs ts h at scoped (alone_well_typed (reaching context.known here) (span_of e) (within context e) (record { faults = f; reached = well_typed.reached })).well_typed)
  one_element e l s sound (Some number) well_typed = number_typed fs ts w number sound

  all_elements : (es : List ExprPair) (xs : List LoweredPair) → EachExprTyped es xs → is_sound_type w ≡ true → faults_of_all (map (element_in context (Some w)) es) ≡ [] → list_all here (reached_of_all (map (element_in context (Some w)) es)) ≡ true
      → EachOfIfThere fs ts w (typed_elements w (elements_of scope xs))
  all_elements [] [] k sound f r = tt
  all_elements [] (x ∷ xs) k sound f r = absurd k
  all_elements (e ∷ es) [] k sound f r = absurd k
  all_elements (e ∷ es) (x ∷ xs) k sound f r =
      let j = element_in context (Some w) e in
      let p = none_in j.faults (faults_of_all (map (element_in context (Some w)) es)) f in
      let q = all_in here j.reached (reached_of_all (map (element_in context (Some w)) es)) r in (
        subst (λ t. OfIfThere fs ts w (element_or_number w (denotation t).bare (x.1 scope))) k.0 (one_element e x.1 k.1 sound (untyped_of e) (record { faults = p.0; reached = q.0 })),
        all_elements es xs k.2 sound p.1 q.1,
      )

pub typed_typed : (span : Span) (j : TypeExprTyping) (l : TypeLowering) (es : List ExprPair) (dots : Bool) (xs : List LoweredPair) → TypeTyped j l → EachExprTyped es xs
    → PartIsTyped (λ context. typed_array span context (j context) es dots) (λ scope. lower_array scope.count (Some (l scope)) (elements_of scope xs) dots)
typed_typed span j l es dots xs st k here context env scope fs ts h at scoped well_typed =
    then_typed fs ts (and_then (l scope) array_in) (λ parts. and_then (all_some (typed_elements parts.0 (elements_of scope xs))) (lower_filled scope.count parts.0 dots parts.1))
    (λ parts q. by_parts parts q (and_then (j context).ty array_in) refl well_typed)
  where
    typing_by : Option (DslxType × ℕ) → Judgement
    typing_by parts =
        let js = map (element_in context (element_type parts)) es in
        settled span (when_all (types_of js) (j context).ty) (((j context).faults ++ faults_of_all js) ++ array_faults span (j context).ty parts (length es) dots) ((j context).reached ++ reached_of_all js) (one_and (size_of_all js))

    by_parts : (parts : DslxType × ℕ) → and_then (l scope) array_in ≡ Some parts → (o : Option (DslxType × ℕ)) → and_then (j context).ty array_in ≡ o → IsWellTypedPart (reaching context.known here) (typing_by o)
        → TypedIfThere fs ts (and_then (all_some (typed_elements parts.0 (elements_of scope xs))) (lower_filled scope.count parts.0 dots parts.1))
    by_parts parts q None r g =
        let js = map (element_in context None) es in
        let wrong = array_faults span (j context).ty None (length es) dots in
        let s = settled_well_typed (reaching context.known here) span (when_all (types_of js) (j context).ty) (((j context).faults ++ faults_of_all js) ++ wrong) ((j context).reached ++ reached_of_all js) (one_and (size_of_all js)) g in
        let p = none_in_three (j context).faults (faults_of_all js) wrong s.faults in
        let z = all_in here (j context).reached (reached_of_all js) s.reached in
        let t = st.lowers here context env scope h at (record { faults = p.0; reached = z.0 }) in
        none_some parts (sym r ∙ ap (λ o. and_then o array_in) (t.typed ∙ sym t.is) ∙ q)
    by_parts parts q (Some found) r g =
        let js = map (element_in context (Some found.0)) es in
        let wrong = array_faults span (j context).ty (Some found) (length es) dots in
        let own = when_all (types_of js) (j context).ty in
        let faults = ((j context).faults ++ faults_of_all js) ++ wrong in
        let reached = (j context).reached ++ reached_of_all js in
        let s = settled_well_typed (reaching context.known here) span own faults reached (one_and (size_of_all js)) g in
        let p = none_in_three (j context).faults (faults_of_all js) wrong s.faults in
        let z = all_in here (j context).reached (reached_of_all js) s.reached in
        let t = st.lowers here context env scope h at (record { faults = p.0; reached = z.0 }) in
        let same : found ≡ parts = same_some found parts (sym r ∙ ap (λ o. and_then o array_in) (t.typed ∙ sym t.is) ∙ q) in
        let array = array_is t.ty found (sym (ap (λ o. and_then o array_in) t.typed) ∙ r) in
        let types = types_there here context env scope fs ts h at scoped found.0 es xs k p.1 z.1 in
        let is : own ≡ Some t.ty = (λ i. when_all (types.1 i) (t.typed i)) ∙ ap (λ o. and_then o (λ ts. Some t.ty)) (all_are types.0) in
        let limits = sym (ap (type_limits span.to) is) ∙ settled_limits span own faults reached (one_and (size_of_all js)) g.faults in
        let sound = written_sound (types_at context) h.known.parts span.to t.ty (st.wide context at.widths t.ty t.typed) t.declared limits in
        let whole = ap is_sound_type array ∙ sound in
        let element = (and_true (not (is_zero found.1)) (is_sound_type found.0) (sym (sound_array found.0 found.1) ∙ whole)).1 in
        subst (λ (parts : DslxType × ℕ). TypedIfThere fs ts (and_then (all_some (typed_elements parts.0 (elements_of scope xs))) (lower_filled scope.count parts.0 dots parts.1))) same
        (then_typed fs ts (all_some (typed_elements found.0 (elements_of scope xs))) (lower_filled scope.count found.0 dots found.1)
        (λ us there. array_filled fs ts found.0 found.1 scope.count dots us
        (all_of_there fs ts found.0 (typed_elements found.0 (elements_of scope xs)) us (all_elements here context env scope fs ts h at scoped found.0 es xs k element p.1 z.1) there) scoped.count whole))
