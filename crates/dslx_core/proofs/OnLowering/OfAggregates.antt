-- Arrays and structs mean the same as what stands for them.
use Rattle.std.proofs.Common.{◌≡◌, ◌&&◌, ◌==◌, ◌++◌, ◌-◌, ℕ, suc, length, Bool, true, false, not, if◌then◌else◌, List, [], ◌∷◌, map, Option, Some, None, refl, sym, ap, subst, ◌∙◌}
use mathlib.Core.Bool.{true≢false}
use Rattle.std.specs.Prelude.{nat_le, nat_lt, option_map, slice_get}
use Rattle.std.specs.Str.{bytes_eq}
use Rattle.std.specs.List.{list_all}
use Rattle.std.proofs.lemmas.Bool.Decides.{Decides-eqb}
use Rattle.std.proofs.lemmas.Slice.Eq.{bytes_eq-Decides}
use Rattle.xb_value.specs.declared.value.Value.{Value}
use Rattle.xb_value.specs.declared.value.Value as plain
use Rattle.dslx_meaning.specs.Lists.{all_some, and_then, is_in, last_of, repeated, where_true}
use Rattle.dslx_meaning.specs.Values.{plain_value}
use Rattle.dslx_meaning.specs.Operators.{number_value}
use Rattle.dslx_meaning.specs.Environment.{Given, Env}
use Rattle.dslx_meaning.specs.Meaning.{ValueDen, FieldDen, field_from, field_given, field_of, field_written, filled, struct_at}
use Rattle.dslx_meaning.specs.declared.ty.DslxType.{DslxType, out-DslxType}
use Rattle.dslx_meaning.specs.declared.ty.DslxType as ty
use Rattle.dslx_meaning.specs.declared.ty.DslxType.TheOpen.{DslxType-F}
use Rattle.dslx_meaning.specs.declared.value.UntypedLiteral.{UntypedLiteral}
use Rattle.dslx_meaning.specs.declared.value.DslxValue.{DslxValue}
use Rattle.dslx_meaning.specs.declared.value.DslxValue as value
use Rattle.dslx_meaning.specs.declared.value.DslxValue.TheViews as views
use Rattle.dslx_meaning.specs.Rules.AggregateRules.{array_in, array_parts}
use Rattle.dslx_core.proofs.Lemmas.Typing.Laws.{and_true}
use Rattle.dslx_core.specs.Typing.Typed.Kinds.{each_of, is_of, same_names, struct_of}
use Rattle.dslx_core.proofs.Lemmas.Typing.Typed.{none_some, of_struct, same_some}
use Rattle.dslx_core.specs.CoreValues.{Bindings, Functions, core_value, taken_apart}
use Rattle.dslx_core.specs.declared.expr.CoreExpr as core
use Rattle.dslx_core.specs.declared.expr.Shape as shape
use Rattle.dslx_core.specs.Lowering.CoreScopes.{CoreScope, with_unnamed}
use Rattle.dslx_core.specs.Lowering.EqualTypes.{equal_type}
use Rattle.dslx_core.specs.Lowering.Lowering.{LoweredExpr, cores_of, lower_field, field_index, lowered, lower_number, types_of_lowered}
use Rattle.dslx_core.specs.Lowering.Patterns.{ExprLowering}
use Rattle.dslx_core.specs.Lowering.Trees.{FieldLowering, lower_array, element_or_number, lower_array_elements, field_or_other, lower_fields, filled_array, lower_filled, names_written, of_type, lower_struct_in, value_written, with_others, without_others}
use Rattle.dslx_core.specs.Lowering.Correspondence.{HasPlainValue, KeepsValue, LowerPreserves, SimulatesInScope, env_at}
use Rattle.dslx_core.proofs.OnLowering.Kept.{from_both, from_then, from_where, kept_as, value_as}
use Rattle.dslx_core.proofs.OnLowering.Lists.{AllHave, EachKeeps, EachThere, all_have, all_of, all_values, each_there}
use Rattle.dslx_core.proofs.OnLowering.OfCalls.{array_of_elements}
use Rattle.dslx_core.proofs.OnLowering.OfDots.{filled_kept}
use Rattle.dslx_core.proofs.OnLowering.OfNames.{globals_keep, number_own}
use Rattle.dslx_core.proofs.OnLowering.OfParts.{field_kept}
use Rattle.dslx_core.proofs.OnLowering.OneType.{one_by_test}
use Rattle.dslx_core.proofs.OnLowering.Openings.{core_array, core_bind, core_slot, core_tuple, plain_array, plain_struct, shape_bound}
use Rattle.dslx_core.proofs.OnLowering.Slots.{at_end, unnamed_simulates}

-- ---- arrays

abbrev AllTyped : DslxType → List LoweredExpr → Type 0
AllTyped t [] = Unit {0}
AllTyped t (e ∷ es) = (t ≡ e.ty) × AllTyped t es

typed_alike : (t : DslxType) (es : List LoweredExpr) → list_all (λ (c : LoweredExpr). equal_type t c.ty) es ≡ true → AllTyped t es
typed_alike t [] h = tt
typed_alike t (e ∷ es) h = let q = and_true (equal_type t e.ty) (list_all (λ (c : LoweredExpr). equal_type t c.ty) es) h in (one_by_test t e.ty q.0, typed_alike t es q.1)

-- values of expressions of one type
all_of_one : (calls : Functions) (bound : Bindings) (t : DslxType) (es : List LoweredExpr) (vs : List DslxValue) → AllHave calls bound es vs → AllTyped t es → list_all (is_of t) vs ≡ true
all_of_one calls bound t [] [] h k = refl
all_of_one calls bound t [] (v ∷ vs) h k = absurd h
all_of_one calls bound t (e ∷ es) [] h k = absurd h
all_of_one calls bound t (e ∷ es) (v ∷ vs) h k = ap (λ b. b && list_all (is_of t) vs) (ap (λ u. is_of u v) k.0 ∙ h.0.of) ∙ all_of_one calls bound t es vs h.1 k.1

as_many : (calls : Functions) (bound : Bindings) (es : List LoweredExpr) (vs : List DslxValue) → AllHave calls bound es vs → length es ≡ length vs
as_many calls bound [] [] h = refl
as_many calls bound [] (v ∷ vs) h = absurd h
as_many calls bound (e ∷ es) [] h = absurd h
as_many calls bound (e ∷ es) (v ∷ vs) h = ap suc (as_many calls bound es vs h.1)

array_kept : (calls : Functions) (bound : Bindings) (t : DslxType) (e : LoweredExpr) (es : List LoweredExpr) (vs : List DslxValue) → AllHave calls bound (e ∷ es) vs → AllTyped t (e ∷ es)
    → HasPlainValue (record { core = core.Array (cores_of (e ∷ es)); ty = ty.Array t (suc (length es)) }) calls bound (value.Array vs)
array_kept calls bound t e es vs h typed = record {
  of = array_of_elements t (suc (length es)) vs refl (as_many calls bound (e ∷ es) vs h) (all_of_one calls bound t (e ∷ es) vs h typed);
  core =
      ap (λ f. f calls bound) (core_array (cores_of (e ∷ es))) ∙ ap (λ o. and_then o (λ vs. Some (plain.Array vs))) (all_values calls bound (e ∷ es) vs h) ∙ ap Some (sym (plain_array vs));
}

-- without a type
pub untyped_keeps : (calls : Functions) (bound : Bindings) (es : List (Option UntypedLiteral × Option LoweredExpr)) (os : List (Option DslxValue)) (dots : Bool)
    → EachKeeps calls bound (map (λ (e : Option UntypedLiteral × Option LoweredExpr). e.1) es) os → (count : ℕ) → KeepsValue calls bound (lower_array count None es dots) (and_then (all_some os) (λ vs. Some (value.Array vs)))
untyped_keeps calls bound es os true h count e k r g = none_some e k
untyped_keeps calls bound es os false h count e k r g =
    let cs = from_then (all_some (map (λ (e : Option UntypedLiteral × Option LoweredExpr). e.1) es)) lower_array_elements e k in
    let vs = from_then (all_some os) (λ vs. Some (value.Array vs)) r g in
    value_as calls bound e (value.Array vs.0) r vs.2
    (by_elements cs.0 vs.0 (all_have calls bound (map (λ (e : Option UntypedLiteral × Option LoweredExpr). e.1) es) os cs.0 vs.0 h cs.1 vs.1) cs.2)
  where
    by_elements : (cs : List LoweredExpr) (vs : List DslxValue) → AllHave calls bound cs vs → lower_array_elements cs ≡ Some e → HasPlainValue e calls bound (value.Array vs)
    by_elements [] vs have low = none_some e low
    by_elements (c ∷ cs) vs have low =
        let q = from_where (list_all (λ (d : LoweredExpr). equal_type c.ty d.ty) cs) (lowered (core.Array (cores_of (c ∷ cs))) (ty.Array c.ty (suc (length cs)))) e low in
        kept_as calls bound (value.Array vs) (record { core = core.Array (cores_of (c ∷ cs)); ty = ty.Array c.ty (suc (length cs)) }) e q.1
        (array_kept calls bound c.ty c cs vs have (refl, typed_alike c.ty cs q.0))

-- an element, by the number that it may be
abbrev pub element_by : DslxType → Option UntypedLiteral → Option DslxValue → Option DslxValue
element_by t None o = o
element_by t (Some number) o = number_value t number

pub of_its_type : (t : DslxType) (l : Option LoweredExpr) (e : LoweredExpr) → of_type t l ≡ Some e → (l ≡ Some e) × (t ≡ e.ty)
of_its_type t l e h =
    let a = from_then l (λ e. where_true (equal_type t e.ty) (Some e)) e h in
    let q = from_where (equal_type t a.0.ty) (Some a.0) e a.2 in
    (a.1 ∙ q.1, one_by_test t a.0.ty q.0 ∙ ap (λ (x : LoweredExpr). x.ty) (same_some a.0 e q.1))

element_keeps_type : (calls : Functions) (bound : Bindings) (t : DslxType) (bare : Option UntypedLiteral) (l : Option LoweredExpr) (o : Option DslxValue) → KeepsValue calls bound l o
    → KeepsValue calls bound (element_or_number t bare l) (element_by t bare o)
element_keeps_type calls bound t None l o h e k = h e (of_its_type t l e k).0
element_keeps_type calls bound t (Some number) l o h e k =
    globals_keep calls bound (number_value t number) (number_own t number) e (of_its_type t (lower_number (Some t) number) e k).0

abbrev pub lower_elements : DslxType → List (Option UntypedLiteral × Option LoweredExpr) → List (Option LoweredExpr)
lower_elements t es = map (λ (e : Option UntypedLiteral × Option LoweredExpr). element_or_number t e.0 e.1) es

abbrev pub mean_elements : DslxType → List (Option UntypedLiteral × Option LoweredExpr) → List (Option DslxValue) → List (Option DslxValue)
mean_elements t [] os = []
mean_elements t (e ∷ es) [] = []
mean_elements t (e ∷ es) (o ∷ os) = element_by t e.0 o ∷ mean_elements t es os

each_keeps_type : (calls : Functions) (bound : Bindings) (t : DslxType) (es : List (Option UntypedLiteral × Option LoweredExpr)) (os : List (Option DslxValue))
    → EachKeeps calls bound (map (λ (e : Option UntypedLiteral × Option LoweredExpr). e.1) es) os → EachKeeps calls bound (lower_elements t es) (mean_elements t es os)
each_keeps_type calls bound t [] [] h = tt
each_keeps_type calls bound t [] (o ∷ os) h = absurd h
each_keeps_type calls bound t (e ∷ es) [] h = absurd h
each_keeps_type calls bound t (e ∷ es) (o ∷ os) h = (element_keeps_type calls bound t e.0 e.1 o h.0, each_keeps_type calls bound t es os h.1)

each_typed : (t : DslxType) (es : List (Option UntypedLiteral × Option LoweredExpr)) (cs : List LoweredExpr) → EachThere (lower_elements t es) cs → AllTyped t cs
each_typed t [] [] h = tt
each_typed t [] (c ∷ cs) h = absurd h
each_typed t (e ∷ es) [] h = absurd h
each_typed t (e ∷ es) (c ∷ cs) h = (by_untyped e.0 h.0, each_typed t es cs h.1)
  where
    by_untyped : (bare : Option UntypedLiteral) → element_or_number t bare e.1 ≡ Some c → t ≡ c.ty
    by_untyped None k = (of_its_type t e.1 c k).1
    by_untyped (Some number) k = (of_its_type t (lower_number (Some t) number) c k).1

from_map : {A B : Type 0} (f : A → B) (o : Option A) (b : B) → option_map f o ≡ Some b → (a : A) × (o ≡ Some a) × (f a ≡ b)
from_map f None b e = none_some b e
from_map f (Some a) b e = (a, refl, same_some (f a) b e)

-- with a type
pub typed_keeps : (calls : Functions) (bound : Bindings) (lt ot : Option DslxType) → ((t : DslxType) → lt ≡ Some t → ot ≡ Some t) → (es : List (Option UntypedLiteral × Option LoweredExpr)) (os : List (Option DslxValue)) (dots : Bool)
    → (at : DslxType-F DslxType → Option DslxValue) → ((t : DslxType) (n : ℕ) → at (DslxType-F.Array t n) ≡ and_then (all_some (mean_elements t es os)) (filled dots n))
    → EachKeeps calls bound (map (λ (e : Option UntypedLiteral × Option LoweredExpr). e.1) es) os → (count : ℕ) → length bound ≡ count → KeepsValue calls bound (lower_array count (Some lt) es dots) (and_then ot (λ t. at (out-DslxType t)))
typed_keeps calls bound lt ot means es os dots at is h count is_count e k r g =
    let p = from_then (and_then lt array_in) (λ parts. and_then (all_some (lower_elements parts.0 es)) (lower_filled count parts.0 dots parts.1)) e k in
    let t = from_then lt array_in p.0 p.1 in
    let cs = from_then (all_some (lower_elements p.0.0 es)) (lower_filled count p.0.0 dots p.0.1) e p.2 in
    by_level t.0 p.0 cs.0 cs.1 cs.2 (sym (ap (λ o. and_then o (λ t. at (out-DslxType t))) (means t.0 t.1)) ∙ g) (out-DslxType t.0) refl t.2
  where
    filled_keeps : (t : DslxType) (n : ℕ) (dots : Bool) (cs : List LoweredExpr) (vs : List DslxValue) → AllHave calls bound cs vs → AllTyped t cs → lower_filled count t dots n cs ≡ Some e → filled dots n vs ≡ Some r
        → HasPlainValue e calls bound r
    filled_keeps t n dots [] vs have typed low source = none_some e low
    filled_keeps t n true (c ∷ cs) [] have typed low source = absurd have
    filled_keeps t n true (c ∷ cs) (v ∷ vs) have typed low source =
        let q = from_where (nat_le (suc (length cs)) n) (lowered (filled_array count n c cs) (ty.Array t n)) e low in
        let w = from_where (not (nat_lt n (suc (length vs)))) (option_map (λ last. value.Array ((v ∷ vs) ++ repeated (n - suc (length vs)) last)) (last_of (v ∷ vs))) r source in
        let last = from_map (λ last. value.Array ((v ∷ vs) ++ repeated (n - suc (length vs)) last)) (last_of (v ∷ vs)) r w.1 in
        value_as calls bound e (value.Array ((v ∷ vs) ++ repeated (n - suc (length vs)) last.0)) r (ap Some last.2)
        (kept_as calls bound (value.Array ((v ∷ vs) ++ repeated (n - suc (length vs)) last.0)) (record { core = filled_array count n c cs; ty = ty.Array t n }) e q.1
        (filled_kept calls bound count t c cs v vs last.0 n is_count have (sym (as_many calls bound cs vs have.1)) (all_of_one calls bound t (c ∷ cs) (v ∷ vs) have typed) last.1 q.0))
    filled_keeps t n false (c ∷ cs) vs have typed low source =
        let q = from_where (suc (length cs) == n) (lowered (core.Array (cores_of (c ∷ cs))) (ty.Array t n)) e low in
        let w = from_where (length vs == n) (Some (value.Array vs)) r source in
        value_as calls bound e (value.Array vs) r w.1
        (kept_as calls bound (value.Array vs) (record { core = core.Array (cores_of (c ∷ cs)); ty = ty.Array t n }) e q.1
        (subst (λ m. HasPlainValue (record { core = core.Array (cores_of (c ∷ cs)); ty = ty.Array t m }) calls bound (value.Array vs)) ((Decides-eqb (suc (length cs)) n).0 q.0)
        (array_kept calls bound t c cs vs have typed)))

    by_level : (t : DslxType) (p : DslxType × ℕ) (cs : List LoweredExpr) → all_some (lower_elements p.0 es) ≡ Some cs → lower_filled count p.0 dots p.1 cs ≡ Some e → at (out-DslxType t) ≡ Some r
        → (l : DslxType-F DslxType) → out-DslxType t ≡ l → array_parts l ≡ Some p → HasPlainValue e calls bound r
    by_level t p cs there low source (DslxType-F.Array u n) q k =
        let same : (u, n) ≡ p = same_some (u, n) p k in
        let vs = from_then (all_some (mean_elements u es os)) (filled dots n) r (sym (is u n) ∙ ap at (sym q) ∙ source) in
        let there' = ap (λ (x : DslxType × ℕ). all_some (lower_elements x.0 es)) same ∙ there in
        filled_keeps u n dots cs vs.0 (all_have calls bound (lower_elements u es) (mean_elements u es os) cs vs.0 (each_keeps_type calls bound u es os h) there' vs.1)
        (each_typed u es cs (each_there (lower_elements u es) cs there')) (ap (λ (x : DslxType × ℕ). lower_filled count x.0 dots x.1 cs) same ∙ low) vs.2
    by_level t p cs there low source (DslxType-F.Tuple x) q k = none_some p k
    by_level t p cs there low source (DslxType-F.Bits x y) q k = none_some p k
    by_level t p cs there low source (DslxType-F.Struct x y z) q k = none_some p k
    by_level t p cs there low source (DslxType-F.Enum x y z) q k = none_some p k
    by_level t p cs there low source DslxType-F.Token q k = none_some p k

-- ---- structs

pub record FieldLowerPreserves (f : FieldLowering) (m : FieldDen) : Type 0 where
  pub name : f.name ≡ m.name
  pub value : LowerPreserves f.value m.value

abbrev pub EachFieldMeans : List FieldLowering → List FieldDen → Type 0
EachFieldMeans [] [] = Unit {0}
EachFieldMeans (f ∷ fs) (m ∷ ms) = FieldLowerPreserves f m × EachFieldMeans fs ms
EachFieldMeans [] (m ∷ ms) = ⊥
EachFieldMeans (f ∷ fs) [] = ⊥

-- a field is written in both, or in neither
data IsWritten (o : Option ExprLowering) (p : Option ValueDen) : Type 0 where
  Written : (l : ExprLowering) (m : ValueDen) → o ≡ Some l → p ≡ Some m → LowerPreserves l m → IsWritten o p
  Unwritten : o ≡ None → p ≡ None → IsWritten o p

is_written : (field : List ℕ) (fs : List FieldLowering) (ms : List FieldDen) → EachFieldMeans fs ms → IsWritten (value_written field fs) (field_written field ms)
is_written field [] [] h = Unwritten refl refl
is_written field [] (m ∷ ms) h = absurd h
is_written field (f ∷ fs) [] h = absurd h
is_written field (f ∷ fs) (m ∷ ms) h =
    subst (λ n. IsWritten (value_written field (f ∷ fs)) (if is_in field (n ∷ []) then Some m.value else field_written field ms)) h.0.name
    (by_test (is_in field (f.name ∷ [])) (is_written field fs ms h.1))
  where
    by_test : (b : Bool) → IsWritten (value_written field fs) (field_written field ms)
        → IsWritten (if b then Some f.value else value_written field fs) (if b then Some m.value else field_written field ms)
    by_test true rest = Written f.value m.value refl refl h.0.value
    by_test false rest = rest

field_keeps_value : (scope : CoreScope) (calls : Functions) (given : List Given) (bound : Bindings) → SimulatesInScope scope calls given bound → (fs : List FieldLowering) (ms : List FieldDen) → EachFieldMeans fs ms
    → (others : Option LoweredExpr) (rest : Option DslxValue) → ((field : List ℕ) → KeepsValue calls bound (lower_field others field) (field_from field rest)) → (field : List ℕ)
    → KeepsValue calls bound (field_or_other scope others field (value_written field fs)) (field_given (env_at scope given) rest field (field_written field ms))
field_keeps_value scope calls given bound at fs ms h others rest from field = by_written (value_written field fs) (field_written field ms) (is_written field fs ms h)
  where
    by_written : (o : Option ExprLowering) (p : Option ValueDen) → IsWritten o p → KeepsValue calls bound (field_or_other scope others field o) (field_given (env_at scope given) rest field p)
    by_written o p (Written l m lo po means) e k v g =
        means scope calls given bound at e (sym (ap (field_or_other scope others field) lo) ∙ k) v (sym (ap (field_given (env_at scope given) rest field) po) ∙ g)
    by_written o p (Unwritten lo po) e k v g =
        from field e (sym (ap (field_or_other scope others field) lo) ∙ k) v (sym (ap (field_given (env_at scope given) rest field) po) ∙ g)

-- the fields in order
record FieldsHave (calls : Functions) (bound : Bindings) (es : List LoweredExpr) (ts : List DslxType) (vs : List DslxValue) : Type 0 where
  pub have : AllHave calls bound es vs
  pub typed : types_of_lowered es ≡ ts

fields_have : (scope : CoreScope) (calls : Functions) (given : List Given) (bound : Bindings) → SimulatesInScope scope calls given bound → (fs : List FieldLowering) (ms : List FieldDen) → EachFieldMeans fs ms
    → (others : Option LoweredExpr) (rest : Option DslxValue) → ((field : List ℕ) → KeepsValue calls bound (lower_field others field) (field_from field rest))
    → (fields : List (List ℕ)) (ts : List DslxType) (es : List LoweredExpr) (vs : List DslxValue) → lower_fields scope fs others fields ts ≡ Some es
    → EachThere (map (λ field. field_given (env_at scope given) rest field (field_written field ms)) fields) vs → FieldsHave calls bound es ts vs
fields_have scope calls given bound at fs ms h others rest from [] (t ∷ ts) es vs k there = none_some es k
fields_have scope calls given bound at fs ms h others rest from (field ∷ fields) [] es vs k there = none_some es k
fields_have scope calls given bound at fs ms h others rest from [] [] es (v ∷ vs) k there = absurd there
fields_have scope calls given bound at fs ms h others rest from [] [] es [] k there = subst (λ x. FieldsHave calls bound x [] []) (same_some [] es k) (record { have = tt; typed = refl })
fields_have scope calls given bound at fs ms h others rest from (field ∷ fields) (t ∷ ts) es [] k there = absurd there
fields_have scope calls given bound at fs ms h others rest from (field ∷ fields) (t ∷ ts) es (v ∷ vs) k there =
    let q = from_both (of_type t (field_or_other scope others field (value_written field fs))) (lower_fields scope fs others fields ts) (λ e es. Some (e ∷ es)) es k in
    let c = of_its_type t (field_or_other scope others field (value_written field fs)) q.0 q.2 in
    let more = fields_have scope calls given bound at fs ms h others rest from fields ts q.1 vs q.3 there.1 in
    subst (λ x. FieldsHave calls bound x (t ∷ ts) (v ∷ vs)) (same_some (q.0 ∷ q.1) es q.4)
    (record {
      have = (field_keeps_value scope calls given bound at fs ms h others rest from field q.0 c.0 v there.0, more.have);
      typed = λ i. sym c.1 i ∷ more.typed i;
    })

names_themselves : (ns : List (List ℕ)) → same_names ns ns ≡ true
names_themselves [] = refl
names_themselves (n ∷ ns) = λ i. (bytes_eq-Decides n n).1 refl i && names_themselves ns i

-- a struct of its fields
struct_kept : (calls : Functions) (bound : Bindings) (name : List ℕ) (fields : List (List ℕ)) (ts : List DslxType) (es : List LoweredExpr) (vs : List DslxValue) → FieldsHave calls bound es ts vs
    → HasPlainValue (record { core = core.Tuple (cores_of es); ty = ty.Struct name fields ts }) calls bound (value.Struct name fields vs)
struct_kept calls bound name fields ts es vs h = record {
  of =
      of_struct name fields ts (value.Struct name fields vs) ∙ ap (struct_of name fields (map is_of ts)) (views.outs-Struct name fields vs)
      ∙ (λ i. ((bytes_eq-Decides name name).1 refl i && names_themselves fields i) && each_of (map is_of (sym h.typed i)) vs) ∙ all_of calls bound es vs h.have;
  core =
      ap (λ f. f calls bound) (core_tuple (cores_of es)) ∙ ap (λ o. and_then o (λ vs. Some (plain.Tuple vs))) (all_values calls bound es vs h.have) ∙ ap Some (sym (plain_struct name fields vs));
}

-- without a value that gives the others
without_keeps : (scope : CoreScope) (calls : Functions) (given : List Given) (bound : Bindings) → SimulatesInScope scope calls given bound → (fs : List FieldLowering) (ms : List FieldDen) → EachFieldMeans fs ms
    → (rest : Option DslxValue) (name : List ℕ) (fields : List (List ℕ)) (ts : List DslxType)
    → KeepsValue calls bound (without_others scope fs (ty.Struct name fields ts) fields ts) (struct_at (env_at scope given) ms rest (DslxType-F.Struct name fields ts))
without_keeps scope calls given bound at fs ms h rest name fields ts e k v g =
    let es = from_then (lower_fields scope fs None fields ts) (λ es. lowered (core.Tuple (cores_of es)) (ty.Struct name fields ts)) e k in
    let vs = from_then (all_some (map (λ field. field_given (env_at scope given) rest field (field_written field ms)) fields)) (λ vs. Some (value.Struct name fields vs)) v g in
    value_as calls bound e (value.Struct name fields vs.0) v vs.2
    (kept_as calls bound (value.Struct name fields vs.0) (record { core = core.Tuple (cores_of es.0); ty = ty.Struct name fields ts }) e es.2
    (struct_kept calls bound name fields ts es.0 vs.0
    (fields_have scope calls given bound at fs ms h None rest (λ field c q. none_some c q) fields ts es.0 vs.0 es.1
    (each_there (map (λ field. field_given (env_at scope given) rest field (field_written field ms)) fields) vs.0 vs.1))))

-- where a field isn't written there is a value that gives it
unwritten : (field : List ℕ) (fs : List FieldLowering) → is_in field (names_written fs) ≡ false → value_written field fs ≡ None
unwritten field [] e = refl
unwritten field (f ∷ fs) e = by_name (bytes_eq field f.name) e (unwritten field fs)
  where
    by_name : (b : Bool) → (if b then true else is_in field (names_written fs)) ≡ false → (is_in field (names_written fs) ≡ false → value_written field fs ≡ None)
        → (if (if b then true else false) then Some f.value else value_written field fs) ≡ None
    by_name true q rest = absurd (true≢false q)
    by_name false q rest = rest q

rest_there : (env : Env) (fs : List FieldLowering) (ms : List FieldDen) → EachFieldMeans fs ms → (rest : Option DslxValue) (fields : List (List ℕ)) (vs : List DslxValue)
    → list_all (λ field. is_in field (names_written fs)) fields ≡ false → EachThere (map (λ field. field_given env rest field (field_written field ms)) fields) vs → (r : DslxValue) × (rest ≡ Some r)
rest_there env fs ms h rest [] vs e there = absurd (true≢false e)
rest_there env fs ms h rest (field ∷ fields) [] e there = absurd there
rest_there env fs ms h rest (field ∷ fields) (v ∷ vs) e there = by_test (is_in field (names_written fs)) refl e (λ k. rest_there env fs ms h rest fields vs k there.1)
  where
    given_by : (o : Option ExprLowering) (p : Option ValueDen) → IsWritten o p → o ≡ None → field_given env rest field p ≡ Some v → (r : DslxValue) × (rest ≡ Some r)
    given_by o p (Written l m lo po means) q k = none_some l (sym q ∙ lo)
    given_by o p (Unwritten lo po) q k =
        let r = from_then rest (λ v. field_of v field) v (sym (ap (field_given env rest field) po) ∙ k) in
        (r.0, r.1)

    by_test : (b : Bool) → is_in field (names_written fs) ≡ b → (b && list_all (λ field. is_in field (names_written fs)) fields) ≡ false
        → (list_all (λ field. is_in field (names_written fs)) fields ≡ false → (r : DslxValue) × (rest ≡ Some r)) → (r : DslxValue) × (rest ≡ Some r)
    by_test true q k more = more k
    by_test false q k more = given_by (value_written field fs) (field_written field ms) (is_written field fs ms h) (unwritten field fs q) there.0

-- with one
with_keeps : (scope : CoreScope) (calls : Functions) (given : List Given) (bound : Bindings) → SimulatesInScope scope calls given bound → (fs : List FieldLowering) (ms : List FieldDen) → EachFieldMeans fs ms
    → (l : LoweredExpr) (rest : Option DslxValue) → KeepsValue calls bound (Some l) rest → (name : List ℕ) (fields : List (List ℕ)) (ts : List DslxType)
    → list_all (λ field. is_in field (names_written fs)) fields ≡ false
    → KeepsValue calls bound (with_others scope l fs (ty.Struct name fields ts) fields ts) (struct_at (env_at scope given) ms rest (DslxType-F.Struct name fields ts))
with_keeps scope calls given bound at fs ms h l rest keeps name fields ts some e k v g =
    let es = from_then (lower_fields (with_unnamed scope) fs (lowered (core.Slot scope.count) l.ty) fields ts) (λ es. lowered (core.Bind l.core shape.Bound (core.Tuple (cores_of es))) (ty.Struct name fields ts)) e k in
    let vs = from_then (all_some (map (λ field. field_given (env_at scope given) rest field (field_written field ms)) fields)) (λ vs. Some (value.Struct name fields vs)) v g in
    let there = each_there (map (λ field. field_given (env_at scope given) rest field (field_written field ms)) fields) vs.0 vs.1 in
    let r = rest_there (env_at scope given) fs ms h rest fields vs.0 some there in
    let has = keeps l refl r.0 r.1 in
    let more = bound ++ plain_value r.0 ∷ [] in
    let slot : HasPlainValue (record { core = core.Slot scope.count; ty = l.ty }) calls more r.0 = record {
      of = has.of;
      core = ap (λ f. f calls more) (core_slot scope.count) ∙ ap (slice_get more) (sym at.count) ∙ at_end bound (plain_value r.0);
    } in
    let inner = fields_have (with_unnamed scope) calls given more (unnamed_simulates scope calls given bound (plain_value r.0) at) fs ms h (lowered (core.Slot scope.count) l.ty) rest (from_slot r.0 r.1 more slot) fields ts es.0 vs.0 es.1 there in
    let struct = struct_kept calls more name fields ts es.0 vs.0 inner in
    value_as calls bound e (value.Struct name fields vs.0) v vs.2
    (kept_as calls bound (value.Struct name fields vs.0) (record { core = core.Bind l.core shape.Bound (core.Tuple (cores_of es.0)); ty = ty.Struct name fields ts }) e es.2
    (record {
      of = struct.of;
      core =
          ap (λ f. f calls bound) (core_bind l.core shape.Bound (core.Tuple (cores_of es.0)))
          ∙ ap (λ o. and_then o (λ v. and_then (taken_apart shape.Bound v bound) (core_value (core.Tuple (cores_of es.0)) calls))) has.core
          ∙ ap (λ f. and_then (f (plain_value r.0) bound) (core_value (core.Tuple (cores_of es.0)) calls)) shape_bound
          ∙ struct.core;
    }))
  where
    from_slot : (r : DslxValue) → rest ≡ Some r → (more : Bindings) → HasPlainValue (record { core = core.Slot scope.count; ty = l.ty }) calls more r
        → (field : List ℕ) → KeepsValue calls more (lower_field (lowered (core.Slot scope.count) l.ty) field) (field_from field rest)
    from_slot r er more slot field c q w f =
        let p = from_then (field_index field (out-DslxType l.ty)) (λ p. lowered (core.Element (core.Slot scope.count) p.0) p.1) c q in
        kept_as calls more w (record { core = core.Element (core.Slot scope.count) p.0.0; ty = p.0.1 }) c p.2
        (field_kept calls more (record { core = core.Slot scope.count; ty = l.ty }) r field p.0 w slot p.1 (sym (ap (field_from field) er) ∙ f))

abbrev pub OthersMean : Option ExprLowering → ValueDen → Type 0
OthersMean None m = Unit {0}
OthersMean (Some l) m = LowerPreserves l m

pub struct_keeps : (scope : CoreScope) (calls : Functions) (given : List Given) (bound : Bindings) → SimulatesInScope scope calls given bound → (fs : List FieldLowering) (ms : List FieldDen) → EachFieldMeans fs ms
    → (others : Option ExprLowering) (rest : ValueDen) → OthersMean others rest → (t : DslxType-F DslxType)
    → KeepsValue calls bound (lower_struct_in scope fs others t) (struct_at (env_at scope given) ms (rest (env_at scope given)) t)
struct_keeps scope calls given bound at fs ms h None rest means (DslxType-F.Struct name fields ts) e k v g = without_keeps scope calls given bound at fs ms h (rest (env_at scope given)) name fields ts e k v g
struct_keeps scope calls given bound at fs ms h (Some l) rest means (DslxType-F.Struct name fields ts) e k v g = by_test (list_all (λ field. is_in field (names_written fs)) fields) refl k
  where
    by_test : (b : Bool) → list_all (λ field. is_in field (names_written fs)) fields ≡ b
        → (if b then without_others scope fs (ty.Struct name fields ts) fields ts else and_then (l scope) (λ e. with_others scope e fs (ty.Struct name fields ts) fields ts)) ≡ Some e → HasPlainValue e calls bound v
    by_test true q k = without_keeps scope calls given bound at fs ms h (rest (env_at scope given)) name fields ts e k v g
    by_test false q k =
        let c = from_then (l scope) (λ e. with_others scope e fs (ty.Struct name fields ts) fields ts) e k in
        with_keeps scope calls given bound at fs ms h c.0 (rest (env_at scope given)) (λ x p. means scope calls given bound at x (c.1 ∙ p)) name fields ts q e c.2 v g
struct_keeps scope calls given bound at fs ms h others rest means (DslxType-F.Tuple x) e k v g = none_some e k
struct_keeps scope calls given bound at fs ms h others rest means (DslxType-F.Bits x y) e k v g = none_some e k
struct_keeps scope calls given bound at fs ms h others rest means (DslxType-F.Array x y) e k v g = none_some e k
struct_keeps scope calls given bound at fs ms h others rest means (DslxType-F.Enum x y z) e k v g = none_some e k
struct_keeps scope calls given bound at fs ms h others rest means DslxType-F.Token e k v g = none_some e k
