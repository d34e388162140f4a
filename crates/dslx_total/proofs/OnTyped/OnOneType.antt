-- Types that pass the test are one type.
use Rattle.std.proofs.Common.{◌≡◌, ◌&&◌, ◌==◌, ℕ, Bool, true, List, [], ◌∷◌, map, refl, sym, ap, ◌∙◌}
use mathlib.Core.Bool.{true≢false}
use Rattle.std.specs.Str.{bytes_eq}
use Rattle.std.proofs.lemmas.Bool.Decides.{Decides-eqb}
use Rattle.xb_value.proofs.Lemmas.Types.{EachHas}
use Rattle.dslx_meaning.specs.Types.{same_bool, each_is, bits_are, tuple_is, array_is, token_is}
use Rattle.dslx_meaning.specs.declared.ty.DslxType.{DslxType, out-DslxType}
use Rattle.dslx_meaning.specs.declared.ty.DslxType as ty
use Rattle.dslx_meaning.specs.declared.ty.DslxType.TheVariants as rolls
use Rattle.dslx_meaning.specs.declared.ty.DslxType.TheOpen.{DslxType-F}
use Rattle.dslx_meaning.specs.declared.ty.DslxType.TheViews as views
use Rattle.dslx_meaning.specs.declared.ty.DslxType.TheFolds.{fold-roll-DslxType, map-DslxType}
use Rattle.dslx_core.proofs.Lemmas.Typing.Laws.{and_true}
use Rattle.dslx_core.specs.Typing.Typed.Kinds.{same_names}
use Rattle.dslx_core.proofs.Lemmas.Typing.Typed.{one_bool, one_list, one_name, type_induction}
use Rattle.dslx_core.specs.Lowering.EqualTypes.{equal_type, equal_type_step, struct_equal, enum_equal}

equal_as : (l : DslxType-F DslxType) (u : DslxType) → equal_type (views.roll-DslxType l) u ≡ equal_type_step (map-DslxType DslxType (DslxType → Bool) equal_type l) u
equal_as l u = ap (λ f. f u) (fold-roll-DslxType (DslxType → Bool) equal_type_step l)

-- a type by its level
of_type_level : (u : DslxType) (l : DslxType-F DslxType) → out-DslxType u ≡ l → views.roll-DslxType l ≡ u
of_type_level u l e = ap views.roll-DslxType (sym e) ∙ views.roll-out-DslxType u

abbrev IsOne : DslxType → Type 0
IsOne t = (u : DslxType) → equal_type t u ≡ true → t ≡ u

each_one : (ts us : List DslxType) → EachHas IsOne ts → each_is (map equal_type ts) us ≡ true → ts ≡ us
each_one [] [] h e = refl
each_one [] (u ∷ us) h e = absurd (true≢false (sym e))
each_one (t ∷ ts) [] h e = absurd (true≢false (sym e))
each_one (t ∷ ts) (u ∷ us) h e = let q = and_true (equal_type t u) (each_is (map equal_type ts) us) e in λ i. h.0 u q.0 i ∷ each_one ts us h.1 q.1 i

bits_one : (s : Bool) (w : ℕ) → IsOne (ty.Bits s w)
bits_one s w u e = by_level (out-DslxType u) refl (sym (ap (λ t. equal_type t u) (sym (rolls.rolls-Bits s w)) ∙ equal_as (DslxType-F.Bits s w) u) ∙ e)
  where
    by_level : (l : DslxType-F DslxType) → out-DslxType u ≡ l → bits_are s w l ≡ true → ty.Bits s w ≡ u
    by_level (DslxType-F.Bits s' w') q h =
        let r = and_true (same_bool s s') (w == w') h in
        (λ i. ty.Bits (one_bool s s' r.0 i) ((Decides-eqb w w').0 r.1 i)) ∙ sym (rolls.rolls-Bits s' w') ∙ of_type_level u (DslxType-F.Bits s' w') q
    by_level (DslxType-F.Tuple us) q h = absurd (true≢false (sym h))
    by_level (DslxType-F.Array v n) q h = absurd (true≢false (sym h))
    by_level (DslxType-F.Struct name fields us) q h = absurd (true≢false (sym h))
    by_level (DslxType-F.Enum name s' w') q h = absurd (true≢false (sym h))
    by_level DslxType-F.Token q h = absurd (true≢false (sym h))

tuple_one : (ts : List DslxType) → EachHas IsOne ts → IsOne (ty.Tuple ts)
tuple_one ts all u e = by_level (out-DslxType u) refl (sym (ap (λ t. equal_type t u) (sym (rolls.rolls-Tuple ts)) ∙ equal_as (DslxType-F.Tuple ts) u) ∙ e)
  where
    by_level : (l : DslxType-F DslxType) → out-DslxType u ≡ l → tuple_is (map equal_type ts) l ≡ true → ty.Tuple ts ≡ u
    by_level (DslxType-F.Tuple us) q h = ap ty.Tuple (each_one ts us all h) ∙ sym (rolls.rolls-Tuple us) ∙ of_type_level u (DslxType-F.Tuple us) q
    by_level (DslxType-F.Bits s w) q h = absurd (true≢false (sym h))
    by_level (DslxType-F.Array v n) q h = absurd (true≢false (sym h))
    by_level (DslxType-F.Struct name fields us) q h = absurd (true≢false (sym h))
    by_level (DslxType-F.Enum name s w) q h = absurd (true≢false (sym h))
    by_level DslxType-F.Token q h = absurd (true≢false (sym h))

array_one : (t : DslxType) (n : ℕ) → IsOne t → IsOne (ty.Array t n)
array_one t n one u e = by_level (out-DslxType u) refl (sym (ap (λ x. equal_type x u) (sym (rolls.rolls-Array t n)) ∙ equal_as (DslxType-F.Array t n) u) ∙ e)
  where
    by_level : (l : DslxType-F DslxType) → out-DslxType u ≡ l → array_is (equal_type t) n l ≡ true → ty.Array t n ≡ u
    by_level (DslxType-F.Array v k) q h =
        let r = and_true (equal_type t v) (n == k) h in
        (λ i. ty.Array (one v r.0 i) ((Decides-eqb n k).0 r.1 i)) ∙ sym (rolls.rolls-Array v k) ∙ of_type_level u (DslxType-F.Array v k) q
    by_level (DslxType-F.Bits s w) q h = absurd (true≢false (sym h))
    by_level (DslxType-F.Tuple us) q h = absurd (true≢false (sym h))
    by_level (DslxType-F.Struct name fields us) q h = absurd (true≢false (sym h))
    by_level (DslxType-F.Enum name s w) q h = absurd (true≢false (sym h))
    by_level DslxType-F.Token q h = absurd (true≢false (sym h))

struct_one : (name : List ℕ) (fields : List (List ℕ)) (ts : List DslxType) → EachHas IsOne ts → IsOne (ty.Struct name fields ts)
struct_one name fields ts all u e = by_level (out-DslxType u) refl (sym (ap (λ t. equal_type t u) (sym (rolls.rolls-Struct name fields ts)) ∙ equal_as (DslxType-F.Struct name fields ts) u) ∙ e)
  where
    by_level : (l : DslxType-F DslxType) → out-DslxType u ≡ l → struct_equal name fields (map equal_type ts) l ≡ true → ty.Struct name fields ts ≡ u
    by_level (DslxType-F.Struct name' fields' us) q h =
        let r = and_true (bytes_eq name name' && same_names fields fields') (each_is (map equal_type ts) us) h in
        let n = and_true (bytes_eq name name') (same_names fields fields') r.0 in
        (λ i. ty.Struct (one_name name name' n.0 i) (one_list fields fields' n.1 i) (each_one ts us all r.1 i)) ∙ sym (rolls.rolls-Struct name' fields' us)
        ∙ of_type_level u (DslxType-F.Struct name' fields' us) q
    by_level (DslxType-F.Bits s w) q h = absurd (true≢false (sym h))
    by_level (DslxType-F.Tuple us) q h = absurd (true≢false (sym h))
    by_level (DslxType-F.Array v n) q h = absurd (true≢false (sym h))
    by_level (DslxType-F.Enum name' s w) q h = absurd (true≢false (sym h))
    by_level DslxType-F.Token q h = absurd (true≢false (sym h))

enum_one : (name : List ℕ) (s : Bool) (w : ℕ) → IsOne (ty.Enum name s w)
enum_one name s w u e = by_level (out-DslxType u) refl (sym (ap (λ t. equal_type t u) (sym (rolls.rolls-Enum name s w)) ∙ equal_as (DslxType-F.Enum name s w) u) ∙ e)
  where
    by_level : (l : DslxType-F DslxType) → out-DslxType u ≡ l → enum_equal name s w l ≡ true → ty.Enum name s w ≡ u
    by_level (DslxType-F.Enum name' s' w') q h =
        let r = and_true (bytes_eq name name') (same_bool s s' && w == w') h in
        let k = and_true (same_bool s s') (w == w') r.1 in
        (λ i. ty.Enum (one_name name name' r.0 i) (one_bool s s' k.0 i) ((Decides-eqb w w').0 k.1 i)) ∙ sym (rolls.rolls-Enum name' s' w') ∙ of_type_level u (DslxType-F.Enum name' s' w') q
    by_level (DslxType-F.Bits s' w') q h = absurd (true≢false (sym h))
    by_level (DslxType-F.Tuple us) q h = absurd (true≢false (sym h))
    by_level (DslxType-F.Array v n) q h = absurd (true≢false (sym h))
    by_level (DslxType-F.Struct name' fields us) q h = absurd (true≢false (sym h))
    by_level DslxType-F.Token q h = absurd (true≢false (sym h))

token_one : IsOne ty.Token
token_one u e = by_level (out-DslxType u) refl (sym (ap (λ t. equal_type t u) (sym rolls.rolls-Token) ∙ equal_as DslxType-F.Token u) ∙ e)
  where
    by_level : (l : DslxType-F DslxType) → out-DslxType u ≡ l → token_is l ≡ true → ty.Token ≡ u
    by_level DslxType-F.Token q h = sym rolls.rolls-Token ∙ of_type_level u DslxType-F.Token q
    by_level (DslxType-F.Bits s w) q h = absurd (true≢false (sym h))
    by_level (DslxType-F.Tuple us) q h = absurd (true≢false (sym h))
    by_level (DslxType-F.Array v n) q h = absurd (true≢false (sym h))
    by_level (DslxType-F.Struct name fields us) q h = absurd (true≢false (sym h))
    by_level (DslxType-F.Enum name s w) q h = absurd (true≢false (sym h))

-- the test says that the two are one
pub one_by_test : (t u : DslxType) → equal_type t u ≡ true → t ≡ u
one_by_test = type_induction IsOne bits_one tuple_one array_one struct_one enum_one token_one
