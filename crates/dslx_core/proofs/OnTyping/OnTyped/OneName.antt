-- Two declared types that pass the test of equality are one type.
use Rattle.std.proofs.Common.{◌≡◌, ◌&&◌, ◌==◌, ℕ, zero, suc, Bool, true, false, not, List, [], ◌∷◌, map, Option, Some, None, refl, sym, ap, ◌∙◌}
use mathlib.Core.Bool.{true≢false}
use Rattle.std.specs.Prelude.{unwrap_or}
use Rattle.std.proofs.lemmas.Bool.Decides.{Decides-eqb}
use Rattle.std.proofs.lemmas.Slice.Eq.{bytes_eq-Decides}
use Rattle.xb_value.proofs.Lemmas.Types.{EachHas}
use Rattle.dslx_meaning.specs.Types.{same_bool, each_is, bits_are, tuple_is, array_is, struct_is, enum_is, token_is, same_type_step, same_type, unit_type}
use Rattle.dslx_meaning.specs.declared.ty.DslxType.{DslxType, out-DslxType}
use Rattle.dslx_meaning.specs.declared.ty.DslxType as ty
use Rattle.dslx_meaning.specs.declared.ty.DslxType.TheVariants as rolls
use Rattle.dslx_meaning.specs.declared.ty.DslxType.TheOpen.{DslxType-F}
use Rattle.dslx_meaning.specs.declared.ty.DslxType.TheViews as views
use Rattle.dslx_meaning.specs.declared.ty.DslxType.TheFolds.{fold-roll-DslxType, map-DslxType}
use Rattle.dslx_meaning.specs.Rules.AggregateRules.{tuple_parts, array_parts}
use Rattle.dslx_meaning.specs.Rules.ConstantRules.{is_zero}
use Rattle.dslx_core.proofs.Lemmas.Typing.Laws.{and_true}
use Rattle.dslx_core.specs.Typing.Typed.Declared.{Declarations, declared_step, sized_array, as_declared, IsDeclared, AllDeclared, DeclaresParts}
use Rattle.dslx_core.proofs.OnTyping.OnTyped.TypingRelations.{same_some}
use Rattle.dslx_core.proofs.OnTyping.OnTyped.OfTypes.{type_induction, one_bool}

-- ---- the test, by the kind of the first type

same_as : (l : DslxType-F DslxType) (u : DslxType) → same_type (views.roll-DslxType l) u ≡ same_type_step (map-DslxType DslxType (DslxType → Bool) same_type l) u
same_as l u = ap (λ f. f u) (fold-roll-DslxType (DslxType → Bool) same_type_step l)

declared_as : (types : Declarations) (l : DslxType-F DslxType) → as_declared types (views.roll-DslxType l) ≡ declared_step types (map-DslxType DslxType DslxType (as_declared types) l)
declared_as types l = fold-roll-DslxType DslxType (declared_step types) l

declared_level : (types : Declarations) (u : DslxType) (l : DslxType-F DslxType) → out-DslxType u ≡ l → as_declared types u ≡ declared_step types (map-DslxType DslxType DslxType (as_declared types) l)
declared_level types u l e = ap (as_declared types) (sym (views.roll-out-DslxType u) ∙ ap views.roll-DslxType e) ∙ declared_as types l

-- ---- types of one name

abbrev OneDeclared : Declarations → DslxType → Type 0
OneDeclared types t = (u : DslxType) → same_type t u ≡ true → as_declared types t ≡ as_declared types u

each_declared : (types : Declarations) (ts us : List DslxType) → EachHas (OneDeclared types) ts → each_is (map same_type ts) us ≡ true → map (as_declared types) ts ≡ map (as_declared types) us
each_declared types [] [] h e = refl
each_declared types [] (u ∷ us) h e = absurd (true≢false (sym e))
each_declared types (t ∷ ts) [] h e = absurd (true≢false (sym e))
each_declared types (t ∷ ts) (u ∷ us) h e = let q = and_true (same_type t u) (each_is (map same_type ts) us) e in λ i. h.0 u q.0 i ∷ each_declared types ts us h.1 q.1 i

bits_one : (types : Declarations) (s : Bool) (w : ℕ) → OneDeclared types (ty.Bits s w)
bits_one types s w u e = by_level (out-DslxType u) refl (sym (ap (λ t. same_type t u) (sym (rolls.rolls-Bits s w)) ∙ same_as (DslxType-F.Bits s w) u) ∙ e)
  where
    by_level : (l : DslxType-F DslxType) → out-DslxType u ≡ l → bits_are s w l ≡ true → as_declared types (ty.Bits s w) ≡ as_declared types u
    by_level (DslxType-F.Bits s' w') q h =
        let r = and_true (same_bool s s') (w == w') h in
        ap (as_declared types) (sym (rolls.rolls-Bits s w)) ∙ declared_as types (DslxType-F.Bits s w)
        ∙ (λ i. ty.Bits (one_bool s s' r.0 i) ((Decides-eqb w w').0 r.1 i)) ∙ sym (declared_level types u (DslxType-F.Bits s' w') q)
    by_level (DslxType-F.Tuple us) q h = absurd (true≢false (sym h))
    by_level (DslxType-F.Array v n) q h = absurd (true≢false (sym h))
    by_level (DslxType-F.Struct name fields us) q h = absurd (true≢false (sym h))
    by_level (DslxType-F.Enum name s' w') q h = absurd (true≢false (sym h))
    by_level DslxType-F.Token q h = absurd (true≢false (sym h))

tuple_one : (types : Declarations) (ts : List DslxType) → EachHas (OneDeclared types) ts → OneDeclared types (ty.Tuple ts)
tuple_one types ts all u e = by_level (out-DslxType u) refl (sym (ap (λ t. same_type t u) (sym (rolls.rolls-Tuple ts)) ∙ same_as (DslxType-F.Tuple ts) u) ∙ e)
  where
    by_level : (l : DslxType-F DslxType) → out-DslxType u ≡ l → tuple_is (map same_type ts) l ≡ true → as_declared types (ty.Tuple ts) ≡ as_declared types u
    by_level (DslxType-F.Tuple us) q h =
        ap (as_declared types) (sym (rolls.rolls-Tuple ts)) ∙ declared_as types (DslxType-F.Tuple ts)
        ∙ ap ty.Tuple (each_declared types ts us all h) ∙ sym (declared_level types u (DslxType-F.Tuple us) q)
    by_level (DslxType-F.Bits s w) q h = absurd (true≢false (sym h))
    by_level (DslxType-F.Array v n) q h = absurd (true≢false (sym h))
    by_level (DslxType-F.Struct name fields us) q h = absurd (true≢false (sym h))
    by_level (DslxType-F.Enum name s w) q h = absurd (true≢false (sym h))
    by_level DslxType-F.Token q h = absurd (true≢false (sym h))

array_one : (types : Declarations) (t : DslxType) (n : ℕ) → OneDeclared types t → OneDeclared types (ty.Array t n)
array_one types t n one u e = by_level (out-DslxType u) refl (sym (ap (λ x. same_type x u) (sym (rolls.rolls-Array t n)) ∙ same_as (DslxType-F.Array t n) u) ∙ e)
  where
    by_level : (l : DslxType-F DslxType) → out-DslxType u ≡ l → array_is (same_type t) n l ≡ true → as_declared types (ty.Array t n) ≡ as_declared types u
    by_level (DslxType-F.Array v k) q h =
        let r = and_true (same_type t v) (n == k) h in
        ap (as_declared types) (sym (rolls.rolls-Array t n)) ∙ declared_as types (DslxType-F.Array t n)
        ∙ (λ i. sized_array (one v r.0 i) ((Decides-eqb n k).0 r.1 i)) ∙ sym (declared_level types u (DslxType-F.Array v k) q)
    by_level (DslxType-F.Bits s w) q h = absurd (true≢false (sym h))
    by_level (DslxType-F.Tuple us) q h = absurd (true≢false (sym h))
    by_level (DslxType-F.Struct name fields us) q h = absurd (true≢false (sym h))
    by_level (DslxType-F.Enum name s w) q h = absurd (true≢false (sym h))
    by_level DslxType-F.Token q h = absurd (true≢false (sym h))

struct_one : (types : Declarations) (name : List ℕ) (fields : List (List ℕ)) (ts : List DslxType) → OneDeclared types (ty.Struct name fields ts)
struct_one types name fields ts u e = by_level (out-DslxType u) refl (sym (ap (λ t. same_type t u) (sym (rolls.rolls-Struct name fields ts)) ∙ same_as (DslxType-F.Struct name fields ts) u) ∙ e)
  where
    by_level : (l : DslxType-F DslxType) → out-DslxType u ≡ l → struct_is name l ≡ true → as_declared types (ty.Struct name fields ts) ≡ as_declared types u
    by_level (DslxType-F.Struct name' fields' us) q h =
        ap (as_declared types) (sym (rolls.rolls-Struct name fields ts)) ∙ declared_as types (DslxType-F.Struct name fields ts)
        ∙ ap (λ n. unwrap_or (types n) unit_type) ((bytes_eq-Decides name name').0 h) ∙ sym (declared_level types u (DslxType-F.Struct name' fields' us) q)
    by_level (DslxType-F.Bits s w) q h = absurd (true≢false (sym h))
    by_level (DslxType-F.Tuple us) q h = absurd (true≢false (sym h))
    by_level (DslxType-F.Array v n) q h = absurd (true≢false (sym h))
    by_level (DslxType-F.Enum name' s w) q h = absurd (true≢false (sym h))
    by_level DslxType-F.Token q h = absurd (true≢false (sym h))

enum_one : (types : Declarations) (name : List ℕ) (s : Bool) (w : ℕ) → OneDeclared types (ty.Enum name s w)
enum_one types name s w u e = by_level (out-DslxType u) refl (sym (ap (λ t. same_type t u) (sym (rolls.rolls-Enum name s w)) ∙ same_as (DslxType-F.Enum name s w) u) ∙ e)
  where
    by_level : (l : DslxType-F DslxType) → out-DslxType u ≡ l → enum_is name l ≡ true → as_declared types (ty.Enum name s w) ≡ as_declared types u
    by_level (DslxType-F.Enum name' s' w') q h =
        ap (as_declared types) (sym (rolls.rolls-Enum name s w)) ∙ declared_as types (DslxType-F.Enum name s w)
        ∙ ap (λ n. unwrap_or (types n) unit_type) ((bytes_eq-Decides name name').0 h) ∙ sym (declared_level types u (DslxType-F.Enum name' s' w') q)
    by_level (DslxType-F.Bits s' w') q h = absurd (true≢false (sym h))
    by_level (DslxType-F.Tuple us) q h = absurd (true≢false (sym h))
    by_level (DslxType-F.Array v n) q h = absurd (true≢false (sym h))
    by_level (DslxType-F.Struct name' fields us) q h = absurd (true≢false (sym h))
    by_level DslxType-F.Token q h = absurd (true≢false (sym h))

token_one : (types : Declarations) → OneDeclared types ty.Token
token_one types u e = by_level (out-DslxType u) refl (sym (ap (λ t. same_type t u) (sym rolls.rolls-Token) ∙ same_as DslxType-F.Token u) ∙ e)
  where
    by_level : (l : DslxType-F DslxType) → out-DslxType u ≡ l → token_is l ≡ true → as_declared types ty.Token ≡ as_declared types u
    by_level DslxType-F.Token q h = ap (as_declared types) (sym rolls.rolls-Token) ∙ declared_as types DslxType-F.Token ∙ sym (declared_level types u DslxType-F.Token q)
    by_level (DslxType-F.Bits s w) q h = absurd (true≢false (sym h))
    by_level (DslxType-F.Tuple us) q h = absurd (true≢false (sym h))
    by_level (DslxType-F.Array v n) q h = absurd (true≢false (sym h))
    by_level (DslxType-F.Struct name fields us) q h = absurd (true≢false (sym h))
    by_level (DslxType-F.Enum name s w) q h = absurd (true≢false (sym h))

one_declared : (types : Declarations) (t : DslxType) → OneDeclared types t
one_declared types = type_induction (OneDeclared types) (bits_one types) (tuple_one types) (array_one types) (λ name fields ts h. struct_one types name fields ts) (enum_one types) (token_one types)

-- declared types that are equal by the test are one type
pub one_of_text : (types : Declarations) (t u : DslxType) → same_type t u ≡ true → IsDeclared types t → IsDeclared types u → t ≡ u
one_of_text types t u e p q = sym p ∙ one_declared types t u e ∙ q

-- ---- a type is one with itself

abbrev IsOneWithItself : DslxType → Type 0
IsOneWithItself t = same_type t t ≡ true

each_itself : (ts : List DslxType) → EachHas IsOneWithItself ts → each_is (map same_type ts) ts ≡ true
each_itself [] h = refl
each_itself (t ∷ ts) h = λ i. h.0 i && each_itself ts h.1 i

bits_itself : (s : Bool) (w : ℕ) → (same_bool s s && w == w) ≡ true
bits_itself true w = (Decides-eqb w w).1 refl
bits_itself false w = (Decides-eqb w w).1 refl

pub like_itself : (t : DslxType) → same_type t t ≡ true
like_itself = type_induction IsOneWithItself
    (λ s w. ap (λ t. same_type t (ty.Bits s w)) (sym (rolls.rolls-Bits s w)) ∙ same_as (DslxType-F.Bits s w) (ty.Bits s w) ∙ ap (bits_are s w) (views.outs-Bits s w) ∙ bits_itself s w)
    (λ ts h. ap (λ t. same_type t (ty.Tuple ts)) (sym (rolls.rolls-Tuple ts)) ∙ same_as (DslxType-F.Tuple ts) (ty.Tuple ts) ∙ ap (tuple_is (map same_type ts)) (views.outs-Tuple ts) ∙ each_itself ts h)
    (λ t n h. ap (λ u. same_type u (ty.Array t n)) (sym (rolls.rolls-Array t n)) ∙ same_as (DslxType-F.Array t n) (ty.Array t n) ∙ ap (array_is (same_type t) n) (views.outs-Array t n) ∙ (λ i. h i && (Decides-eqb n n).1 refl i))
    (λ name fields ts h. ap (λ t. same_type t (ty.Struct name fields ts)) (sym (rolls.rolls-Struct name fields ts)) ∙ same_as (DslxType-F.Struct name fields ts) (ty.Struct name fields ts)
    ∙ ap (struct_is name) (views.outs-Struct name fields ts) ∙ (bytes_eq-Decides name name).1 refl)
    (λ name s w. ap (λ t. same_type t (ty.Enum name s w)) (sym (rolls.rolls-Enum name s w)) ∙ same_as (DslxType-F.Enum name s w) (ty.Enum name s w)
    ∙ ap (enum_is name) (views.outs-Enum name s w) ∙ (bytes_eq-Decides name name).1 refl)
    (ap (λ t. same_type t ty.Token) (sym rolls.rolls-Token) ∙ same_as DslxType-F.Token ty.Token ∙ ap token_is views.outs-Token)

-- ---- the parts of declared types

pub list_parts : {X : Type 0} (x y : X) (xs ys : List X) → (x ∷ xs) ≡ (y ∷ ys) → (x ≡ y) × (xs ≡ ys)
list_parts {X = X} x y xs ys e = (ap head e, ap tail e)
  where
    head : List X → X
    head [] = x
    head (z ∷ zs) = z

    tail : List X → List X
    tail [] = []
    tail (z ∷ zs) = zs

each_apart : (types : Declarations) (ts : List DslxType) → map (as_declared types) ts ≡ ts → AllDeclared types ts
each_apart types [] e = tt
each_apart types (t ∷ ts) e = let q = list_parts (as_declared types t) t (map (as_declared types) ts) ts e in (q.0, each_apart types ts q.1)

each_together : (types : Declarations) (ts : List DslxType) → AllDeclared types ts → map (as_declared types) ts ≡ ts
each_together types [] h = refl
each_together types (t ∷ ts) h = λ i. h.0 i ∷ each_together types ts h.1 i

tuple_as : (types : Declarations) (ts : List DslxType) → as_declared types (ty.Tuple ts) ≡ ty.Tuple (map (as_declared types) ts)
tuple_as types ts = ap (as_declared types) (sym (rolls.rolls-Tuple ts)) ∙ declared_as types (DslxType-F.Tuple ts)

array_as : (types : Declarations) (t : DslxType) (n : ℕ) → as_declared types (ty.Array t n) ≡ sized_array (as_declared types t) n
array_as types t n = ap (as_declared types) (sym (rolls.rolls-Array t n)) ∙ declared_as types (DslxType-F.Array t n)

pub tuple_declared : (types : Declarations) (ts : List DslxType) → AllDeclared types ts → IsDeclared types (ty.Tuple ts)
tuple_declared types ts h = tuple_as types ts ∙ ap ty.Tuple (each_together types ts h)

pub parts_declared : (types : Declarations) (ts : List DslxType) → IsDeclared types (ty.Tuple ts) → AllDeclared types ts
parts_declared types ts h =
    each_apart types ts (sym (ap tuple_parts (views.outs-Tuple (map (as_declared types) ts))) ∙ ap (λ t. tuple_parts (out-DslxType t)) (sym (tuple_as types ts) ∙ h) ∙ ap tuple_parts (views.outs-Tuple ts))

pub array_declared : (types : Declarations) (t : DslxType) (n : ℕ) → not (is_zero n) ≡ true → IsDeclared types t → IsDeclared types (ty.Array t n)
array_declared types t zero some h = absurd (true≢false (sym some))
array_declared types t (suc n) some h = array_as types t (suc n) ∙ ap (λ u. ty.Array u (suc n)) h

-- what an array's type being declared says
abbrev pub SizedArray : Declarations → DslxType → ℕ → Type 0
SizedArray types t n = IsDeclared types t × (not (is_zero n) ≡ true)

pub element_declared : (types : Declarations) (t : DslxType) (n : ℕ) → IsDeclared types (ty.Array t n) → SizedArray types t n
element_declared types t zero h =
    absurd (true≢false (sym (ap is_some_array (views.outs-Array t zero)) ∙ ap (λ u. is_some_array (out-DslxType u)) (sym h ∙ array_as types t zero) ∙ ap is_some_array (views.outs-Tuple [])))
  where
    is_some_array : DslxType-F DslxType → Bool
    is_some_array (DslxType-F.Array t n) = true
    is_some_array _ = false
element_declared types t (suc n) h = (
  ap (λ (p : DslxType × ℕ). p.0)
      (same_some (as_declared types t, suc n) (t, suc n)
      (sym (ap array_parts (views.outs-Array (as_declared types t) (suc n))) ∙ ap (λ u. array_parts (out-DslxType u)) (sym (array_as types t (suc n)) ∙ h) ∙ ap array_parts (views.outs-Array t (suc n)))),
  refl,
)

-- the name of a declared struct stands for it
pub struct_declared : (types : Declarations) (name : List ℕ) (fields : List (List ℕ)) (ts : List DslxType) → IsDeclared types (ty.Struct name fields ts) → types name ≡ Some (ty.Struct name fields ts)
struct_declared types name fields ts h = by_name (types name) refl (sym (ap (as_declared types) (sym (rolls.rolls-Struct name fields ts)) ∙ declared_as types (DslxType-F.Struct name fields ts)) ∙ h)
  where
    is_struct : DslxType-F DslxType → Bool
    is_struct (DslxType-F.Struct name fields ts) = true
    is_struct _ = false

    by_name : (o : Option DslxType) → types name ≡ o → unwrap_or (types name) unit_type ≡ ty.Struct name fields ts → types name ≡ Some (ty.Struct name fields ts)
    by_name None q e =
        absurd (true≢false (sym (ap is_struct (views.outs-Struct name fields ts)) ∙ ap (λ t. is_struct (out-DslxType t)) (sym e ∙ ap (λ o. unwrap_or o unit_type) q) ∙ ap is_struct (views.outs-Tuple [])))
    by_name (Some u) q e = q ∙ ap Some (sym (ap (λ o. unwrap_or o unit_type) q) ∙ e)

pub fields_declared : (types : Declarations) → DeclaresParts types → (name : List ℕ) (fields : List (List ℕ)) (ts : List DslxType) → IsDeclared types (ty.Struct name fields ts) → AllDeclared types ts
fields_declared types parts name fields ts h = parts.fields name name fields ts (struct_declared types name fields ts h)
