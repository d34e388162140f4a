-- Declared types that are one by their names are equal in all their parts.
use Rattle.std.proofs.Common.{◌≡◌, ◌&&◌, ◌==◌, ℕ, Bool, true, false, List, [], ◌∷◌, map, refl, sym, ap, ◌∙◌}
use Rattle.std.specs.Str.{bytes_eq}
use Rattle.std.proofs.lemmas.Bool.Decides.{Decides-eqb}
use Rattle.std.proofs.lemmas.Slice.Eq.{bytes_eq-Decides}
use Rattle.xb_value.proofs.Lemmas.Types.{EachHas}
use Rattle.dslx_meaning.specs.Types.{array_is, bits_are, each_is, same_bool, same_type, token_is, tuple_is}
use Rattle.dslx_meaning.specs.declared.ty.DslxType.{DslxType}
use Rattle.dslx_meaning.specs.declared.ty.DslxType as ty
use Rattle.dslx_meaning.specs.declared.ty.DslxType.TheVariants as rolls
use Rattle.dslx_meaning.specs.declared.ty.DslxType.TheOpen.{DslxType-F}
use Rattle.dslx_meaning.specs.declared.ty.DslxType.TheViews as views
use Rattle.dslx_meaning.specs.declared.ty.DslxType.TheFolds.{fold-roll-DslxType, map-DslxType}
use Rattle.dslx_core.specs.Typing.Typed.Declared.{Declarations, IsDeclared}
use Rattle.dslx_core.specs.Typing.Typed.Kinds.{same_names}
use Rattle.dslx_core.proofs.Lemmas.Typing.Typed.{one_of_text, type_induction}
use Rattle.dslx_core.specs.Lowering.EqualTypes.{enum_equal, equal_type, equal_type_step, struct_equal}

equal_as : (l : DslxType-F DslxType) (u : DslxType) → equal_type (views.roll-DslxType l) u ≡ equal_type_step (map-DslxType DslxType (DslxType → Bool) equal_type l) u
equal_as l u = ap (λ f. f u) (fold-roll-DslxType (DslxType → Bool) equal_type_step l)

abbrev IsEqualToItself : DslxType → Type 0
IsEqualToItself t = equal_type t t ≡ true

each_itself : (ts : List DslxType) → EachHas IsEqualToItself ts → each_is (map equal_type ts) ts ≡ true
each_itself [] h = refl
each_itself (t ∷ ts) h = λ i. h.0 i && each_itself ts h.1 i

sign_itself : (s : Bool) → same_bool s s ≡ true
sign_itself true = refl
sign_itself false = refl

pub bits_itself : (s : Bool) (w : ℕ) → (same_bool s s && w == w) ≡ true
bits_itself s w = λ i. sign_itself s i && (Decides-eqb w w).1 refl i

pub name_itself : (name : List ℕ) → bytes_eq name name ≡ true
name_itself name = (bytes_eq-Decides name name).1 refl

pub names_themselves : (names : List (List ℕ)) → same_names names names ≡ true
names_themselves [] = refl
names_themselves (n ∷ ns) = λ i. name_itself n i && names_themselves ns i

pub equal_itself : (t : DslxType) → equal_type t t ≡ true
equal_itself = type_induction IsEqualToItself
    (λ s w. ap (λ t. equal_type t (ty.Bits s w)) (sym (rolls.rolls-Bits s w)) ∙ equal_as (DslxType-F.Bits s w) (ty.Bits s w) ∙ ap (bits_are s w) (views.outs-Bits s w) ∙ bits_itself s w)
    (λ ts h. ap (λ t. equal_type t (ty.Tuple ts)) (sym (rolls.rolls-Tuple ts)) ∙ equal_as (DslxType-F.Tuple ts) (ty.Tuple ts) ∙ ap (tuple_is (map equal_type ts)) (views.outs-Tuple ts) ∙ each_itself ts h)
    (λ t n h. ap (λ u. equal_type u (ty.Array t n)) (sym (rolls.rolls-Array t n)) ∙ equal_as (DslxType-F.Array t n) (ty.Array t n) ∙ ap (array_is (equal_type t) n) (views.outs-Array t n)
    ∙ (λ i. h i && (Decides-eqb n n).1 refl i))
    (λ name fields ts h. ap (λ t. equal_type t (ty.Struct name fields ts)) (sym (rolls.rolls-Struct name fields ts)) ∙ equal_as (DslxType-F.Struct name fields ts) (ty.Struct name fields ts)
    ∙ ap (struct_equal name fields (map equal_type ts)) (views.outs-Struct name fields ts) ∙ (λ i. (name_itself name i && names_themselves fields i) && each_itself ts h i))
    (λ name s w. ap (λ t. equal_type t (ty.Enum name s w)) (sym (rolls.rolls-Enum name s w)) ∙ equal_as (DslxType-F.Enum name s w) (ty.Enum name s w) ∙ ap (enum_equal name s w) (views.outs-Enum name s w)
    ∙ (λ i. name_itself name i && bits_itself s w i))
    (ap (λ t. equal_type t ty.Token) (sym rolls.rolls-Token) ∙ equal_as DslxType-F.Token ty.Token ∙ ap token_is views.outs-Token)

-- types of a text that are equal by their names are equal
pub equal_of_text : (types : Declarations) (t u : DslxType) → same_type t u ≡ true → IsDeclared types t → IsDeclared types u → equal_type t u ≡ true
equal_of_text types t u e p q = ap (equal_type t) (sym (one_of_text types t u e p q)) ∙ equal_itself t
