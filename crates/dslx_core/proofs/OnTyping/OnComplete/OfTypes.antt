-- Where more is declared, what was declared stays so.
use Rattle.std.proofs.Common.{◌≡◌, ℕ, Bool, true, false, List, [], ◌∷◌, Option, Some, None, refl, sym, ap, ◌∙◌}
use mathlib.Core.Bool.{true≢false}
use Rattle.std.specs.Prelude.{unwrap_or}
use Rattle.xb_value.proofs.Lemmas.Types.{EachHas}
use Rattle.dslx_tree.specs.declared.item.Parametric.{Parametric}
use Rattle.dslx_meaning.specs.Types.{unit_type}
use Rattle.dslx_meaning.specs.declared.ty.DslxType.{DslxType, out-DslxType}
use Rattle.dslx_meaning.specs.declared.ty.DslxType as ty
use Rattle.dslx_meaning.specs.declared.ty.DslxType.TheVariants as rolls
use Rattle.dslx_meaning.specs.declared.ty.DslxType.TheOpen.{DslxType-F}
use Rattle.dslx_meaning.specs.declared.ty.DslxType.TheViews as views
use Rattle.dslx_meaning.specs.declared.ty.DslxType.TheFolds.{fold-roll-DslxType, map-DslxType}
use Rattle.dslx_meaning.specs.declared.value.DslxValue.{DslxValue}
use Rattle.dslx_meaning.specs.Rules.TypeEnvs.{GlobalEnv}
use Rattle.dslx_core.specs.Typing.Typed.Declared.{AllDeclared, Declarations, IsDeclared, as_declared, declared_step}
use Rattle.dslx_core.specs.Typing.Typed.Given.{GivesOf}
use Rattle.dslx_core.specs.Typing.Typed.Numbers.{AllOwn, FitParametricArgs}
use Rattle.dslx_core.proofs.Lemmas.Typing.Typed.{array_declared, bits_declared, element_declared, own_value, parts_declared, struct_declared, tuple_declared, type_induction}
use Rattle.dslx_core.specs.Typing.Complete.HasValue.{DeclareMore}

declared_as : (types : Declarations) (l : DslxType-F DslxType) → as_declared types (views.roll-DslxType l) ≡ declared_step types (map-DslxType DslxType DslxType (as_declared types) l)
declared_as types l = fold-roll-DslxType DslxType (declared_step types) l

-- a struct or an enum that its name stands for
struct_stays : (types : Declarations) (name : List ℕ) (fields : List (List ℕ)) (ts : List DslxType) → types name ≡ Some (ty.Struct name fields ts) → IsDeclared types (ty.Struct name fields ts)
struct_stays types name fields ts e = ap (as_declared types) (sym (rolls.rolls-Struct name fields ts)) ∙ declared_as types (DslxType-F.Struct name fields ts) ∙ ap (λ o. unwrap_or o unit_type) e

enum_as : (types : Declarations) (name : List ℕ) (s : Bool) (w : ℕ) → as_declared types (ty.Enum name s w) ≡ unwrap_or (types name) unit_type
enum_as types name s w = ap (as_declared types) (sym (rolls.rolls-Enum name s w)) ∙ declared_as types (DslxType-F.Enum name s w)

enum_stays : (types more : Declarations) → DeclareMore types more → (name : List ℕ) (s : Bool) (w : ℕ) → IsDeclared types (ty.Enum name s w) → IsDeclared more (ty.Enum name s w)
enum_stays types more stay name s w h = by_name (types name) refl (sym (enum_as types name s w) ∙ h)
  where
    is_enum : DslxType-F DslxType → Bool
    is_enum (DslxType-F.Enum name s w) = true
    is_enum _ = false

    by_name : (o : Option DslxType) → types name ≡ o → unwrap_or (types name) unit_type ≡ ty.Enum name s w → IsDeclared more (ty.Enum name s w)
    by_name None q e =
        absurd (true≢false (sym (ap is_enum (views.outs-Enum name s w)) ∙ ap (λ t. is_enum (out-DslxType t)) (sym e ∙ ap (λ o. unwrap_or o unit_type) q) ∙ ap is_enum (views.outs-Tuple [])))
    by_name (Some u) q e = enum_as more name s w ∙ ap (λ o. unwrap_or o unit_type) (stay name u q) ∙ sym (ap (λ o. unwrap_or o unit_type) q) ∙ e

each_stays : (types more : Declarations) (ts : List DslxType) → EachHas (λ t. IsDeclared types t → IsDeclared more t) ts → AllDeclared types ts → AllDeclared more ts
each_stays types more [] h k = tt
each_stays types more (t ∷ ts) h k = (h.0 k.0, each_stays types more ts h.1 k.1)

pub declared_stays : (types more : Declarations) → DeclareMore types more → (t : DslxType) → IsDeclared types t → IsDeclared more t
declared_stays types more stay = type_induction (λ t. IsDeclared types t → IsDeclared more t)
    (λ s w h. bits_declared more s w)
    (λ ts each h. tuple_declared more ts (each_stays types more ts each (parts_declared types ts h)))
    (λ t n one h. let q = element_declared types t n h in array_declared more t n q.1 (one q.0))
    (λ name fields ts each h. struct_stays more name fields ts (stay name (ty.Struct name fields ts) (struct_declared types name fields ts h)))
    (enum_stays types more stay)
    (λ h. ap (as_declared more) (sym rolls.rolls-Token) ∙ declared_as more DslxType-F.Token)

pub gives_still : (types more : Declarations) → DeclareMore types more → (t : DslxType) (o : Option DslxValue) → GivesOf types t o → GivesOf more t o
gives_still types more stay t o g = record { value = g.value; is = g.is; of = g.of; declared = declared_stays types more stay t g.declared }

-- values of the types of their parameters are of their own
pub own_parametric_args : (known : GlobalEnv) (owner : List ℕ) (before : List (Option DslxValue)) (ps : List Parametric) (vs : List DslxValue) → FitParametricArgs known owner before ps vs → AllOwn known.items.type_named vs
own_parametric_args known owner before [] [] h = tt
own_parametric_args known owner before [] (v ∷ vs) h = absurd h
own_parametric_args known owner before (p ∷ ps) [] h = absurd h
own_parametric_args known owner before (p ∷ ps) (v ∷ vs) h = (own_value known.items.type_named h.0.0 (Some v) v refl h.0.2, own_parametric_args known owner (Some v ∷ before) ps vs h.1)
