-- Types that are declared in two ways, whatever stands for some names.
use Rattle.std.proofs.Common.{◌≡◌, ℕ, Bool, true, false, List, [], ◌∷◌, Option, Some, None, refl, sym, ap, ◌∙◌}
use mathlib.Core.Bool.{true≢false}
use Rattle.std.specs.Prelude.{unwrap_or}
use Rattle.xb_value.proofs.Lemmas.Types.{EachHas}
use Rattle.dslx_meaning.specs.Types.{unit_type}
use Rattle.dslx_meaning.specs.declared.ty.DslxType.{DslxType, out-DslxType}
use Rattle.dslx_meaning.specs.declared.ty.DslxType as ty
use Rattle.dslx_meaning.specs.declared.ty.DslxType.TheVariants as rolls
use Rattle.dslx_meaning.specs.declared.ty.DslxType.TheOpen.{DslxType-F}
use Rattle.dslx_meaning.specs.declared.ty.DslxType.TheViews as views
use Rattle.dslx_meaning.specs.declared.ty.DslxType.TheFolds.{fold-roll-DslxType}
use Rattle.dslx_core.specs.Typing.Typed.Declared.{AllDeclared, Declarations, IsDeclared, as_declared, declared_step}
use Rattle.dslx_core.proofs.Lemmas.Typing.Typed.{array_declared, element_declared, parts_declared, struct_declared, tuple_declared, type_induction}

-- what is declared by the first two is so by the third
abbrev DeclaredByBoth : Declarations → Declarations → Declarations → DslxType → Type 0
DeclaredByBoth one two three t = IsDeclared one t → IsDeclared two t → IsDeclared three t

-- a name that the first two declare alike is declared so by the third
abbrev pub DeclareNames : Declarations → Declarations → Declarations → Type 0
DeclareNames one two three = (name : List ℕ) (t : DslxType) → one name ≡ Some t → two name ≡ Some t → three name ≡ Some t

all_by_both : (one two three : Declarations) (ts : List DslxType) → EachHas (DeclaredByBoth one two three) ts → AllDeclared one ts → AllDeclared two ts → AllDeclared three ts
all_by_both one two three [] h p q = tt
all_by_both one two three (t ∷ ts) h p q = (h.0 p.0 q.0, all_by_both one two three ts h.1 p.1 q.1)

pub bits_declared : (types : Declarations) (s : Bool) (w : ℕ) → IsDeclared types (ty.Bits s w)
bits_declared types s w = ap (as_declared types) (sym (rolls.rolls-Bits s w)) ∙ fold-roll-DslxType DslxType (declared_step types) (DslxType-F.Bits s w)

token_declared : (types : Declarations) → IsDeclared types ty.Token
token_declared types = ap (as_declared types) (sym rolls.rolls-Token) ∙ fold-roll-DslxType DslxType (declared_step types) DslxType-F.Token

is_struct : DslxType-F DslxType → Bool
is_struct (DslxType-F.Struct name fields ts) = true
is_struct _ = false

pub named_struct : (types : Declarations) (name : List ℕ) (fields : List (List ℕ)) (ts : List DslxType) → types name ≡ Some (ty.Struct name fields ts) → IsDeclared types (ty.Struct name fields ts)
named_struct types name fields ts e = ap (as_declared types) (sym (rolls.rolls-Struct name fields ts)) ∙ fold-roll-DslxType DslxType (declared_step types) (DslxType-F.Struct name fields ts) ∙ ap (λ o. unwrap_or o unit_type) e

pub named_enum : (types : Declarations) (name : List ℕ) (s : Bool) (w : ℕ) → types name ≡ Some (ty.Enum name s w) → IsDeclared types (ty.Enum name s w)
named_enum types name s w e = ap (as_declared types) (sym (rolls.rolls-Enum name s w)) ∙ fold-roll-DslxType DslxType (declared_step types) (DslxType-F.Enum name s w) ∙ ap (λ o. unwrap_or o unit_type) e

-- the name of a declared enum stands for it
pub enum_declared : (types : Declarations) (name : List ℕ) (s : Bool) (w : ℕ) → IsDeclared types (ty.Enum name s w) → types name ≡ Some (ty.Enum name s w)
enum_declared types name s w h =
    by_name (types name) refl (sym (ap (as_declared types) (sym (rolls.rolls-Enum name s w)) ∙ fold-roll-DslxType DslxType (declared_step types) (DslxType-F.Enum name s w)) ∙ h)
  where
    is_enum : DslxType-F DslxType → Bool
    is_enum (DslxType-F.Enum name s w) = true
    is_enum _ = false

    by_name : (o : Option DslxType) → types name ≡ o → unwrap_or (types name) unit_type ≡ ty.Enum name s w → types name ≡ Some (ty.Enum name s w)
    by_name None q e =
        absurd (true≢false (sym (ap is_enum (views.outs-Enum name s w)) ∙ ap (λ t. is_enum (out-DslxType t)) (sym e ∙ ap (λ o. unwrap_or o unit_type) q) ∙ ap is_enum (views.outs-Tuple [])))
    by_name (Some u) q e = q ∙ ap Some (sym (ap (λ o. unwrap_or o unit_type) q) ∙ e)

pub declared_by_both : (one two three : Declarations) → DeclareNames one two three → (t : DslxType) → IsDeclared one t → IsDeclared two t → IsDeclared three t
declared_by_both one two three names = type_induction (DeclaredByBoth one two three)
    (λ s w p q. bits_declared three s w)
    (λ ts h p q. tuple_declared three ts (all_by_both one two three ts h (parts_declared one ts p) (parts_declared two ts q)))
    (λ t n h p q. let a = element_declared one t n p in let b = element_declared two t n q in array_declared three t n a.1 (h a.0 b.0))
    (λ name fields ts h p q. named_struct three name fields ts (names name (ty.Struct name fields ts) (struct_declared one name fields ts p) (struct_declared two name fields ts q)))
    (λ name s w p q. named_enum three name s w (names name (ty.Enum name s w) (enum_declared one name s w p) (enum_declared two name s w q)))
    (λ p q. token_declared three)
