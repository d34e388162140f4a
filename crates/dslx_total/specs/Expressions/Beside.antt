-- The scope where something is lowered, which matches the type environment where it is typed.
use Rattle.std.specs.Prelude.{◌≡◌, ◌≤◌, ℕ, nat_lt, List, [], ◌∷◌, map, Bool, false, true, Option, Some}
use Rattle.std.specs.List.{list_all}
use Rattle.dslx_tree.specs.declared.item.Function.{Function}
use Rattle.dslx_meaning.specs.Items.{all_parametric_args, as_function, inferred_from, item_named}
use Rattle.dslx_meaning.specs.Types.{flat_bits, is_unit}
use Rattle.dslx_meaning.specs.Values.{type_of_value}
use Rattle.dslx_meaning.specs.declared.ty.DslxType.{DslxType, fold-DslxType}
use Rattle.dslx_meaning.specs.declared.ty.DslxType.TheOpen.{DslxType-F}
use Rattle.dslx_meaning.specs.declared.value.DslxValue.{DslxValue}
use Rattle.dslx_meaning.specs.Rules.TypeEnvs.{Instance, GlobalEnv, TypeEnv, Typed}
use Rattle.dslx_core.specs.Typing.Typed.Complete.{signature_at}
use Rattle.dslx_core.specs.Typing.Typed.Declared.{IsDeclared}
use Rattle.dslx_core.specs.Typing.Typed.Numbers.{AllOwn}
use Rattle.dslx_core.specs.Lowering.CoreScopes.{BoundSlot, CoreCallee, BodyEnv, CoreScope}

-- ---- calls

-- types that are those which are declared for the arguments, where these are known
abbrev pub AreDeclaredFor : List (Option DslxType) → List DslxType → Type 0
AreDeclaredFor [] [] = Unit {0}
AreDeclaredFor (o ∷ os) (t ∷ ts) = ((u : DslxType) → o ≡ Some u → u ≡ t) × AreDeclaredFor os ts
AreDeclaredFor [] (t ∷ ts) = ⊥
AreDeclaredFor (o ∷ os) [] = ⊥

-- the callee of a call: a function, and the type that is declared for its result
pub record HasCallee (known : GlobalEnv) (core : BodyEnv) (name : List ℕ) (f : Function) (given parametric_args : List DslxValue) (types : List DslxType) : Type 0 where
  pub callee : CoreCallee
  pub is : core.callee name given types ≡ Some callee
  pub result : (signature_at known f.name.name parametric_args).result ≡ Some callee.result

-- calls of these instances, whose parametrics have values of their own types, with operands of the types of the arguments, have
-- a callee
abbrev pub CallsAreKnown : (Instance → Bool) → GlobalEnv → BodyEnv → Type 0
CallsAreKnown here known core = (name : List ℕ) (f : Function) (given parametric_args : List DslxValue) (types : List DslxType)
    → as_function (item_named name known.whole.items) ≡ Some f → all_parametric_args known.items (inferred_from f.arguments types) [] f.parametrics given ≡ Some parametric_args
    → AllOwn known.items.type_named parametric_args → here (record { name = f.name.name; parametric_args = parametric_args }) ≡ true → AreDeclaredFor (signature_at known f.name.name parametric_args).arguments types
    → HasCallee known core name f given parametric_args types

-- ---- types

abbrev pub has_widths_step : DslxType-F Bool → Bool
has_widths_step (DslxType-F.Bits s w) = nat_lt 0 w
has_widths_step (DslxType-F.Tuple bs) = list_all (λ b. b) bs
has_widths_step (DslxType-F.Array b n) = b
has_widths_step (DslxType-F.Struct name fields bs) = list_all (λ b. b) bs
has_widths_step (DslxType-F.Enum name s w) = nat_lt 0 w
has_widths_step DslxType-F.Token = true

-- all bits in it have a width
abbrev pub has_widths : DslxType → Bool
has_widths = fold-DslxType Bool has_widths_step

-- so it is in what a name stands for, as in all that a text writes
abbrev pub NamesHaveWidths : GlobalEnv → Type 0
NamesHaveWidths known = (name : List ℕ) (t : DslxType) → known.items.type_named name ≡ Some t → has_widths t ≡ true

-- what names stand for has bits where it isn't ()
abbrev pub NamesAreFull : GlobalEnv → Type 0
NamesAreFull known = (name : List ℕ) (t : DslxType) → known.items.type_named name ≡ Some t → is_unit t ≡ false → 1 ≤ flat_bits t

-- a constant is of a type of the text
abbrev pub ConstantsAreDeclared : GlobalEnv → Type 0
ConstantsAreDeclared known = (name : List ℕ) (v : DslxValue) → known.items.constant name ≡ Some v → IsDeclared known.items.type_named (type_of_value v)

-- ---- scopes

-- the names that are bound, with their types
abbrev pub typed_slots : List BoundSlot → List Typed
typed_slots ls = map (λ (l : BoundSlot). record { name = l.name; ty = Some l.ty }) ls

-- the scope matches the type environment: items and parametrics have the same denotations, the same names are bound with the same types,
-- and calls of these instances, which are well-typed, have a callee
pub record ScopeMatchesEnv (here : Instance → Bool) (context : TypeEnv) (scope : CoreScope) : Type 0 where
  pub items : scope.known.items ≡ context.known.items
  pub parametric_args : scope.known.parametric_args ≡ context.parametric_args
  pub locals : typed_slots scope.locals ≡ context.locals
  pub sound : (i : Instance) → here i ≡ true → context.known.is_sound i ≡ true
  pub calls : CallsAreKnown here context.known scope.known
  pub widths : NamesHaveWidths context.known
  pub constants : ConstantsAreDeclared context.known
