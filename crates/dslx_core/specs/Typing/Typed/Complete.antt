-- Global environments that have all that a text declares, so that nothing in it is left without a type.
use Rattle.std.specs.Prelude.{◌≡◌, ℕ, List, [], ◌∷◌, map, true, false, Option, Some}
use Rattle.std.specs.List.{list_all}
use Rattle.dslx_tree.specs.declared.item.Field.{Field}
use Rattle.dslx_tree.specs.declared.item.Function.{Function}
use Rattle.dslx_tree.specs.declared.item.Parametric.{Parametric}
use Rattle.dslx_tree.specs.declared.item.Struct.{Struct}
use Rattle.dslx_tree.specs.declared.expr.Expr.{Expr}
use Rattle.dslx_meaning.specs.Types.{is_unit}
use Rattle.dslx_meaning.specs.Values.{type_of_value}
use Rattle.dslx_meaning.specs.Items.{item_named, as_function, as_struct, is_constant_item, name_of_field, all_parametric_args, inferred_from}
use Rattle.dslx_meaning.specs.declared.ty.DslxType.{DslxType}
use Rattle.dslx_meaning.specs.declared.ty.DslxType as ty
use Rattle.dslx_meaning.specs.declared.value.DslxValue.{DslxValue}
use Rattle.dslx_meaning.specs.Rules.TypeEnvs.{GlobalEnv, Judgement, DefaultSeen, Signature}
use Rattle.dslx_meaning.specs.Rules.CallRules.{parametric_type, known_before}
use Rattle.dslx_meaning.specs.Rules.Mentions.{is_of_use, AsType}
use Rattle.dslx_core.specs.Typing.Typed.Declared.{Declarations, IsDeclared, DeclaresParts}
use Rattle.dslx_core.specs.Typing.Typed.Given.{GivesOf, HasNarrowLeaves, IsSized, OwnTypes}
use Rattle.dslx_core.specs.Typing.Typed.Numbers.{FitParametricArgs, ParametricsMean, values_behind}

-- nothing that a part breaks or passes, and nothing that it reaches does
pub record IsWellTypedPart (known : GlobalEnv) (j : Judgement) : Type 0 where
  pub faults : j.faults ≡ []
  pub reached : list_all known.is_sound j.reached ≡ true

-- a struct: its type, with the fields that are written in the text
pub record IsStructKnown (types : Declarations) (s : Struct) (o : Option DslxType) : Type 0 where
  pub own : List ℕ
  pub names : List (List ℕ)
  pub fields : List DslxType
  pub is : o ≡ Some (ty.Struct own names fields)
  pub written : map name_of_field s.fields ≡ names
  pub each : OwnTypes names fields names fields
  pub declared : IsDeclared types (ty.Struct own names fields)

-- values of these types, which are declared for arguments
abbrev pub FitArguments : Declarations → List (Option DslxType) → List DslxValue → Type 0
FitArguments types [] [] = Unit {0}
FitArguments types (t ∷ ts) (v ∷ vs) = ((u : DslxType) → t ≡ Some u → GivesOf types u (Some v)) × FitArguments types ts vs
FitArguments types [] (v ∷ vs) = ⊥
FitArguments types (t ∷ ts) [] = ⊥

-- the signature of an instance
abbrev pub signature_at : GlobalEnv → List ℕ → List DslxValue → Signature
signature_at known owner parametric_args = known.signature_in owner (values_behind [] parametric_args)

-- a well-typed instance of a function: calls give values of the type of its result
pub record IsCallable (known : GlobalEnv) (f : Function) (name : List ℕ) (parametric_args : List DslxValue) : Type 0 where
  pub result : DslxType
  pub typed : (signature_at known f.name.name parametric_args).result ≡ Some result
  pub gives : (given operands : List DslxValue) → all_parametric_args known.items (inferred_from f.arguments (map type_of_value operands)) [] f.parametrics given ≡ Some parametric_args
      → FitArguments known.items.type_named (signature_at known f.name.name parametric_args).arguments operands → GivesOf known.items.type_named result (known.items.call name given operands)
  pub sized : (operands : List DslxValue) → FitArguments known.items.type_named (signature_at known f.name.name parametric_args).arguments operands → IsSized (known.body_size (record { name = f.name.name; parametric_args = parametric_args }))

-- a type that may stand for a parametric
abbrev pub IsTypeKnown : Option DslxType → Type 0
IsTypeKnown o = (t : DslxType) × (o ≡ Some t) × (is_unit t ≡ false)

-- a default that has a value, which is of its own type
pub record IsDefaultKnown (types : Declarations) (seen : DefaultSeen) : Type 0 where
  pub value : DslxValue
  pub is : seen.value ≡ Some value
  pub typed : seen.judgement.ty ≡ Some (type_of_value value)
  pub own : GivesOf types (type_of_value value) (Some value)

-- a parametric of a function, behind these values: its type is one of the text, and where its type and its default are well-typed,
-- typing finds both
pub record IsParametricKnown (known : GlobalEnv) (owner : List ℕ) (before : List (Option DslxValue)) (p : Parametric) : Type 0 where
  pub declared : (t : DslxType) → (known.parameter_in owner before).ty ≡ Some t → IsDeclared known.items.type_named t
  pub typed : IsWellTypedPart known (known.parameter_in owner before) → IsTypeKnown (known.parameter_in owner before).ty
  pub narrow : (known.parameter_in owner before).faults ≡ [] → (t : DslxType) → (known.parameter_in owner before).ty ≡ Some t → HasNarrowLeaves t
  pub default : (e : Expr) → p.default ≡ Some e → IsWellTypedPart known (known.default_in owner before).judgement → IsDefaultKnown known.items.type_named (known.default_in owner before)

-- all parameters, each behind values of the types of those before it
abbrev pub EachParametricKnown : GlobalEnv → List ℕ → List (Option DslxValue) → List Parametric → Type 0
EachParametricKnown known owner before [] = Unit {0}
EachParametricKnown known owner before (p ∷ ps) =
    IsParametricKnown known owner before p
    × ((t : DslxType) (v : DslxValue) → parametric_type known owner (known_before before) ≡ Some t → GivesOf known.items.type_named t (Some v) → EachParametricKnown known owner (Some v ∷ before) ps)

-- the types of all arguments, where these have one, are types of the text
abbrev pub EachArgumentDeclared : Declarations → List (Option DslxType) → List Field → Type 0
EachArgumentDeclared types [] [] = Unit {0}
EachArgumentDeclared types (t ∷ ts) (f ∷ fs) = ((u : DslxType) → t ≡ Some u → IsDeclared types u) × EachArgumentDeclared types ts fs
EachArgumentDeclared types [] (f ∷ fs) = ⊥
EachArgumentDeclared types (t ∷ ts) [] = ⊥

-- a function of the text: its parametrics by their types and defaults, its arguments by their types, and what its instances
-- give that are well-typed, where the parametrics have values of their types
pub record IsFunctionKnown (known : GlobalEnv) (name : List ℕ) (f : Function) : Type 0 where
  pub mean : ParametricsMean known known.items f.name.name [] [] f.parametrics
  pub parametrics : EachParametricKnown known f.name.name [] f.parametrics
  pub arguments : (parametric_args : List DslxValue) → FitParametricArgs known f.name.name [] f.parametrics parametric_args → EachArgumentDeclared known.items.type_named (signature_at known f.name.name parametric_args).arguments f.arguments
  pub calls : (parametric_args : List DslxValue) → FitParametricArgs known f.name.name [] f.parametrics parametric_args → known.is_sound (record { name = f.name.name; parametric_args = parametric_args }) ≡ true → IsCallable known f name parametric_args

-- all items of the text are in it: constants by their values, types, enums and structs by what they name, and functions
pub record IsComplete (known : GlobalEnv) : Type 0 where
  pub kinds : (name : List ℕ) → known.items.is_constant name ≡ is_constant_item (item_named name known.whole.items)
  pub constants : (name : List ℕ) → known.items.is_constant name ≡ true → (v : DslxValue) × (known.items.constant name ≡ Some v)
  pub types : (name : List ℕ) → is_of_use AsType (item_named name known.whole.items) ≡ true → (t : DslxType) × (known.items.type_named name ≡ Some t)
  pub declared : (name : List ℕ) (t : DslxType) → known.items.type_named name ≡ Some t → IsDeclared known.items.type_named t
  pub parts : DeclaresParts known.items.type_named
  pub structs : (name : List ℕ) (s : Struct) → as_struct (item_named name known.whole.items) ≡ Some s → IsStructKnown known.items.type_named s (known.items.struct_named name)
  pub functions : (name : List ℕ) (f : Function) → as_function (item_named name known.whole.items) ≡ Some f → IsFunctionKnown known name f
