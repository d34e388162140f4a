-- Items whose text is well-typed, where what they mention is in the global environment: their values and types.
use Rattle.std.specs.Prelude.{◌≡◌, ℕ, List, [], map, true, Bool, Some}
use Rattle.std.specs.List.{list_all}
use Rattle.dslx_tree.specs.declared.expr.Expr.{Expr}
use Rattle.dslx_tree.specs.declared.item.Alias.{Alias}
use Rattle.dslx_tree.specs.declared.item.Constant.{Constant}
use Rattle.dslx_tree.specs.declared.item.Enum.{Enum}
use Rattle.dslx_tree.specs.declared.item.Function.{Function}
use Rattle.dslx_tree.specs.declared.item.Parametric.{Parametric}
use Rattle.dslx_tree.specs.declared.item.Struct.{Struct}
use Rattle.dslx_meaning.specs.Environment.{Given, outside}
use Rattle.dslx_meaning.specs.Items.{as_enum, constant_value, enum_type, function_value, item_named, member_named, member_value, name_of_field, struct_type}
use Rattle.dslx_meaning.specs.Lists.{and_then}
use Rattle.dslx_meaning.specs.Meaning.{value_of, written_type}
use Rattle.dslx_meaning.specs.Values.{type_of_value}
use Rattle.dslx_meaning.specs.declared.ty.DslxType.{DslxType}
use Rattle.dslx_meaning.specs.declared.ty.DslxType as ty
use Rattle.dslx_meaning.specs.declared.value.DslxValue.{DslxValue}
use Rattle.dslx_meaning.specs.Rules.ItemRules.{Found, alias_seen, constant_seen, enum_member_value, enum_seen, function_seen, function_type_env, item_type_env, typing_of_inner, typing_of_type, result_typing, struct_seen}
use Rattle.dslx_meaning.specs.Rules.TypeEnvs.{GlobalEnv}
use Rattle.dslx_meaning.specs.Rules.ModuleRules.{default_known}
use Rattle.dslx_meaning.specs.Rules.NameRules.{has_member}
use Rattle.dslx_core.specs.Typing.Typed.Complete.{IsDefaultKnown, IsWellTypedPart, IsTypeKnown}
use Rattle.dslx_core.specs.Typing.Typed.Declared.{AllDeclared, Declarations, IsDeclared}
use Rattle.dslx_core.specs.Typing.Typed.Given.{GivesOf, IsSized, OwnTypes}
use Rattle.dslx_core.specs.Typing.Typed.Kinds.{is_of}
use Rattle.dslx_core.specs.Typing.Typed.Numbers.{AreOwn}
use Rattle.dslx_core.specs.Typing.Typed.WellTyped.{AreOperandsOf}

-- constants in the global environment have values of their own types, and members of enums values of their enum
pub record AreTyped (known : GlobalEnv) : Type 0 where
  pub constants : (name : List ℕ) (v : DslxValue) → known.items.constant name ≡ Some v → GivesOf known.items.type_named (type_of_value v) (Some v)
  pub members : (name member : List ℕ) (e : Enum) (t : DslxType) → as_enum (item_named name known.whole.items) ≡ Some e → has_member e member ≡ true → known.items.type_named name ≡ Some t
      → GivesOf known.items.type_named t (known.items.member name member)

-- nothing that a declaration breaks or passes, and nothing that it reaches does
pub record IsWellTypedFound (known : GlobalEnv) (found : Found) : Type 0 where
  pub faults : found.faults ≡ []
  pub reached : list_all known.is_sound found.reached ≡ true

-- a constant has a value, which is of its own type and the one that it denotes
pub record ConstantHasValue (known : GlobalEnv) (c : Constant) : Type 0 where
  pub value : DslxValue
  pub is : (constant_seen known c).value ≡ Some value
  pub own : GivesOf known.items.type_named (type_of_value value) (Some value)
  pub means : constant_value known.items c ≡ Some value

-- an alias names a type of the text, the one that it denotes
pub record AliasHasType (known : GlobalEnv) (a : Alias) : Type 0 where
  pub names : DslxType
  pub is : (alias_seen known a).ty ≡ Some names
  pub declared : IsDeclared known.items.type_named names
  pub means : written_type a.ty (outside known.items) ≡ Some names

-- a struct has the fields that are written, each of a type of the text and with no name twice, and is the type that it denotes
pub record StructHasType (known : GlobalEnv) (s : Struct) : Type 0 where
  pub fields : List DslxType
  pub is : (struct_seen known s).ty ≡ Some (ty.Struct s.name.name (map name_of_field s.fields) fields)
  pub each : OwnTypes (map name_of_field s.fields) fields (map name_of_field s.fields) fields
  pub declared : AllDeclared known.items.type_named fields
  pub means : struct_type known.items s ≡ Some (ty.Struct s.name.name (map name_of_field s.fields) fields)

-- the member of this name has a value of its enum, the one that it denotes
pub record MemberHasValue (known : GlobalEnv) (e : Enum) (signed : Bool) (width : ℕ) (name : List ℕ) : Type 0 where
  pub value : DslxValue
  pub is : enum_member_value known e name (member_named name e.members) ≡ Some value
  pub of : is_of (ty.Enum e.name.name signed width) value ≡ true
  pub means : and_then (member_named name e.members) (member_value known.items e) ≡ Some value

-- an enum has bits of a width, those that it denotes, and each member a value
pub record EnumHasType (known : GlobalEnv) (e : Enum) : Type 0 where
  pub signed : Bool
  pub width : ℕ
  pub is : (enum_seen known e).ty ≡ Some (ty.Enum e.name.name signed width)
  pub means : enum_type known.items e ≡ Some (ty.Enum e.name.name signed width)
  pub members : (name : List ℕ) → has_member e name ≡ true → MemberHasValue known e signed width name

-- a parametric, behind parametrics with values of their own types: the type and the default that typing finds are those that
-- it denotes, and typing finds them where they are well-typed
pub record ParametricHasValue (known : GlobalEnv) (owner : List ℕ) (p : Parametric) : Type 0 where
  pub means : (so_far : List Given) (t : DslxType) → AreOwn known.items.type_named so_far → (typing_of_type (item_type_env known owner so_far) p.ty).ty ≡ Some t
      → (written_type p.ty (record { items = known.items; bound = so_far }) ≡ Some t) × IsDeclared known.items.type_named t
  pub typed : (so_far : List Given) → AreOwn known.items.type_named so_far → IsWellTypedPart known (typing_of_inner (item_type_env known owner so_far) p.ty) → IsTypeKnown (typing_of_type (item_type_env known owner so_far) p.ty).ty
  pub default_means : (so_far : List Given) (e : Expr) (v : DslxValue) → (default_known (item_type_env known owner so_far) e).value ≡ Some v → value_of e (record { items = known.items; bound = so_far }) ≡ Some v
  pub default : (so_far : List Given) (e : Expr) → AreOwn known.items.type_named so_far → IsWellTypedPart known (default_known (item_type_env known owner so_far) e).judgement → IsDefaultKnown known.items.type_named (default_known (item_type_env known owner so_far) e)

-- an instance of a function has a type of its result, one of the text, and gives a value of it for operands of the types of its
-- arguments, where its body has a size
pub record InstanceHasValue (known : GlobalEnv) (f : Function) (parametric_args : List DslxValue) : Type 0 where
  pub result : DslxType
  pub typed : (result_typing (function_type_env known f parametric_args) f.result).ty ≡ Some result
  pub declared : IsDeclared known.items.type_named result
  pub gives : (operands : List DslxValue) → AreOperandsOf (function_type_env known f parametric_args) f.arguments operands → GivesOf known.items.type_named result (function_value known.items f parametric_args operands)
  pub sized : (operands : List DslxValue) → AreOperandsOf (function_type_env known f parametric_args) f.arguments operands → IsSized (function_seen known f parametric_args).body.size

-- what the one declares the other declares alike
abbrev pub DeclareMore : Declarations → Declarations → Type 0
DeclareMore types more = (name : List ℕ) (t : DslxType) → types name ≡ Some t → more name ≡ Some t
