-- Global environments that have of each item, instance and part of a declaration what its text comes to by them: those of longer chains
-- add nothing to them.
use Rattle.std.specs.Prelude.{ℕ, List, ◌≡◌, true, Option, Some, length}
use Rattle.dslx_tree.specs.declared.item.Alias.{Alias}
use Rattle.dslx_tree.specs.declared.item.Constant.{Constant}
use Rattle.dslx_tree.specs.declared.item.Definition.{Definition}
use Rattle.dslx_tree.specs.declared.item.Definition.TheVariants as d
use Rattle.dslx_tree.specs.declared.item.Enum.{Enum}
use Rattle.dslx_tree.specs.declared.item.Function.{Function}
use Rattle.dslx_tree.specs.declared.item.Module.{Module}
use Rattle.dslx_tree.specs.declared.item.Struct.{Struct}
use Rattle.dslx_meaning.specs.Items.{item_named, member_named}
use Rattle.dslx_meaning.specs.declared.value.DslxValue.{DslxValue}
use Rattle.dslx_meaning.specs.Rules.ItemRules.{alias_seen, constant_seen, enum_member_value, enum_seen, function_seen, struct_seen}
use Rattle.dslx_meaning.specs.Rules.ModuleRules.{behind_values, default_seen, parameter_seen, parametrics_of, signature_of, sound_instance, unbroken_instance}
use Rattle.dslx_meaning.specs.Rules.Namesakes.{told_apart}
use Rattle.dslx_meaning.specs.Rules.TypeEnvs.{GlobalEnv, Instance}
use Rattle.dslx_check_facts.specs.Names.{definition_at}
use Rattle.dslx_check_facts.specs.TypeEnvs.{known_to}

-- the item of a number, where those of one name are told apart
abbrev pub told_item : Module → ℕ → Option Definition
told_item text i = definition_at (told_apart text).items i

-- an instance of a function
abbrev pub instance_of_function : Function → List DslxValue → Instance
instance_of_function f parametric_args = record { name = f.name.name; parametric_args = parametric_args }

-- constants and types
pub record ItemsSettle (text : Module) (known : GlobalEnv) : Type 0 where
  pub alias : (i : ℕ) (a : Alias) → told_item text i ≡ Some (d.Alias a) → known.items.type_named a.name.name ≡ (alias_seen known a).ty
  pub structure : (i : ℕ) (s : Struct) → told_item text i ≡ Some (d.Struct s) → known.items.type_named s.name.name ≡ (struct_seen known s).ty
  pub fields : (i : ℕ) (s : Struct) → told_item text i ≡ Some (d.Struct s) → known.items.struct_named s.name.name ≡ (struct_seen known s).ty
  pub choice : (i : ℕ) (e : Enum) → told_item text i ≡ Some (d.Enum e) → known.items.type_named e.name.name ≡ (enum_seen known e).ty
  pub member : (i : ℕ) (e : Enum) (name : List ℕ) → told_item text i ≡ Some (d.Enum e) → known.items.member e.name.name name ≡ enum_member_value known e name (member_named name e.members)
  pub constant : (i : ℕ) (c : Constant) → told_item text i ≡ Some (d.Constant c) → known.items.constant c.name.name ≡ (constant_seen known c).value

-- instances of functions
pub record FunctionsSettle (text : Module) (known : GlobalEnv) : Type 0 where
  pub sound : (i : ℕ) (f : Function) (parametric_args : List DslxValue) → told_item text i ≡ Some (d.Function f)
      → known.is_sound (instance_of_function f parametric_args) ≡ sound_instance known (instance_of_function f parametric_args)
  pub unbroken : (i : ℕ) (f : Function) (parametric_args : List DslxValue) → told_item text i ≡ Some (d.Function f)
      → known.is_unbroken (instance_of_function f parametric_args) ≡ unbroken_instance known (instance_of_function f parametric_args)
  pub size : (i : ℕ) (f : Function) (parametric_args : List DslxValue) → told_item text i ≡ Some (d.Function f)
      → known.body_size (instance_of_function f parametric_args) ≡ (function_seen known f parametric_args).body.size

-- as many values as the item has parametrics
abbrev pub HasAllValues : GlobalEnv → List ℕ → List (Option DslxValue) → Type 0
HasAllValues known owner values = length values ≡ length (parametrics_of (item_named owner known.whole.items))

-- parts of declarations, and those that a call asks for which rule 3 refuses: these have the types and the values of them, also where nothing
-- is known of what their own group declares
pub record DeclarationsSettle (text : Module) (known : GlobalEnv) : Type 0 where
  pub parameter : (owner : List ℕ) (before : List (Option DslxValue)) → known.parameter_in owner before ≡ (let b = behind_values known owner before in parameter_seen b.context b.left)
  pub default : (owner : List ℕ) (before : List (Option DslxValue)) → known.default_in owner before ≡ (let b = behind_values known owner before in default_seen b.context b.left)
  pub signature : (owner : List ℕ) (values : List (Option DslxValue)) → HasAllValues known owner values
      → known.signature_in owner values ≡ signature_of (behind_values known owner values).context (item_named owner known.whole.items)
  pub parameter_type : (owner : List ℕ) (before : List (Option DslxValue))
      → (known.parameter_in owner before).ty ≡ (let b = behind_values (known_to true owner known) owner before in (parameter_seen b.context b.left).ty)
  pub default_value : (owner : List ℕ) (before : List (Option DslxValue))
      → (known.default_in owner before).value ≡ (let b = behind_values (known_to true owner known) owner before in (default_seen b.context b.left).value)
  pub default_type : (owner : List ℕ) (before : List (Option DslxValue))
      → (known.default_in owner before).judgement.ty ≡ (let b = behind_values (known_to true owner known) owner before in (default_seen b.context b.left).judgement.ty)
  pub signature_types : (owner : List ℕ) (values : List (Option DslxValue)) → HasAllValues known owner values
      → known.signature_in owner values ≡ signature_of (behind_values (known_to true owner known) owner values).context (item_named owner known.whole.items)
