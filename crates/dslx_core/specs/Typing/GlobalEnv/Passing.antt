-- Items whose names pass a test, which are in the global environment with all that they need.
use Rattle.std.specs.Prelude.{◌≡◌, ℕ, List, Bool, true, false, Some, None}
use Rattle.dslx_tree.specs.declared.item.Enum.{Enum}
use Rattle.dslx_tree.specs.declared.item.Function.{Function}
use Rattle.dslx_tree.specs.declared.item.Struct.{Struct as StructItem}
use Rattle.dslx_meaning.specs.Items.{as_enum, as_function, as_struct, is_constant_item, item_named}
use Rattle.dslx_meaning.specs.Values.{type_of_value}
use Rattle.dslx_meaning.specs.declared.ty.DslxType.{DslxType, Struct}
use Rattle.dslx_meaning.specs.declared.value.DslxValue.{DslxValue}
use Rattle.dslx_meaning.specs.Rules.TypeEnvs.{GlobalEnv}
use Rattle.dslx_meaning.specs.Rules.Mentions.{AsType, is_of_use}
use Rattle.dslx_meaning.specs.Rules.NameRules.{has_member}
use Rattle.dslx_core.specs.Typing.Typed.Complete.{IsFunctionKnown, IsStructKnown}
use Rattle.dslx_core.specs.Typing.Typed.Declared.{AllDeclared, IsDeclared}
use Rattle.dslx_core.specs.Typing.Typed.Given.{GivesOf}
use Rattle.dslx_core.specs.Typing.GlobalEnv.Filled.{filled}

-- each of them, where what is filled in for others is of this width
pub record PassingHaveValues (w : ℕ) (P : List ℕ → Bool) (known : GlobalEnv) : Type 0 where
  pub kinds : (name : List ℕ) → known.items.is_constant name ≡ is_constant_item (item_named name known.whole.items)
  pub others : (name : List ℕ) → is_constant_item (item_named name known.whole.items) ≡ false → known.items.constant name ≡ None
  pub constants : (name : List ℕ) → P name ≡ true → is_constant_item (item_named name known.whole.items) ≡ true
      → (v : DslxValue) × (known.items.constant name ≡ Some v) × GivesOf (filled w P known).items.type_named (type_of_value v) (Some v)
  pub types : (name : List ℕ) → P name ≡ true → is_of_use AsType (item_named name known.whole.items) ≡ true → (t : DslxType) × (known.items.type_named name ≡ Some t)
  pub declared : (name : List ℕ) (t : DslxType) → P name ≡ true → known.items.type_named name ≡ Some t → IsDeclared (filled w P known).items.type_named t
  pub parts : (name own : List ℕ) (fields : List (List ℕ)) (ts : List DslxType) → P name ≡ true → known.items.type_named name ≡ Some (Struct own fields ts) → AllDeclared (filled w P known).items.type_named ts
  pub structs : (name : List ℕ) (s : StructItem) → P name ≡ true → as_struct (item_named name known.whole.items) ≡ Some s → IsStructKnown (filled w P known).items.type_named s (known.items.struct_named name)
  pub members : (name member : List ℕ) (e : Enum) (t : DslxType) → P name ≡ true → as_enum (item_named name known.whole.items) ≡ Some e → has_member e member ≡ true → known.items.type_named name ≡ Some t
      → GivesOf (filled w P known).items.type_named t (known.items.member name member)
  pub functions : (name : List ℕ) (f : Function) → P name ≡ true → as_function (item_named name known.whole.items) ≡ Some f → IsFunctionKnown (filled w P known) name f
