-- What is known of the items of a text, where nothing is wrong with them: meanings that are those over themselves.
use Rattle.std.proofs.Common.{◌≡◌, ℕ, Bool, true, false, if◌then◌else◌, List, [], ◌∷◌, map, Option, Some, None, refl, sym, ap, ◌∙◌}
use mathlib.Core.Bool.{true≢false}
use Rattle.std.specs.Str.{bytes_eq}
use Rattle.dslx_tree.specs.declared.item.Alias.{Alias}
use Rattle.dslx_tree.specs.declared.item.Constant.{Constant}
use Rattle.dslx_tree.specs.declared.item.Definition.{Definition}
use Rattle.dslx_tree.specs.declared.item.Definition.TheVariants as d
use Rattle.dslx_tree.specs.declared.item.Enum.{Enum}
use Rattle.dslx_tree.specs.declared.item.Member.{Member}
use Rattle.dslx_tree.specs.declared.item.Module.{Module}
use Rattle.dslx_tree.specs.declared.item.Struct.{Struct}
use Rattle.dslx_meaning.specs.Items.{as_constant, as_enum, as_function, as_struct, call_of, constant_value, is_constant_item, item_named, meanings_over, member_named, member_value, struct_type, type_of_item}
use Rattle.dslx_meaning.specs.Lists.{and_then, is_in}
use Rattle.dslx_meaning.specs.declared.value.DslxValue.{DslxValue}
use Rattle.dslx_meaning.specs.Rules.ItemRules.{alias_seen, constant_seen, enum_member_value, enum_seen, struct_seen}
use Rattle.dslx_meaning.specs.Rules.TypeEnvs.{GlobalEnv}
use Rattle.dslx_meaning.specs.Rules.Mentions.{Use, AsValue, AsType, AsFunction, AsEnum, AsStruct, item_reaches}
use Rattle.dslx_meaning.specs.Rules.ModuleRules.{item_found, globals_over, type_known}
use Rattle.dslx_meaning.specs.Rules.NameRules.{has_member}
use Rattle.dslx_core.specs.Typing.Complete.HasValue.{AliasHasType, ConstantHasValue, EnumHasType, IsWellTypedFound, StructHasType}
use Rattle.dslx_core.specs.Typing.Depends.Alike.{UseAlike}
use Rattle.dslx_core.specs.Typing.Laws.Agreement.{ItemMeansOne}
use Rattle.dslx_core.proofs.Lemmas.Typing.Depends.{call_unless}

-- what is known of items with whose text nothing is wrong
pub record HasValue (known : GlobalEnv) : Type 0 where
  pub constants : (c : Constant) → IsWellTypedFound known (constant_seen known c).found → ConstantHasValue known c
  pub aliases : (a : Alias) → IsWellTypedFound known (alias_seen known a).found → AliasHasType known a
  pub structs : (s : Struct) → IsWellTypedFound known (struct_seen known s).found → StructHasType known s
  pub enums : (e : Enum) → IsWellTypedFound known (enum_seen known e).found → EnumHasType known e

-- the items of the text are known, nothing is wrong with them, and one step more says nothing else of them
pub record IsSettled (m : Module) (known : GlobalEnv) : Type 0 where
  pub text : known.whole ≡ m
  pub kinds : (name : List ℕ) → known.items.is_constant name ≡ is_constant_item (item_named name known.whole.items)
  pub uses : (u : Use) (name : List ℕ) → UseAlike known (globals_over known) u name
  pub well_typed : (name : List ℕ) (x : Definition) → item_named name m.items ≡ Some x → IsWellTypedFound known (item_found known x)
  pub stand : HasValue known

-- an enum has no member of a name that none of its members has
no_member : (name : List ℕ) (ms : List Member) → is_in name (map (λ (b : Member). b.name.name) ms) ≡ false → member_named name ms ≡ None
no_member name [] h = refl
no_member name (b ∷ ms) h = pick (bytes_eq name b.name.name) h (no_member name ms)
  where
    pick : (t : Bool) → (if t then true else is_in name (map (λ (b : Member). b.name.name) ms)) ≡ false → (is_in name (map (λ (b : Member). b.name.name) ms) ≡ false → member_named name ms ≡ None)
        → (if t then Some b else member_named name ms) ≡ None
    pick true e rest = absurd (true≢false e)
    pick false e rest = rest e

module _ (m : Module) (known : GlobalEnv) (s : IsSettled m known) where
  constant_means : (name : List ℕ) (o : Option Definition) → item_named name m.items ≡ o → and_then (as_constant o) (λ c. (constant_seen known c).value) ≡ and_then (as_constant o) (constant_value known.items)
  constant_means name (Some (d.Constant c)) e = let stands = s.stand.constants c (s.well_typed name (d.Constant c) e) in stands.is ∙ sym stands.means
  constant_means name (Some (d.Alias a)) e = refl
  constant_means name (Some (d.Struct x)) e = refl
  constant_means name (Some (d.Enum x)) e = refl
  constant_means name (Some (d.Function f)) e = refl
  constant_means name (Some (d.Proc p)) e = refl
  constant_means name None e = refl

  type_means : (name : List ℕ) (o : Option Definition) → item_named name m.items ≡ o → type_known known o ≡ type_of_item known.items o
  type_means name (Some (d.Alias a)) e = let stands = s.stand.aliases a (s.well_typed name (d.Alias a) e) in stands.is ∙ sym stands.means
  type_means name (Some (d.Struct x)) e = let stands = s.stand.structs x (s.well_typed name (d.Struct x) e) in stands.is ∙ sym stands.means
  type_means name (Some (d.Enum x)) e = let stands = s.stand.enums x (s.well_typed name (d.Enum x) e) in stands.is ∙ sym stands.means
  type_means name (Some (d.Constant c)) e = refl
  type_means name (Some (d.Function f)) e = refl
  type_means name (Some (d.Proc p)) e = refl
  type_means name None e = refl

  struct_means : (name : List ℕ) (o : Option Definition) → item_named name m.items ≡ o → and_then (as_struct o) (λ x. (struct_seen known x).ty) ≡ and_then (as_struct o) (struct_type known.items)
  struct_means name (Some (d.Struct x)) e = let stands = s.stand.structs x (s.well_typed name (d.Struct x) e) in stands.is ∙ sym stands.means
  struct_means name (Some (d.Alias a)) e = refl
  struct_means name (Some (d.Enum x)) e = refl
  struct_means name (Some (d.Constant c)) e = refl
  struct_means name (Some (d.Function f)) e = refl
  struct_means name (Some (d.Proc p)) e = refl
  struct_means name None e = refl

  -- of an enum with which nothing is wrong
  own_member_means : (x : Enum) → EnumHasType known x → (member : List ℕ) → enum_member_value known x member (member_named member x.members) ≡ and_then (member_named member x.members) (member_value known.items x)
  own_member_means x stands member = by_name (has_member x member) refl
    where
      by_name : (t : Bool) → has_member x member ≡ t → enum_member_value known x member (member_named member x.members) ≡ and_then (member_named member x.members) (member_value known.items x)
      by_name true e = let own = stands.members member e in own.is ∙ sym own.means
      by_name false e =
          let none = no_member member x.members e in
          (λ i. enum_member_value known x member (none i)) ∙ sym (λ i. and_then (none i) (member_value known.items x))

  member_means : (member name : List ℕ) (o : Option Definition) → item_named name m.items ≡ o
      → and_then (as_enum o) (λ x. enum_member_value known x member (member_named member x.members)) ≡ and_then (as_enum o) (λ x. and_then (member_named member x.members) (member_value known.items x))
  member_means member name (Some (d.Enum x)) e = own_member_means x (s.stand.enums x (s.well_typed name (d.Enum x) e)) member
  member_means member name (Some (d.Alias a)) e = refl
  member_means member name (Some (d.Struct x)) e = refl
  member_means member name (Some (d.Constant c)) e = refl
  member_means member name (Some (d.Function f)) e = refl
  member_means member name (Some (d.Proc p)) e = refl
  member_means member name None e = refl

  -- what is said of the item of a name
  at_item : {X : Type 0} (name : List ℕ) (f : Option Definition → X) → f (item_named name known.whole.items) ≡ f (item_named name m.items)
  at_item name f i = f (item_named name (s.text i).items)

  member_itself : (name member : List ℕ) → (meanings_over m known.items).member name member ≡ known.items.member name member
  member_itself name member =
      let next = (s.uses AsEnum name).members member in
      let text = at_item name (λ o. and_then (as_enum o) (λ x. enum_member_value known x member (member_named member x.members))) in
      sym (next ∙ text ∙ member_means member name (item_named name m.items) refl)

  call_itself : (name : List ℕ) → item_reaches m name name ≡ false → (given operands : List DslxValue) → (meanings_over m known.items).call name given operands ≡ known.items.call name given operands
  call_itself name free given operands =
      let next = (s.uses AsFunction name).call given operands in
      let loops = (λ i. item_reaches (s.text i) name name) ∙ free in
      sym (next ∙ ap (λ b. call_unless b (and_then (as_function (item_named name known.whole.items)) (λ f. call_of known.items f given operands))) loops
      ∙ at_item name (λ o. and_then (as_function o) (λ f. call_of known.items f given operands)))

  -- what is known of an item that doesn't reach itself, over what is known of the others
  pub over_itself : (name : List ℕ) → item_reaches m name name ≡ false → ItemMeansOne (meanings_over m known.items) known.items name
  over_itself name free = record {
    types = sym (s.uses AsType name ∙ at_item name (type_known known) ∙ type_means name (item_named name m.items) refl);
    structs = sym (s.uses AsStruct name ∙ at_item name (λ o. and_then (as_struct o) (λ x. (struct_seen known x).ty)) ∙ struct_means name (item_named name m.items) refl);
    kind = sym (s.kinds name ∙ at_item name is_constant_item);
    constants = sym (s.uses AsValue name ∙ at_item name (λ o. and_then (as_constant o) (λ c. (constant_seen known c).value)) ∙ constant_means name (item_named name m.items) refl);
    members = member_itself name;
    calls = call_itself name free;
  }
