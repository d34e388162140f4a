-- What judging an item and an instance comes to, by the definitions at a global environment.
use Rattle.std.specs.Prelude.{ℕ, List, ◌≡◌, ◌&&◌, not, Option, Some, None, slice_get}
use Rattle.std.specs.List.{list_all}
use Rattle.std.specs.Option.{option_map}
use Rattle.dslx_tree.specs.declared.item.Definition.{Definition}
use Rattle.dslx_tree.specs.declared.item.Definition.TheVariants as d
use Rattle.dslx_tree.specs.declared.item.Enum.{Enum}
use Rattle.dslx_tree.specs.declared.item.Function.{Function}
use Rattle.dslx_meaning.specs.Items.{item_named, member_named}
use Rattle.dslx_meaning.specs.Lists.{and_then}
use Rattle.dslx_meaning.specs.Values.{type_of_value}
use Rattle.dslx_meaning.specs.declared.ty.DslxType.{DslxType}
use Rattle.dslx_meaning.specs.declared.value.DslxValue.{DslxValue}
use Rattle.dslx_meaning.specs.Rules.ConstantRules.{is_empty}
use Rattle.dslx_meaning.specs.Rules.ItemRules.{alias_seen, constant_seen, enum_member_value, enum_seen, function_seen, struct_seen}
use Rattle.dslx_meaning.specs.Rules.ModuleRules.{BehindParametrics, behind_values, default_seen, parameter_seen, signature_of}
use Rattle.dslx_meaning.specs.Rules.TypeEnvs.{GlobalEnv, has_broken}
use Rattle.dslx_check_rules.specs.Interned.{HasRowIf, ItemNames, type_if}
use Rattle.dslx_check_rules.specs.Seen.{capped}
use Rattle.dslx_check_facts.specs.declared.asked.ForeignKey.{ForeignKey}
use Rattle.dslx_check_facts.specs.declared.facts.Facts.{Facts}
use Rattle.dslx_check_facts.specs.declared.facts.ForeignSeen.{ForeignSeen}
use Rattle.dslx_check_facts.specs.declared.facts.ForeignSeen.TheVariants as foreign
use Rattle.dslx_check_facts.specs.declared.facts.Sums.{Sums}
use Rattle.dslx_check_facts.specs.declared.instances.InstanceKey.{InstanceKey}
use Rattle.dslx_check_facts.specs.Known.{at_place, item_names, member_number}
use Rattle.dslx_check_facts.specs.Keys.{list_or_none}
use Rattle.dslx_check_facts.specs.TypeEnvs.{known_to}
use Rattle.dslx_check_facts.specs.Typings.{HasForeignRows, IsDefault, IsSignature, IsTypingThere}
use Rattle.dslx_check_facts.specs.Walks.{HasTables, WalkShown}
use Rattle.dslx_check_declarations.specs.declared.items.ItemSeen.{ItemSeen}
use Rattle.dslx_check_declarations.specs.Work.Settled.{HasAllValues}

-- ---- items

-- it names this type, and has no value
pub record ComesToType (f : Facts) (walk : WalkShown) (seen : ItemSeen) (ty : Option DslxType) : Type 0 where
  pub named : (later : WalkShown) → HasTables walk later → type_if (item_names f) later.rows seen.named_type ≡ ty
  pub row : HasRowIf walk.rows seen.named_type
  pub no_value : seen.value ≡ None
  pub no_value_type : seen.value_type ≡ None

-- it has this value, and names no type
pub record ComesToValue (f : Facts) (walk : WalkShown) (seen : ItemSeen) (value : Option DslxValue) : Type 0 where
  pub is : seen.value ≡ value
  pub type : (later : WalkShown) → HasTables walk later → type_if (item_names f) later.rows seen.value_type ≡ option_map type_of_value value
  pub row : HasRowIf walk.rows seen.value_type
  pub no_type : seen.named_type ≡ None

-- its members have these values
abbrev pub ComesToMembers : GlobalEnv → Enum → ItemSeen → Type 0
ComesToMembers known e seen = (name : List ℕ) → and_then (member_number name e.members) (λ k. at_place seen.members.items k) ≡ enum_member_value known e name (member_named name e.members)

-- by its kind. A function and a proc come to nothing but in their instances
abbrev pub ItemComesTo : Facts → WalkShown → GlobalEnv → Definition → ItemSeen → Type 0
ItemComesTo f walk known (d.Alias a) seen = ComesToType f walk seen (alias_seen known a).ty
ItemComesTo f walk known (d.Struct s) seen = ComesToType f walk seen (struct_seen known s).ty
ItemComesTo f walk known (d.Enum e) seen = ComesToType f walk seen (enum_seen known e).ty × ComesToMembers known e seen
ItemComesTo f walk known (d.Constant c) seen = ComesToValue f walk seen (constant_seen known c).value
ItemComesTo f walk known (d.Function own) seen = ComesToType f walk seen None
ItemComesTo f walk known (d.Proc own) seen = ComesToType f walk seen None

-- ---- instances of functions

-- the instance of this number is that of the function, which has this key, and what its text breaks and reaches gives its sums
pub record FunctionComesTo (f : Facts) (walk : WalkShown) (known : GlobalEnv) (instance : ℕ) (own : Function) (sums : Sums) : Type 0 where
  pub key : InstanceKey
  pub met : slice_get walk.met instance ≡ Some key
  pub name : (item_names f).item key.item ≡ own.name.name
  pub sound : sums.sound ≡ (let found = (function_seen known own key.parametric_args).found in is_empty found.faults && list_all known.is_sound found.reached)
  pub unbroken : sums.unbroken ≡ (let found = (function_seen known own key.parametric_args).found in not (has_broken found.faults) && list_all known.is_unbroken found.reached)
  pub size : sums.size ≡ capped (function_seen known own key.parametric_args).body.size

-- ---- parts of declarations

-- the type environment behind parametrics of these values, where a call that rule 3 refuses may have asked, and those that are left
abbrev pub behind_for : ItemNames → GlobalEnv → ForeignKey → List (Option DslxValue) → BehindParametrics
behind_for names known key values = behind_values (known_to key.is_refused (names.item key.item) known) (names.item key.item) values

-- it comes to what stands there behind these values
abbrev pub PartIsThere : ItemNames → GlobalEnv → WalkShown → ForeignKey → List (Option DslxValue) → ForeignSeen → Type 0
PartIsThere names known later key values (foreign.Parameter t) = let b = behind_for names known key values in IsTypingThere names later key.is_refused t (parameter_seen b.context b.left)
PartIsThere names known later key values (foreign.Default e) = let b = behind_for names known key values in IsDefault names later key.is_refused e (default_seen b.context b.left)
PartIsThere names known later key values (foreign.Signature s) =
    HasAllValues known (names.item key.item) values × IsSignature names later s (signature_of (behind_for names known key values).context (item_named (names.item key.item) known.whole.items))

-- the part of this number, which was asked for behind these values, comes to that
pub record PartComesTo (f : Facts) (walk : WalkShown) (known : GlobalEnv) (number : ℕ) (there : ForeignSeen) : Type 0 where
  pub key : ForeignKey
  pub asked : slice_get walk.asked number ≡ Some key
  pub values : List (Option DslxValue)
  pub prefix : (later : WalkShown) → HasTables walk later → list_or_none later.prefixes key.prefix ≡ values
  pub is : (later : WalkShown) → HasTables walk later → PartIsThere (item_names f) known later key values there
  pub rows : HasForeignRows walk.rows there
