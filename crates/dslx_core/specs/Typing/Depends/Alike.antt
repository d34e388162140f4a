-- Items of a text on which two global environments agree.
use Rattle.std.specs.Prelude.{◌≡◌, ◌||◌, ℕ, List, [], ◌∷◌, length, map, Bool, true, false, Option, Some}
use Rattle.dslx_tree.specs.declared.item.Enum.{Enum}
use Rattle.dslx_tree.specs.declared.item.Function.{Function}
use Rattle.dslx_meaning.specs.Environment.{given_in}
use Rattle.dslx_meaning.specs.Lists.{is_in}
use Rattle.dslx_meaning.specs.Items.{as_enum, as_function, item_named}
use Rattle.dslx_meaning.specs.declared.value.DslxValue.{DslxValue}
use Rattle.dslx_meaning.specs.Rules.ModuleRules.{parametrics_of}
use Rattle.dslx_meaning.specs.Rules.PatternRules.{is_there}
use Rattle.dslx_meaning.specs.Rules.TypeEnvs.{Instance, GlobalEnv, Typed, TypeEnv}
use Rattle.dslx_meaning.specs.Rules.Mentions.{Use, AsValue, AsPattern, AsType, AsFunction, AsProc, AsEnum, AsStruct, Mention, item_reaches}
use Rattle.dslx_core.specs.Typing.TypingRelations.Reached.{MentionsReach}

-- the type environment, with this global environment
abbrev pub in_globals : TypeEnv → GlobalEnv → TypeEnv
in_globals context known = record context { known = known }

-- ---- functions

-- as many values as an item has parametrics
abbrev pub OfAllParametrics : GlobalEnv → List ℕ → List (Option DslxValue) → Type 0
OfAllParametrics known owner values = length values ≡ length (parametrics_of (item_named owner known.whole.items))

-- the types and the defaults of an item's parametrics, and its signature, whatever is known of the parametrics before
pub record DeclaredAlike (a b : GlobalEnv) (owner : List ℕ) : Type 0 where
  pub parameter : (before : List (Option DslxValue)) → a.parameter_in owner before ≡ b.parameter_in owner before
  pub default : (before : List (Option DslxValue)) → a.default_in owner before ≡ b.default_in owner before
  pub signature : (values : List (Option DslxValue)) → OfAllParametrics a owner values → a.signature_in owner values ≡ b.signature_in owner values

-- of a function of the own group, whose calls rule 3 refuses, types and values alone are looked at
pub record TypesAlike (a b : GlobalEnv) (owner : List ℕ) : Type 0 where
  pub parameter : (before : List (Option DslxValue)) → (a.parameter_in owner before).ty ≡ (b.parameter_in owner before).ty
  pub default : (before : List (Option DslxValue)) → (a.default_in owner before).value ≡ (b.default_in owner before).value
  pub default_type : (before : List (Option DslxValue)) → (a.default_in owner before).judgement.ty ≡ (b.default_in owner before).judgement.ty
  pub signature : (values : List (Option DslxValue)) → OfAllParametrics a owner values → a.signature_in owner values ≡ b.signature_in owner values

-- a function: what it declares, and how large its instances are
pub record FunctionAlike (a b : GlobalEnv) (f : Function) : Type 0 where
  pub declared : DeclaredAlike a b f.name.name
  pub size : (parametric_args : List DslxValue) → length parametric_args ≡ length f.parametrics → a.body_size (record { name = f.name.name; parametric_args = parametric_args }) ≡ b.body_size (record { name = f.name.name; parametric_args = parametric_args })

-- a function by its name, and what its calls give
pub record CalleeAlike (a b : GlobalEnv) (name : List ℕ) : Type 0 where
  pub call : (parametric_args operands : List DslxValue) → a.items.call name parametric_args operands ≡ b.items.call name parametric_args operands
  pub function : (f : Function) → as_function (item_named name a.whole.items) ≡ Some f → FunctionAlike a b f

-- an enum by its name, if it is one, and its members
pub record EnumAlike (a b : GlobalEnv) (name : List ℕ) : Type 0 where
  pub ty : (e : Enum) → as_enum (item_named name a.whole.items) ≡ Some e → a.items.type_named name ≡ b.items.type_named name
  pub members : (member : List ℕ) → a.items.member name member ≡ b.items.member name member

-- ---- what is mentioned

-- an item, as it is used
abbrev pub UseAlike : GlobalEnv → GlobalEnv → Use → List ℕ → Type 0
UseAlike a b AsValue name = a.items.constant name ≡ b.items.constant name
UseAlike a b AsPattern name = a.items.constant name ≡ b.items.constant name
UseAlike a b AsType name = a.items.type_named name ≡ b.items.type_named name
UseAlike a b AsFunction name = CalleeAlike a b name
UseAlike a b AsProc name = Unit {0}
UseAlike a b AsEnum name = EnumAlike a b name
UseAlike a b AsStruct name = a.items.struct_named name ≡ b.items.struct_named name

-- a function by its name, as the text of an item sees it
pub record CalleeAlikeFrom (a b : GlobalEnv) (owner name : List ℕ) : Type 0 where
  pub call : (parametric_args operands : List DslxValue) → a.items.call name parametric_args operands ≡ b.items.call name parametric_args operands
  pub types : (f : Function) → as_function (item_named name a.whole.items) ≡ Some f → TypesAlike a b f.name.name
  pub function : a.is_cyclic owner name ≡ false → (f : Function) → as_function (item_named name a.whole.items) ≡ Some f → FunctionAlike a b f

abbrev pub SeenAlike : GlobalEnv → GlobalEnv → List ℕ → Use → List ℕ → Type 0
SeenAlike a b owner AsValue name = UseAlike a b AsValue name
SeenAlike a b owner AsPattern name = UseAlike a b AsPattern name
SeenAlike a b owner AsType name = UseAlike a b AsType name
SeenAlike a b owner AsFunction name = CalleeAlikeFrom a b owner name
SeenAlike a b owner AsProc name = UseAlike a b AsProc name
SeenAlike a b owner AsEnum name = UseAlike a b AsEnum name
SeenAlike a b owner AsStruct name = UseAlike a b AsStruct name

abbrev pub MentionsAlike : GlobalEnv → GlobalEnv → List ℕ → List Mention → Type 0
MentionsAlike a b owner [] = Unit {0}
MentionsAlike a b owner (m ∷ ms) = SeenAlike a b owner m.use_as m.name × MentionsAlike a b owner ms

-- names that are bound, and so aren't mentioned: the constants of these names, if they are any
abbrev pub NamesAlike : GlobalEnv → GlobalEnv → List (List ℕ) → Type 0
NamesAlike a b [] = Unit {0}
NamesAlike a b (n ∷ ns) = (a.items.constant n ≡ b.items.constant n) × NamesAlike a b ns

-- one text, with the same names of constants and the same cycles; instances whose names pass the test are sound, and unbroken, in both or in neither
pub record GlobalsAgree (P : List ℕ → Bool) (a b : GlobalEnv) : Type 0 where
  pub whole : a.whole ≡ b.whole
  pub kinds : (name : List ℕ) → a.items.is_constant name ≡ b.items.is_constant name
  pub cyclic : (owner name : List ℕ) → a.is_cyclic owner name ≡ b.is_cyclic owner name
  pub sound : (i : Instance) → P i.name ≡ true → a.is_sound i ≡ b.is_sound i
  pub unbroken : (i : Instance) → P i.name ≡ true → a.is_unbroken i ≡ b.is_unbroken i

-- what a part needs that mentions this behind these names, in the text of this item: both agree on what it mentions, on the enums
-- that the item reaches and on the constants that are hidden; and it reaches only instances whose names pass the test
pub record SeesAlike (P : List ℕ → Bool) (bound : List (List ℕ)) (owner : List ℕ) (a b : GlobalEnv) (ms : List Mention) : Type 0 where
  pub known : GlobalsAgree P a b
  pub enums : (name member : List ℕ) → item_reaches a.whole owner name ≡ true → a.items.member name member ≡ b.items.member name member
  pub hidden : NamesAlike a b bound
  pub reach : MentionsReach P a owner ms
  pub alike : MentionsAlike a b owner ms

-- ---- what a part stands behind

-- the name is that of a local or of a parametric, whether the parametric's value is known or not
abbrev pub is_bound_there : TypeEnv → List ℕ → Bool
is_bound_there context name = is_in name (map (λ (l : Typed). l.name) context.locals) || (is_there (given_in name context.parametric_args) || is_in name context.unknown)

-- each constant is known alike whose name is bound around a part, but for those that its type environment hides
abbrev pub HiddenAlike : List (List ℕ) → TypeEnv → GlobalEnv → Type 0
HiddenAlike bound context other = (name : List ℕ) → is_in name bound ≡ true → is_bound_there context name ≡ false → context.known.items.constant name ≡ other.items.constant name

-- what a part needs in this type environment
pub record SeesFrom (P : List ℕ → Bool) (bound : List (List ℕ)) (context : TypeEnv) (other : GlobalEnv) (ms : List Mention) : Type 0 where
  pub known : GlobalsAgree P context.known other
  pub enums : (name member : List ℕ) → item_reaches context.known.whole context.owner name ≡ true → context.known.items.member name member ≡ other.items.member name member
  pub hidden : HiddenAlike bound context other
  pub reach : MentionsReach P context.known context.owner ms
  pub alike : MentionsAlike context.known other context.owner ms
