-- Which values the patterns of a match fit.
use Rattle.std.specs.Prelude.{ℕ, zero, suc, List, [], ◌∷◌, ◌≡◌, ◌&&◌, ◌^◌, nat_le, if◌then◌else◌, map, Bool, true, false, Option, Some, None, IfSome, length}
use Rattle.std.specs.List.{AllByRecursion, list_all, list_any}
use Rattle.base.specs.Lists.Prefix.{IsPrefix}
use Rattle.xb_bits.specs.Word.{word}
use Rattle.dslx_tree.specs.declared.expr.Arm.{Arm, out-Arm}
use Rattle.dslx_tree.specs.declared.expr.Number.{Number, out-Number}
use Rattle.dslx_tree.specs.declared.item.Enum.{Enum}
use Rattle.dslx_tree.specs.declared.item.Member.{Member}
use Rattle.dslx_tree.specs.declared.pattern.Pattern.{Pattern}
use Rattle.dslx_meaning.specs.Environment.{Env, Meanings}
use Rattle.dslx_meaning.specs.Items.{as_enum, item_named}
use Rattle.dslx_meaning.specs.Lists.{and_then, last_of}
use Rattle.dslx_meaning.specs.Meaning.{fit_each, fitted, pattern_denotation}
use Rattle.dslx_meaning.specs.Types.{flat_bits}
use Rattle.dslx_meaning.specs.Values.{elements_of, from_word, same_value}
use Rattle.dslx_meaning.specs.declared.ty.DslxType.{DslxType}
use Rattle.dslx_meaning.specs.declared.ty.DslxType.TheOpen.{DslxType-F}
use Rattle.dslx_meaning.specs.declared.value.DslxValue.{DslxValue}
use Rattle.dslx_meaning.specs.declared.value.UntypedLiteral.{UntypedLiteral}
use Rattle.dslx_meaning.specs.Rules.ControlRules.{ArmTyping, is_exhaustive, last_is_sure}
use Rattle.dslx_meaning.specs.Rules.Mentions.{item_reaches}
use Rattle.dslx_meaning.specs.Rules.PatternRules.{is_there, part_types}
use Rattle.dslx_meaning.specs.Rules.TypeEnvs.{GlobalEnv, TypeEnv, Typed, constant_env}
use Rattle.dslx_meaning.specs.Rules.Typings.{PatternPair}
use Rattle.dslx_check_rules.specs.Interned.{HasRowIf, type_if}
use Rattle.dslx_check_rules.specs.declared.table.row.TypeId.{TypeId}
use Rattle.dslx_check_rules.specs.declared.table.row.TypeRow.{TypeRow}
use Rattle.dslx_check_rules.specs.declared.table.row.TypeRow.TheVariants as row
use Rattle.dslx_check_facts.specs.Judged.{environment}
use Rattle.dslx_check_facts.specs.Known.{FactsHold, item_at, item_names}
use Rattle.dslx_check_facts.specs.Walks.{WalkShown}
use Rattle.dslx_check_facts.specs.declared.facts.Facts.{Facts}
use Rattle.dslx_check_facts.specs.declared.type_env.TypeEnv.{TypeEnv as CodeEnv}
use Rattle.dslx_check_leaves.specs.Fits.Typed.{pattern_typed}

-- ---- by the definitions

-- this is the value
abbrev pub is_value : Option DslxValue → DslxValue → Bool
is_value None v = false
is_value (Some u) v = same_value v u

abbrev pub literal_of : Number → UntypedLiteral
literal_of n = record { is_negative = (out-Number n).is_negative; value = (out-Number n).value }

-- the name of an enum's type, and the item of an enum's row
abbrev pub enum_name : DslxType-F DslxType → Option (List ℕ)
enum_name (DslxType-F.Enum name s w) = Some name
enum_name _ = None

abbrev pub enum_in : TypeRow → Option ℕ
enum_in (row.Enum i k) = Some i
enum_in _ = None

-- the value fits the pattern, some pattern of an arm, some arm
abbrev pub fits_there : TypeEnv → DslxValue → Pattern → Bool
fits_there context v p = is_there (fitted p v (constant_env context))

abbrev pub arm_fits : TypeEnv → DslxValue → Arm → Bool
arm_fits context v a = list_any (fits_there context v) (out-Arm a).patterns

abbrev pub some_arm : TypeEnv → List Arm → DslxValue → Bool
some_arm context arms v = list_any (arm_fits context v) arms

-- each of so many words is a value that some arm fits
abbrev pub each_word : TypeEnv → List Arm → DslxType → ℕ → ℕ → Bool
each_word context arms t w zero = true
each_word context arms t w (suc n) = some_arm context arms (from_word t (word w n)) && each_word context arms t w n

abbrev pub if_there : TypeEnv → List Arm → Option DslxValue → Bool
if_there context arms None = true
if_there context arms (Some v) = some_arm context arms v

abbrev pub each_member : TypeEnv → List Arm → List ℕ → List Member → Bool
each_member context arms name ms = list_all (λ (m : Member). if_there context arms (context.known.items.member name m.name.name)) ms

-- ---- patterns that are known and break nothing against a value of this type

pub record IsFine (context : TypeEnv) (t : DslxType) (p : Pattern) : Type 0 where
  pub names : List (List ℕ)
  pub locals : List Typed
  pub faults : ((pattern_typed p).1 true context (Some t) names locals).faults ≡ []
  pub known : ((pattern_typed p).1 true context (Some t) names locals).is_known ≡ true

abbrev pub AllFine : TypeEnv → DslxType → List Pattern → Type 0
AllFine context t ps = AllByRecursion (IsFine context t) ps

abbrev pub ArmsFine : TypeEnv → DslxType → List Arm → Type 0
ArmsFine context t arms = AllByRecursion (λ (a : Arm). AllFine context t (out-Arm a).patterns) arms

-- each part against the type in its place
abbrev pub AreFine : TypeEnv → List DslxType → List Pattern → Type 0
AreFine context [] [] = Unit {0}
AreFine context [] (p ∷ ps) = ⊥
AreFine context (t ∷ ts) [] = ⊥
AreFine context (t ∷ ts) (p ∷ ps) = IsFine context t p × AreFine context ts ps

-- ---- what functions promise: what they answer, where nothing is missing, in each type environment that says what is known

-- the type of this number is asked for in this type environment
pub record IsAsked (f : Facts) (later : WalkShown) (known : GlobalEnv) (old : List TypeRow) (ty : Option TypeId) (context : TypeEnv) (t : DslxType) : Type 0 where
  pub agrees : FactsHold f later known
  pub rows : IsPrefix old later.rows
  pub row : HasRowIf old ty
  pub items : context.known.items ≡ known.items
  pub is : type_if (item_names f) later.rows ty ≡ Some t

abbrev pub Asked : Facts → WalkShown → WalkShown → Option TypeId → (GlobalEnv → TypeEnv → DslxType → Type 0) → Type 0
Asked f old new ty claim = (known : GlobalEnv) (later : WalkShown) (context : TypeEnv) (t : DslxType) → IsAsked f later known old.rows ty context t → new.missing ≡ [] → claim known context t

-- what is bound behind a pattern, if the value fits, has the same items
pub record FitsAs (items : Meanings) (fits : Bool) (bound : Option Env) : Type 0 where
  pub is : fits ≡ is_there bound
  pub stays : IfSome bound (λ (env : Env). env.items ≡ items)

pub record PatternFits (f : Facts) (old new : WalkShown) (ty : Option TypeId) (p : Pattern) (v : DslxValue) (b : Bool) : Type 0 where
  pub fit : Asked f old new ty (λ known context t. IsFine context t p → (env : Env) → env.items ≡ known.items → FitsAs known.items b ((pattern_denotation p).fits (constant_env context) v env))

pub record TupleFits (f : Facts) (old new : WalkShown) (ty : Option TypeId) (ps : List Pattern) (v : DslxValue) (b : Bool) : Type 0 where
  pub fit : Asked f old new ty (λ known context t. (ts : List DslxType) → part_types (length ps) (Some t) ≡ Some ts → AreFine context ts ps → (env : Env) → env.items ≡ known.items
      → FitsAs known.items b (and_then (elements_of v) (λ vs. fit_each (constant_env context) (map pattern_denotation ps) vs env)))

pub record PartsFit (f : Facts) (old new : WalkShown) (ty : Option TypeId) (ps : List Pattern) (vs : List DslxValue) (b : Bool) : Type 0 where
  pub fit : Asked f old new ty (λ known context t. (ts : List DslxType) → part_types (length ps) (Some t) ≡ Some ts → AreFine context ts ps → (env : Env) → env.items ≡ known.items
      → FitsAs known.items b (fit_each (constant_env context) (map pattern_denotation ps) vs env))

pub record PatternsFit (f : Facts) (old new : WalkShown) (ty : Option TypeId) (ps : List Pattern) (v : DslxValue) (b : Bool) : Type 0 where
  pub fit : Asked f old new ty (λ known context t. AllFine context t ps → b ≡ list_any (fits_there context v) ps)

pub record ArmsFit (f : Facts) (old new : WalkShown) (ty : Option TypeId) (arms : List Arm) (v : DslxValue) (b : Bool) : Type 0 where
  pub fit : Asked f old new ty (λ known context t. ArmsFine context t arms → b ≡ some_arm context arms v)

-- some pattern of these fits whatever there is
pub record CatchesValue (f : Facts) (ps : List Pattern) : Type 0 where
  pub fit : (known : GlobalEnv) (later : WalkShown) (context : TypeEnv) (v : DslxValue) → FactsHold f later known → context.known.items ≡ known.items → list_any (fits_there context v) ps ≡ true

pub record CatchesAll (f : Facts) (arms : List Arm) : Type 0 where
  pub fit : (known : GlobalEnv) (later : WalkShown) (context : TypeEnv) (v : DslxValue) → FactsHold f later known → context.known.items ≡ known.items → some_arm context arms v ≡ true

pub record MatchesWords (f : Facts) (old new : WalkShown) (ty : TypeId) (arms : List Arm) (count : ℕ) (b : Bool) : Type 0 where
  pub fit : Asked f old new (Some ty) (λ known context t. ArmsFine context t arms → (w : ℕ) → b ≡ each_word context arms t w count)

-- each value of a type that is no enum's
abbrev pub each_value : TypeEnv → List Arm → DslxType → Bool → Bool
each_value context arms t last = if nat_le (flat_bits t) 8 then each_word context arms t (flat_bits t) (2 ^ flat_bits t) else last

pub record MatchesAll (f : Facts) (old new : WalkShown) (ty : TypeId) (arms : List Arm) (last : Bool) (b : Bool) : Type 0 where
  pub fit : Asked f old new (Some ty) (λ known context t. ArmsFine context t arms → b ≡ each_value context arms t last)

pub record MatchesOne (f : Facts) (old new : WalkShown) (ty : TypeId) (item : ℕ) (choice : Enum) (name : List ℕ) (arms : List Arm) (b : Bool) : Type 0 where
  pub fit : as_enum (item_at f item) ≡ Some choice
      → Asked f old new (Some ty) (λ known context t. ArmsFine context t arms → b ≡ if_there context arms (context.known.items.member ((item_names f).item item) name))

pub record MatchesEach (f : Facts) (old new : WalkShown) (ty : TypeId) (item : ℕ) (choice : Enum) (members : List Member) (arms : List Arm) (b : Bool) : Type 0 where
  pub fit : as_enum (item_at f item) ≡ Some choice → Asked f old new (Some ty) (λ known context t. ArmsFine context t arms → b ≡ each_member context arms ((item_names f).item item) members)

-- an enum's members, where the item in whose text the match stands reaches the enum
abbrev pub members_of : TypeEnv → List Arm → List ℕ → Option Enum → Bool
members_of context arms name None = true
members_of context arms name (Some e) = each_member context arms name e.members

pub record MatchesMembers (f : Facts) (old new : WalkShown) (ty : TypeId) (owner item : ℕ) (arms : List Arm) (b : Bool) : Type 0 where
  pub fit : Asked f old new (Some ty) (λ known context t. ArmsFine context t arms
      → b ≡ (item_reaches known.whole ((item_names f).item owner) ((item_names f).item item) && members_of context arms ((item_names f).item item) (as_enum (item_named ((item_names f).item item) known.whole.items))))

abbrev pub patterns_of : List ArmTyping → List (List PatternPair)
patterns_of xs = map (λ (a : ArmTyping). a.patterns) xs

abbrev pub patterns_in : List Arm → List (List PatternPair)
patterns_in arms = map (λ (a : Arm). map pattern_typed (out-Arm a).patterns) arms

-- the arms match each value
pub record Exhausts (f : Facts) (s : CodeEnv) (old new : WalkShown) (ty : TypeId) (arms : List Arm) (last : Bool) (b : Bool) : Type 0 where
  pub fit : (known : GlobalEnv) (later : WalkShown) (t : DslxType) (xs : List ArmTyping) → IsAsked f later known old.rows (Some ty) (environment f s known later) t → new.missing ≡ []
      → patterns_of xs ≡ patterns_in arms → last ≡ last_is_sure (last_of xs) → ArmsFine (environment f s known later) t arms → b ≡ is_exhaustive (environment f s known later) xs t
