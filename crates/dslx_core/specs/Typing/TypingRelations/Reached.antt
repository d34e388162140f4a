-- What the parts of a text reach, by the functions that they mention.
use Rattle.std.specs.Prelude.{◌≡◌, ℕ, List, [], ◌∷◌, Bool, true, false, Option, Some}
use Rattle.std.specs.List.{list_all}
use Rattle.dslx_tree.specs.declared.item.Function.{Function}
use Rattle.dslx_tree.specs.declared.item.Module.{Module}
use Rattle.dslx_meaning.specs.Items.{as_function, item_named}
use Rattle.dslx_meaning.specs.Network.{as_proc}
use Rattle.dslx_tree.specs.declared.process.Proc.{Proc}
use Rattle.dslx_meaning.specs.declared.value.DslxValue.{DslxValue}
use Rattle.dslx_meaning.specs.Rules.TypeEnvs.{Instance, GlobalEnv}
use Rattle.dslx_meaning.specs.Rules.Mentions.{Use, AsFunction, AsProc, Mention, mentions_of}

-- the name of each of these instances passes the test
abbrev pub AllNamed : (List ℕ → Bool) → List Instance → Type 0
AllNamed P [] = Unit {0}
AllNamed P (i ∷ is) = (P i.name ≡ true) × AllNamed P is

-- so does that of each instance that the types and the defaults of an item's parametrics reach
pub record DeclarationReaches (P : List ℕ → Bool) (known : GlobalEnv) (owner : List ℕ) : Type 0 where
  pub ty : (before : List (Option DslxValue)) → AllNamed P (known.parameter_in owner before).reached
  pub default : (before : List (Option DslxValue)) → AllNamed P (known.default_in owner before).judgement.reached

-- and the name of the item, a function or a proc
pub record InstancesReach (P : List ℕ → Bool) (known : GlobalEnv) (owner : List ℕ) : Type 0 where
  pub own : P owner ≡ true
  pub declared : DeclarationReaches P known owner

-- a mention in the text of this item, where rule 3 doesn't refuse it
abbrev pub MentionReaches : (List ℕ → Bool) → GlobalEnv → List ℕ → Use → List ℕ → Type 0
MentionReaches P known owner AsFunction name = known.is_cyclic owner name ≡ false → (f : Function) → as_function (item_named name known.whole.items) ≡ Some f → InstancesReach P known f.name.name
MentionReaches P known owner AsProc name = (p : Proc) → as_proc (item_named name known.whole.items) ≡ Some p → known.is_cyclic owner p.name.name ≡ false → InstancesReach P known p.name.name
MentionReaches P known owner _ name = Unit {0}

-- so it is with each function and each proc that is mentioned
abbrev pub MentionsReach : (List ℕ → Bool) → GlobalEnv → List ℕ → List Mention → Type 0
MentionsReach P known owner [] = Unit {0}
MentionsReach P known owner (m ∷ ms) = MentionReaches P known owner m.use_as m.name × MentionsReach P known owner ms

-- where an item's name passes the test, so does the name of each item that it mentions
abbrev pub IsClosed : (List ℕ → Bool) → Module → Type 0
IsClosed P m = (name : List ℕ) → P name ≡ true → list_all P (mentions_of m (item_named name m.items)) ≡ true
