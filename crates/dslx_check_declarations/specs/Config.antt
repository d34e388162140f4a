-- What a `config` has made so far, by the code's tables and by the definitions.
use Rattle.std.specs.Prelude.{ℕ, List, [], ◌∷◌, ◌++◌, ◌<◌, ◌≡◌, ◌==◌, Bool, true, false, Option, Some, None, is_some, if◌then◌else◌}
use Rattle.std.specs.List.{list_all}
use Rattle.std.specs.Str.{bytes_eq}
use Rattle.base.specs.NameTable.Found.{found}
use Rattle.dslx_tree.specs.declared.process.Channel.{Channel}
use Rattle.dslx_tree.specs.declared.process.Direction.TheVariants.{In, Out}
use Rattle.dslx_meaning.specs.Lists.{is_in}
use Rattle.dslx_meaning.specs.Rules.CallRules.{channel_end_in}
use Rattle.dslx_meaning.specs.Rules.NameRules.{local_name}
use Rattle.dslx_meaning.specs.Rules.ProcRules as the
use Rattle.dslx_meaning.specs.Rules.ProcRules.{string_faults, times_in}
use Rattle.dslx_meaning.specs.Rules.TypeEnvs.{GlobalEnv, TypeEnv}
use Rattle.dslx_check_rules.specs.declared.faults.Faults.{Faults}
use Rattle.dslx_check_rules.specs.declared.table.row.TypeId.{TypeId}
use Rattle.dslx_check_rules.specs.declared.table.row.TypeRow.{TypeRow}
use Rattle.dslx_check_rules.specs.Interned.{ItemNames}
use Rattle.dslx_check_rules.specs.Seen.{seen}
use Rattle.dslx_check_facts.specs.declared.facts.Facts.{Facts}
use Rattle.dslx_check_facts.specs.declared.type_env.TypeEnv.{TypeEnv as CodeEnv}
use Rattle.dslx_check_facts.specs.Known.{FactsHold}
use Rattle.dslx_check_facts.specs.Walks.{WalkShown}
use Rattle.dslx_check_declarations.specs.declared.config.Made.{Made}
use Rattle.dslx_check_declarations.specs.declared.ends.NamedEnd.{NamedEnd}
use Rattle.dslx_check_declarations.specs.Ends.{IsEndNamed}

-- ---- tables

-- the names mean ends
abbrev pub AreMeant : Made → List (List ℕ) → Type 0
AreMeant made names = (name : List ℕ) → is_some (found made.meant name) ≡ is_in name names

abbrev pub AreStrings : Made → List (List ℕ) → Type 0
AreStrings made strings = (name : List ℕ) → is_some (found made.strings name) ≡ is_in name strings

-- what is kept of a name that is used so often
abbrev pub IsUsed : Option Bool → ℕ → Type 0
IsUsed None n = n ≡ 0
IsUsed (Some true) n = n ≡ 1
IsUsed (Some false) n = 1 < n

-- the names are used, each as often as it stands among these
abbrev pub AreUsed : Made → List (List ℕ) → Type 0
AreUsed made used = (name : List ℕ) → IsUsed (found made.uses name) (times_in name used)

-- one end more
pub record AddsEnd (old new : Made) (end : NamedEnd) : Type 0 where
  pub meant : (name : List ℕ) → found new.meant name ≡ (if bytes_eq name end.name.now then Some end.end else found old.meant name)
  pub rest : new ≡ record old { meant = new.meant }

-- one string more
pub record AddsString (old new : Made) (string : List ℕ) : Type 0 where
  pub has : (name : List ℕ) → is_some (found new.strings name) ≡ (if bytes_eq name string then true else is_some (found old.strings name))
  pub rest : new ≡ record old { strings = new.strings }

-- these names are used behind those before
pub record UsesNames (old new : Made) (more : List (List ℕ)) : Type 0 where
  pub used : (names : List (List ℕ)) → AreUsed old names → AreUsed new (names ++ more)
  pub rest : new ≡ record old { uses = new.uses }

-- ---- what is made

-- what the names mean
abbrev pub MeansEnds : ItemNames → List TypeRow → List TypeRow → Made → the.Made → Type 0
MeansEnds names rows later made m = (name : List ℕ) → IsEndNamed names rows later (found made.meant name) (channel_end_in name m.channel_ends)

-- the tables are what is made by the definitions, and these are the names that were used
pub record AreMadeOf (names : ItemNames) (rows later : List TypeRow) (made : Made) (m : the.Made) (so_far : List (List ℕ)) : Type 0 where
  pub ends : MeansEnds names rows later made m
  pub meant : AreMeant made m.names
  pub strings : AreStrings made m.strings
  pub used : AreUsed made so_far

-- ---- how often ends are used

-- each of these names stands once among those that are used
abbrev pub all_once : List (List ℕ) → List (List ℕ) → Bool
all_once used names = list_all (λ name. times_in name used == 1) names

abbrev pub is_once_if : {T : Type 0} → List (List ℕ) → Option (List ℕ × T) → Bool
is_once_if used None = false
is_once_if used (Some b) = times_in b.0 used == 1

-- ---- a channel

-- what the names of a channel break behind what is made
pub record NamesChannel (f : Facts) (made : Made) (c : Channel) (names : Faults) : Type 0 where
  pub is : (known : GlobalEnv) (later : WalkShown) (context : TypeEnv) (m : the.Made) → FactsHold f later known → context.known.whole ≡ known.whole → AreMeant made m.names → AreStrings made m.strings
      → names ≡ seen (local_name context m.names c.sender ++ local_name context (c.sender.name ∷ m.names) c.receiver ++ string_faults m.strings c.name)

-- the ends of a channel of such words are declared, and its string is there
pub record MakesChannel (before after : CodeEnv) (made next : Made) (c : Channel) (word : Option TypeId) : Type 0 where
  pub scope : after ≡ record before { ends = (c.receiver.name, tt) ∷ (c.sender.name, tt) ∷ before.ends }
  pub meant : (name : List ℕ) → found next.meant name ≡ (if bytes_eq name c.sender.name then Some (record { direction = Out; word = word }) else
      if bytes_eq name c.receiver.name then Some (record { direction = In; word = word }) else found made.meant name)
  pub strings : (name : List ℕ) → is_some (found next.strings name) ≡ (if bytes_eq name c.name.name then true else is_some (found made.strings name))
  pub uses : next.uses ≡ made.uses
