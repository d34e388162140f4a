-- What is promised of what an item comes to: the walk grows, and where nothing is missing behind it that is what the definitions say at each
-- global environment that says what is known.
use Rattle.std.specs.Prelude.{ℕ, [], ◌≡◌, Bool, true, false, Some, length, drop}
use Rattle.dslx_tree.specs.declared.item.Definition.{Definition}
use Rattle.dslx_tree.specs.declared.item.Definition.TheVariants as d
use Rattle.dslx_meaning.specs.Rules.ItemRules.{Found}
use Rattle.dslx_meaning.specs.Rules.ModuleRules.{item_found}
use Rattle.dslx_meaning.specs.Rules.TypeEnvs.{GlobalEnv}
use Rattle.dslx_check_rules.specs.declared.faults.Faults.{Faults}
use Rattle.dslx_check_rules.specs.Seen.{seen}
use Rattle.dslx_check_facts.specs.declared.facts.Facts.{Facts}
use Rattle.dslx_check_facts.specs.Known.{FactsHold, HasKnownRows, item_at, item_names, text_of}
use Rattle.dslx_check_facts.specs.Names.{definition_at}
use Rattle.dslx_check_facts.specs.Walks.{HasTables, WalkGrows, WalkShown, instances_at}
use Rattle.dslx_check_declarations.specs.declared.items.ItemSeen.{ItemSeen}
use Rattle.dslx_check_declarations.specs.Items.{HasNoRow, ItemGrows}
use Rattle.dslx_check_declarations.specs.Work.Comes.{ItemComesTo}

-- ---- walks that miss nothing

-- a claim on a walk from one state to another: it is so at every global environment that says what is known, wherever the walk goes on to, if
-- nothing was asked for in vain
abbrev pub ComesWhole : Facts → WalkShown → WalkShown → (GlobalEnv → Type 0) → Type 0
ComesWhole f old new claim = (known : GlobalEnv) → ((later : WalkShown) → HasTables new later → FactsHold f later known) → HasKnownRows old.rows f → new.missing ≡ [] → claim known

-- these faults were found, and the instances that the walk reached are these, wherever it goes on to
pub record FindsAs (f : Facts) (old new : WalkShown) (faults : Faults) (found : Found) : Type 0 where
  pub faults_are : faults ≡ seen found.faults
  pub reaches : (later : WalkShown) → HasTables new later → instances_at (item_names f) later.met (drop (length old.reached) new.reached) ≡ found.reached

-- ---- items

-- whether what the item comes to is learnt: of the items of one name the first alone may be an enum
abbrev pub is_learnt : Bool → Definition → Bool
is_learnt is_first (d.Enum e) = is_first
is_learnt is_first _ = true

-- it may be learnt: an enum is called as the text calls it
abbrev pub MayLearn : Facts → ℕ → Bool → Definition → Type 0
MayLearn f item is_first (d.Enum e) = (is_first ≡ true) × ((item_names f).item item ≡ e.name.name)
MayLearn f item is_first _ = Unit {0}

-- the item of a number, whose type isn't met before. Where those of one name are told apart it is x. Its type is met only where nothing is
-- missing and it is learnt
pub record JudgesItem (f : Facts) (old new : WalkShown) (item : ℕ) (is_first : Bool) (definition : Definition) (j : ItemSeen) : Type 0 where
  pub grows : ItemGrows item old new
  pub postponed : (new.missing ≡ [] → ⊥) → WalkGrows old new
  pub only_found : is_learnt is_first definition ≡ false → WalkGrows old new
  pub finds : ComesWhole f old new (λ known. (x : Definition) → definition_at (text_of f).items item ≡ Some definition → item_at f item ≡ Some x → HasNoRow old.rows item
      → FindsAs f old new j.faults (item_found known x))
  pub comes : ComesWhole f old new (λ known. (x : Definition) → definition_at (text_of f).items item ≡ Some definition → item_at f item ≡ Some x → HasNoRow old.rows item
      → MayLearn f item is_first definition → ItemComesTo f new known x j)
