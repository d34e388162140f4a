-- What holds of all texts, as the steps of the checking use it.
use Rattle.std.specs.Prelude.{ℕ, [], ◌≡◌, Some}
use Rattle.dslx_tree.specs.declared.item.Definition.{Definition}
use Rattle.dslx_tree.specs.declared.item.Definition.TheVariants as d
use Rattle.dslx_tree.specs.declared.item.Function.{Function}
use Rattle.dslx_meaning.specs.Rules.TypeEnvs.{GlobalEnv}
use Rattle.dslx_check_facts.specs.declared.facts.Facts.{Facts}
use Rattle.dslx_check_facts.specs.declared.facts.ForeignSeen.{ForeignSeen}
use Rattle.dslx_check_facts.specs.declared.facts.Sums.{Sums}
use Rattle.dslx_check_facts.specs.Known.{FactsHold, item_at, text_of}
use Rattle.dslx_check_facts.specs.Nothing.{IsNothingKnown}
use Rattle.dslx_check_facts.specs.Walks.{HasTables, WalkGrows, WalkShown}
use Rattle.dslx_check_declarations.specs.Items.{ItemGrows}
use Rattle.dslx_check_declarations.specs.declared.items.ItemSeen.{ItemSeen}
use Rattle.dslx_check_declarations.specs.Work.Comes.{FunctionComesTo, ItemComesTo, PartComesTo}
use Rattle.dslx_check_declarations.specs.Work.Learnt.{IsDoneAs, IsJudgedItem, IsJudgedPart, LearnsInstance, LearnsItem, LearnsPart}
use Rattle.dslx_check_declarations.specs.Work.Settled.{DeclarationsSettle, FunctionsSettle, ItemsSettle}
use Rattle.dslx_check_declarations.specs.Work.Tables.{KnowsBy}
use Rattle.dslx_check_declarations.specs.Work.Text.{IsTextEnv}

-- ---- what is known

abbrev pub KnownHolds : Type 0
KnownHolds = (f : Facts) (walk later : WalkShown) (known : GlobalEnv) → KnowsBy f walk known → HasTables walk later → FactsHold f later known

abbrev pub KnownStays : Type 0
KnownStays = (f : Facts) (old new : WalkShown) (known : GlobalEnv) → WalkGrows old new → KnowsBy f old known → KnowsBy f new known

abbrev pub NothingKnown : Type 0
NothingKnown = (f : Facts) (walk : WalkShown) (known : GlobalEnv) → IsNothingKnown f → IsTextEnv (text_of f) f.reaching known → walk.rows ≡ [] → KnowsBy f walk known

-- ---- what is judged, and learnt

abbrev pub ItemIsThere : Type 0
ItemIsThere = (f : Facts) (walk : WalkShown) (known : GlobalEnv) (item : ℕ) (x : Definition) (seen : ItemSeen) → IsTextEnv (text_of f) f.reaching known → ItemsSettle (text_of f) known
    → item_at f item ≡ Some x → ItemComesTo f walk known x seen → IsJudgedItem f walk known item seen

abbrev pub ItemIsKnown : Type 0
ItemIsKnown = (old new : Facts) (before after : WalkShown) (known : GlobalEnv) (item : ℕ) (seen : ItemSeen) → KnowsBy old before known → ItemGrows item before after
    → LearnsItem old new item seen → IsJudgedItem old after known item seen → KnowsBy new after known

abbrev pub InstanceIsThere : Type 0
InstanceIsThere = (f : Facts) (walk : WalkShown) (known : GlobalEnv) (instance item : ℕ) (own : Function) (sums : Sums) → IsTextEnv (text_of f) f.reaching known → FunctionsSettle (text_of f) known
    → item_at f item ≡ Some (d.Function own) → FunctionComesTo f walk known instance own sums → IsDoneAs f walk known instance sums

abbrev pub InstanceIsKnown : Type 0
InstanceIsKnown = (old new : Facts) (walk : WalkShown) (known : GlobalEnv) (instance : ℕ) (sums : Sums) → KnowsBy old walk known → LearnsInstance old new instance sums
    → IsDoneAs old walk known instance sums → KnowsBy new walk known

abbrev pub PartIsJudged : Type 0
PartIsJudged = (f : Facts) (walk : WalkShown) (known : GlobalEnv) (number : ℕ) (there : ForeignSeen) → DeclarationsSettle (text_of f) known → PartComesTo f walk known number there
    → IsJudgedPart f walk known number there

abbrev pub PartIsKnown : Type 0
PartIsKnown = (old new : Facts) (walk : WalkShown) (known : GlobalEnv) (number : ℕ) (there : ForeignSeen) → KnowsBy old walk known → LearnsPart old new number there → IsJudgedPart old walk known number there
    → KnowsBy new walk known
