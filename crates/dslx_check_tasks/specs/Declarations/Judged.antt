-- What is promised of what a part of a declaration and the top of a text come to: the walk grows, and where nothing is missing behind it that is
-- what the definitions say at each global environment that says what is known.
use Rattle.std.specs.Prelude.{ℕ, [], ◌≡◌, Some, slice_get}
use Rattle.dslx_tree.specs.declared.process.Proc.{Proc}
use Rattle.dslx_meaning.specs.Rules.ModuleRules.{top_found}
use Rattle.dslx_check_facts.specs.declared.asked.ForeignKey.{ForeignKey}
use Rattle.dslx_check_facts.specs.declared.facts.Facts.{Facts}
use Rattle.dslx_check_facts.specs.declared.facts.ForeignSeen.{ForeignSeen}
use Rattle.dslx_check_facts.specs.Walks.{WalkGrows, WalkShown}
use Rattle.dslx_check_declarations.specs.Tops.{IsProcAt}
use Rattle.dslx_check_declarations.specs.Work.Comes.{PartComesTo}
use Rattle.dslx_check_judge.specs.Items.Judged.{ComesWhole, FindsAs}
use Rattle.dslx_check_tasks.specs.declared.declarations.tops.TopSeen.{TopSeen}

-- a part that was asked for, by a walk that reached nothing before
pub record JudgesForeign (f : Facts) (old new : WalkShown) (key : ForeignKey) (there : ForeignSeen) : Type 0 where
  pub grows : WalkGrows old new
  pub comes : ComesWhole f old new (λ known. old.reached ≡ [] → (number : ℕ) → slice_get new.asked number ≡ Some key → PartComesTo f new known number there)

-- the top, the proc of a number. Where items of one name are told apart it is p
pub record JudgesTop (f : Facts) (old new : WalkShown) (item : ℕ) (process : Proc) (t : TopSeen) : Type 0 where
  pub grows : WalkGrows old new
  pub finds : ComesWhole f old new (λ known. (p : Proc) → IsProcAt f item process p → FindsAs f old new t.faults (top_found known (Some p)))
