-- What is told of what was walked over.
use Rattle.std.specs.Prelude.{ℕ, List, [], ◌≡◌, ◌&&◌, not, Option, Some, None, Bool, MatchBool}
use Rattle.std.specs.List.{list_all}
use Rattle.xb_span.specs.declared.fault.Fault.{Fault}
use Rattle.dslx_tree.specs.declared.item.Definition.{Definition}
use Rattle.dslx_tree.specs.declared.item.Definition.TheVariants as d
use Rattle.dslx_meaning.specs.Rules.ConstantRules.{is_empty}
use Rattle.dslx_meaning.specs.Rules.TypeEnvs.{GlobalEnv, has_broken}
use Rattle.dslx_check_rules.specs.declared.faults.Faults.{Faults}
use Rattle.dslx_check_rules.specs.Seen.{seen}
use Rattle.dslx_check_facts.specs.declared.facts.Facts.{Facts}
use Rattle.dslx_check_facts.specs.declared.facts.Sums.{Sums}
use Rattle.dslx_check_facts.specs.Known.{FactsHold, item_names}
use Rattle.dslx_check_facts.specs.Walks.{WalkShown, instances_at, shown}
use Rattle.dslx_check_declarations.specs.declared.items.ItemSeen.{ItemSeen}
use Rattle.dslx_check_judge.specs.declared.instances.functions.InstanceSeen.{InstanceSeen}
use Rattle.dslx_check_declarations.specs.Work.Learnt.{LearnsInstance, LearnsItem, PutsThere}
use Rattle.dslx_check_tasks.specs.declared.work.Reaches.{Reaches}
use Rattle.dslx_check_tasks.specs.declared.work.Work.{Work}

-- an item is noted, with these faults and what the walk reached, and what it comes to is learnt if it is to be
pub record TellsItem (old new : Work) (item : ℕ) (learns : Bool) (j : ItemSeen) : Type 0 where
  pub is : Reaches
  pub faults : is.faults ≡ j.faults
  pub reached : is.reached.items ≡ (shown old.walk).reached
  pub put : PutsThere old.items.items new.items.items item is
  pub learnt : MatchBool learns (LearnsItem old.facts new.facts item j) (new.facts ≡ old.facts)
  pub rest : new ≡ record old { facts = new.facts; items = new.items }

-- ---- instances

-- the sums of an instance of a function, the faults of which were found and which reaches the instances that the walk reached
pub record IsSumOf (f : Facts) (old new : WalkShown) (j : InstanceSeen) (sums : Sums) : Type 0 where
  pub sound : (known : GlobalEnv) (later : WalkShown) (faults : List Fault) → FactsHold f later known → new.missing ≡ [] → j.faults ≡ seen faults
      → sums.sound ≡ (is_empty faults && list_all known.is_sound (instances_at (item_names f) later.met old.reached))
  pub unbroken : (known : GlobalEnv) (later : WalkShown) (faults : List Fault) → FactsHold f later known → new.missing ≡ [] → j.faults ≡ seen faults
      → sums.unbroken ≡ (not (has_broken faults) && list_all known.is_unbroken (instances_at (item_names f) later.met old.reached))
  pub size : sums.size ≡ j.size

-- only functions have some
abbrev pub IsSumIf : Facts → WalkShown → WalkShown → Definition → InstanceSeen → Option Sums → Type 0
IsSumIf f old new (d.Function own) j (Some sums) = IsSumOf f old new j sums
IsSumIf f old new own j (Some sums) = ⊥
IsSumIf f old new own j None = Unit {0}

abbrev pub LearnsSums : Facts → Facts → ℕ → Option Sums → Type 0
LearnsSums old new instance None = new ≡ old
LearnsSums old new instance (Some sums) = LearnsInstance old new instance sums

-- an instance is noted, with these faults and what the walk reached, and its sums are learnt
pub record TellsInstance (old new : Work) (instance : ℕ) (faults : Faults) (sums : Option Sums) : Type 0 where
  pub is : Reaches
  pub faults_are : is.faults ≡ faults
  pub reached : is.reached.items ≡ (shown old.walk).reached
  pub put : PutsThere old.instances.items new.instances.items instance is
  pub learnt : LearnsSums old.facts new.facts instance sums
  pub rest : new ≡ record old { facts = new.facts; instances = new.instances }
