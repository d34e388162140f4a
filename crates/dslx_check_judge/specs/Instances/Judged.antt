-- What is promised of what an instance comes to: the walk grows, and where nothing is missing behind it that is what the definitions say at
-- each global environment that says what is known.
use Rattle.std.specs.Prelude.{ℕ, List, ◌≡◌, Some}
use Rattle.dslx_tree.specs.declared.item.Definition.{Definition}
use Rattle.dslx_meaning.specs.Items.{as_function}
use Rattle.dslx_meaning.specs.declared.value.DslxValue.{DslxValue}
use Rattle.dslx_meaning.specs.Rules.ModuleRules.{found_of_item, size_known}
use Rattle.dslx_check_rules.specs.Seen.{capped}
use Rattle.dslx_check_facts.specs.declared.facts.Facts.{Facts}
use Rattle.dslx_check_facts.specs.Known.{item_at, text_of}
use Rattle.dslx_check_facts.specs.Names.{definition_at}
use Rattle.dslx_check_facts.specs.Walks.{WalkGrows, WalkShown}
use Rattle.dslx_check_judge.specs.Items.Judged.{ComesWhole, FindsAs}
use Rattle.dslx_check_judge.specs.declared.instances.functions.InstanceSeen.{InstanceSeen}

-- an instance with these parametric arguments of the item of a number
pub record JudgesInstance (f : Facts) (old new : WalkShown) (item : ℕ) (definition : Definition) (values : List DslxValue) (j : InstanceSeen) : Type 0 where
  pub grows : WalkGrows old new
  pub finds : ComesWhole f old new (λ known. (x : Definition) → definition_at (text_of f).items item ≡ Some definition → item_at f item ≡ Some x
      → FindsAs f old new j.faults (found_of_item known values (Some x)))
  pub size : ComesWhole f old new (λ known. (x : Definition) → definition_at (text_of f).items item ≡ Some definition → item_at f item ≡ Some x
      → j.size ≡ capped (size_known known values (as_function (Some x))))
