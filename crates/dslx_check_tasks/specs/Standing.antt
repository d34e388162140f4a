-- Where the checking of a text stands.
use Rattle.std.specs.Prelude.{ℕ, List, ◌≡◌, Option, Some, slice_get}
use Rattle.dslx_tree.specs.declared.item.Definition.{Definition}
use Rattle.dslx_tree.specs.declared.item.Module.{Module}
use Rattle.dslx_tree.specs.declared.process.Proc.{Proc}
use Rattle.dslx_meaning.specs.Rules.ItemRules.{Found}
use Rattle.dslx_meaning.specs.Rules.ModuleRules.{found_of_instance, globals_of, item_found, top_found}
use Rattle.dslx_meaning.specs.Rules.Namesakes.{told_apart}
use Rattle.dslx_meaning.specs.Rules.TypeEnvs.{GlobalEnv}
use Rattle.dslx_check_rules.specs.Interned.{ItemNames}
use Rattle.dslx_check_rules.specs.Seen.{seen}
use Rattle.dslx_check_facts.specs.declared.facts.Facts.{Facts}
use Rattle.dslx_check_facts.specs.declared.instances.InstanceKey.{InstanceKey}
use Rattle.dslx_check_facts.specs.Known.{at_place, text_of}
use Rattle.dslx_check_facts.specs.Names.{names_of}
use Rattle.dslx_check_facts.specs.Walks.{HasTables, WalkShown, instance_of, instances_at, shown}
use Rattle.dslx_check_declarations.specs.Work.Settled.{DeclarationsSettle, FunctionsSettle, ItemsSettle, told_item}
use Rattle.dslx_check_declarations.specs.Work.Tables.{KnowsBy}
use Rattle.dslx_check_tasks.specs.declared.work.Reaches.{Reaches}
use Rattle.dslx_check_tasks.specs.declared.work.Work.{Work}

-- the text's own global environment, where items of one name are told apart
abbrev pub own_globals : Module → GlobalEnv
own_globals text = globals_of (told_apart text)

-- it has of each item, instance and part of a declaration what its text comes to
pub record IsSettledText (text : Module) : Type 0 where
  pub items : ItemsSettle text (own_globals text)
  pub functions : FunctionsSettle text (own_globals text)
  pub declarations : DeclarationsSettle text (own_globals text)

-- these are the faults that are found, and the instances that are reached, wherever the walk goes on to
pub record IsFoundBy (names : ItemNames) (walk : WalkShown) (r : Reaches) (found : Found) : Type 0 where
  pub faults : r.faults ≡ seen found.faults
  pub reached : (later : WalkShown) → HasTables walk later → instances_at names later.met r.reached.items ≡ found.reached

-- of an item
abbrev pub IsItemFound : Module → WalkShown → ℕ → Reaches → Type 0
IsItemFound text walk i r = (x : Definition) → told_item text i ≡ Some x → IsFoundBy (names_of text) walk r (item_found (own_globals text) x)

-- of the instance of a number
pub record IsInstanceFound (text : Module) (walk : WalkShown) (n : ℕ) (r : Reaches) : Type 0 where
  pub key : InstanceKey
  pub met : slice_get walk.met n ≡ Some key
  pub is : IsFoundBy (names_of text) walk r (found_of_instance (own_globals text) (instance_of (names_of text) key))

-- what is noted of items and of instances is what is found of them
pub record AreFound (text : Module) (walk : WalkShown) (items instances : List (Option Reaches)) : Type 0 where
  pub items_are : (i : ℕ) (r : Reaches) → at_place items i ≡ Some r → IsItemFound text walk i r
  pub instances_are : (n : ℕ) (r : Reaches) → at_place instances n ≡ Some r → IsInstanceFound text walk n r

-- what is known is so, and what is noted is what is found
pub record Stands (f : Facts) (walk : WalkShown) (items instances : List (Option Reaches)) : Type 0 where
  pub settled : IsSettledText (text_of f)
  pub knows : KnowsBy f walk (own_globals (text_of f))
  pub found : AreFound (text_of f) walk items instances

abbrev pub IsRight : Work → Type 0
IsRight w = Stands w.facts (shown w.walk) w.items.items w.instances.items

-- it is the same text, of which more was met, and what was right is right
pub record WorkGoesOn (old new : Work) : Type 0 where
  pub text : text_of new.facts ≡ text_of old.facts
  pub tables : HasTables (shown old.walk) (shown new.walk)
  pub right : IsRight old → IsRight new

-- ---- the top

abbrev pub text_in : Work → Module
text_in w = text_of w.facts

abbrev pub FindsTop : Work → Work → Option Proc → Reaches → Type 0
FindsTop old new top r = IsRight old → IsFoundBy (names_of (text_in old)) (shown new.walk) r (top_found (own_globals (text_in old)) top)
