-- What is found of a text: outside all instances, and in those that are reached.
use Rattle.std.specs.Prelude.{ℕ, List, [], ◌∷◌, ◌≡◌, ◌≤◌, ◌++◌, ◌⊎◌, take, length, nat_eq, Option, Some, None, slice_get}
use Rattle.std.specs.List.{AllByRecursion, IsDistinct}
use Rattle.indexmap.specs.IndexSet.{insert_all, insert_key}
use Rattle.xb_span.specs.declared.fault.Fault.{Fault}
use Rattle.dslx_tree.specs.declared.item.Definition.{Definition}
use Rattle.dslx_tree.specs.declared.item.Module.{Module}
use Rattle.dslx_tree.specs.declared.process.Proc.{Proc}
use Rattle.dslx_meaning.specs.Rules.ItemRules.{Found, and_found}
use Rattle.dslx_meaning.specs.Rules.ModuleRules.{found_of_instance, instances_faults, item_found, items_found, own_instance, own_instances, top_found}
use Rattle.dslx_meaning.specs.Rules.Namesakes.{told_apart}
use Rattle.dslx_meaning.specs.Rules.TypeEnvs.{Instance}
use Rattle.dslx_core.specs.Typing.TypingRelations.Closed.{IsLeastClosed, IsOneOf}
use Rattle.dslx_check_rules.specs.declared.faults.Faults.{Faults}
use Rattle.dslx_check_rules.specs.Seen.{seen}
use Rattle.dslx_check_facts.specs.declared.instances.InstanceKey.{InstanceKey}
use Rattle.dslx_check_facts.specs.Keys.{same_instance_key}
use Rattle.dslx_check_facts.specs.Names.{names_of}
use Rattle.dslx_check_facts.specs.Walks.{HasTables, WalkGrows, WalkShown, instances_at, shown}
use Rattle.dslx_check.specs.Least.Starts.{AreInstancesApart, AreStarted}
use Rattle.dslx_check_declarations.specs.Work.Settled.{told_item}
use Rattle.dslx_check_tasks.specs.declared.work.Reaches.{Reaches}
use Rattle.dslx_check_tasks.specs.declared.work.Work.{Work}
use Rattle.dslx_check_tasks.specs.Standing.{IsFoundBy, IsInstanceFound, IsRight, own_globals, text_in}

-- the numbers are those of these instances, wherever the walk goes on to
abbrev pub AreNumbersOf : Module → WalkShown → List ℕ → List Instance → Type 0
AreNumbersOf text walk ns is = (later : WalkShown) → HasTables walk later → instances_at (names_of text) later.met ns ≡ is

-- ---- outside all instances

-- what is found is what was found and more
pub record AddsTo (old new more : Reaches) : Type 0 where
  pub faults : (a b : List Fault) → old.faults ≡ seen a → more.faults ≡ seen b → new.faults ≡ seen (a ++ b)
  pub reached : new.reached.items ≡ old.reached.items ++ more.reached.items

-- of the first items
abbrev pub FindsFirst : ℕ → Work → Work → Reaches → Type 0
FindsFirst n old new r = IsRight old → IsFoundBy (names_of (text_in old)) (shown new.walk) r (items_found (own_globals (text_in old)) (take n (told_apart (text_in old)).items))

abbrev pub FindsItems : Work → Work → Reaches → Type 0
FindsItems old new r = IsRight old → IsFoundBy (names_of (text_in old)) (shown new.walk) r (items_found (own_globals (text_in old)) (told_apart (text_in old)).items)

-- items and the top
abbrev pub outside_found : Module → Option Proc → Found
outside_found text top = and_found (items_found (own_globals text) (told_apart text).items) (top_found (own_globals text) top)

abbrev pub FindsOutside : Work → Work → Option Proc → Reaches → Type 0
FindsOutside old new top r = IsRight old → IsFoundBy (names_of (text_in old)) (shown new.walk) r (outside_found (text_in old) top)

-- with an item more
abbrev pub AddsItem : Work → ℕ → Reaches → Reaches → Type 0
AddsItem w item old new = IsRight w → (found : Found) → IsFoundBy (names_of (text_in w)) (shown w.walk) old found
    → (x : Definition) → told_item (text_in w) item ≡ Some x → IsFoundBy (names_of (text_in w)) (shown w.walk) new (and_found found (item_found (own_globals (text_in w)) x))

-- the instances of functions and procs without parametrics
abbrev pub FindsOwn : Work → Work → List ℕ → Type 0
FindsOwn old new ns = AreNumbersOf (text_in old) (shown new.walk) ns (own_instances (told_apart (text_in old)).items)

-- those of the first items
abbrev pub FindsFirstOwn : ℕ → Work → Work → List ℕ → Type 0
FindsFirstOwn n old new ns = AreNumbersOf (text_in old) (shown new.walk) ns (own_instances (take n (told_apart (text_in old)).items))

abbrev pub AddsOwn : Module → WalkShown → ℕ → List ℕ → List ℕ → Type 0
AddsOwn text walk item old new = (is : List Instance) → AreNumbersOf text walk old is → (x : Definition) → told_item text item ≡ Some x → AreNumbersOf text walk new (is ++ own_instance x)

-- the instance of an item without parametric arguments is met
pub record MeetsInstance (before after : WalkShown) (item : ℕ) (old new : List ℕ) : Type 0 where
  pub number : ℕ
  pub grows : WalkGrows before after
  pub met : slice_get after.met number ≡ Some (record { item = item; parametric_args = [] })
  pub is : new ≡ old ++ number ∷ []

-- ---- instances that are reached

-- these numbers, each once, behind those that are there
abbrev pub with_new : List ℕ → List ℕ → List ℕ
with_new all ns = insert_all nat_eq all ns

-- an instance breaks this, and those that it reaches are with the others
pub record FindsReached (w : Work) (instance : ℕ) (old new : List ℕ) (faults : Faults) : Type 0 where
  pub is : Reaches
  pub found : IsInstanceFound (text_in w) (shown w.walk) instance is
  pub faults_are : faults ≡ is.faults
  pub added : new ≡ with_new old is.reached.items

-- all that are reached from these instances, and what they break
pub record FindsAll (text : Module) (start : List Instance) (faults : Faults) : Type 0 where
  pub all : List Instance
  pub least : IsLeastClosed (own_globals text) start all
  pub few : length all ≤ 4096
  pub faults_are : faults ≡ seen (instances_faults (own_globals text) all)

-- more than there may be
pub record FindsMany (text : Module) (start : List Instance) : Type 0 where
  pub some : List Instance
  pub started : AreStarted (own_globals text) start some
  pub apart : AreInstancesApart some
  pub many : 4097 ≤ length some

abbrev pub FindsInside : Module → List Instance → Option Faults → Type 0
FindsInside text start None = FindsMany text start
FindsInside text start (Some faults) = FindsAll text start faults

-- one of these numbers
abbrev pub IsNumberIn : ℕ → List ℕ → Type 0
IsNumberIn n [] = ⊥
IsNumberIn n (m ∷ ms) = (n ≡ m) ⊎ IsNumberIn n ms

-- it is the instance of one of these numbers
pub record IsMetBy (walk : WalkShown) (ns : List ℕ) (key : InstanceKey) : Type 0 where
  pub number : ℕ
  pub there : IsNumberIn number ns
  pub met : slice_get walk.met number ≡ Some key

-- with the key of an instance, unless it was there
pub record AddsKey (walk : WalkShown) (instance : ℕ) (old new : List InstanceKey) : Type 0 where
  pub key : InstanceKey
  pub met : slice_get walk.met instance ≡ Some key
  pub is : new ≡ insert_key same_instance_key old key
  pub distinct : IsDistinct same_instance_key new

-- among the instances of these numbers more differ than there may be
pub record AreManyMet (walk : WalkShown) (ns : List ℕ) : Type 0 where
  pub keys : List InstanceKey
  pub met : AllByRecursion (IsMetBy walk ns) keys
  pub distinct : IsDistinct same_instance_key keys
  pub many : 4097 ≤ length keys

-- all that are reached so far, of which the first ones were looked at and break this
pub record ReachesSoFar (text : Module) (walk : WalkShown) (start : List Instance) (all : List ℕ) (next : ℕ) (faults : Faults) : Type 0 where
  pub is : List Instance
  pub are : AreNumbersOf text walk all is
  pub started : AreStarted (own_globals text) start is
  pub starts : (i : Instance) → IsOneOf i start → IsOneOf i is
  pub closed : (i j : Instance) → IsOneOf i (take next is) → IsOneOf j (found_of_instance (own_globals text) i).reached → IsOneOf j is
  pub faults_are : faults ≡ seen (instances_faults (own_globals text) (take next is))
