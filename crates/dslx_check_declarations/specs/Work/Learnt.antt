-- What is learnt of a text: of an item, of an instance, of a part of a declaration.
use Rattle.std.specs.Prelude.{ℕ, List, ◌≡◌, ◌<◌, ◌==◌, ◌&&◌, ◌||◌, true, Option, Some, length, slice_get, slice_set, if◌then◌else◌}
use Rattle.std.specs.Option.{option_map}
use Rattle.dslx_tree.specs.declared.item.Enum.{Enum}
use Rattle.dslx_tree.specs.declared.item.Struct.{Struct}
use Rattle.dslx_meaning.specs.Items.{as_enum, as_struct}
use Rattle.dslx_meaning.specs.Lists.{and_then}
use Rattle.dslx_meaning.specs.Values.{type_of_value}
use Rattle.dslx_meaning.specs.Rules.TypeEnvs.{GlobalEnv}
use Rattle.dslx_check_rules.specs.Interned.{HasRowIf, type_if}
use Rattle.dslx_check_facts.specs.declared.asked.ForeignKey.{ForeignKey}
use Rattle.dslx_check_facts.specs.declared.facts.Facts.{Facts}
use Rattle.dslx_check_facts.specs.declared.facts.ForeignSeen.{ForeignSeen}
use Rattle.dslx_check_facts.specs.declared.facts.Sums.{Sums}
use Rattle.dslx_check_facts.specs.declared.instances.InstanceKey.{InstanceKey}
use Rattle.dslx_check_facts.specs.Known.{IsSum, at_place, is_noted_settled, item_at, item_names, member_number}
use Rattle.dslx_check_facts.specs.Typings.{HasForeignRows, IsForeign}
use Rattle.dslx_check_facts.specs.Walks.{HasTables, WalkShown, instance_at}
use Rattle.dslx_check_declarations.specs.declared.items.ItemSeen.{ItemSeen}
use Rattle.dslx_check_declarations.specs.Work.Settling.{is_to_hide, may_settle}

-- ---- places

-- a value is put at a place that was there
pub record PutsAtPlace {A : Type 0} (old new : List A) (at : ℕ) (value : A) : Type 0 where
  pub there : at < length old
  pub is : new ≡ slice_set old at value

-- something is put at a place, whether it was there or not
pub record PutsThere {A : Type 0} (old new : List (Option A)) (at : ℕ) (value : A) : Type 0 where
  pub is : (n : ℕ) → at_place new n ≡ (if n == at then Some value else at_place old n)

-- ---- what changes

-- what an item comes to is put there
pub record PutsItem (old new : Facts) (item : ℕ) (seen : ItemSeen) : Type 0 where
  pub named : PutsAtPlace old.named_types.items new.named_types.items item seen.named_type
  pub value_type : PutsAtPlace old.value_types.items new.value_types.items item seen.value_type
  pub value : PutsAtPlace old.kept.constants.items new.kept.constants.items item seen.value
  pub members : PutsAtPlace old.kept.members.items new.kept.members.items item seen.members
  pub hidden : PutsAtPlace old.kept.hidden.items new.kept.hidden.items item (is_to_hide old item seen.named_type)
  pub judged : PutsAtPlace old.judged.items new.judged.items item true
  pub rest : new ≡ record old {
    kept = record old.kept { constants = new.kept.constants; members = new.kept.members; hidden = new.kept.hidden };
    judged = new.judged;
    named_types = new.named_types;
    value_types = new.value_types;
  }

-- an instance is done
pub record LearnsInstance (old new : Facts) (instance : ℕ) (sums : Sums) : Type 0 where
  pub done : PutsThere old.done.items new.done.items instance sums
  pub rest : new ≡ record old { done = new.done }

-- that the item is judged with all that it mentions is noted, if it is so
pub record NotesSettled (old new : Facts) (item : ℕ) : Type 0 where
  pub flags : (j : ℕ) → is_noted_settled new j ≡ (is_noted_settled old j || (j == item && may_settle old item))
  pub rest : new ≡ record old { settled = new.settled }

-- an item is judged
pub record LearnsItem (old new : Facts) (item : ℕ) (seen : ItemSeen) : Type 0 where
  pub put : Facts
  pub puts : PutsItem old put item seen
  pub notes : NotesSettled put new item

-- a part of a declaration is judged
pub record LearnsPart (old new : Facts) (number : ℕ) (there : ForeignSeen) : Type 0 where
  pub foreign : PutsThere old.foreign.items new.foreign.items number there
  pub rest : new ≡ record old { foreign = new.foreign }

-- ---- what it has to be

-- the item is what the global environment has of it
pub record IsJudgedItem (f : Facts) (walk : WalkShown) (known : GlobalEnv) (item : ℕ) (seen : ItemSeen) : Type 0 where
  pub named : (later : WalkShown) → HasTables walk later → type_if (item_names f) later.rows seen.named_type ≡ known.items.type_named ((item_names f).item item)
  pub structure : (later : WalkShown) (s : Struct) → HasTables walk later → as_struct (item_at f item) ≡ Some s
      → type_if (item_names f) later.rows seen.named_type ≡ known.items.struct_named ((item_names f).item item)
  pub constant : seen.value ≡ known.items.constant ((item_names f).item item)
  pub constant_type : (later : WalkShown) → HasTables walk later
      → type_if (item_names f) later.rows seen.value_type ≡ option_map type_of_value (known.items.constant ((item_names f).item item))
  pub member : (e : Enum) (name : List ℕ) → as_enum (item_at f item) ≡ Some e
      → and_then (member_number name e.members) (λ k. at_place seen.members.items k) ≡ known.items.member ((item_names f).item item) name
  pub named_row : HasRowIf walk.rows seen.named_type
  pub value_row : HasRowIf walk.rows seen.value_type

-- the instance of this number was met, and comes to what the global environment has of it
pub record IsDoneAs (f : Facts) (walk : WalkShown) (known : GlobalEnv) (instance : ℕ) (sums : Sums) : Type 0 where
  pub key : InstanceKey
  pub met : slice_get walk.met instance ≡ Some key
  pub is : IsSum known (instance_at (item_names f) walk.met instance) sums

-- the part of this number was asked for, and is what the global environment has of it
pub record IsJudgedPart (f : Facts) (walk : WalkShown) (known : GlobalEnv) (number : ℕ) (there : ForeignSeen) : Type 0 where
  pub key : ForeignKey
  pub asked : slice_get walk.asked number ≡ Some key
  pub is : (later : WalkShown) → HasTables walk later → IsForeign (item_names f) known later key there
  pub rows : HasForeignRows walk.rows there
