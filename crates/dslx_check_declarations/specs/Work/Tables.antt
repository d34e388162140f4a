-- What is known of a text so far, and that it goes on to be so.
use Rattle.std.specs.Prelude.{ℕ, List, ◌≡◌, true, false, Some, slice_get}
use Rattle.std.specs.Option.{option_map}
use Rattle.dslx_tree.specs.declared.item.Enum.{Enum}
use Rattle.dslx_tree.specs.declared.item.Struct.{Struct}
use Rattle.dslx_meaning.specs.Items.{as_enum, as_struct}
use Rattle.dslx_meaning.specs.Lists.{and_then}
use Rattle.dslx_meaning.specs.Values.{type_of_value}
use Rattle.dslx_meaning.specs.Rules.TypeEnvs.{GlobalEnv}
use Rattle.dslx_check_rules.specs.Interned.{type_if}
use Rattle.dslx_check_facts.specs.declared.asked.ForeignKey.{ForeignKey}
use Rattle.dslx_check_facts.specs.declared.facts.Facts.{Facts}
use Rattle.dslx_check_facts.specs.declared.facts.ForeignSeen.{ForeignSeen}
use Rattle.dslx_check_facts.specs.declared.facts.Sums.{Sums}
use Rattle.dslx_check_facts.specs.Known.{HasKnownRows, IsSum, done_at, foreign_at, is_judged, item_at, item_names, member_at, member_number, named_type_at, text_of, value_at, value_type_at}
use Rattle.dslx_check_facts.specs.Typings.{IsForeign}
use Rattle.dslx_check_facts.specs.Walks.{HasTables, WalkShown, instance_at}
use Rattle.dslx_check_declarations.specs.Items.{HasNoRow}
use Rattle.dslx_check_declarations.specs.Work.Settling.{AreSettled}
use Rattle.dslx_check_declarations.specs.Work.Text.{IsTextEnv}

-- what is there of items that are judged, of instances that are done, and of parts of declarations, is what the global environment has of them
pub record TablesHold (f : Facts) (later : WalkShown) (known : GlobalEnv) : Type 0 where
  pub type_named : (i : ℕ) → is_judged f i ≡ true → type_if (item_names f) later.rows (named_type_at f i) ≡ known.items.type_named ((item_names f).item i)
  pub struct_named : (i : ℕ) (s : Struct) → is_judged f i ≡ true → as_struct (item_at f i) ≡ Some s
      → type_if (item_names f) later.rows (named_type_at f i) ≡ known.items.struct_named ((item_names f).item i)
  pub constant : (i : ℕ) → is_judged f i ≡ true → value_at f i ≡ known.items.constant ((item_names f).item i)
  pub constant_type : (i : ℕ) → is_judged f i ≡ true
      → type_if (item_names f) later.rows (value_type_at f i) ≡ option_map type_of_value (known.items.constant ((item_names f).item i))
  pub member : (i : ℕ) (e : Enum) (name : List ℕ) → is_judged f i ≡ true → as_enum (item_at f i) ≡ Some e
      → and_then (member_number name e.members) (member_at f i) ≡ known.items.member ((item_names f).item i) name
  pub done : (n : ℕ) (sums : Sums) → done_at f n ≡ Some sums → IsSum known (instance_at (item_names f) later.met n) sums
  pub foreign : (n : ℕ) (k : ForeignKey) (there : ForeignSeen) → slice_get later.asked n ≡ Some k → foreign_at f n ≡ Some there
      → IsForeign (item_names f) known later k there

-- so it is, wherever the walk goes on to. Each type that is known has a row, and no item that isn't judged has one
pub record KnowsBy (f : Facts) (walk : WalkShown) (known : GlobalEnv) : Type 0 where
  pub text : IsTextEnv (text_of f) f.reaching known
  pub tables : (later : WalkShown) → HasTables walk later → TablesHold f later known
  pub rows : HasKnownRows walk.rows f
  pub settled : AreSettled f
  pub fresh : (item : ℕ) → is_judged f item ≡ false → HasNoRow walk.rows item
