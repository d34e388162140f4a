-- Where a walk over a declaration stands. It only adds to its tables, and what is said of a number is said of every walk that has
-- these tables and more.
use Rattle.std.specs.Prelude.{ℕ, List, [], ◌≡◌, map, Option, Some, None, slice_get}
use Rattle.base.specs.Lists.Prefix.{IsPrefix}
use Rattle.dslx_meaning.specs.declared.value.DslxValue.{DslxValue}
use Rattle.dslx_meaning.specs.Rules.TypeEnvs.{Instance}
use Rattle.dslx_check_rules.specs.declared.table.row.TypeRow.{TypeRow}
use Rattle.dslx_check_rules.specs.Interned.{ItemNames, KeepsItems}
use Rattle.dslx_check_facts.specs.declared.instances.InstanceKey.{InstanceKey}
use Rattle.dslx_check_facts.specs.declared.asked.ForeignKey.{ForeignKey}
use Rattle.dslx_check_facts.specs.declared.walk.Need.{Need}
use Rattle.dslx_check_facts.specs.declared.walk.Walk.{Walk}

pub record WalkShown : Type 0 where
  -- the types that were met, by their numbers
  pub rows : List TypeRow
  -- the instances that were met, by their numbers
  pub met : List InstanceKey
  -- the values of parametrics up to one of them, the last one first, by the numbers of these prefixes
  pub prefixes : List (List (Option DslxValue))
  -- the parts of other declarations that were asked for, by their numbers
  pub asked : List ForeignKey
  -- the instances that are reached
  pub reached : List ℕ
  -- what was asked for and isn't known
  pub missing : List Need

abbrev pub shown : Walk → WalkShown
shown w = record { rows = w.types; met = w.instances; prefixes = w.prefixes; asked = w.asked; reached = w.reached.items; missing = w.missing.items }

-- the tables of the first one are prefixes of the second one's
pub record HasTables (walk later : WalkShown) : Type 0 where
  pub rows : IsPrefix walk.rows later.rows
  pub met : IsPrefix walk.met later.met
  pub prefixes : IsPrefix walk.prefixes later.prefixes
  pub asked : IsPrefix walk.asked later.asked

-- the second one is the first one some steps later. A walk meets no new struct and no new enum: they are put into the table where their
-- items are judged
pub record WalkGrows (old new : WalkShown) : Type 0 where
  pub tables : HasTables old new
  pub items : KeepsItems old.rows new.rows
  pub reached : IsPrefix old.reached new.reached
  pub missing : IsPrefix old.missing new.missing

-- it only noted what isn't known
pub record OnlyMisses (old new : WalkShown) : Type 0 where
  pub rows : new.rows ≡ old.rows
  pub met : new.met ≡ old.met
  pub prefixes : new.prefixes ≡ old.prefixes
  pub asked : new.asked ≡ old.asked
  pub reached : new.reached ≡ old.reached
  pub missing : IsPrefix old.missing new.missing

-- it only added types
pub record OnlyTypes (old new : WalkShown) : Type 0 where
  pub rows : IsPrefix old.rows new.rows
  pub items : KeepsItems old.rows new.rows
  pub met : new.met ≡ old.met
  pub prefixes : new.prefixes ≡ old.prefixes
  pub asked : new.asked ≡ old.asked
  pub reached : new.reached ≡ old.reached
  pub missing : new.missing ≡ old.missing

-- ---- instances by their numbers

abbrev pub instance_of : ItemNames → InstanceKey → Instance
instance_of names k = record { name = names.item k.item; parametric_args = k.parametric_args }

abbrev pub instance_or_none : ItemNames → Option InstanceKey → Instance
instance_or_none names None = record { name = []; parametric_args = [] }
instance_or_none names (Some k) = instance_of names k

abbrev pub instance_at : ItemNames → List InstanceKey → ℕ → Instance
instance_at names met n = instance_or_none names (slice_get met n)

abbrev pub instances_at : ItemNames → List InstanceKey → List ℕ → List Instance
instances_at names met ns = map (instance_at names met) ns
