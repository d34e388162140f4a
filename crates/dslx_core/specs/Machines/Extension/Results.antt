-- What comes of work by tables of instances, and a table that is long enough for it.
use Rattle.std.specs.Prelude.{◌≡◌, ◌≤◌, ℕ, List, length, Option, None, Some}
use Rattle.dslx_tree.specs.declared.item.Module.{Module}
use Rattle.dslx_meaning.specs.Items.{meanings_of}
use Rattle.dslx_core.specs.Lowering.Functions.{CoreInstance}
use Rattle.dslx_core.specs.Machines.Machine.Reached.{ExtendsTable, IsTable}

-- a table of a text's instances that extends another
pub record TableExtends (m : Module) (before after : List CoreInstance) : Type 0 where
  pub is_table : IsTable m (meanings_of m) after
  pub begins : ExtendsTable after before

-- by no table of at most so many of a text's instances is there anything
abbrev pub NoTableGives : {A : Type 0} → Module → ℕ → (List CoreInstance → Option A) → Type 0
NoTableGives m limit meaning = (table : List CoreInstance) → IsTable m (meanings_of m) table → length table ≤ limit → meaning table ≡ None

-- the table behind extends the one before, and by each table that extends the one behind there is this
pub record StableFrom {A : Type 0} (m : Module) (before after : List CoreInstance) (meaning : List CoreInstance → Option A) (a : A) : Type 0 where
  pub grows : TableExtends m before after
  pub some : (table : List CoreInstance) → ExtendsTable table after → meaning table ≡ Some a

-- nothing, or a value and a table that is long enough for it
abbrev pub TableResult : {A : Type 0} → Module → ℕ → List CoreInstance → (List CoreInstance → Option A) → Option (A × List CoreInstance) → Type 0
TableResult m limit before meaning None = NoTableGives m limit meaning
TableResult m limit before meaning (Some (a, after)) = StableFrom m before after meaning a
