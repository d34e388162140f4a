-- Which instances are added to a table where something is made: those that it calls, each once.
use Rattle.std.specs.Prelude.{◌≡◌, ℕ, suc, List, Option, None, Some, true, false}
use Rattle.dslx_tree.specs.declared.item.Module.{Module}
use Rattle.dslx_meaning.specs.Items.{meanings_of}
use Rattle.dslx_meaning.specs.declared.value.DslxValue.{DslxValue}
use Rattle.dslx_core.specs.Lowering.Functions.{CoreInstance, Instantiated, instance_in, next_instance}
use Rattle.dslx_core.specs.Machines.Alike.Tables.{has_instance}
use Rattle.dslx_core.specs.Machines.Machine.Reached.{IsTable}
use Rattle.dslx_core.specs.Machines.Once.Once.{OccursOnce}
use Rattle.dslx_core.specs.Machines.Extension.Results.{NoTableGives, StableFrom}

-- ---- one instance, and what comes of work by instances

-- it is needed: each table of the text's instances by which something comes has it
abbrev pub IsNeeded : {A : Type 0} → Module → (List CoreInstance → Option A) → Instantiated → Type 0
IsNeeded {A = A} m meaning i = (table : List CoreInstance) → IsTable m (meanings_of m) table → (a : A) → meaning table ≡ Some a → has_instance i.name i.parametric_args table ≡ true

-- these are some of the instances of a table, which need not have those that they call
pub record AreOfTable (m : Module) (these : List CoreInstance) : Type 0 where
  pub table : List CoreInstance
  pub is_table : IsTable m (meanings_of m) table
  pub found : (name : List ℕ) (parametric_args : List DslxValue) (p : ℕ × CoreInstance) → instance_in name parametric_args 0 these ≡ Some p → (k : ℕ) × (instance_in name parametric_args 0 table ≡ Some (k, p.1))

-- it is called: nothing comes by any instances of a table that lack it
abbrev pub IsCalled : {A : Type 0} → Module → (List CoreInstance → Option A) → Instantiated → Type 0
IsCalled m meaning i = (these : List CoreInstance) → AreOfTable m these → has_instance i.name i.parametric_args these ≡ false → meaning these ≡ None

-- at most so many calls lead to it: the first one is called, and in the body of each the next one
pub data IsCalledWithin {A : Type 0} (m : Module) (meaning : List CoreInstance → Option A) : ℕ → Instantiated → Type 0 where
  AtOnce : (n : ℕ) (i : Instantiated) → IsCalled m meaning i → IsCalledWithin m meaning (suc n) i
  Through : (n : ℕ) (i j : Instantiated) → IsCalledWithin m meaning n i → IsCalled m (λ t. next_instance m (meanings_of m) t i) j → IsCalledWithin m meaning (suc n) j

-- ---- tables, one behind another

-- in the one behind each instance stands once, if it does in the one before, and each that isn't in the one before is needed, where at most
-- so many calls lead to it
pub record AddsNeeded {A : Type 0} (m : Module) (limit : ℕ) (before after : List CoreInstance) (meaning : List CoreInstance → Option A) : Type 0 where
  pub once : OccursOnce before → OccursOnce after
  pub needed : (i : Instantiated) → has_instance i.name i.parametric_args after ≡ true → has_instance i.name i.parametric_args before ≡ false → IsNeeded m meaning i
  pub called : (i : Instantiated) → has_instance i.name i.parametric_args after ≡ true → has_instance i.name i.parametric_args before ≡ false → IsCalledWithin m meaning limit i

-- nothing by any table of at most so many, or a value and a table that is long enough for it, to which only what is needed was added
abbrev pub TableMakes : {A : Type 0} → Module → ℕ → List CoreInstance → (List CoreInstance → Option A) → Option (A × List CoreInstance) → Type 0
TableMakes m limit before meaning None = NoTableGives m limit meaning
TableMakes m limit before meaning (Some (a, after)) = StableFrom m before after meaning a × AddsNeeded m limit before after meaning
