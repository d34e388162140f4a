-- Instances of procs that are added to others.
use Rattle.std.specs.Prelude.{◌≡◌, ◌∷◌, ◌++◌, [], ℕ, Option, None, Some}
use Rattle.dslx_tree.specs.declared.item.Module.{Module}
use Rattle.dslx_meaning.specs.Items.{meanings_of}
use Rattle.dslx_core.specs.Lowering.Functions.{Instantiated}
use Rattle.dslx_core.specs.Machines.Machine.Reached.{IsTable}
use Rattle.dslx_core.specs.Networks.Configs.{ProcInstance, proc_instance_in}
use Rattle.dslx_core.specs.Networks.Procs.{next_proc}
use Rattle.dslx_core.specs.Machines.Extension.Results.{StableFrom, NoTableGives}
use Rattle.dslx_param.specs.Needed.{AddsNeeded}
use Rattle.dslx_elab.specs.declared.adding.MadeInstances.{MadeInstances}

-- the number of the instance of a name and parametric arguments
abbrev pub number_in : MadeInstances → Instantiated → Option ℕ
number_in made i = proc_instance_in i.name i.parametric_args 0 made.procs.items

-- one more instance of a proc, with the instances of functions that it needs and no others
pub record IsOneMore (m : Module) (limit : ℕ) (before : MadeInstances) (i : Instantiated) (after : MadeInstances) : Type 0 where
  pub made : ProcInstance
  pub comes : StableFrom m before.functions after.functions (λ functions. next_proc m (meanings_of m) functions before.procs.items i) made
  pub adds : AddsNeeded m limit before.functions after.functions (λ functions. next_proc m (meanings_of m) functions before.procs.items i)
  pub procs : after.procs.items ≡ before.procs.items ++ made ∷ []

-- the result for an instance that isn't there yet
abbrev pub AddsMissing : Module → ℕ → MadeInstances → Instantiated → Option MadeInstances → Type 0
AddsMissing m limit before i None = NoTableGives m limit (λ functions. next_proc m (meanings_of m) functions before.procs.items i)
AddsMissing m limit before i (Some after) = IsOneMore m limit before i after

-- the result for an instance that is asked for: it stays the one that is there, or is made behind the others, or it has no lowering by
-- any table of at most so many instances of functions
pub data AddsProc (m : Module) (limit : ℕ) (before : MadeInstances) (i : Instantiated) : Option MadeInstances → Type 0 where
  IsAmong : (k : ℕ) → number_in before i ≡ Some k → AddsProc m limit before i (Some before)
  IsAdded : (o : Option MadeInstances) → number_in before i ≡ None → AddsMissing m limit before i o → AddsProc m limit before i o

-- the instances of functions, if there are any, are of the text
abbrev pub KeepsTable : Module → Option MadeInstances → Type 0
KeepsTable m None = Unit {0}
KeepsTable m (Some made) = IsTable m (meanings_of m) made.functions
