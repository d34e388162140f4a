use Rattle.dslx_core.specs.Machines.Machine.Reached.{IsTable}
use Rattle.dslx_meaning.specs.Items.{meanings_of}
use Rattle.dslx_tests.proofs.procs.made.all_of.Given as goal

-- the instances of functions are of the text
abbrev pub invariant-items : goal.invariant-items
invariant-items l = IsTable l.module (meanings_of l.module) l.made.functions
