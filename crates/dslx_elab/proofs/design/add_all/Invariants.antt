use Rattle.std.proofs.Common.{Option, drop}
use Rattle.dslx_meaning.specs.Items.{meanings_of}
use Rattle.dslx_core.specs.Machines.Machine.Reached.{IsTable}
use Rattle.dslx_elab.specs.Assembling.{AddsFrom, IsEmpty}
use Rattle.dslx_elab.specs.declared.adding.MadeInstances.{MadeInstances}
use Rattle.dslx_elab.proofs.design.add_all.Given as goal

-- what comes of the rest completes the whole
abbrev pub invariant-wanted : goal.invariant-wanted
invariant-wanted l =
    ((o : Option MadeInstances) → AddsFrom l.text l.limit l.made (drop l.instance-index l.wanted) o → AddsFrom l.text l.limit l.initial.made l.wanted o)
    × IsEmpty l.initial.made × IsTable l.text (meanings_of l.text) l.made.functions
