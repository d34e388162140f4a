use Rattle.std.proofs.Common.{◌≡◌, drop, None}
use Rattle.xb_span.specs.Fault.{first_from}
use Rattle.xb_span.proofs.fault.first_of.Given as goal

abbrev pub invariant-loop-fault : goal.invariant-loop-fault
invariant-loop-fault l = first_from l.first (drop l.fault-index l.faults) ≡ first_from None l.faults
