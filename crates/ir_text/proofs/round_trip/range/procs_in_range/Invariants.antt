use Rattle.std.proofs.Common.{◌≡◌, drop}
use Rattle.std.specs.List.{list_all}
use Rattle.ir_text.specs.RoundTrip.InRange.{proc_in_range}
use Rattle.ir_text.proofs.round_trip.range.procs_in_range.Given as goal

abbrev pub invariant-procs : goal.invariant-procs
invariant-procs l = list_all proc_in_range l.procs ≡ list_all proc_in_range (drop l.proc-index l.procs)
