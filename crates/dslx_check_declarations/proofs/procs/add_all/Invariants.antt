use Rattle.std.proofs.Common.{◌-◌, drop}
use Rattle.dslx_check_declarations.specs.Procs.{AddsEnds}
use Rattle.dslx_check_declarations.proofs.procs.add_all.Given as goal

abbrev pub invariant-ends : goal.invariant-ends
invariant-ends l = AddsEnds l.fn.s l.s l.fn.made l.made (drop (l.count - l.i) l.ends)
