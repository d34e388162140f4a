use Rattle.std.proofs.Common.{◌≡◌, ◌++◌, drop}
use Rattle.std.specs.Prelude.{string_bytes}
use Rattle.pipe_schedule.specs.Text.Text.{proc_lines}
use Rattle.pipe_schedule.proofs.text.text.push_procs.Given as goal

abbrev pub invariant-procs : goal.invariant-procs
invariant-procs l = string_bytes l.text ++ proc_lines (drop l.i l.procs) (drop l.i l.schedules) ≡ string_bytes l.fn.text ++ proc_lines l.procs l.schedules
