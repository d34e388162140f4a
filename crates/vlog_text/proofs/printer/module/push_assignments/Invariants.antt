use Rattle.std.proofs.Common.{◌≡◌, ◌++◌, drop, string_bytes}
use Rattle.std.specs.Prelude.{flat_map}
use Rattle.vlog_text.specs.Printer.ModuleText.{assignment_text}
use Rattle.vlog_text.proofs.printer.module.push_assignments.Given as goal

abbrev pub invariant-assignments : goal.invariant-assignments
invariant-assignments l = string_bytes l.text ++ flat_map (assignment_text l.design) (drop l.assignment-index l.assignments) ≡ string_bytes l.fn.text ++ flat_map (assignment_text l.design) l.assignments
