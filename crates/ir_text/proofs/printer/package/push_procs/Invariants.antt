use Rattle.std.proofs.Common.{◌≡◌, ◌++◌, drop, map, string_bytes}
use Rattle.ir_text.specs.Printer.Lines.{proc_text, lines_text}
use Rattle.ir_text.proofs.printer.package.push_procs.Given as goal

abbrev pub invariant-procs : goal.invariant-procs
invariant-procs l = string_bytes l.text ++ lines_text (map (proc_text l.channels) (drop l.proc-index l.procs)) ≡ string_bytes l.fn.text ++ lines_text (map (proc_text l.channels) l.procs)
