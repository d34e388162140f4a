use Rattle.std.proofs.Common.{◌≡◌, ◌++◌, drop, string_bytes}
use Rattle.chan_file.specs.OutcomeText.{proc_line, lines_by}
use Rattle.chan_file.proofs.outcome.push_procs.Given as goal

abbrev pub invariant-procs : goal.invariant-procs
invariant-procs l =
    string_bytes l.text ++ lines_by (proc_line l.chans) (drop l.p l.heads) (drop l.p l.ends)
    ≡ string_bytes l.fn.text ++ lines_by (proc_line l.chans) l.heads l.ends
