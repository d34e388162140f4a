use Rattle.std.proofs.Common.{◌≡◌, ℕ, List, [], take, drop}
use Rattle.ir_tree.specs.Rules.Checks.{noted}
use Rattle.ir_tree.specs.Rules.Lines.{is_among}
use Rattle.ir_tree.specs.Rules.Verified.{procs_checks, nothing_seen, nowhere_proc}
use Rattle.ir_tree.specs.Rules.Inner.Seen.{has}
use Rattle.ir_tree.specs.Rules.Inner.Scopes.{seen_by}
use Rattle.ir_tree.proofs.OnRules.Walks.{proc_names}
use Rattle.ir_tree.proofs.rules.verified.note_procs.Given as goal

abbrev pub invariant-procs : goal.invariant-procs
invariant-procs l =
    record {
      elsewhere : l.elsewhere ≡ nowhere_proc;
      seen : (q : List ℕ) → has l.names q ≡ is_among (proc_names (take l.i l.procs)) q;
      faults : noted l.held (procs_checks l.channels l.line_spans (proc_names (take l.i l.procs)) l.i (seen_by l.seen) (drop l.i l.procs)) ≡ noted l.fn.held (procs_checks l.channels l.line_spans [] 0 (nothing_seen l.channels) l.procs);
    }
