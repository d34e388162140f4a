use Rattle.std.proofs.Common.{◌≡◌, ℕ, List, [], drop, get_or}
use Rattle.xb_span.specs.Spans.{nowhere}
use Rattle.vlog_tree.specs.Verifier.Checks.{noted, walk}
use Rattle.vlog_tree.specs.Verifier.Parts.{count_of, assignment_checks, see_target}
use Rattle.vlog_tree.specs.Verifier.Inner.Seen.{ShowsMarks}
use Rattle.vlog_tree.proofs.verifier.walks.note_assignments.Given as goal

abbrev pub invariant-assignments : goal.invariant-assignments
invariant-assignments l = record {
  targets : List ℕ;
  shows : ShowsMarks (count_of l.design) l.earlier targets;
  faults : noted l.held (walk (λ earlier i a. assignment_checks l.design (get_or l.spans i nowhere) earlier a) see_target targets l.i (drop l.i l.assignments))
      ≡ noted l.fn.held (walk (λ earlier i a. assignment_checks l.design (get_or l.spans i nowhere) earlier a) see_target [] 0 l.assignments);
}
