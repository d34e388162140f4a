use Rattle.std.proofs.Common.{◌≡◌, ℕ, List, [], drop, get_or}
use Rattle.xb_span.specs.Spans.{nowhere}
use Rattle.vlog_tree.specs.Verifier.Checks.{noted, walk}
use Rattle.vlog_tree.specs.Verifier.Parts.{count_of, set_checks, see_set}
use Rattle.vlog_tree.specs.Verifier.Inner.Seen.{ShowsMarks}
use Rattle.vlog_tree.proofs.verifier.walks.note_sets.Given as goal

abbrev pub invariant-sets : goal.invariant-sets
invariant-sets l = record {
  targets : List ℕ;
  shows : ShowsMarks (count_of l.design) l.earlier targets;
  faults : (others : List ℕ) → ShowsMarks (count_of l.design) l.others others
      → noted l.held (walk (λ earlier i set. set_checks l.design l.is_reset others (get_or l.spans i nowhere) earlier set) see_set targets l.i (drop l.i l.sets))
      ≡ noted l.fn.held (walk (λ earlier i set. set_checks l.design l.is_reset others (get_or l.spans i nowhere) earlier set) see_set [] 0 l.sets);
}
