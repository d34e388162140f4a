use Rattle.std.proofs.Common.{◌≡◌, ℕ, List, [], drop}
use Rattle.std.specs.Prelude.{is_some}
use Rattle.base.specs.NameTable.Found.{found}
use Rattle.vlog_tree.specs.Signals.{signals}
use Rattle.vlog_tree.specs.Verifier.WithSpans.{signal_span}
use Rattle.vlog_tree.specs.Verifier.Checks.{noted, walk}
use Rattle.vlog_tree.specs.Verifier.Parts.{is_among, signal_checks, see_name}
use Rattle.vlog_tree.specs.Verifier.Verified.{targets, signals_checks}
use Rattle.vlog_tree.proofs.verifier.walks.note_signals.Given as goal

abbrev pub invariant-signals : goal.invariant-signals
invariant-signals l = record {
  seen : List (List ℕ);
  shows : (q : List ℕ) → is_some (found l.names q) ≡ is_among seen q;
  faults : noted l.held (walk (λ names s d. signal_checks l.design (targets l.design.assignments) (signal_span l.design l.part_spans s) names s d) see_name seen l.s (drop l.s (signals l.design)))
      ≡ noted l.fn.held (signals_checks l.design l.part_spans);
}
