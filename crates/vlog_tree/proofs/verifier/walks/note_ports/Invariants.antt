use Rattle.std.proofs.Common.{◌≡◌, drop, get_or}
use Rattle.xb_span.specs.Spans.{nowhere}
use Rattle.vlog_tree.specs.Verifier.Checks.{noted, walk, seen_after}
use Rattle.vlog_tree.specs.Verifier.Ports.{Clock, due_behind}
use Rattle.vlog_tree.specs.Verifier.Parts.{port_checks}
use Rattle.vlog_tree.specs.Verifier.Inner.Seen.{due_of}
use Rattle.vlog_tree.proofs.verifier.walks.note_ports.Given as goal

abbrev pub invariant-ports : goal.invariant-ports
invariant-ports l = record {
  faults : noted l.held (walk (λ due i p. port_checks (get_or l.spans i nowhere) due p) due_behind (due_of l.due) l.i (drop l.i l.ports))
      ≡ noted l.fn.held (walk (λ due i p. port_checks (get_or l.spans i nowhere) due p) due_behind Clock 0 l.ports);
  after : seen_after due_behind (due_of l.due) (drop l.i l.ports) ≡ seen_after due_behind Clock l.ports;
}
