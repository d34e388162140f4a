-- The rules and limits of a module.
use Rattle.std.specs.Prelude.{◌≡◌, ◌-◌, ℕ, ◌<◌, not, true, false, List, [], ◌∷◌, ◌++◌, length, map, flat_map, slice_get, get_or, Option, None, Some}
use Rattle.xb_span.specs.declared.fault.Fault.{Fault}
use Rattle.xb_span.specs.declared.span.Span.{Span}
use Rattle.xb_span.specs.Spans.{nowhere}
use Rattle.vlog_tree.specs.declared.module.VModule.{VModule}
use Rattle.vlog_tree.specs.declared.module.Assignment.{Assignment}
use Rattle.vlog_tree.specs.declared.module.Set.{Set}
use Rattle.vlog_tree.specs.Signals.{signals}
use Rattle.vlog_tree.specs.Forms.{literals, atom_literals}
use Rattle.vlog_tree.specs.declared.verifier.part_spans.PartSpans.{PartSpans}
use Rattle.vlog_tree.specs.Verifier.WithSpans.{signal_span}
use Rattle.vlog_tree.specs.Verifier.Checks.{PartCheck, rule_at, width_at, noted, walk, seen_after}
use Rattle.vlog_tree.specs.Verifier.Ports.{Clock, due_behind, may_end}
use Rattle.vlog_tree.specs.Verifier.Parts.{signal_checks, see_name, port_checks, assignment_checks, see_target, set_checks, see_set}
use Rattle.vlog_tree.specs.Verifier.Loops.{Depends}
use Rattle.vlog_tree.specs.Verifier.RuleNumbers as rule

abbrev pub targets : List Assignment → List ℕ
targets assignments = map (λ a. a.target.0) assignments

abbrev pub set_targets : List Set → List ℕ
set_targets sets = map (λ set. set.target.0) sets

abbrev pub signals_checks : VModule → PartSpans → List PartCheck
signals_checks m part_spans = walk (λ names s d. signal_checks m (targets m.assignments) (signal_span m part_spans s) names s d) see_name [] 0 (signals m)

abbrev pub ports_checks : VModule → PartSpans → List PartCheck
ports_checks m part_spans = walk (λ due i p. port_checks (get_or part_spans.ports i nowhere) due p) due_behind Clock 0 m.ports

-- the ports end too early
abbrev pub end_check : VModule → PartSpans → PartCheck
end_check m part_spans = rule_at (get_or part_spans.ports (length m.ports - 1) nowhere) rule.PORTS_ARE_CHANNELS (not (may_end (seen_after due_behind Clock m.ports)))

abbrev pub assignments_checks : VModule → PartSpans → List PartCheck
assignments_checks m part_spans = walk (λ earlier i a. assignment_checks m (get_or part_spans.assignments i nowhere) earlier a) see_target [] 0 m.assignments

abbrev pub resets_checks : VModule → PartSpans → List PartCheck
resets_checks m part_spans = walk (λ earlier i set. set_checks m true (set_targets m.at_clock) (get_or part_spans.at_reset i nowhere) earlier set) see_set [] 0 m.at_reset

abbrev pub clocks_checks : VModule → PartSpans → List PartCheck
clocks_checks m part_spans = walk (λ earlier i set. set_checks m false (set_targets m.at_reset) (get_or part_spans.at_clock i nowhere) earlier set) see_set [] 0 m.at_clock

-- the widths of all literals, in text order
abbrev pub set_literals : List Set → List ℕ
set_literals sets = flat_map (λ set. atom_literals set.value) sets

abbrev pub module_literals : VModule → List ℕ
module_literals m = flat_map (λ a. literals a.value) m.assignments ++ (set_literals m.at_reset ++ set_literals m.at_clock)

abbrev pub literals_checks : VModule → PartSpans → List PartCheck
literals_checks m part_spans = walk (λ _ i width. width_at (get_or part_spans.literals i 0) width ∷ []) (λ (seen : ℕ) _. seen) 0 0 (module_literals m)

-- all checks but that on wires that depend on themselves
unfoldable pub module_checks : VModule → PartSpans → List PartCheck
module_checks m part_spans =
    signals_checks m part_spans ++ (ports_checks m part_spans ++ (end_check m part_spans ∷ (assignments_checks m part_spans
    ++ (resets_checks m part_spans ++ (clocks_checks m part_spans ++ literals_checks m part_spans)))))

-- the first assignment whose target depends on itself breaks a rule
pub data Loops (m : VModule) (part_spans : PartSpans) : List PartCheck → Type 0 where
  none : ((i : ℕ) (a : Assignment) → slice_get m.assignments i ≡ Some a → ¬ (Depends m a.target.0 a.target.0)) → Loops m part_spans []
  first : (i : ℕ) (a : Assignment) → slice_get m.assignments i ≡ Some a → Depends m a.target.0 a.target.0
      → ((j : ℕ) (b : Assignment) → j < i → slice_get m.assignments j ≡ Some b → ¬ (Depends m b.target.0 b.target.0))
      → Loops m part_spans (rule_at (get_or part_spans.assignments i nowhere) rule.NO_COMBINATIONAL_LOOP true ∷ [])

-- the fault that is named of a module whose parts have these spans: none where it breaks no rule and passes no limit
pub record IsVerdict (m : VModule) (part_spans : PartSpans) (named : Option Fault) : Type 0 where
  pub loops : List PartCheck
  pub looped : Loops m part_spans loops
  pub is : named ≡ noted None (module_checks m part_spans ++ loops)
