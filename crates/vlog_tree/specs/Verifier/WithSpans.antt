-- Where the parts of a module stand.
use Rattle.std.specs.Prelude.{ℕ, ◌-◌, nat_lt, [], length, get_or, if◌then◌else◌}
use Rattle.xb_span.specs.declared.span.Span.{Span}
use Rattle.xb_span.specs.Spans.{nowhere}
use Rattle.vlog_tree.specs.declared.module.VModule.{VModule}
use Rattle.vlog_tree.specs.declared.verifier.part_spans.PartSpans.{PartSpans}

abbrev pub no_spans : PartSpans
no_spans = record { ports = []; declarations = []; assignments = []; at_reset = []; at_clock = []; literals = [] }

-- the span of a port or a declaration
abbrev pub signal_span : VModule → PartSpans → ℕ → Span
signal_span m part_spans s = if nat_lt s (length m.ports) then get_or part_spans.ports s nowhere else get_or part_spans.declarations (s - length m.ports) nowhere
