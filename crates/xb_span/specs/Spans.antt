-- Spans of texts.
use Rattle.xb_span.specs.declared.span.Span.{Span}

-- what stands for the span of a part that isn't there
abbrev pub nowhere : Span
nowhere = record { from = 0; to = 0 }
