-- What messages say of a refusal.
use Rattle.std.specs.Prelude.{ℕ, List, codes, ◌++◌}
use Rattle.std.specs.Fmt.{decimal}
use Rattle.xb_span.specs.LimitText.{limit_text}
use Rattle.xb_span.specs.declared.span.Span.{Span}
use Rattle.xb_span.specs.declared.span.Rule.{Rule}
use Rattle.xb_span.specs.declared.read_error.ReadError.{ReadError}
use Rattle.xb_span.specs.declared.read_error.ReadError.TheVariants.{Syntax, Broken, Over, OutOfMemory}

-- `FROM..TO`
abbrev pub span_text : Span → List ℕ
span_text s = decimal s.from ++ codes ".." ++ decimal s.to

-- `rule R`
abbrev pub rule_text : Rule → List ℕ
rule_text r = codes "rule " ++ decimal r.0

-- what stands behind the file's name
abbrev pub refusal_text : ReadError → List ℕ
refusal_text (Syntax at) = codes "syntax at " ++ decimal at
refusal_text (Broken rule span) = rule_text rule ++ codes " at " ++ span_text span
refusal_text (Over limit) = limit_text limit
refusal_text OutOfMemory = codes "out of memory"
