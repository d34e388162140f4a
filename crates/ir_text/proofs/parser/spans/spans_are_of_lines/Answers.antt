use Rattle.ir_text.proofs.OnSpans.Faults.{refused_at_line}
use Rattle.ir_text.proofs.OnSpans.TokensAlong.{tokens_along}
use Rattle.ir_text.proofs.OnSpans.Whole.{text_along, text_lines}
use Rattle.ir_text.proofs.parser.spans.spans_are_of_lines.Goals as goal

pub returns-clause-tokens : goal.returns-clause-tokens
returns-clause-tokens c = tokens_along

pub returns-clause-lines : goal.returns-clause-lines
returns-clause-lines c = text_lines

pub returns-clause-along : goal.returns-clause-along
returns-clause-along c = text_along

pub returns-clause-refused : goal.returns-clause-refused
returns-clause-refused c = refused_at_line
