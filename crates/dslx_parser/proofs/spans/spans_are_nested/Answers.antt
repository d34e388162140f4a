use Rattle.dslx_parser.proofs.OnSpans.Going.{text_is_placed}
use Rattle.dslx_parser.proofs.OnSpans.TokensAlong.{tokens_along}
use Rattle.dslx_parser.proofs.spans.spans_are_nested.Goals as goal

pub returns-clause-along : goal.returns-clause-along
returns-clause-along c = tokens_along

pub returns-clause-placed : goal.returns-clause-placed
returns-clause-placed c = text_is_placed
