use Rattle.vlog_text.proofs.OnSpans.Along.{parts_along}
use Rattle.vlog_text.proofs.OnSpans.TokensAlong.{tokens_along}
use Rattle.vlog_text.proofs.OnSpans.Whole.{text_is_placed}
use Rattle.vlog_text.proofs.parser.spans.spans_are_those_of_tokens.Goals as goal

pub returns-clause-along : goal.returns-clause-along
returns-clause-along c = tokens_along

pub returns-clause-placed : goal.returns-clause-placed
returns-clause-placed c = text_is_placed

pub returns-clause-nested : goal.returns-clause-nested
returns-clause-nested c = λ ls m from to. parts_along ls m from to
