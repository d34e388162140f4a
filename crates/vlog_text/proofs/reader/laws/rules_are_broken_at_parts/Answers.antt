use Rattle.vlog_text.proofs.OnReader.AtParts.{broken_at_part}
use Rattle.vlog_text.proofs.reader.laws.rules_are_broken_at_parts.Goals as goal

pub returns : goal.returns
returns c = broken_at_part (λ ls p reads. let t = c.spans_are_those_of_tokens.ensures.placed ls p reads in (t.0, t.1, t.2, t.4))
