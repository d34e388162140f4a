use Rattle.dslx_parser.proofs.OnEnds.Kept.{of_text}
use Rattle.dslx_parser.proofs.ends.ends_are_words.Goals as goal

pub returns : goal.returns
returns c = of_text
