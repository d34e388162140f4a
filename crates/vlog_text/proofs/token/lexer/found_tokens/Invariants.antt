use Rattle.std.proofs.Common.{length}
use Rattle.vlog_text.proofs.OnToken.CutsSoFar.{AreTaken}
use Rattle.vlog_text.proofs.token.lexer.found_tokens.Given as goal

abbrev pub invariant-text : goal.invariant-text
invariant-text l = AreTaken l.text l.tokens.items l.rest

abbrev pub decreases-text : goal.decreases-text
decreases-text l = length l.rest
