use Rattle.std.proofs.Common.{length}
use Rattle.dslx_token.proofs.TokensSoFar.{AreTokensSoFar}
use Rattle.dslx_token.proofs.lexer.plain_tokens.Given as goal

abbrev pub invariant-text : goal.invariant-text
invariant-text l = AreTokensSoFar l.text l.tokens.items l.rest

abbrev pub decreases-text : goal.decreases-text
decreases-text l = length l.rest
