use Rattle.std.proofs.Common.{length}
use Rattle.ir_builder.proofs.OnToken.CutsSoFar.{AreCutSoFar}
use Rattle.ir_builder.proofs.token.lexer.plain_tokens.Given as goal

abbrev pub invariant-text : goal.invariant-text
invariant-text l = AreCutSoFar l.text l.tokens.items l.rest

abbrev pub decreases-text : goal.decreases-text
decreases-text l = length l.rest
