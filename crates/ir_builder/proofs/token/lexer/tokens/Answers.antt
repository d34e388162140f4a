use Rattle.ir_builder.proofs.OnToken.OneCut.{only_answer, odd_answer}
use Rattle.ir_builder.proofs.token.lexer.tokens.Goals as goal

pub returns-clause-only : goal.returns-clause-only
returns-clause-only c = only_answer (λ t. t.items) c.args.text.now c.settled_tokens.result c.settled_tokens.ensures.found c.settled_tokens.ensures.refused

pub returns-clause-odd : goal.returns-clause-odd
returns-clause-odd c = odd_answer (λ t. t.items) c.args.text.now c.settled_tokens.result c.settled_tokens.ensures.found c.settled_tokens.ensures.refused
