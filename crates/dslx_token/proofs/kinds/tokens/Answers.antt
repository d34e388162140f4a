use Rattle.std.proofs.Common.{subst}
use Rattle.std.specs.Prelude.{IfErr, IfOk}
use Rattle.dslx_token.specs.Refusal.{IsRefusal}
use Rattle.dslx_token.specs.Tokens.{Tokens}
use Rattle.dslx_token.proofs.OneReading.{only_answer, odd_answer}
use Rattle.dslx_token.proofs.LastToken.{answer_ends}
use Rattle.dslx_token.proofs.kinds.tokens.Goals as goal

pub returns-clause-only : goal.returns-clause-only
returns-clause-only c =
    only_answer (λ t. t.items) c.args.text.now c.read_tokens.result
    (subst (λ text. IfOk c.read_tokens.result (λ t. Tokens text t.items)) c.as_bytes.ensures.value c.read_tokens.ensures.found)
    (subst (λ text. IfErr c.read_tokens.result (λ e. IsRefusal text e)) c.as_bytes.ensures.value c.read_tokens.ensures.refused)

pub returns-clause-odd : goal.returns-clause-odd
returns-clause-odd c =
    odd_answer (λ t. t.items) c.args.text.now c.read_tokens.result
    (subst (λ text. IfOk c.read_tokens.result (λ t. Tokens text t.items)) c.as_bytes.ensures.value c.read_tokens.ensures.found)
    (subst (λ text. IfErr c.read_tokens.result (λ e. IsRefusal text e)) c.as_bytes.ensures.value c.read_tokens.ensures.refused)

pub returns-clause-ended : goal.returns-clause-ended
returns-clause-ended c =
    answer_ends (λ t. t.items) c.args.text.now c.read_tokens.result
    (subst (λ text. IfOk c.read_tokens.result (λ t. Tokens text t.items)) c.as_bytes.ensures.value c.read_tokens.ensures.found)
