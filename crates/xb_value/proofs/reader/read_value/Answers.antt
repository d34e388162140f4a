use Rattle.std.proofs.Common.{subst}
use Rattle.xb_value.specs.Form.{Spells}
use Rattle.xb_value.specs.Inner.Answers.{IsAnswer}
use Rattle.xb_value.specs.Inner.Reading.{reading}
use Rattle.xb_value.specs.Inner.Scanned.{IsScanOf}
use Rattle.xb_value.proofs.ReadTyped.{answer_of, answer_typed}
use Rattle.xb_value.proofs.reader.read_value.Goals as goal

pub returns-in-Tokens-clause-answer : goal.returns-in-Tokens-clause-answer
returns-in-Tokens-clause-answer c =
    let spelled = subst (λ t. Spells t c.in-Tokens.tokens) c.as_bytes.ensures.value (subst (IsScanOf c.as_bytes.result.now) c.in-Tokens.is c.in_ok-tokens.ensures) in
    answer_of c.args.text.now c.args.ty.now c.in-Tokens.tokens c.read_tokens.result spelled
    (subst (λ ts. IsAnswer c.read_tokens.result (reading c.args.ty.now ts)) c.as_slice.ensures c.read_tokens.ensures)

pub returns-in-Tokens-clause-of_type : goal.returns-in-Tokens-clause-of_type
returns-in-Tokens-clause-of_type c = answer_typed c.args.text.now c.args.ty.now c.read_tokens.result (returns-in-Tokens-clause-answer c)
