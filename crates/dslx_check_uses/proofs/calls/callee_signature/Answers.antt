use Rattle.dslx_check_uses.proofs.OnCallees.{cut_signature, hidden_signature, signature_there, wrong_signature}
use Rattle.dslx_check_uses.proofs.calls.callee_signature.Goals as goal

pub returns-then-is_hidden : goal.returns-then-is_hidden
returns-then-is_hidden c = hidden_signature c.if-is_hidden.true

pub returns-then-is_wrong : goal.returns-then-is_wrong
returns-then-is_wrong c = wrong_signature c.if-is_wrong.true

pub returns-then-not-is_whole : goal.returns-then-not-is_whole
returns-then-not-is_whole c = cut_signature c.if-not-is_whole.true

pub returns : goal.returns
returns c =
    let there = c.in_ok-signature.ensures in
    signature_there c.if-is_hidden.false c.if-is_wrong.false there.grows there.reached there.rows there.seen
