use Rattle.vlog_text.proofs.OnToken.PrefixFacts.{mark_fits}
use Rattle.vlog_text.proofs.token.front.mark_at.Goals as goal

pub returns-clause-within : goal.returns-clause-within
returns-clause-within c =
    let whole = c.mark_len.ensures in
    let first = c.byte_at.ensures in
    let second = c.byte_at-2.ensures in
    let third = c.byte_at-3.ensures in
    mark_fits c.args.text.now c.mark_len.result (cc)
