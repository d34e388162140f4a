use Rattle.std.proofs.Common.{◌∙◌, sym}
use Rattle.dslx_check_facts.specs.Walks.{shown}
use Rattle.dslx_check_leaves.proofs.OnNamed.OnConstants.{as_many_missing}
use Rattle.dslx_check_leaves.proofs.named.constants.value_of.Goals as goal

pub returns-else-len-missing-clause-value : goal.returns-else-len-missing-clause-value
returns-else-len-missing-clause-value c none =
    let as_many = as_many_missing (shown c.args.w.now) (shown c.ask_settled.new.w) c.in_ok-ask_settled.ensures.misses none in
    absurd (c.if-len-missing.false (c.len.ensures ∙ c.ask_settled.new.w.missing.ok.0 ∙ as_many ∙ sym c.args.w.now.missing.ok.0 ∙ sym c.len-missing.ensures))
