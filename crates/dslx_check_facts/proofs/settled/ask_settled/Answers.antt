use Rattle.std.proofs.Common.{◌∙◌, ap, map, subst}
use Rattle.std.specs.List.{AllByRecursion}
use Rattle.std.proofs.lemmas.Result.{on_ok_weaker}
use Rattle.dslx_check_items.specs.Shown.{mention_shown}
use Rattle.dslx_check_facts.specs.Names.{MentionNoMark}
use Rattle.dslx_check_facts.proofs.OnSettled.{MentionSettles, all_settled}
use Rattle.dslx_check_facts.proofs.settled.ask_settled.Goals as goal

pub returns-clause-settled : goal.returns-clause-settled
returns-clause-settled c = on_ok_weaker c.ask_all.result
    (λ h none. all_settled c.args.f.now c.in_ok-mentions.mentions.items c.args.e.now c.in_ok-mentions.ensures
    (subst MentionNoMark (ap (map mention_shown) c.as_slice-all.ensures.value ∙ c.in_ok-mentions.ensures) c.mention_no_mark.ensures)
    (subst (AllByRecursion (MentionSettles c.args.f.now)) c.as_slice-all.ensures.value (h none)))
    c.ask_all.ensures.settled
