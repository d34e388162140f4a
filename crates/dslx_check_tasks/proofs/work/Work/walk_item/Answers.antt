use Rattle.std.proofs.lemmas.Result.{on_ok_weaker}
use Rattle.dslx_check_tasks.proofs.OnItems.{item_goes}
use Rattle.dslx_check_tasks.proofs.Lemmas.Standing.{postponed}
use Rattle.dslx_check_tasks.proofs.work.Work.walk_item.Goals as goal

pub returns-then-is_missing : goal.returns-then-is_missing
returns-then-is_missing c = on_ok_weaker c.postpone.result
    (λ e. postponed c.what_is_known.ensures.stays c.args.self.now c.postpone.new.self c.begin.new.w c.item_seen.new.w c.begin.ensures (c.in_ok-seen.ensures.postponed (c.is_missing.ensures.some c.if-is_missing.true)) e)
    c.postpone.ensures

pub returns-else-is_missing : goal.returns-else-is_missing
returns-else-is_missing c = on_ok_weaker c.tell_item.result
    (λ tells. item_goes c.what_is_known.ensures.holds c.what_is_known.ensures.stays c.what_is_known.ensures.item_known c.what_is_known.ensures.item_there c.args.self.now c.tell_item.new.self c.begin.new.w c.item_seen.new.w
    c.args.item c.is_first-is_first.result c.args.own.now c.in_ok-seen.seen c.begin.ensures c.in_ok-seen.ensures (c.is_missing.ensures.none c.if-is_missing.false) c.requires.new c.requires.own c.is_first-is_first.ensures c.may_be_learnt-learns.result c.may_be_learnt-learns.ensures tells)
    c.tell_item.ensures
