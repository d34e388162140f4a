use Rattle.std.proofs.lemmas.Result.{on_ok_weaker}
use Rattle.dslx_check_tasks.proofs.OnParts.{part_goes}
use Rattle.dslx_check_tasks.proofs.Lemmas.Standing.{postponed}
use Rattle.dslx_check_tasks.proofs.work.Work.walk_part.Goals as goal

pub returns-then-is_missing : goal.returns-then-is_missing
returns-then-is_missing c = on_ok_weaker c.postpone.result
    (λ e. postponed c.what_is_known.ensures.stays c.args.self.now c.postpone.new.self c.begin.new.w c.part_seen.new.w c.begin.ensures c.in_ok-there.ensures.grows e)
    c.postpone.ensures

pub returns-else-is_missing : goal.returns-else-is_missing
returns-else-is_missing c = on_ok_weaker c.learn_part.result
    (λ l. part_goes c.what_is_known.ensures.holds c.what_is_known.ensures.stays c.what_is_known.ensures.part_known c.what_is_known.ensures.part_there c.args.self.now c.learn_part.new.f c.begin.new.w c.part_seen.new.w c.args.number c.args.key
    c.in_ok-there.there c.begin.ensures c.in_ok-there.ensures (c.is_missing.ensures.none c.if-is_missing.false) c.requires l)
    c.learn_part.ensures
