use Rattle.std.proofs.Common.{◌≡◌, refl}
use Rattle.dslx_check_leaves.proofs.fits.ways.put_new.Goals as goal
use Rattle.dslx_check_leaves.proofs.OnFits.OnWays.{puts_nothing, puts_one}

pub returns-in_ok-push : goal.returns-in_ok-push
returns-in_ok-push c = puts_one (λ x. x ≡ c.args.item) c.args.queue.now.items c.push.new.self.items c.args.item c.in_ok-push.ensures.items refl

pub returns-else-is_new : goal.returns-else-is_new
returns-else-is_new c = puts_nothing (λ x. x ≡ c.args.item) c.args.queue.now.items
