use Rattle.ir_lower.proofs.OnWhole.{whole_by}
use Rattle.ir_lower.proofs.whole.package_or_stop.Goals as goal

pub returns : goal.returns
returns c =
    whole_by c.args.design.now c.args.made.now.net c.args.made.now.instances.items c.in_ok-ir.ir c.requires.net c.in_ok-check_package.ensures.network c.in_ok-check_package.ensures.verified c.in_ok-ir.ensures c.requires.instances
