use Rattle.std.proofs.Common.{take, arith, ◌<◌, ◌≤◌, length}
use Rattle.dslx_check_rules.specs.Control.Matches.{AreTogether, IsArm}
use Rattle.dslx_check_rules.proofs.Lemmas.Nodes.Lists.{all_ones, next_one}
use Rattle.dslx_check_rules.proofs.control.matches.all_arms.Goals as goal

pub arms-preserved : goal.arms-preserved
arms-preserved c = λ names rows later xs p.
    let within : c.arms.arm-index < length c.args.arms.now = omega arith in
    next_one (AreTogether c.and-all.result) (IsArm names rows later) c.args.arms.now xs c.arms.arm-index _ p within
    (λ x is. c.and-all.ensures names rows later (take c.arms.arm-index xs) x (c.arms.invariant names rows later xs p) is)

pub returns : goal.returns
returns c = λ names rows later xs p.
    let past : length c.args.arms.now ≤ c.arms.arm-index = omega arith in
    all_ones (AreTogether c.arms.all) (IsArm names rows later) c.args.arms.now xs c.arms.arm-index p past (c.arms.invariant names rows later xs p)
