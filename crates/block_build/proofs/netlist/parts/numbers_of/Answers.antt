use Rattle.std.proofs.Common.{◌≤◌, ◌^◌, arith}
use Rattle.std.proofs.Math.Pow.{pow_mono}
use Rattle.block_build.proofs.netlist.parts.numbers_of.Goals as goal

pub returns-then-bits-ge64 : goal.returns-then-bits-ge64
returns-then-bits-ge64 c =
    let wide : 2 ^ 64 ≤ 2 ^ c.args.bits = pow_mono c.if-bits-ge64.true in
    omega (arith, wide, c.ranges.count.fits)
