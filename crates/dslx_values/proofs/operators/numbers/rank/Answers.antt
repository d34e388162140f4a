use Rattle.std.proofs.Common.{◌≤◌, ◌-◌, ◌^◌, arith}
use Rattle.std.proofs.Math.Pow.{pow_mono}
use Rattle.dslx_values.proofs.operators.numbers.rank.Goals as goal

pub overflow_add-result : goal.overflow_add-result
overflow_add-result c =
    let most : c.args.x.now.word.width ≤ 128 = c.width.ensures.is_word.most_width in
    let less : c.width.result - 1 ≤ 127 = omega arith in
    let half : 2 ^ (c.width.result - 1) ≤ 2 ^ 127 = pow_mono less in
    omega arith
