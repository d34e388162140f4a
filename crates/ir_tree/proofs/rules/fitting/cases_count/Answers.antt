use Rattle.std.proofs.Common.{◌<◌, ◌^◌, ◌∙◌, arith}
use Rattle.ir_tree.proofs.OnRules.Selectors.{wide_count}
use Rattle.ir_tree.proofs.rules.fitting.cases_count.Goals as goal

pub returns-then-width-ge64 : goal.returns-then-width-ge64
returns-then-width-ge64 c =
    let some : 0 < c.args.count = omega (arith, c.if-count-eq0.false) in
    let few : c.args.count < 2 ^ 64 = omega (arith, c.ranges.count.fits) in
    c.is_some.ensures ∙ wide_count c.args.count c.args.width c.args.default some few c.if-width-ge64.true
