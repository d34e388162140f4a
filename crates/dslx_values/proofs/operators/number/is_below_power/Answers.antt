use Rattle.std.proofs.Common.{◌<◌, ◌^◌, sym, ◌∙◌, arith}
use Rattle.std.proofs.lemmas.Bool.{le-leb, lt-ltb}
use Rattle.dslx_values.proofs.OnOperators.RangeLemmas.{below_large_power}
use Rattle.dslx_values.proofs.operators.number.is_below_power.Goals as goal

pub returns-then-digits-ge128 : goal.returns-then-digits-ge128
returns-then-digits-ge128 c =
    let small : c.args.number < 2 ^ 128 = omega arith in
    le-leb 128 c.args.digits c.if-digits-ge128.true
    ∙ sym (lt-ltb c.args.number (2 ^ c.args.digits) (below_large_power c.args.number c.args.digits small c.if-digits-ge128.true))
