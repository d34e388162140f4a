use Rattle.std.proofs.Common.{◌≡◌, ℕ, ◌^◌, ◌<◌, ◌≤◌, true, sym, ◌∙◌, arith}
use Rattle.std.specs.Prelude.{nat_lt}
use Rattle.std.proofs.lemmas.Bool.{le-leb}
use Rattle.std.proofs.lemmas.Bool.Decides.{nat_tests}
use Rattle.std.proofs.Math.Pow.{pow_mono}
use Rattle.block_build.proofs.netlist.choices.has_number.Goals as goal

below : (m n : ℕ) → m < n → nat_lt m n ≡ true
below m n l = grind (arith, nat_tests, l)

pub returns-then-bits-ge64 : goal.returns-then-bits-ge64
returns-then-bits-ge64 c =
    let wide : 2 ^ 64 ≤ 2 ^ c.args.bits = pow_mono c.if-bits-ge64.true in
    let less : c.args.number < 2 ^ c.args.bits = omega (arith, wide, c.ranges.number.fits) in
    le-leb 64 c.args.bits c.if-bits-ge64.true ∙ sym (below c.args.number (2 ^ c.args.bits) less)
