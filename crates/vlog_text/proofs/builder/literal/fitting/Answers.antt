use Rattle.std.proofs.Common.{◌≡◌, ◌≤◌, ◌^◌, ℕ, nat_lt, false, ap, sym, arith}
use Rattle.std.specs.Prelude.{if◌then◌else◌}
use Rattle.std.specs.Str.Parse.{digits_value}
use Rattle.std.proofs.lemmas.Bool.Decides.{nat_tests}
use Rattle.std.proofs.Math.Pow.{pow_mono}
use Rattle.vlog_text.proofs.builder.literal.fitting.Goals as goal

not_below : (v k : ℕ) → 2 ^ 128 ≤ v → k ≤ 128 → nat_lt v (2 ^ k) ≡ false
not_below v k h le =
    let small : 2 ^ k ≤ 2 ^ 128 = pow_mono {i = k} {j = 128} le in
    let past : 2 ^ k ≤ v = omega arith in
    grind (arith, nat_tests)

pub returns-in-None : goal.returns-in-None
returns-in-None c = ap (λ b. if b then digits_value 10 c.args.digits.now else 0) (sym (not_below (digits_value 10 c.args.digits.now) c.args.width c.in-None.ensures c.requires))
