use Rattle.std.proofs.Common.{◌≡◌, ◌+◌, ◌*◌, ◌/◌, ◌%◌, ◌^◌, ◌<◌, ◌≤◌, ◌++◌, ◌∷◌, ℕ, [], ap, sym, subst, ◌∙◌, get_or, arith}
use Rattle.std.specs.Char.{digit_value}
use Rattle.std.proofs.lemmas.Nat.{pow_pos}
use Rattle.std.proofs.Math.Pow.{pow_mono}
use Rattle.vlog_text.proofs.OnToken.Powers.{AreDivided, all_divided, digit_at, one_more, part_fits, quotient_small}
use Rattle.vlog_text.proofs.token.power.divided.Goals as goal

pub overflow_mul-part : goal.overflow_mul-part
overflow_mul-part c = omega (arith, c.digits.invariant.small, pow_mono {i = c.args.power} {j = 56} c.requires.small)

pub overflow_add-part : goal.overflow_add-part
overflow_add-part c =
    let small = digit_at c.args.digits.now c.digits.digit-index c.requires.digits c.digits-test.true in
    omega (arith, c.digits.invariant.small, pow_mono {i = c.args.power} {j = 56} c.requires.small, c.from.ensures, c.digit_value.ensures, small)

part_small : (two divisor rest d e v : ℕ) → 0 < two → divisor ≡ two → rest < two → e ≡ d → d ≡ v → v < 10 → (10 * rest + e) / divisor < 10
part_small two divisor rest d e v some is h same digit small =
    let part : 10 * rest + e < two * 10 = part_fits two rest e h (omega (arith, same, digit, small)) in
    subst (λ n. (10 * rest + e) / n < 10) (sym is) (quotient_small two (10 * rest + e) some part)

pub overflow_cast-part : goal.overflow_cast-part
overflow_cast-part c =
    let small = digit_at c.args.digits.now c.digits.digit-index c.requires.digits c.digits-test.true in
    let q = part_small (2 ^ c.args.power) c.power_of_two-divisor.result c.digits.rest c.digit_value.result c.from.result _ (pow_pos c.args.power) c.power_of_two-divisor.ensures c.digits.invariant.small c.from.ensures c.digit_value.ensures small in
    omega (arith, q)

pub overflow_add-part-in-digits : goal.overflow_add-part-in-digits
overflow_add-part-in-digits c =
    let small = digit_at c.args.digits.now c.digits.digit-index c.requires.digits c.digits-test.true in
    let q = part_small (2 ^ c.args.power) c.power_of_two-divisor.result c.digits.rest c.digit_value.result c.from.result _ (pow_pos c.args.power) c.power_of_two-divisor.ensures c.digits.invariant.small c.from.ensures c.digit_value.ensures small in
    omega (arith, q)

pub digits-preserved : goal.digits-preserved
digits-preserved c =
    rw (c.in_ok-push.ensures {u = tt}).items (rw c.power_of_two-divisor.ensures
    (one_more c.args.digits.now c.digits.quotient.items (2 ^ c.args.power) c.digits.digit-index c.digits.rest c.from.result
    (pow_pos c.args.power) c.requires.digits c.digits-test.true (c.from.ensures ∙ c.digit_value.ensures) c.digits.invariant))

pub returns-clause-value : goal.returns-clause-value
returns-clause-value c =
    all_divided c.args.digits.now c.digits.quotient.items (2 ^ c.args.power) c.digits.digit-index c.digits.rest (pow_pos c.args.power) c.digits-test.false c.digits.invariant
