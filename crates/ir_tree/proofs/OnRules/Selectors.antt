-- How many numbers a selector has.
use Rattle.std.proofs.Common.{◌≡◌, ℕ, ◌^◌, ◌<◌, ◌≤◌, min, Bool, true, false, ◌&&◌, Option, Some, None, refl, arith}
use Rattle.std.specs.Prelude.{nat_lt, nat_le, is_some}
use Rattle.std.proofs.lemmas.Bool.Decides.{nat_tests}
use Rattle.std.proofs.Math.Pow.{pow_mono}
use Rattle.ir_tree.specs.declared.node.Operand.{Operand}
use Rattle.ir_tree.specs.Rules.Fitting.{defaults, cases_count}

-- a list is shorter than the numbers of 64 bits or more
below_any : (count k : ℕ) → count < 2 ^ 64 → 64 ≤ k → count < 2 ^ min k 128
below_any count k h wide =
    let least : 64 ≤ min k 128 = omega arith in
    let more : 2 ^ 64 ≤ 2 ^ min k 128 = pow_mono least in
    omega arith

by_default : (a b c : Bool) (default : Option Operand) → a ≡ true → b ≡ true → c ≡ true → is_some default ≡ (a && (b && defaults c default))
by_default true true true None e f g = refl
by_default true true true (Some d) e f g = refl
by_default false b c default e f g = absurd (cc)
by_default true false c default e f g = absurd (cc)
by_default true true false default e f g = absurd (cc)

-- with a selector of 64 bits or more there is a default
pub wide_count : (count k : ℕ) (default : Option Operand) → 0 < count → count < 2 ^ 64 → 64 ≤ k → is_some default ≡ cases_count count default k
wide_count count k default some few wide =
    let less : count < 2 ^ min k 128 = below_any count k few wide in
    let first : nat_lt 0 count ≡ true = grind (arith, nat_tests, some) in
    let second : nat_le count (2 ^ min k 128) ≡ true = grind (arith, nat_tests, less) in
    let third : nat_lt count (2 ^ min k 128) ≡ true = grind (arith, nat_tests, less) in
    by_default _ _ _ default first second third
