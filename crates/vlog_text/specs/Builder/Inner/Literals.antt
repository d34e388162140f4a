-- Literals of a text have a width, and are below 2 to the power of it.
use Rattle.std.specs.Prelude.{◌≡◌, ℕ, ◌<◌, ◌≤◌, ◌^◌, ◌&&◌, nat_le, nat_lt, max, if◌then◌else◌, true}
use Rattle.std.proofs.Common.{arith}
use Rattle.std.proofs.lemmas.Bool.{cond_both}
use Rattle.std.proofs.lemmas.Bool.Decides.{nat_tests}
use Rattle.std.proofs.lemmas.Nat.{pow_pos}
use Rattle.std.proofs.Math.Pow.{pow_mono}

pub literal_some : (width : ℕ) → 1 ≤ max 1 width
literal_some width = omega arith

below_more : (width value : ℕ) → nat_le width 128 && nat_lt value (2 ^ width) ≡ true → value < 2 ^ max 1 width
below_more width value h =
    let wide : 2 ^ width ≤ 2 ^ max 1 width = pow_mono {i = width} {j = max 1 width} (omega arith) in
    let below : value < 2 ^ width = grind (arith, nat_tests) in
    omega arith

pub literal_fits : (width value : ℕ) → max 1 width ≤ 128 → (if nat_le width 128 && nat_lt value (2 ^ width) then value else 0) < 2 ^ max 1 width
literal_fits width value small =
    cond_both (nat_le width 128 && nat_lt value (2 ^ width)) value 0 (λ v. v < 2 ^ max 1 width) (λ h. below_more width value h) (λ h. pow_pos (max 1 width))
