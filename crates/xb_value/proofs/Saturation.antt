-- Products of counts that stop at a most.
use Rattle.std.proofs.Common.{◌≡◌, ℕ, zero, suc, ◌*◌, min, arith, ⊎_elim}
use Rattle.std.proofs.lemmas.Bool.{cases_lt}

-- a count that stops at `m`, times a count, stops where the product does
pub min_mul_min : (w n m : ℕ) → min (min w m * n) m ≡ min (n * w) m
min_mul_min w zero m = omega arith
min_mul_min w (suc n) m =
    ⊎_elim
    (λ less. let same : min w m ≡ w = omega arith in rw same (omega arith))
    (λ past. let same : min w m ≡ m = omega arith in rw same (omega arith))
    (cases_lt w m)
