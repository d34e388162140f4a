-- Sums over the numbers of tasks.
use Rattle.std.specs.Prelude.{ℕ, zero, suc, ◌+◌}

-- what a function gives for the numbers below n, added up
abbrev pub sum_below : (ℕ → ℕ) → ℕ → ℕ
sum_below h zero = 0
sum_below h (suc n) = sum_below h n + h n
