-- How large what may be missing is.
use Rattle.std.proofs.Common.{ℕ, Option, Some, None}

abbrev pub size_if : {A : Type 0} → (A → ℕ) → Option A → ℕ
size_if size None = 0
size_if size (Some x) = size x
