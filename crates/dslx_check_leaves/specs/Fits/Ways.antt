-- What is put behind others.
use Rattle.std.specs.Prelude.{ℕ, List, ◌++◌, ◌≡◌}
use Rattle.std.specs.List.{AllByRecursion}

-- some that are so come behind those that are there
pub record PutsBehind (is_so : ℕ → Type 0) (old new : List ℕ) : Type 0 where
  pub more : List ℕ
  pub is : new ≡ old ++ more
  pub each : AllByRecursion is_so more
