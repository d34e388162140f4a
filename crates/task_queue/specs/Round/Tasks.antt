-- What holds of the tasks behind a round.
use Rattle.std.specs.Prelude.{◌≡◌, ℕ, List, Some, slice_get}

module _ {T : Type 0} (waits : T → Type 0) where
  -- each of these tasks waits
  abbrev pub AllWait : List T → Type 0
  AllWait tasks = (k : ℕ) (task : T) → slice_get tasks k ≡ Some task → waits task
