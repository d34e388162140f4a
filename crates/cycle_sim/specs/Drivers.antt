-- Which assignment drives each signal, and what assignments so need of one another.
use Rattle.std.specs.Prelude.{◌≡◌, ◌≢◌, ℕ, List, slice_get, Option, Some, None, filter_map, unwrap_or}
use Rattle.vlog_tree.specs.declared.module.Assignment.{Assignment}
use Rattle.vlog_tree.specs.Forms.{reads}

-- a list with the index of the assignment that drives it, for each signal that one drives
pub record AreDrivers (assignments : List Assignment) (drivers : List (Option ℕ)) : Type 0 where
  pub found : (s i : ℕ) → slice_get drivers s ≡ Some (Some i) → (a : Assignment) × (slice_get assignments i ≡ Some a) × (a.target.0 ≡ s)
  pub missed : (s i : ℕ) (a : Assignment) → slice_get drivers s ≡ Some None → slice_get assignments i ≡ Some a → a.target.0 ≢ s

abbrev pub driver_at : List (Option ℕ) → ℕ → Option ℕ
driver_at drivers s = unwrap_or (slice_get drivers s) None

-- the assignments that drive what an assignment reads
abbrev pub needs_by : List (Option ℕ) → Assignment → List ℕ
needs_by drivers a = filter_map (driver_at drivers) (reads a.value)
