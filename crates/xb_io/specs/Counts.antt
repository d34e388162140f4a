-- The counts that files and sinks keep: of faults, and of bytes taken.
use Rattle.std.specs.Prelude.{ℕ, ◌+◌, ◌-◌, ◌^◌, ◌≤◌, min}

-- where a count stands still: the end of its type, a `u64`
abbrev pub count_end : ℕ
count_end = 2 ^ 64 - 1

-- a count that rose by n, or stands at its end
abbrev pub raised_by : ℕ → ℕ → ℕ
raised_by n old = min (old + n) count_end

-- the count has risen by n or more, or stands at its end, where it counts as risen
abbrev pub HasRisenBy : ℕ → ℕ → ℕ → Type 0
HasRisenBy n old new = raised_by n old ≤ new

abbrev pub HasRisen : ℕ → ℕ → Type 0
HasRisen = HasRisenBy 1
