-- The numbers that are drawn from a seed, and what each says of a proc. From the seed 7 the first is 1282168116: its proc adds, and its output
-- holds 7 words.
use Rattle.std.specs.Prelude.{ℕ, zero, suc, ◌==◌, ◌+◌, ◌*◌, ◌/◌, ◌%◌, ◌^◌, if◌then◌else◌}
use Rattle.xls_gen.specs.declared.design.draw.ProcKind.{ProcKind}
use Rattle.xls_gen.specs.declared.design.draw.ProcKind.TheVariants as kinds

-- the number that is drawn after x
abbrev pub next_drawn : ℕ → ℕ
next_drawn x = (1103515245 * x + 12345) % 2 ^ 31

-- the number after so many draws from a seed; the proc with the index i has the one after i + 1 draws
abbrev pub drawn : ℕ → ℕ → ℕ
drawn seed zero = seed
drawn seed (suc i) = next_drawn (drawn seed i)

-- the kinds in their order
abbrev pub kind_numbered : ℕ → ProcKind
kind_numbered n = if n == 0 then kinds.Adds else (if n == 1 then kinds.Xors else (if n == 2 then kinds.Subtracts else kinds.Sums))

-- the kind of the proc with the number v
abbrev pub proc_kind : ℕ → ProcKind
proc_kind v = kind_numbered (v / 65536 % 4)

-- how many words its output holds: 1 to 8
abbrev pub out_depth : ℕ → ℕ
out_depth v = 1 + v / 1048576 % 8
