-- The levels of the compiler at which a design runs, and the line of what came out.
use Rattle.std.specs.Prelude.{ℕ, ◌%◌, ◌^◌, List, ◌++◌, codes, decimal, length, sum_by}
use Rattle.xb_bits.specs.Word.{Word}
use Rattle.xls_gen.specs.declared.level.Level.{Level}
use Rattle.xls_gen.specs.declared.level.Level.TheVariants as levels

abbrev pub level_name : Level → List ℕ
level_name levels.Dslx = codes "dslx"
level_name levels.Ir = codes "ir"
level_name levels.Opt = codes "opt"
level_name levels.Threads = codes "threads"
level_name levels.Verilog = codes "verilog"

-- the sum of words, modulo 2^32
abbrev pub word_sum : List Word → ℕ
word_sum words = sum_by (λ (w : Word). w.value) words % 2 ^ 32

-- `LEVEL words N sum S`
unfoldable pub counts_line : Level → ℕ → ℕ → List ℕ
counts_line level count total = level_name level ++ (codes " words " ++ (decimal count ++ (codes " sum " ++ (decimal total ++ codes "\n"))))

-- the line of a level at which these words came out
abbrev pub level_line : Level → List Word → List ℕ
level_line level words = counts_line level (length words) (word_sum words)
