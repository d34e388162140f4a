-- What the five lines have in common.
use Rattle.std.specs.Prelude.{◌≡◌, ℕ, ◌++◌, List}
use Rattle.xb_bits.specs.Word.{Word}
use Rattle.xls_gen.specs.Level.{level_line}
use Rattle.xls_gen.specs.declared.level.Level.TheVariants as level

-- the first four tell the same words
pub record AreLevelLines (text : List ℕ) : Type 0 where
  pub sent : List Word
  pub moved : List Word
  pub is : text ≡ level_line level.Dslx sent ++ level_line level.Ir sent ++ level_line level.Opt sent ++ level_line level.Threads sent ++ level_line level.Verilog moved
