-- The text of a value.
use Rattle.std.specs.Prelude.{ℕ, ◌+◌, ◌/◌, List, [], ◌∷◌, ◌++◌, codes}
use Rattle.base.specs.Texts.Hexadecimal.{hex_digits}
use Rattle.xb_value.specs.declared.value.Value.{Value, fold-Value}
use Rattle.xb_value.specs.declared.value.Value.TheOpen.{Value-F}

-- texts in a row: `separator` before the first, and `, ` before each later one
abbrev pub listed : List ℕ → List (List ℕ) → List ℕ
listed separator [] = []
listed separator (t ∷ ts) = separator ++ (t ++ listed (codes ", ") ts)

-- `0x` and as many digits as the bits need, `(0x01, 0x02)`, or `[0x01, 0x02]`
abbrev pub text_step : Value-F (List ℕ) → List ℕ
text_step (Value-F.Bits x) = codes "0x" ++ hex_digits ((x.width + 3) / 4) x.value
text_step (Value-F.Tuple ts) = codes "(" ++ (listed [] ts ++ codes ")")
text_step (Value-F.Array ts) = codes "[" ++ (listed [] ts ++ codes "]")

abbrev pub text_of : Value → List ℕ
text_of = fold-Value (List ℕ) text_step
