-- The value of a type that a flat word holds.
use Rattle.std.specs.Prelude.{ℕ, zero, suc, ◌/◌, ◌%◌, ◌^◌, List, [], ◌∷◌}
use Rattle.xb_bits.specs.Word.{word}
use Rattle.xb_value.specs.declared.ty.Ty.{Ty, fold-Ty}
use Rattle.xb_value.specs.declared.ty.Ty.TheOpen.{Ty-F}
use Rattle.xb_value.specs.declared.value.Value.{Value, Bits, Tuple, Array}

-- What takes the low bits of a number: their value, and the number of the bits above them.
abbrev pub Taker : Type 0
Taker = ℕ → Value × ℕ

-- one value from each, the last from the lowest bits
abbrev pub taken_by : List Taker → ℕ → List Value × ℕ
taken_by [] n = ([], n)
taken_by (p ∷ ps) n =
    let later = taken_by ps n in
    let first = p later.1 in
    (first.0 ∷ later.0, first.1)

-- as many values from one, the last from the lowest bits
abbrev pub taken_times : ℕ → Taker → ℕ → List Value × ℕ
taken_times zero p n = ([], n)
taken_times (suc k) p n =
    let later = taken_times k p n in
    let first = p later.1 in
    (first.0 ∷ later.0, first.1)

abbrev pub take_step : Ty-F Taker → Taker
take_step (Ty-F.Bits w) n = (Bits (word w (n % 2 ^ w)), n / 2 ^ w)
take_step (Ty-F.Tuple ps) n = let all = taken_by ps n in (Tuple all.0, all.1)
take_step (Ty-F.Array p k) n = let all = taken_times k p n in (Array all.0, all.1)

abbrev pub taken_low : Ty → Taker
taken_low = fold-Ty Taker take_step

-- the value of the type in the low bits of the number
abbrev pub unflat_of : Ty → ℕ → Value
unflat_of t n = (taken_low t n).0
