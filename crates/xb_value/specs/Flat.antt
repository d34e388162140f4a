-- The flat word of a value: its first element in the high bits.
use Rattle.std.specs.Prelude.{◌+◌, ◌*◌, ◌^◌, List, [], ◌∷◌}
use Rattle.xb_bits.specs.Word.{Word, word}
use Rattle.xb_value.specs.declared.value.Value.{Value, fold-Value}
use Rattle.xb_value.specs.declared.value.Value.TheOpen.{Value-F}

-- words side by side, the first in the high bits
abbrev pub joined : List Word → Word
joined [] = word 0 0
joined (x ∷ xs) =
    let low = joined xs in
    word (x.width + low.width) (x.value * 2 ^ low.width + low.value)

abbrev pub flat_step : Value-F Word → Word
flat_step (Value-F.Bits x) = x
flat_step (Value-F.Tuple xs) = joined xs
flat_step (Value-F.Array xs) = joined xs

abbrev pub flat_of : Value → Word
flat_of = fold-Value Word flat_step
