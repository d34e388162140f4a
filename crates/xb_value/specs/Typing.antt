-- Which values are of a type.
use Rattle.std.specs.Prelude.{ℕ, ◌==◌, nat_le, nat_lt, ◌&&◌, Bool, true, false, List, [], ◌∷◌, length, ◌^◌, IsTrue}
use Rattle.std.specs.List.{list_all}
use Rattle.xb_bits.specs.Word.{Word}
use Rattle.xb_value.specs.declared.ty.Ty.{Ty, fold-Ty}
use Rattle.xb_value.specs.declared.ty.Ty.TheOpen.{Ty-F}
use Rattle.xb_value.specs.declared.value.Value.{Value, out-Value}
use Rattle.xb_value.specs.declared.value.Value.TheOpen.{Value-F}

-- bits of this width, 1 to 128, whose number fits them
abbrev pub is_word_of : ℕ → Word → Bool
is_word_of w x = x.width == w && nat_le 1 w && nat_le w 128 && nat_lt x.value (2 ^ w)

-- as many values as tests, and each passes its own
abbrev pub each_passes : List (Value → Bool) → List Value → Bool
each_passes [] [] = true
each_passes (p ∷ ps) (v ∷ vs) = p v && each_passes ps vs
each_passes _ _ = false

abbrev pub bits_fit : ℕ → Value-F Value → Bool
bits_fit w (Value-F.Bits x) = is_word_of w x
bits_fit w _ = false

abbrev pub tuple_fits : List (Value → Bool) → Value-F Value → Bool
tuple_fits ps (Value-F.Tuple vs) = each_passes ps vs
tuple_fits ps _ = false

abbrev pub array_fits : (Value → Bool) → ℕ → Value-F Value → Bool
array_fits p n (Value-F.Array vs) = length vs == n && list_all p vs
array_fits p n _ = false

abbrev pub fits_step : Ty-F (Value → Bool) → Value → Bool
fits_step (Ty-F.Bits w) v = bits_fit w (out-Value v)
fits_step (Ty-F.Tuple ps) v = tuple_fits ps (out-Value v)
fits_step (Ty-F.Array p n) v = array_fits p n (out-Value v)

abbrev pub fits : Ty → Value → Bool
fits = fold-Ty (Value → Bool) fits_step

-- the value is of the type
abbrev pub IsOfType : Ty → Value → Type 0
IsOfType t v = IsTrue (fits t v)
