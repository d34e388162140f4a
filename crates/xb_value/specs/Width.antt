-- How wide a type is, and how many leaves it has.
use Rattle.std.specs.Prelude.{ℕ, ◌*◌, sum, map, List, Bool, nat_le, ◌&&◌, IsTrue}
use Rattle.std.specs.List.{list_all}
use Rattle.xb_value.specs.declared.ty.Ty.{Ty, fold-Ty}
use Rattle.xb_value.specs.declared.ty.Ty.TheOpen.{Ty-F}

abbrev pub width_step : Ty-F ℕ → ℕ
width_step (Ty-F.Bits w) = w
width_step (Ty-F.Tuple ws) = sum ws
width_step (Ty-F.Array w n) = n * w

-- how many bits a value of the type has in a flat word
abbrev pub width_of : Ty → ℕ
width_of = fold-Ty ℕ width_step

abbrev pub leaves_step : Ty-F ℕ → ℕ
leaves_step (Ty-F.Bits w) = 1
leaves_step (Ty-F.Tuple ns) = sum ns
leaves_step (Ty-F.Array n m) = m * n

-- how many bit types the type has, arrays multiplied out
abbrev pub leaf_count : Ty → ℕ
leaf_count = fold-Ty ℕ leaves_step

abbrev pub widths_step : Ty-F Bool → Bool
widths_step (Ty-F.Bits w) = nat_le 1 w && nat_le w 128
widths_step (Ty-F.Tuple bs) = list_all (λ b. b) bs
widths_step (Ty-F.Array b n) = b

-- the bits of the type are 1 to 128 wide, as those of every type of a program
abbrev pub HasWidths : Ty → Type 0
HasWidths t = IsTrue (fold-Ty Bool widths_step t)

abbrev pub HasAllWidths : List Ty → Type 0
HasAllWidths ts = IsTrue (list_all (λ b. b) (map (fold-Ty Bool widths_step) ts))
