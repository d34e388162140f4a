-- What a type must be, and what limits count in it.
use Rattle.std.specs.Prelude.{ℕ, ◌+◌, max, nat_lt, nat_eq, Bool, true, false, ◌&&◌, ◌||◌, List, [], ◌∷◌, ◌++◌, length, map, Option, Some, None}
use Rattle.std.specs.List.{list_all, list_any}
use Rattle.ir_tree.specs.declared.ir_type.IrType.{IrType, fold-IrType, out-IrType}
use Rattle.ir_tree.specs.declared.ir_type.IrType.TheOpen.{IrType-F}
use Rattle.ir_tree.specs.declared.node_types.types.Marks.{Marks}

abbrev pub are_sizes : List ℕ → Bool
are_sizes ns = list_all (λ n. nat_lt 0 n) ns

abbrev pub is_empty : List ℕ → Bool
is_empty [] = true
is_empty (n ∷ ns) = false

abbrev pub any_bits : List Marks → Bool
any_bits ms = list_any (λ (m : Marks). m.bits) ms

abbrev pub any_token : List Marks → Bool
any_token ms = list_any (λ (m : Marks). m.token) ms

abbrev pub all_sound : List Marks → Bool
all_sound ms = list_all (λ (m : Marks). m.sound) ms

-- whether `bits` stands in a type, whether `token` does, and whether it is sound: no width and no size in it is 0, and the
-- elements of each array in it have bits
abbrev pub marks_step : IrType-F Marks → Marks
marks_step (IrType-F.Bits w ns) = record { bits = true; token = false; sound = nat_lt 0 w && are_sizes ns }
marks_step (IrType-F.Token ns) = record { bits = false; token = true; sound = is_empty ns }
marks_step (IrType-F.Tuple ms ns) =
    record { bits = any_bits ms; token = any_token ms; sound = all_sound ms && (are_sizes ns && (is_empty ns || any_bits ms)) }

abbrev pub marks_of : IrType → Marks
marks_of = fold-IrType Marks marks_step

abbrev pub max_of : List ℕ → ℕ
max_of [] = 0
max_of (n ∷ ns) = max n (max_of ns)

-- how many tuples and arrays stand one in another
abbrev pub levels_step : IrType-F ℕ → ℕ
levels_step (IrType-F.Bits w ns) = length ns
levels_step (IrType-F.Token ns) = length ns
levels_step (IrType-F.Tuple ls ns) = length ns + (max_of ls + 1)

abbrev pub levels_of : IrType → ℕ
levels_of = fold-IrType ℕ levels_step

abbrev pub joined_lists : List (List ℕ) → List ℕ
joined_lists [] = []
joined_lists (xs ∷ xss) = xs ++ joined_lists xss

-- the width of each `bits` in a type
abbrev pub widths_step : IrType-F (List ℕ) → List ℕ
widths_step (IrType-F.Bits w ns) = w ∷ []
widths_step (IrType-F.Token ns) = []
widths_step (IrType-F.Tuple ws ns) = joined_lists ws

abbrev pub widths_in : IrType → List ℕ
widths_in = fold-IrType (List ℕ) widths_step

-- ---- the outermost level

abbrev pub sizes_step : IrType-F IrType → List ℕ
sizes_step (IrType-F.Bits w ns) = ns
sizes_step (IrType-F.Token ns) = ns
sizes_step (IrType-F.Tuple ts ns) = ns

-- the sizes of the arrays around it, the outermost first
abbrev pub sizes_of : IrType → List ℕ
sizes_of t = sizes_step (out-IrType t)

abbrev pub token_there : IrType-F IrType → Bool
token_there (IrType-F.Bits w ns) = false
token_there (IrType-F.Token ns) = is_empty ns
token_there (IrType-F.Tuple ts ns) = false

abbrev pub is_token : IrType → Bool
is_token t = token_there (out-IrType t)

abbrev pub width_alone : ℕ → List ℕ → Option ℕ
width_alone w [] = Some w
width_alone w (n ∷ ns) = None

abbrev pub bits_there : IrType-F IrType → Option ℕ
bits_there (IrType-F.Bits w ns) = width_alone w ns
bits_there (IrType-F.Token ns) = None
bits_there (IrType-F.Tuple ts ns) = None

-- the width, where the type is bits
abbrev pub bits_in : IrType → Option ℕ
bits_in t = bits_there (out-IrType t)

abbrev pub passes : {A : Type 0} → (A → Bool) → Option A → Bool
passes p None = false
passes p (Some x) = p x

-- it is bits, and its width passes the test
abbrev pub is_bits_where : (ℕ → Bool) → IrType → Bool
is_bits_where p t = passes p (bits_in t)

abbrev pub is_bits : IrType → Bool
is_bits t = is_bits_where (λ w. true) t

abbrev pub is_bits_of : ℕ → IrType → Bool
is_bits_of w t = is_bits_where (nat_eq w) t

-- ---- equal types

abbrev pub same_numbers : List ℕ → List ℕ → Bool
same_numbers [] [] = true
same_numbers [] (m ∷ ms) = false
same_numbers (n ∷ ns) [] = false
same_numbers (n ∷ ns) (m ∷ ms) = nat_eq n m && same_numbers ns ms

abbrev pub each_same : List (IrType → Bool) → List IrType → Bool
each_same [] [] = true
each_same [] (t ∷ ts) = false
each_same (p ∷ ps) [] = false
each_same (p ∷ ps) (t ∷ ts) = p t && each_same ps ts

abbrev pub bits_like : ℕ → List ℕ → IrType-F IrType → Bool
bits_like w ns (IrType-F.Bits v ms) = nat_eq w v && same_numbers ns ms
bits_like w ns (IrType-F.Token ms) = false
bits_like w ns (IrType-F.Tuple ts ms) = false

abbrev pub token_like : List ℕ → IrType-F IrType → Bool
token_like ns (IrType-F.Bits v ms) = false
token_like ns (IrType-F.Token ms) = same_numbers ns ms
token_like ns (IrType-F.Tuple ts ms) = false

abbrev pub tuple_like : List (IrType → Bool) → List ℕ → IrType-F IrType → Bool
tuple_like ps ns (IrType-F.Bits v ms) = false
tuple_like ps ns (IrType-F.Token ms) = false
tuple_like ps ns (IrType-F.Tuple ts ms) = each_same ps ts && same_numbers ns ms

abbrev pub same_step : IrType-F (IrType → Bool) → IrType → Bool
same_step (IrType-F.Bits w ns) t = bits_like w ns (out-IrType t)
same_step (IrType-F.Token ns) t = token_like ns (out-IrType t)
same_step (IrType-F.Tuple ps ns) t = tuple_like ps ns (out-IrType t)

-- the two are one type
abbrev pub same_type : IrType → IrType → Bool
same_type = fold-IrType (IrType → Bool) same_step

-- ---- arrays

abbrev pub element_like : IrType-F IrType → IrType → Bool
element_like (IrType-F.Bits w []) t = false
element_like (IrType-F.Bits w (n ∷ ns)) t = bits_like w ns (out-IrType t)
element_like (IrType-F.Token []) t = false
element_like (IrType-F.Token (n ∷ ns)) t = token_like ns (out-IrType t)
element_like (IrType-F.Tuple ts []) t = false
element_like (IrType-F.Tuple ts (n ∷ ns)) t = tuple_like (map same_type ts) ns (out-IrType t)

-- the first is an array of the second
abbrev pub is_array_of : IrType → IrType → Bool
is_array_of array t = element_like (out-IrType array) t

abbrev pub begins_with : ℕ → List ℕ → Bool
begins_with n [] = false
begins_with n (m ∷ ms) = nat_eq n m

-- it is an array of so many elements
abbrev pub is_array_sized : ℕ → IrType → Bool
is_array_sized n t = begins_with n (sizes_of t)

-- ---- tuples

abbrev pub parts_alone : List IrType → List ℕ → Option (List IrType)
parts_alone ts [] = Some ts
parts_alone ts (n ∷ ns) = None

abbrev pub parts_there : IrType-F IrType → Option (List IrType)
parts_there (IrType-F.Bits w ns) = None
parts_there (IrType-F.Token ns) = None
parts_there (IrType-F.Tuple ts ns) = parts_alone ts ns

-- the parts, where the type is a tuple
abbrev pub parts_in : IrType → Option (List IrType)
parts_in t = parts_there (out-IrType t)

-- it is a tuple, and its parts pass the test
abbrev pub is_tuple_where : (List IrType → Bool) → IrType → Bool
is_tuple_where p t = passes p (parts_in t)

abbrev pub width_there : IrType-F IrType → ℕ
width_there (IrType-F.Bits w ns) = w
width_there (IrType-F.Token ns) = 0
width_there (IrType-F.Tuple ts ns) = 0

-- the width of bits
abbrev pub bits_width : IrType → ℕ
bits_width t = width_there (out-IrType t)
