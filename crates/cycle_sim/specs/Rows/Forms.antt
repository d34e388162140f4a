-- The forms of a line of a row file and of its items, whatever the module.
use Rattle.std.specs.Prelude.{◌==◌, ◌&&◌, ◌||◌, ◌-◌, ◌+◌, ℕ, suc, min, not, Bool, true, false, List, [], ◌∷◌, bytes_eq, codes, take, drop, Option, Some, None, if◌then◌else◌}
use Rattle.std.specs.List.{list_all, prefix_len}
use Rattle.std.specs.Char.{is_ascii_digit}
use Rattle.std.specs.Str.{is_utf8}
use Rattle.std.specs.Str.Parse.{digits_value}
use Rattle.base.specs.Texts.Words.{is_word, is_word_byte}

-- an empty line, or a comment, which begins with `#`
abbrev pub is_remark : List ℕ → Bool
is_remark [] = true
is_remark (c ∷ cs) = (c == 35) && is_utf8 (c ∷ cs)

-- ---- the pieces of a line, which are parted by the spaces outside brackets

-- how many brackets are open behind a byte, where so many were open before it
abbrev pub open_behind : ℕ → ℕ → ℕ
open_behind depth c =
    if (c == 40) || (c == 91) then depth + 1
    else if (c == 41) || (c == 93) then depth - 1
    else depth

abbrev pub parts_here : ℕ → ℕ → Bool
parts_here depth c = (c == 32) && (depth == 0)

abbrev pub before_piece : ℕ → List (List ℕ) → List (List ℕ)
before_piece c [] = (c ∷ []) ∷ []
before_piece c (piece ∷ pieces) = (c ∷ piece) ∷ pieces

-- the pieces of a text inside so many brackets
abbrev pub pieces_of : ℕ → List ℕ → List (List ℕ)
pieces_of depth [] = [] ∷ []
pieces_of depth (c ∷ cs) = if parts_here depth c then ([] ∷ pieces_of 0 cs) else before_piece c (pieces_of (open_behind depth c) cs)

-- the first piece: `R` is a row with `rst` 1, `-` another one
abbrev pub reset_of : List ℕ → Option Bool
reset_of piece = if bytes_eq piece (codes "R") then Some true else if bytes_eq piece (codes "-") then Some false else None

-- ---- items

pub data ItemForm : Type 0 where
  -- `NAME=VALUE`
  offers : List ℕ → List ℕ → ItemForm
  -- `NAME!`
  readies : List ℕ → ItemForm
  no_item : ItemForm

abbrev pub form_behind : List ℕ → List ℕ → ItemForm
form_behind name [] = no_item
form_behind name (c ∷ cs) = if c == 61 then offers name cs else if bytes_eq (c ∷ cs) (codes "!") then readies name else no_item

abbrev pub name_len : List ℕ → ℕ
name_len piece = prefix_len is_word_byte piece

-- a name, and what stands behind it
abbrev pub item_form : List ℕ → ItemForm
item_form piece = if is_word (take (name_len piece) piece) then form_behind (take (name_len piece) piece) (drop (name_len piece) piece) else no_item

-- ---- repeats

-- `x`, and a number of 1 or more without a leading zero
abbrev pub is_repeat : List ℕ → Bool
is_repeat (c ∷ d ∷ ds) = (c == 120) && (not (d == 48) && list_all is_ascii_digit (d ∷ ds))
is_repeat _ = false

-- the most rows that a file may have, repeats counted
abbrev pub most_rows : ℕ
most_rows = 1048576

-- how often a row is repeated; a number past the most rows counts as one more than these
abbrev pub repeats_of : List ℕ → ℕ
repeats_of piece = min (digits_value 10 (drop 1 piece)) 1048577

-- the items without the repeat at their end
abbrev pub without_repeat : List (List ℕ) → List (List ℕ)
without_repeat [] = []
without_repeat (piece ∷ []) = if is_repeat piece then [] else (piece ∷ [])
without_repeat (piece ∷ next ∷ pieces) = piece ∷ without_repeat (next ∷ pieces)

abbrev pub times_of : List (List ℕ) → ℕ
times_of [] = 1
times_of (piece ∷ []) = if is_repeat piece then repeats_of piece else 1
times_of (piece ∷ next ∷ pieces) = times_of (next ∷ pieces)
