-- Where a value text first misfits a type, on the tree of its form.
--
-- A part of the text is a number or brackets, and stands for a part of the type. It fits if it is a number that the bits
-- hold, or brackets of the right kind round the right count of items; only then do the items stand for parts of the
-- type. The text is refused at the first part, in text order, that doesn't fit.
use Rattle.std.specs.Prelude.{ℕ, ◌+◌, ◌==◌, ◌&&◌, ◌≡◌, List, [], ◌∷◌, ◌++◌, length, Bool, true, false, Option, Some, None, IsTrue}
use Rattle.std.specs.Str.Parse.{digits_value}
use Rattle.xb_bits.specs.Word.{word}
use Rattle.xb_value.specs.declared.token.Bracket.{Bracket}
use Rattle.xb_value.specs.declared.token.Bracket.TheVariants.{Round, Square}
use Rattle.xb_value.specs.declared.ty.Ty.{Ty, fold-Ty}
use Rattle.xb_value.specs.declared.ty.Ty.TheOpen.{Ty-F}
use Rattle.xb_value.specs.Form.{Form, Items, number, empty, group, last, next, form_text, is_form}
use Rattle.xb_value.specs.Typing.{is_word_of}

-- ---- the items in brackets

-- items with the positions of their first bytes, where what stands before the first item's spaces ends at `at`
abbrev pub positioned_items : ℕ → Items → List (ℕ × Form)
positioned_items at (last k f m) = (at + k, f) ∷ []
positioned_items at (next k f m is) = (at + k, f) ∷ positioned_items (at + k + length (form_text f) + m + 1) is

abbrev pub inside : ℕ → Form → List (ℕ × Form)
inside at (number ds) = []
inside at (empty b k) = []
inside at (group b is) = positioned_items (at + 1) is

abbrev pub is_bracket : Bracket → Bracket → Bool
is_bracket Round Round = true
is_bracket Square Square = true
is_bracket _ _ = false

-- ---- what fits

-- a number that bits of the width hold
abbrev pub number_fits : ℕ → Form → Bool
number_fits w (number ds) = is_word_of w (word w (digits_value 16 ds))
number_fits w (empty b k) = false
number_fits w (group b is) = false

-- brackets of the kind, round so many items
abbrev pub brackets_fit : Bracket → ℕ → Form → Bool
brackets_fit b n (number ds) = false
brackets_fit b n (empty c k) = is_bracket b c && (0 == n)
brackets_fit b n (group c is) = is_bracket b c && (length (positioned_items 0 is) == n)

-- ---- the parts of a text

-- the position of a part, and whether it fits
abbrev pub Part : Type 0
Part = ℕ × Bool

-- the parts of a form whose first byte has the position, in text order
abbrev pub Parts : Type 0
Parts = ℕ → Form → List Part

abbrev pub each_part : List Parts → List (ℕ × Form) → List Part
each_part (p ∷ ps) (x ∷ xs) = p x.0 x.1 ++ each_part ps xs
each_part _ _ = []

abbrev pub all_parts : Parts → List (ℕ × Form) → List Part
all_parts p [] = []
all_parts p (x ∷ xs) = p x.0 x.1 ++ all_parts p xs

-- a part, and if it fits those in it
abbrev pub with_parts : Bool → ℕ → List Part → List Part
with_parts true at inner = (at, true) ∷ inner
with_parts false at inner = (at, false) ∷ []

abbrev pub parts_step : Ty-F Parts → Parts
parts_step (Ty-F.Bits w) at f = with_parts (number_fits w f) at []
parts_step (Ty-F.Tuple ps) at f = with_parts (brackets_fit Round (length ps) f) at (each_part ps (inside at f))
parts_step (Ty-F.Array p n) at f = with_parts (brackets_fit Square n f) at (all_parts p (inside at f))

abbrev pub parts_of : Ty → Parts
parts_of = fold-Ty Parts parts_step

-- the position of the first part that doesn't fit
abbrev pub first_misfit : List Part → Option ℕ
first_misfit [] = None
first_misfit ((at, true) ∷ ps) = first_misfit ps
first_misfit ((at, false) ∷ ps) = Some at

-- the text is a value text, and its first part that doesn't fit the type begins at the position
pub record Misfits (text : List ℕ) (t : Ty) (at : ℕ) : Type 0 where
  pub form : Form
  pub formed : IsTrue (is_form form)
  pub spells : form_text form ≡ text
  pub first : first_misfit (parts_of t 0 form) ≡ Some at
