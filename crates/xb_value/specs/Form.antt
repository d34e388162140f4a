-- How values are spelled: the texts that are read.
use Rattle.std.specs.Prelude.{ℕ, ◌+◌, ◌≡◌, List, [], ◌∷◌, ◌++◌, length, replicate, Bool, true, ◌&&◌, nat_le, IsTrue}
use Rattle.std.specs.List.{list_all}
use Rattle.std.specs.Char.{is_ascii_hexdigit}
use Rattle.std.specs.Str.Parse.{digits_value}
use Rattle.xb_value.specs.declared.token.Bracket.{Bracket}
use Rattle.xb_value.specs.declared.token.Bracket.TheVariants.{Round, Square}
use Rattle.xb_value.specs.declared.token.Token.{Token}
use Rattle.xb_value.specs.declared.token.Token.TheVariants as token

mutual
  -- a number's digits, brackets with only spaces in them, or brackets round items
  pub data Form : Type 0 where
    number : List ℕ → Form
    empty : Bracket → ℕ → Form
    group : Bracket → Items → Form

  -- spaces, a form and spaces; commas stand between items
  pub data Items : Type 0 where
    last : ℕ → Form → ℕ → Items
    next : ℕ → Form → ℕ → Items → Items

abbrev pub opening : Bracket → ℕ
opening Round = 40
opening Square = 91

abbrev pub closing : Bracket → ℕ
closing Round = 41
closing Square = 93

abbrev pub spaces : ℕ → List ℕ
spaces k = replicate k 32

-- ---- the text

abbrev mutual
  pub form_text : Form → List ℕ
  form_text (number ds) = 48 ∷ 120 ∷ ds
  form_text (empty b k) = opening b ∷ (spaces k ++ closing b ∷ [])
  form_text (group b is) = opening b ∷ (items_text is ++ closing b ∷ [])

  pub items_text : Items → List ℕ
  items_text (last k f m) = spaces k ++ (form_text f ++ spaces m)
  items_text (next k f m is) = spaces k ++ (form_text f ++ (spaces m ++ 44 ∷ items_text is))

-- ---- which are forms

-- 1 to 32 digits in each number
abbrev mutual
  pub is_form : Form → Bool
  is_form (number ds) = list_all is_ascii_hexdigit ds && nat_le 1 (length ds) && nat_le (length ds) 32
  is_form (empty b k) = true
  is_form (group b is) = are_forms is

  pub are_forms : Items → Bool
  are_forms (last k f m) = is_form f
  are_forms (next k f m is) = is_form f && are_forms is

-- ---- numbers and brackets, with their positions

abbrev mutual
  pub form_tokens : ℕ → Form → List Token
  form_tokens at (number ds) = token.Number at (digits_value 16 ds) ∷ []
  form_tokens at (empty b k) = token.Open at b ∷ token.Close ∷ []
  form_tokens at (group b is) = token.Open at b ∷ (items_tokens (at + 1) is ++ token.Close ∷ [])

  pub items_tokens : ℕ → Items → List Token
  items_tokens at (last k f m) = form_tokens (at + k) f
  items_tokens at (next k f m is) =
      form_tokens (at + k) f ++ items_tokens (at + k + length (form_text f) + m + 1) is

-- ---- which texts

-- the text is a value text
abbrev pub IsValueText : List ℕ → Type 0
IsValueText t = (f : Form) × IsTrue (is_form f) × (form_text f ≡ t)

-- the text is a value text, with these numbers and brackets
abbrev pub Spells : List ℕ → List Token → Type 0
Spells t ts = (f : Form) × IsTrue (is_form f) × (form_text f ≡ t) × (form_tokens 0 f ≡ ts)
