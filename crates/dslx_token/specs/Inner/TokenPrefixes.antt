-- What the lexer's helpers find at the front of a text.
use Rattle.std.specs.Prelude.{◌≡◌, ◌==◌, ◌||◌, ◌<◌, ◌≤◌, ℕ, Bool, List, [], ◌∷◌, ◌++◌, Option, None, Some, if◌then◌else◌, length, take, drop, slice_index, true}
use Rattle.std.specs.List.{starts_with}
use Rattle.std.specs.Bool.{nat_eq}
use Rattle.std.specs.Char.{is_ascii_digit, is_ascii_hexdigit}
use denote.Ref.{Bor}
use Rattle.dslx_token.specs.Characters.{is_binary_digit}
use Rattle.dslx_token.specs.Lexical.{IsToken}
use Rattle.dslx_token.specs.Spelling.{Spelling}
use Rattle.dslx_token.specs.Tokens.{IsLongestToken, IsNextToken}

-- bytes that go on a number
abbrev pub goes_on_decimal : ℕ → Bool
goes_on_decimal c = is_ascii_digit c || (c == 95)

abbrev pub goes_on_hexadecimal : ℕ → Bool
goes_on_hexadecimal c = is_ascii_hexdigit c || (c == 95)

abbrev pub goes_on_binary : ℕ → Bool
goes_on_binary c = is_binary_digit c || (c == 95)

-- the text begins with a prefix and a digit behind it
abbrev pub HasPrefix : ℕ → (ℕ → Bool) → List ℕ → Type 0
HasPrefix second p text = (slice_index text 0 ≡ 48) × (slice_index text 1 ≡ second) × (p (slice_index text 2) ≡ true)

-- the longest token at the front of the text has this length
pub record IsTokenPrefixLen (text : List ℕ) (len : ℕ) : Type 0 where
  pub some : 0 < len
  pub within : len ≤ length text
  pub longest : IsLongestToken (take len text) (drop len text)

-- the token that stands at the front of the text has this length
pub record IsTokenLen (text : List ℕ) (len : ℕ) : Type 0 where
  pub some : 0 < len
  pub within : len ≤ length text
  pub stands : IsNextToken (take len text) (drop len text)

-- no token at all is a prefix of the text
abbrev pub HasNoTokenPrefix : List ℕ → Type 0
HasNoTokenPrefix text = (token rest : List ℕ) → text ≡ token ++ rest → ¬ IsToken token

-- an entry of a table of spellings
abbrev pub spelling_of : Bor (List ℕ) × ℕ → Spelling
spelling_of e = (e.0.now, e.1)

-- the length of the first of these that begins the text
abbrev pub first_prefix : List Spelling → List ℕ → Option ℕ
first_prefix [] text = None
first_prefix (s ∷ ss) text = if starts_with nat_eq text s.0 then Some (length s.0) else first_prefix ss text
