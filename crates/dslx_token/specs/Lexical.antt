-- What the tokens of DSLX are: words, numbers, strings and marks.
use Rattle.std.specs.Prelude.{◌≡◌, ◌==◌, ◌&&◌, ◌||◌, ℕ, Bool, true, false, not, if◌then◌else◌, List, [], ◌∷◌, ◌++◌, ◌⊎◌, codes, bytes_eq, take, drop, filter, nat_le}
use Rattle.std.specs.List.{list_all, list_any}
use Rattle.std.specs.Char.{is_ascii_digit, is_ascii_hexdigit}
use Rattle.std.specs.Str.Parse.{digits_value}
use Rattle.base.specs.Texts.Words.{is_word}
use Rattle.dslx_token.specs.Characters.{is_binary_digit}
use Rattle.dslx_token.specs.Spelling.{marks}

-- a digit, then digits and `_`
abbrev pub is_grouped : (ℕ → Bool) → List ℕ → Bool
is_grouped is_digit [] = false
is_grouped is_digit (c ∷ cs) = is_digit c && list_all (λ d. is_digit d || (d == 95)) cs

abbrev pub has_prefix : List ℕ → List ℕ → Bool
has_prefix prefix bytes = bytes_eq (take 2 bytes) prefix

abbrev pub is_decimal : List ℕ → Bool
is_decimal bytes = is_grouped is_ascii_digit bytes

abbrev pub is_hexadecimal : List ℕ → Bool
is_hexadecimal bytes = has_prefix (codes "0x") bytes && is_grouped is_ascii_hexdigit (drop 2 bytes)

abbrev pub is_binary : List ℕ → Bool
is_binary bytes = has_prefix (codes "0b") bytes && is_grouped is_binary_digit (drop 2 bytes)

-- a number: decimal, `0x` and hexadecimal, or `0b` and binary
abbrev pub is_number : List ℕ → Bool
is_number bytes = (is_decimal bytes || is_hexadecimal bytes) || is_binary bytes

-- what the digits stand for, where `_` between them says nothing
abbrev pub grouped_value : ℕ → List ℕ → ℕ
grouped_value radix digits = digits_value radix (filter (λ d. not (d == 95)) digits)

-- what a number stands for
abbrev pub number_value : List ℕ → ℕ
number_value bytes =
    if has_prefix (codes "0x") bytes then grouped_value 16 (drop 2 bytes)
    else if has_prefix (codes "0b") bytes then grouped_value 2 (drop 2 bytes)
    else grouped_value 10 bytes

-- a string: a word between quotes
abbrev pub IsString : List ℕ → Type 0
IsString bytes = (name : List ℕ) × (is_word name ≡ true) × (bytes ≡ 34 ∷ (name ++ 34 ∷ []))

-- every other token
abbrev pub is_mark : List ℕ → Bool
is_mark bytes = list_any (λ s. bytes_eq s.0 bytes) marks

abbrev pub IsToken : List ℕ → Type 0
IsToken bytes = (is_word bytes ≡ true) ⊎ (is_number bytes ≡ true) ⊎ IsString bytes ⊎ (is_mark bytes ≡ true)

-- the decimal digits of 1 to 128, without leading zeros
abbrev pub is_width : List ℕ → Bool
is_width [] = false
is_width (c ∷ cs) =
    not (c == 48) && list_all is_ascii_digit (c ∷ cs)
    && (nat_le 1 (digits_value 10 (c ∷ cs)) && nat_le (digits_value 10 (c ∷ cs)) 128)

-- a type's keyword: this letter, and a width
abbrev pub is_sized : ℕ → List ℕ → Bool
is_sized letter [] = false
is_sized letter (c ∷ cs) = (c == letter) && is_width cs

-- the width that such a keyword says
abbrev pub width_of : List ℕ → ℕ
width_of bytes = digits_value 10 (drop 1 bytes)
