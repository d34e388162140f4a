-- What stands at the front of an IR text: a word, a number or a mark.
use Rattle.std.specs.Prelude.{ℕ, suc, ◌+◌, ◌^◌, ◌==◌, ◌&&◌, ◌||◌, not, nat_lt, if◌then◌else◌, Bool, List, [], ◌∷◌, take, drop, slice_index, Option, Some, None}
use Rattle.std.specs.List.{prefix_len}
use Rattle.std.specs.Char.{is_ascii_digit, is_ascii_hexdigit}
use Rattle.std.specs.Str.Parse.{digits_value}
use Rattle.base.specs.Texts.Words.{begins_word, is_word_byte}
use Rattle.ir_builder.specs.declared.token.rules.generated.kind.TheConstants.{ASSIGN, COLON, COMMA, END, LBRACE, LBRACKET, LPAREN, RBRACE, RBRACKET, RPAREN}

-- a word goes on with letters, digits, `_` and `.`, and with a `/` that begins no comment: that has another `/` behind it
abbrev pub word_goes_on : ℕ → ℕ → Bool
word_goes_on c behind = (is_word_byte c || (c == 46)) || ((c == 47) && not (behind == 47))

-- how far the word at the front of a text goes
abbrev pub name_len : List ℕ → ℕ
name_len [] = 0
name_len (c ∷ cs) = if word_goes_on c (slice_index cs 0) then suc (name_len cs) else 0

-- `0x` and a digit behind it
abbrev pub begins_hexadecimal : List ℕ → Bool
begins_hexadecimal text = (slice_index text 0 == 48) && ((slice_index text 1 == 120) && is_ascii_hexdigit (slice_index text 2))

-- how far the number at the front of a text goes
abbrev pub digits_len : List ℕ → ℕ
digits_len text = if begins_hexadecimal text then (2 + prefix_len is_ascii_hexdigit (drop 2 text)) else prefix_len is_ascii_digit text

-- what a number stands for
abbrev pub value_of_number : List ℕ → ℕ
value_of_number bytes = if begins_hexadecimal bytes then digits_value 16 (drop 2 bytes) else digits_value 10 bytes

-- the kind of a mark; no other character is one
abbrev pub mark_kind : ℕ → ℕ
mark_kind c =
    if c == 40 then LPAREN
    else if c == 41 then RPAREN
    else if c == 91 then LBRACKET
    else if c == 93 then RBRACKET
    else if c == 123 then LBRACE
    else if c == 125 then RBRACE
    else if c == 58 then COLON
    else if c == 61 then ASSIGN
    else if c == 44 then COMMA
    else END

-- a number of 2^128 or more begins no token
abbrev pub number_prefix : List ℕ → Option ℕ
number_prefix text = if nat_lt (value_of_number (take (digits_len text) text)) (2 ^ 128) then Some (digits_len text) else None

-- the length of the token at the front of a text
abbrev pub token_prefix : List ℕ → Option ℕ
token_prefix text =
    if begins_word (slice_index text 0) then Some (name_len text)
    else if is_ascii_digit (slice_index text 0) then number_prefix text
    else if mark_kind (slice_index text 0) == END then None
    else Some 1
