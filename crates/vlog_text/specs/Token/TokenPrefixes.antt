-- What stands at the front of a Verilog text: a word, a number, a literal, `$signed` or a mark.
use Rattle.std.specs.Prelude.{ℕ, ◌+◌, ◌^◌, ◌==◌, ◌&&◌, ◌||◌, nat_lt, if◌then◌else◌, Bool, List, take, drop, codes, bytes_eq, slice_index, Option, Some, None}
use Rattle.std.specs.List.{prefix_len}
use Rattle.std.specs.Char.{is_ascii_digit}
use Rattle.std.specs.Str.Parse.{digits_value}
use Rattle.base.specs.Texts.Words.{begins_word, is_word_byte}
use Rattle.vlog_text.specs.declared.token.rules.generated.kind.TheConstants.{AMP, ASHR, AT, CARET, COLON, COMMA, END, EQ, EQUALS, GE, GT, LBRACE, LBRACKET, LE, LPAREN, LT, MINUS, NE, PERCENT, PIPE, PLUS, QUESTION, RBRACE, RBRACKET, RPAREN, SEMI, SHL, SHR, SLASH, STAR, TILDE}

-- ---- numbers and literals

-- how far the digits at the front of a text go
abbrev pub digit_run : List ℕ → ℕ
digit_run text = prefix_len is_ascii_digit text

-- `'d`, and a digit behind it
abbrev pub begins_value : List ℕ → Bool
begins_value text = (slice_index text 0 == 39) && ((slice_index text 1 == 100) && is_ascii_digit (slice_index text 2))

-- the digits at the front of a text, and of a literal those behind `'d`
abbrev pub prefix_digits : List ℕ → List ℕ
prefix_digits text = take (digit_run text) text

abbrev pub value_digits : List ℕ → List ℕ
value_digits text = prefix_digits (drop (digit_run text + 2) text)

-- N and V of a literal `N'dV`
abbrev pub width_said : List ℕ → ℕ
width_said text = digits_value 10 (prefix_digits text)

abbrev pub value_said : List ℕ → ℕ
value_said text = digits_value 10 (value_digits text)

-- N is 1 or more, and V is below 2^N
abbrev pub is_in_range : List ℕ → Bool
is_in_range text = nat_lt 0 (width_said text) && nat_lt (value_said text) (2 ^ width_said text)

-- a literal stands at the front of a text that begins with a digit
abbrev pub begins_literal : List ℕ → Bool
begins_literal text = begins_value (drop (digit_run text) text)

-- a literal that is out of range begins no token
unfoldable pub number_len : List ℕ → Option ℕ
number_len text =
    if begins_literal text
    then (if is_in_range text then Some (digit_run text + 2 + digit_run (drop (digit_run text + 2) text)) else None)
    else Some (digit_run text)

-- ---- marks

-- the kind of a mark of one character; of what is none the kind of the end
abbrev pub single_kind : ℕ → ℕ
single_kind c =
    if c == 59 then SEMI
    else if c == 61 then EQUALS
    else if c == 91 then LBRACKET
    else if c == 93 then RBRACKET
    else if c == 58 then COLON
    else if c == 40 then LPAREN
    else if c == 41 then RPAREN
    else if c == 44 then COMMA
    else if c == 123 then LBRACE
    else if c == 125 then RBRACE
    else if c == 63 then QUESTION
    else if c == 43 then PLUS
    else if c == 45 then MINUS
    else if c == 42 then STAR
    else if c == 47 then SLASH
    else if c == 37 then PERCENT
    else if c == 38 then AMP
    else if c == 124 then PIPE
    else if c == 94 then CARET
    else if c == 126 then TILDE
    else if c == 60 then LT
    else if c == 62 then GT
    else if c == 64 then AT
    else END

-- the same of two characters
abbrev pub double_kind : ℕ → ℕ → ℕ
double_kind c d =
    if d == 61 then (if c == 60 then LE else if c == 62 then GE else if c == 61 then EQ else if c == 33 then NE else END)
    else if d == 60 then (if c == 60 then SHL else END)
    else if d == 62 then (if c == 62 then SHR else END)
    else END

-- `>>>`
abbrev pub is_triple : ℕ → ℕ → ℕ → Bool
is_triple c d e = (c == 62) && ((d == 62) && (e == 62))

-- the longest mark
unfoldable pub mark_len : ℕ → ℕ → ℕ → Option ℕ
mark_len c d e =
    if is_triple c d e then Some 3
    else if nat_lt (double_kind c d) END then Some 2
    else if nat_lt (single_kind c) END then Some 1
    else None

-- ---- tokens

abbrev pub word_run : List ℕ → ℕ
word_run text = prefix_len is_word_byte text

-- `$signed`, whatever stands behind it
abbrev pub signed_len : List ℕ → Option ℕ
signed_len text = if bytes_eq (take 7 text) (codes "$signed") then Some 7 else None

-- the length of the token at the front of a text
unfoldable pub token_prefix_len : List ℕ → Option ℕ
token_prefix_len text =
    if begins_word (slice_index text 0) then Some (word_run text)
    else if is_ascii_digit (slice_index text 0) then number_len text
    else if slice_index text 0 == 36 then signed_len text
    else mark_len (slice_index text 0) (slice_index text 1) (slice_index text 2)
