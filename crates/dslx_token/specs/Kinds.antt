-- The kinds of a text's tokens, as the grammar has them. Where a name stands for a type, a function, a proc or a
-- struct that the text declares, anywhere in it, its kind says so.
use Rattle.std.specs.Prelude.{◌==◌, ◌&&◌, ◌||◌, ◌<◌, ◌^◌, ◌≡◌, ℕ, Bool, true, false, if◌then◌else◌, List, [], ◌∷◌, bytes_eq, drop}
use Rattle.std.specs.Str.{IsAscii}
use Rattle.std.specs.Char.{is_ascii_digit}
use Rattle.dslx_token.specs.declared.rules.generated.kind.TheConstants.{ARGS, ARROW, AS, BOTHNAME, DOT, END, FIELDS, FN, FUNNAME, LBRACE, LT, NAME, NUMBER, PATH, PROC, SIGNED, STRING, STRUCT, STRUCTNAME, TYPE, TYPENAME, UNSIGNED}
use Rattle.base.specs.Texts.Words.{begins_word}
use Rattle.dslx_token.specs.Lexeme.{Lexeme}
use Rattle.dslx_token.specs.Lexical.{is_sized, is_width, number_value}
use Rattle.dslx_token.specs.Spelling.{keywords, marks, kind_among}

-- `u1` and its kin, a keyword, or a name
abbrev pub word_kind : List ℕ → ℕ
word_kind bytes =
    if is_sized 117 bytes then UNSIGNED
    else if is_sized 115 bytes then SIGNED
    else kind_among keywords bytes NAME

-- the kind of a token by itself; the mark at the end of a text has no bytes
abbrev pub plain_kind : List ℕ → ℕ
plain_kind [] = END
plain_kind (c ∷ cs) =
    if begins_word c then word_kind (c ∷ cs)
    else if is_ascii_digit c then NUMBER
    else if c == 34 then STRING
    else kind_among marks (c ∷ cs) END

-- the name stands directly behind a token whose kind passes the test; the tokens stand behind one of this kind
abbrev pub declares : (ℕ → Bool) → ℕ → List Lexeme → List ℕ → Bool
declares heads before [] name = false
declares heads before (l ∷ ls) name = (heads before && bytes_eq l.bytes name) || declares heads l.kind ls name

-- the keywords behind which a name is declared as a type, as a function or proc, as a struct
abbrev pub heads_type : ℕ → Bool
heads_type kind = kind == TYPE

abbrev pub heads_callable : ℕ → Bool
heads_callable kind = (kind == FN) || (kind == PROC)

abbrev pub heads_struct : ℕ → Bool
heads_struct kind = kind == STRUCT

-- the kind of a name by what it is declared as; a type before all else
abbrev pub kind_declared : Bool → Bool → Bool → ℕ
kind_declared is_type is_callable is_struct =
    if is_type then TYPENAME
    else if is_callable then (if is_struct then BOTHNAME else FUNNAME)
    else if is_struct then STRUCTNAME
    else NAME

-- the kind of a name in a text with all these tokens, each of its kind by itself
abbrev pub name_kind : List Lexeme → List ℕ → ℕ
name_kind all name =
    kind_declared (declares heads_type END all name) (declares heads_callable END all name) (declares heads_struct END all name)

-- behind these a name is a part, a member or a type
abbrev pub hides : ℕ → Bool
hides before = ((before == DOT) || (before == PATH)) || ((before == AS) || (before == ARROW))

-- the kind of a token behind a token of some kind, where by itself it is of this kind and names have those kinds
abbrev pub kind_behind : (List ℕ → ℕ) → ℕ → ℕ → List ℕ → ℕ
kind_behind named before kind bytes =
    if kind == NAME then (if hides before then NAME else named bytes)
    else if kind == LT then (if (before == FUNNAME) || (before == BOTHNAME) then ARGS else LT)
    else if kind == LBRACE then (if (before == STRUCTNAME) || (before == BOTHNAME) then FIELDS else LBRACE)
    else kind

-- the tokens with their kinds, behind a token of this kind
abbrev pub settled : (List ℕ → ℕ) → ℕ → List Lexeme → List Lexeme
settled named before [] = []
settled named before (l ∷ ls) =
    let kind = kind_behind named before l.kind l.bytes in
    record l { kind = kind } ∷ settled named kind ls

-- what is so of each token's bytes: they are ASCII; a number is below 2^128, and a type's keyword has a width
pub record Fits (kind : ℕ) (bytes : List ℕ) : Type 0 where
  pub value : kind ≡ NUMBER → number_value bytes < 2 ^ 128
  pub unsigned : kind ≡ UNSIGNED → is_width (drop 1 bytes) ≡ true
  pub signed : kind ≡ SIGNED → is_width (drop 1 bytes) ≡ true
  pub ascii : IsAscii bytes
