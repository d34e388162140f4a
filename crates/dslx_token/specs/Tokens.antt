-- The tokens of a DSLX text: the longest ones, each with its kind and its span.
use Rattle.std.specs.Prelude.{◌≡◌, ◌≢◌, ◌+◌, ◌-◌, ◌<◌, ◌^◌, ℕ, true, false, List, [], ◌∷◌, ◌++◌, length, slice_index}
use Rattle.std.specs.Char.{is_ascii_alphabetic}
use Rattle.dslx_token.specs.declared.rules.generated.kind.TheConstants.{END}
use Rattle.dslx_token.specs.Blank.{after_blank}
use Rattle.dslx_token.specs.Kinds.{name_kind, plain_kind, settled}
use Rattle.dslx_token.specs.Lexeme.{Lexeme}
use Rattle.dslx_token.specs.Lexical.{is_number, number_value, IsToken}

-- these bytes, at the front of a text with this rest behind them, are a token, and no longer prefix of the text is one
pub record IsLongestToken (token rest : List ℕ) : Type 0 where
  pub is_token : IsToken token
  pub longest : (more after : List ℕ) → more ≢ [] → rest ≡ more ++ after → ¬ IsToken (token ++ more)

-- the token stands at the front of a text, with this rest behind it: the longest one, and where that is a number, it
-- is below 2^128 and no letter follows it
pub record IsNextToken (token rest : List ℕ) : Type 0 where
  pub longest : IsLongestToken token rest
  pub no_letter : is_number token ≡ true → is_ascii_alphabetic (slice_index rest 0) ≡ false
  pub in_range : is_number token ≡ true → number_value token < 2 ^ 128

-- no token stands at the front of this text
abbrev pub BeginsNoToken : List ℕ → Type 0
BeginsNoToken text = (token rest : List ℕ) → text ≡ token ++ rest → ¬ IsNextToken token rest

-- the bytes that stand at this position, with their kind by themselves
abbrev pub lexeme_at : ℕ → List ℕ → Lexeme
lexeme_at from bytes = record { kind = plain_kind bytes; span = record { from = from; to = from + length bytes }; bytes = bytes }

-- where such a rest of the text begins
abbrev pub offset_of : List ℕ → List ℕ → ℕ
offset_of text rest = length text - length rest

-- the tokens of a rest of the text, each by itself, and behind them the mark at the text's end
pub data PlainTokens (text : List ℕ) : List ℕ → List Lexeme → Type 0 where
  at_end : (rest : List ℕ) → after_blank rest ≡ [] → PlainTokens text rest (lexeme_at (length text) [] ∷ [])
  next : (rest token behind : List ℕ) (more : List Lexeme) → after_blank rest ≡ token ++ behind → IsNextToken token behind → PlainTokens text behind more → PlainTokens text rest (lexeme_at (offset_of text (token ++ behind)) token ∷ more)

-- the text's tokens, in order, with the mark at its end
pub record Tokens (text : List ℕ) (tokens : List Lexeme) : Type 0 where
  pub plain : List Lexeme
  pub plainly : PlainTokens text text plain
  pub settled_so : tokens ≡ settled (name_kind plain) END plain

-- in a rest of the text, this is where the first character stands that begins no token
pub data OddAt (text : List ℕ) : List ℕ → ℕ → Type 0 where
  here : (rest : List ℕ) → after_blank rest ≢ [] → BeginsNoToken (after_blank rest) → OddAt text rest (offset_of text (after_blank rest))
  later : (rest token behind : List ℕ) (at : ℕ) → after_blank rest ≡ token ++ behind → IsNextToken token behind → OddAt text behind at → OddAt text rest at

-- the position of the text's first character that begins no token
abbrev pub IsFirstOdd : List ℕ → ℕ → Type 0
IsFirstOdd text at = OddAt text text at
