-- The tokens of a Verilog text, each with its kind and its span, and the first character that begins none.
use Rattle.std.specs.Prelude.{◌≡◌, ◌≢◌, ◌+◌, ℕ, List, [], ◌∷◌, length, take, drop, Some, None}
use Rattle.xb_span.specs.declared.read_error.ReadError.{ReadError}
use Rattle.xb_span.specs.declared.read_error.ReadError.TheVariants.{Syntax, Broken, Over, OutOfMemory}
use Rattle.dslx_token.specs.Blank.{after_blank}
use Rattle.dslx_token.specs.Lexeme.{Lexeme}
use Rattle.dslx_token.specs.Tokens.{offset_of}
use Rattle.vlog_text.specs.Token.TokenPrefixes.{token_prefix_len}
use Rattle.vlog_text.specs.Token.Kinds.{verilog_kind}

-- the token of the bytes from this position on, with their kind
abbrev pub verilog_lexeme_at : ℕ → List ℕ → Lexeme
verilog_lexeme_at from bytes = record { kind = verilog_kind bytes; span = record { from = from; to = from + length bytes }; bytes = bytes }

-- the tokens of a rest of the text, and behind them the mark at the text's end
pub data HasTokens (text : List ℕ) : List ℕ → List Lexeme → Type 0 where
  ends : (rest : List ℕ) → after_blank rest ≡ [] → HasTokens text rest (verilog_lexeme_at (length text) [] ∷ [])
  goes : (rest : List ℕ) (len : ℕ) (more : List Lexeme) → after_blank rest ≢ [] → token_prefix_len (after_blank rest) ≡ Some len → HasTokens text (drop len (after_blank rest)) more → HasTokens text rest (verilog_lexeme_at (offset_of text (after_blank rest)) (take len (after_blank rest)) ∷ more)

-- in a rest of the text, this is where the first character stands that begins no token
pub data BreaksAt (text : List ℕ) : List ℕ → ℕ → Type 0 where
  here : (rest : List ℕ) → after_blank rest ≢ [] → token_prefix_len (after_blank rest) ≡ None → BreaksAt text rest (offset_of text (after_blank rest))
  later : (rest : List ℕ) (len at : ℕ) → after_blank rest ≢ [] → token_prefix_len (after_blank rest) ≡ Some len → BreaksAt text (drop len (after_blank rest)) at → BreaksAt text rest at

-- how a text is refused for its tokens: at the first character that begins none, or for want of memory
abbrev pub IsBroken : List ℕ → ReadError → Type 0
IsBroken text (Syntax at) = BreaksAt text text at
IsBroken text (Broken rule span) = ⊥
IsBroken text (Over limit) = ⊥
IsBroken text OutOfMemory = Unit {0}
