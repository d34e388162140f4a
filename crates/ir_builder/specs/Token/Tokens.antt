-- The tokens of an IR text, each with its kind and its span, and the first character that begins none.
use Rattle.std.specs.Prelude.{◌≡◌, ◌≢◌, ◌+◌, ℕ, List, [], ◌∷◌, length, take, drop, Some, None}
use Rattle.xb_span.specs.declared.read_error.ReadError.{ReadError}
use Rattle.xb_span.specs.declared.read_error.ReadError.TheVariants.{Syntax, Broken, Over, OutOfMemory}
use Rattle.dslx_token.specs.Blank.{after_blank}
use Rattle.dslx_token.specs.Lexeme.{Lexeme}
use Rattle.dslx_token.specs.Tokens.{offset_of}
use Rattle.ir_builder.specs.Token.TokenPrefixes.{token_prefix}
use Rattle.ir_builder.specs.Token.Kinds.{ir_plain_kind, no_context, settled_in}

-- the token of the bytes from this position on, with the kind that they have by themselves
abbrev pub ir_lexeme_at : ℕ → List ℕ → Lexeme
ir_lexeme_at from bytes = record { kind = ir_plain_kind bytes; span = record { from = from; to = from + length bytes }; bytes = bytes }

-- the tokens of a rest of the text, each by itself, and behind them the mark at the text's end
pub data IsCutInto (text : List ℕ) : List ℕ → List Lexeme → Type 0 where
  ends : (rest : List ℕ) → after_blank rest ≡ [] → IsCutInto text rest (ir_lexeme_at (length text) [] ∷ [])
  goes : (rest : List ℕ) (len : ℕ) (more : List Lexeme) → after_blank rest ≢ [] → token_prefix (after_blank rest) ≡ Some len → IsCutInto text (drop len (after_blank rest)) more → IsCutInto text rest (ir_lexeme_at (offset_of text (after_blank rest)) (take len (after_blank rest)) ∷ more)

-- the text's tokens, in order, with the mark at its end
pub record AreIrTokens (text : List ℕ) (tokens : List Lexeme) : Type 0 where
  pub plain : List Lexeme
  pub cut : IsCutInto text text plain
  pub settled : tokens ≡ settled_in no_context plain

-- in a rest of the text, this is where the first character stands that begins no token
pub data IsCutOffAt (text : List ℕ) : List ℕ → ℕ → Type 0 where
  here : (rest : List ℕ) → after_blank rest ≢ [] → token_prefix (after_blank rest) ≡ None → IsCutOffAt text rest (offset_of text (after_blank rest))
  later : (rest : List ℕ) (len at : ℕ) → after_blank rest ≢ [] → token_prefix (after_blank rest) ≡ Some len → IsCutOffAt text (drop len (after_blank rest)) at → IsCutOffAt text rest at

-- how a text is refused for its tokens: at the first character that begins none, or for want of memory
abbrev pub IsTokenRefusal : List ℕ → ReadError → Type 0
IsTokenRefusal text (Syntax at) = IsCutOffAt text text at
IsTokenRefusal text (Broken rule span) = ⊥
IsTokenRefusal text (Over limit) = ⊥
IsTokenRefusal text OutOfMemory = Unit {0}
