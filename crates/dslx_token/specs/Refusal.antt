-- How a text is refused for its tokens.
use Rattle.std.specs.Prelude.{ℕ, List}
use Rattle.xb_span.specs.declared.read_error.ReadError.{ReadError}
use Rattle.xb_span.specs.declared.read_error.ReadError.TheVariants.{Syntax, Broken, Over, OutOfMemory}
use Rattle.dslx_token.specs.Tokens.{IsFirstOdd}

-- at the first character that begins no token, or for want of memory
abbrev pub IsRefusal : List ℕ → ReadError → Type 0
IsRefusal text (Syntax at) = IsFirstOdd text at
IsRefusal text (Broken rule span) = ⊥
IsRefusal text (Over limit) = ⊥
IsRefusal text OutOfMemory = Unit {0}
