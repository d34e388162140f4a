-- What functions of this crate promise one another.
use Rattle.std.specs.Prelude.{◌≡◌, ℕ, ◌<◌, ◌≤◌, List, take, length, Some}
use Rattle.std.specs.Str.{IsAscii}
use denote.Ref.{Bor}
use Rattle.dslx_token.specs.Spelling.{Spelling}
use Rattle.ir_builder.specs.Token.TokenPrefixes.{token_prefix}

-- an entry of a table of words
abbrev pub entry_of : Bor (List ℕ) × ℕ → Spelling
entry_of e = (e.0.now, e.1)

-- the token at the front of the text has this length
pub record HasTokenPrefix (text : List ℕ) (len : ℕ) : Type 0 where
  pub front : token_prefix text ≡ Some len
  pub some : 0 < len
  pub within : len ≤ length text
  pub ascii : IsAscii (take len text)
