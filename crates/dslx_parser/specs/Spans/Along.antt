-- Tokens that stand one behind the other.
use Rattle.std.specs.Prelude.{◌≡◌, ◌≢◌, ◌≤◌, ℕ, true, List, [], ◌∷◌}
use Rattle.dslx_actions.specs.Tokens.{is_name}
use Rattle.dslx_token.specs.Lexeme.{Lexeme}

-- A name is not empty.
abbrev pub SaysAName : Lexeme → Type 0
SaysAName l = is_name l.kind ≡ true → l.bytes ≢ []

-- The tokens stand between these bytes, one behind the other.
abbrev pub AreAlong : List Lexeme → ℕ → ℕ → Type 0
AreAlong [] from to = from ≤ to
AreAlong (l ∷ ls) from to = (from ≤ l.span.from) × (l.span.from ≤ l.span.to) × SaysAName l × AreAlong ls l.span.to to
