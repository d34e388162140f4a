-- The first line of a text, cut off.
use Rattle.std.specs.Prelude.{◌≡◌, ◌<◌, ◌+◌, List, ℕ, ◌∷◌, length}
use Rattle.base.specs.Texts.Lines.{lines_of}

pub record IsSplit (text line rest : List ℕ) : Type 0 where
  pub lines : lines_of text ≡ line ∷ lines_of rest
  pub shorter : length rest < length text
  -- a line behind which something stands ends with one byte
  pub follows : 0 < length rest → length text ≡ length line + 1 + length rest
