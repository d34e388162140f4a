-- The forms that a line of a channel file may have, whatever the network.
use Rattle.std.specs.Prelude.{◌==◌, ◌&&◌, ◌||◌, ℕ, Bool, true, false, List, [], ◌∷◌, codes, take, drop, bytes_eq, if◌then◌else◌}
use Rattle.std.specs.List.{list_all}
use Rattle.std.specs.Str.{is_utf8}
use Rattle.base.specs.Texts.Words.{begins_word, is_word_byte}

-- an empty line, or a comment, which begins with `#`
abbrev pub says_nothing : List ℕ → Bool
says_nothing [] = true
says_nothing (c ∷ cs) = (c == 35) && is_utf8 (c ∷ cs)

-- a letter, a digit, `_`, `.` or `/`
abbrev pub is_name_byte : ℕ → Bool
is_name_byte c = is_word_byte c || ((c == 46) || (c == 47))

-- a letter or `_`, and then such bytes
abbrev pub is_channel_name : List ℕ → Bool
is_channel_name [] = false
is_channel_name (c ∷ cs) = begins_word c && list_all is_name_byte cs

-- `chan`, one space and a name
abbrev pub is_channel_line : List ℕ → Bool
is_channel_line line = bytes_eq (codes "chan ") (take 5 line) && is_channel_name (drop 5 line)

pub data LineShape : Type 0 where
  blank : LineShape
  channel : List ℕ → LineShape
  other : LineShape

-- what a line is: nothing, a channel's name, or else it can only be a word
abbrev pub line_form : List ℕ → LineShape
line_form line = if says_nothing line then blank else (if is_channel_line line then (channel (drop 5 line)) else other)
