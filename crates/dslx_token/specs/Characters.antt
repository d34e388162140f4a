-- The characters of a DSLX text.
use Rattle.std.specs.Prelude.{◌==◌, ◌||◌, ℕ, Bool}

-- white space: space, tab, CR, LF
abbrev pub is_white : ℕ → Bool
is_white c = ((c == 32) || (c == 9)) || ((c == 13) || (c == 10))

abbrev pub is_binary_digit : ℕ → Bool
is_binary_digit c = (c == 48) || (c == 49)
