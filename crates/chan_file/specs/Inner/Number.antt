-- Words of a number type as texts, without the tokens and trees between.
use Rattle.std.specs.Prelude.{ℕ, List, codes, take, drop, bytes_eq, Option, Some, None, if◌then◌else◌}
use Rattle.std.specs.Str.Parse.{digits_value}
use Rattle.xb_bits.specs.Word.{Word, word}
use Rattle.xb_value.specs.Form.{number, is_form}
use Rattle.xb_value.specs.Typing.{is_word_of}

-- the number that 1 to 32 digits write, if these are such
abbrev pub number_of : List ℕ → Option ℕ
number_of ds = if is_form (number ds) then (Some (digits_value 16 ds)) else None

-- the number that a text is, if it is `0x` and digits of one
abbrev pub number_in : List ℕ → Option ℕ
number_in text = if bytes_eq (codes "0x") (take 2 text) then number_of (drop 2 text) else None

-- the number as a word of `w` bits, if they hold it
abbrev pub held_in : ℕ → Option ℕ → Option Word
held_in w None = None
held_in w (Some n) = if is_word_of w (word w n) then (Some (word w n)) else None

-- the word of `w` bits that a text is, if it is one
abbrev pub word_in : ℕ → List ℕ → Option Word
word_in w text = held_in w (number_in text)
