-- Which values words of the code hold: those of 1 to 128 bits.
use Rattle.std.specs.Prelude.{ℕ, ◌&&◌, nat_lt, nat_le, Bool, true, Option, Some, None}
use Rattle.xb_bits.specs.Word.{Word}
use Rattle.dslx_meaning.specs.Values.{bits_of}
use Rattle.dslx_meaning.specs.declared.value.DslxValue.{DslxValue}
use Rattle.dslx_meaning.specs.declared.value.SignedWord.{SignedWord}

-- a word may have so many bits
abbrev pub is_width : ℕ → Bool
is_width w = nat_lt 0 w && nat_le w 128

abbrev pub is_held_word : Option Word → Bool
is_held_word None = true
is_held_word (Some w) = is_width w.width

abbrev pub are_held_bits : Option SignedWord → Bool
are_held_bits None = true
are_held_bits (Some x) = is_width x.word.width

-- false of a value alone that is bits of a width that no word may have
abbrev pub is_held : Option DslxValue → Bool
is_held None = true
is_held (Some v) = are_held_bits (bits_of v)
