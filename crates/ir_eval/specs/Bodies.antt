-- What a receive gives for a word.
use Rattle.std.specs.Prelude.{ℕ, List, [], ◌∷◌, Option, Some, None}
use Rattle.xb_bits.specs.Word.{Word}
use Rattle.xb_value.specs.declared.value.Value.{Value, Tuple}
use Rattle.ir_tree.specs.declared.package.Channel.{Channel}
use Rattle.ir_tree.specs.Constants.{no_value}
use Rattle.ir_tree.specs.NodeValues.{no_word, heard, channel_type}

abbrev pub word_or : Option Word → Word
word_or None = no_word
word_or (Some w) = w

-- what a receive gives for a word
abbrev pub received_word : List Channel → ℕ → Word → Value
received_word channels c x = Tuple (no_value ∷ heard (channel_type channels c) x ∷ [])
