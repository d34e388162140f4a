-- Operations on values that are words.
use Rattle.std.specs.Prelude.{ℕ, ◌==◌, nat_le, if◌then◌else◌, List}
use Rattle.std.specs.Int.{bit_at}
use Rattle.xb_bits.specs.Word.{Word, word}
use Rattle.xb_bits.specs.Operations as op
use Rattle.xb_value.specs.declared.value.Value.{Value, Bits}
use Rattle.ir_tree.specs.declared.node.Operand.{Operand}
use Rattle.ir_tree.specs.NodeValues.{operand_value}
use Rattle.delay_model.specs.declared.op.Extend.{Extend}
use Rattle.ir_tree.specs.Operations.{on_word, on_words, extend_word}

-- a value by the state and the values of the nodes
abbrev pub Reading : Type 0
Reading = Value → List Value → Value

-- the value of an operand
abbrev pub value_at : Operand → Reading
value_at o = λ s values. operand_value s values o

-- what an operation makes of the word of an operand, and of those of two
abbrev pub word_by : (Word → Word) → Operand → Reading
word_by f a = λ s values. on_word (λ x. Bits (f x)) (operand_value s values a)

abbrev pub words_by : (Word → Word → Word) → Operand → Operand → Reading
words_by f a b = λ s values. on_words (λ x y. Bits (f x y)) (operand_value s values a) (operand_value s values b)

-- the first where the word is 1, else the second
abbrev pub either_by : Operand → Operand → Operand → Reading
either_by bit one zero = λ s values. on_word (λ x. if x.value == 1 then operand_value s values one else operand_value s values zero) (operand_value s values bit)

-- the low bits of a word, or it made longer
abbrev pub resized : Extend → ℕ → Word → Word
resized kind width x = if nat_le width x.width then op.slice x 0 width else extend_word kind x width

-- a number of so many bits where the bit at a place of a word is 1, else another value
abbrev pub number_or : ℕ → ℕ → ℕ → Operand → Operand → Reading
number_or place width n a other = λ s values. on_word (λ x. if bit_at x.value place == 1 then Bits (word width n) else operand_value s values other) (operand_value s values a)
