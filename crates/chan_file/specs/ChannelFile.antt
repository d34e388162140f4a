-- What a channel file says of a network's inputs.
--
-- Lines are read in their order. A line `chan NAME` begins the words of that input, and each word behind it, up to the
-- next such line, is one of its words. The first line at fault is named.
use Rattle.std.specs.Prelude.{◌≡◌, ◌==◌, ◌&&◌, ℕ, suc, Bool, true, false, List, [], ◌∷◌, bytes_eq, slice_get, Option, Some, None, Result, Ok, Err, if◌then◌else◌}
use Rattle.std.specs.List.{list_any}
use Rattle.base.specs.Texts.Lines.{lines_of, positioned}
use Rattle.base.specs.Lists.Indexed.{indexed}
use Rattle.xb_bits.specs.Word.{Word}
use Rattle.xb_value.specs.declared.token.Token.{Token}
use Rattle.xb_value.specs.declared.ty.Ty.{Ty}
use Rattle.xb_value.specs.declared.value.Value.{Value}
use Rattle.xb_value.specs.Flat.{flat_of}
use Rattle.xb_value.specs.Form.{Spells}
use Rattle.xb_value.specs.Reads.{Reads as ReadsValue}
use Rattle.xb_value.specs.Misfit.{Misfits}
use Rattle.net_core.specs.declared.net.Net.{Net}
use Rattle.net_core.specs.declared.net.Chan.{Chan}
use Rattle.net_core.specs.declared.net.Kind.{Kind}
use Rattle.net_core.specs.declared.net.Kind.TheVariants as kind
use Rattle.net_core.specs.declared.net.Inputs.{Inputs}
use Rattle.chan_file.specs.declared.line.Said.{Said}
use Rattle.chan_file.specs.declared.line.Said.TheVariants.{Nothing, Channel, Word as AWord, Fault}
use Rattle.chan_file.specs.declared.refusal.Cause.{Cause}
use Rattle.chan_file.specs.declared.refusal.Cause.TheVariants as cause
use Rattle.chan_file.specs.declared.refusal.InputError.{InputError}
use Rattle.chan_file.specs.declared.refusal.InputError.TheVariants.{Input, OutOfMemory}
use Rattle.chan_file.specs.Line.{blank, channel, other, line_form}

-- ---- names of inputs

abbrev pub is_input : Kind → Bool
is_input kind.Input = true
is_input kind.Output = false
is_input kind.Inner = false

abbrev pub is_input_named : List ℕ → Chan → Bool
is_input_named name chan = is_input chan.kind && bytes_eq chan.name name

-- the number of the first input of that name, where the first channel has the number i
abbrev pub input_from : ℕ → List Chan → List ℕ → Option ℕ
input_from i [] name = None
input_from i (chan ∷ chans) name = if is_input_named name chan then (Some i) else (input_from (suc i) chans name)

abbrev pub input_named : Net → List ℕ → Option ℕ
input_named net name = input_from 0 net.chans name

-- ---- one line

-- the channel is among those that were named
abbrev pub was_named : ℕ → List ℕ → Bool
was_named c named = list_any (λ d. d == c) named

-- what the name of an input says, if it is one, where these channels were named before
abbrev pub says_input : List ℕ → Option ℕ → Said
says_input named None = Fault cause.Name
says_input named (Some c) = if was_named c named then (Fault cause.Twice) else (Channel c)

-- what a line says as a word of channel c: the flat word of the value that it reads as at the channel's type
abbrev pub SaysWord : ℕ → Ty → List ℕ → Said → Type 0
SaysWord c t line (AWord d w) = (d ≡ c) × ((v : Value) × ReadsValue line t v × (w ≡ flat_of v))
SaysWord c t line (Fault cause.Syntax) = (ts : List Token) → Spells line ts → ⊥
SaysWord c t line (Fault cause.Kind) = (at : ℕ) × Misfits line t at
SaysWord c t line _ = ⊥

-- what a line says, where these channels were named before it, the last of them first
pub data SaysLine (net : Net) (named line : List ℕ) : Said → Type 0 where
  blank_line : line_form line ≡ blank → SaysLine net named line Nothing
  channel_line : (name : List ℕ) → line_form line ≡ channel name → SaysLine net named line (says_input named (input_named net name))
  early_word : line_form line ≡ other → named ≡ [] → SaysLine net named line (Fault cause.Syntax)
  word_line : (c : ℕ) (before : List ℕ) (chan : Chan) (said : Said) → line_form line ≡ other → named ≡ c ∷ before → slice_get net.chans c ≡ Some chan
      → SaysWord c chan.ty line said → SaysLine net named line said

-- ---- the lines of a file

-- words with the numbers of their channels, or the first fault and the position of its line
abbrev pub Words : Type 0
Words = Result (List (ℕ × Word)) (Cause × ℕ)

-- a word before others
abbrev pub before_words : ℕ × Word → Words → Words
before_words x (Ok xs) = Ok (x ∷ xs)
before_words x (Err e) = Err e

-- what lines say, where these channels were named before them
pub data SaysLines (net : Net) : List ℕ → List (ℕ × List ℕ) → Words → Type 0 where
  at_end : (named : List ℕ) → SaysLines net named [] (Ok [])
  behind_nothing : (named : List ℕ) (at : ℕ) (line : List ℕ) (lines : List (ℕ × List ℕ)) (r : Words)
      → SaysLine net named line Nothing → SaysLines net named lines r → SaysLines net named ((at, line) ∷ lines) r
  behind_channel : (named : List ℕ) (at : ℕ) (line : List ℕ) (lines : List (ℕ × List ℕ)) (r : Words) (c : ℕ)
      → SaysLine net named line (Channel c) → SaysLines net (c ∷ named) lines r → SaysLines net named ((at, line) ∷ lines) r
  behind_word : (named : List ℕ) (at : ℕ) (line : List ℕ) (lines : List (ℕ × List ℕ)) (r : Words) (c : ℕ) (w : Word)
      → SaysLine net named line (AWord c w) → SaysLines net named lines r → SaysLines net named ((at, line) ∷ lines) (before_words (c, w) r)
  at_fault : (named : List ℕ) (at : ℕ) (line : List ℕ) (lines : List (ℕ × List ℕ)) (cause : Cause)
      → SaysLine net named line (Fault cause) → SaysLines net named ((at, line) ∷ lines) (Err (cause, at))

-- ---- a file

-- the words of channel c, in their order
abbrev pub words_on : ℕ → List (ℕ × Word) → List Word
words_on c [] = []
words_on c (x ∷ xs) = if x.0 == c then (x.1 ∷ words_on c xs) else words_on c xs

-- a list of words for each channel, by its number
abbrev pub inputs_by : Net → List (ℕ × Word) → Inputs
inputs_by net xs = record { words = indexed (λ c (chan : Chan). words_on c xs) 0 net.chans }

abbrev pub with_inputs : Net → Words → Result Inputs (Cause × ℕ)
with_inputs net (Ok xs) = Ok (inputs_by net xs)
with_inputs net (Err e) = Err e

-- the text says these inputs, or its first line at fault has this cause and begins at this position
pub record Reads (net : Net) (text : List ℕ) (r : Result Inputs (Cause × ℕ)) : Type 0 where
  pub words : Words
  pub says : SaysLines net [] (positioned 0 (lines_of text)) words
  pub is : r ≡ with_inputs net words

-- why a text is refused
abbrev pub IsRefusal : Net → List ℕ → InputError → Type 0
IsRefusal net text (Input cause at) = Reads net text (Err (cause, at))
IsRefusal net text OutOfMemory = Unit {0}
