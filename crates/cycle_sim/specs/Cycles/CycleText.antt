-- What is written of the cycles of a module: a line for each row, and then a line for each channel.
use Rattle.std.specs.Prelude.{ℕ, suc, ◌+◌, ◌/◌, Bool, true, false, List, [], ◌∷◌, ◌++◌, map, flat_map, length, codes, decimal, Option, Some, None, if◌then◌else◌}
use Rattle.base.specs.Texts.Hexadecimal.{hex_digits}
use Rattle.xb_bits.specs.Word.{Word}
use Rattle.vlog_tree.specs.declared.module.VModule.{VModule}
use Rattle.vlog_tree.specs.declared.row.Drive.{Drive}
use Rattle.vlog_tree.specs.declared.row.Row.{Row}
use Rattle.vlog_tree.specs.declared.row.Outs.{Outs}
use Rattle.vlog_tree.specs.declared.row.Shown.{Shown}
use Rattle.vlog_tree.specs.declared.row.Shown.TheVariants as shown
use Rattle.vlog_tree.specs.Rows.{transferred}
use Rattle.vlog_tree.specs.Signals.{Channel, channels_of}

-- ---- words

-- `0x`, and as many digits as the width needs
unfoldable pub word_text : Word → List ℕ
word_text w = codes "0x" ++ hex_digits ((w.width + 3) / 4) w.value

-- ---- a line for each row

-- ` NAME!`, of an input that is ready
abbrev pub ready_text : List ℕ → List ℕ
ready_text name = codes " " ++ (name ++ codes "!")

-- ` NAME=WORD`, of an output that has a word
abbrev pub output_text : List ℕ → Word → List ℕ
output_text name w = codes " " ++ (name ++ (codes "=" ++ word_text w))

abbrev pub shown_text : List ℕ → Shown → List ℕ
shown_text name (shown.Input ready) = if ready then ready_text name else []
shown_text name (shown.Output w valid) = if valid then output_text name w else []

abbrev pub shown_texts : List (List ℕ) → List Shown → List ℕ
shown_texts (name ∷ names) (s ∷ shown) = shown_text name s ++ shown_texts names shown
shown_texts _ _ = []

-- the number of the row, and what the channels show
unfoldable pub row_text : List (List ℕ) → ℕ → Outs → List ℕ
row_text names number outs = decimal number ++ (shown_texts names outs.channels ++ codes "\n")

abbrev pub rows_text : List (List ℕ) → ℕ → List Outs → List ℕ
rows_text names number [] = []
rows_text names number (outs ∷ more) = row_text names number outs ++ rows_text names (suc number) more

-- ---- a line for each channel

abbrev pub one_more : Option Word → List Word → List Word
one_more None words = words
one_more (Some w) words = words ++ w ∷ []

-- the words that went through a channel since the last row with reset, behind one more row
abbrev pub moved_at : Bool → Drive → Shown → List Word → List Word
moved_at true drive s words = []
moved_at false drive s words = one_more (transferred drive s) words

abbrev pub moved_by : Bool → List Drive → List Shown → List (List Word) → List (List Word)
moved_by reset (drive ∷ drives) (s ∷ shown) (words ∷ moved) = moved_at reset drive s words ∷ moved_by reset drives shown moved
moved_by reset _ _ moved = moved

abbrev pub moved_over : List Row → List Outs → List (List Word) → List (List Word)
moved_over (row ∷ rows) (outs ∷ more) moved = moved_over rows more (moved_by row.reset row.channels outs.channels moved)
moved_over _ _ moved = moved

abbrev pub spaced_word : Word → List ℕ
spaced_word w = codes " " ++ word_text w

-- `moved NAME N: WORDS`
unfoldable pub moved_text : List ℕ → List Word → List ℕ
moved_text name words = codes "moved " ++ (name ++ (codes " " ++ (decimal (length words) ++ (codes ":" ++ (flat_map spaced_word words ++ codes "\n")))))

abbrev pub moved_texts : List (List ℕ) → List (List Word) → List ℕ
moved_texts (name ∷ names) (words ∷ moved) = moved_text name words ++ moved_texts names moved
moved_texts _ _ = []

-- ---- the text

abbrev pub names_of : VModule → List (List ℕ)
names_of m = map (λ (c : Channel). c.name) (channels_of m)

-- nothing went through any channel
abbrev pub none_moved : VModule → List (List Word)
none_moved m = map (λ (c : Channel). []) (channels_of m)

abbrev pub cycle_text : VModule → List Row → List Outs → List ℕ
cycle_text m rows outs = rows_text (names_of m) 0 outs ++ moved_texts (names_of m) (moved_over rows outs (none_moved m))
