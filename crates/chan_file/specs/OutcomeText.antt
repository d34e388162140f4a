-- What is printed of an outcome: a line for each channel, and then a line for each proc.
use Rattle.std.specs.Prelude.{ℕ, zero, suc, List, [], ◌∷◌, ◌++◌, codes, decimal, flat_map, length, Option, Some, None, if◌then◌else◌}
use Rattle.xb_bits.specs.Word.{Word}
use Rattle.xb_value.specs.Text.{text_of}
use Rattle.xb_value.specs.Unflat.{unflat_of}
use Rattle.net_core.specs.declared.net.Net.{Net}
use Rattle.net_core.specs.declared.net.Chan.{Chan}
use Rattle.net_core.specs.declared.net.ProcHead.{ProcHead}
use Rattle.net_core.specs.declared.net.Kind.{Kind}
use Rattle.net_core.specs.declared.net.Kind.TheVariants as kind
use Rattle.net_core.specs.declared.outcome.Outcome.{Outcome}
use Rattle.net_core.specs.declared.outcome.Stream.{Stream}
use Rattle.net_core.specs.declared.outcome.ProcEnd.{ProcEnd}
use Rattle.net_core.specs.declared.outcome.Stall.{Stall}

-- ---- channels

-- a word as a value of its channel's type, with one space before it
abbrev pub word_text : Chan → Word → List ℕ
word_text chan w = 32 ∷ text_of (unflat_of chan.ty w.value)

abbrev pub kind_text : Kind → List ℕ
kind_text kind.Input = codes "in "
kind_text kind.Output = codes "out "
kind_text kind.Inner = codes "chan "

-- how many words, and of an inner channel how many of them were received
abbrev pub counts_text : Kind → ℕ → ℕ → List ℕ
counts_text kind.Input count received = decimal count
counts_text kind.Output count received = decimal count
counts_text kind.Inner count received = decimal count ++ codes "/" ++ decimal received

-- `in NAME R:`, `out NAME S:` or `chan NAME S/R:`
abbrev pub stream_head : Chan → ℕ → ℕ → List ℕ
stream_head chan count received = kind_text chan.kind ++ chan.name ++ codes " " ++ counts_text chan.kind count received ++ codes ":"

-- the head, and behind it the words
abbrev pub stream_line : Chan → Stream → List ℕ
stream_line chan stream = stream_head chan (length stream.words) stream.received ++ flat_map (word_text chan) stream.words ++ codes "\n"

-- ---- procs

abbrev pub chan_name : List Chan → ℕ → List ℕ
chan_name [] c = []
chan_name (chan ∷ chans) zero = chan.name
chan_name (chan ∷ chans) (suc c) = chan_name chans c

-- `done`, or `stalled`, the activation, the direction and the channel
abbrev pub end_text : List Chan → Option Stall → List ℕ
end_text chans None = codes " done"
end_text chans (Some stall) =
    codes " stalled " ++ decimal stall.activation ++ (if stall.sends then codes " send " else codes " recv ") ++ chan_name chans stall.chan

-- `proc PATH state VALUE done`, or the same with how it stalled
abbrev pub proc_line : List Chan → ProcHead → ProcEnd → List ℕ
proc_line chans head end = codes "proc " ++ head.path ++ codes " state " ++ text_of end.state ++ end_text chans end.stall ++ codes "\n"

-- ---- the text

-- a line for each two at one index
abbrev pub lines_by : {A B : Type 0} → (A → B → List ℕ) → List A → List B → List ℕ
lines_by line (x ∷ xs) (y ∷ ys) = line x y ++ lines_by line xs ys
lines_by line _ _ = []

abbrev pub outcome_text : Net → Outcome → List ℕ
outcome_text net outcome = lines_by stream_line net.chans outcome.streams ++ lines_by (proc_line net.chans) net.procs outcome.procs
