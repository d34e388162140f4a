-- What a row file says of a module's rows. Lines are read in their order, and the first line at fault is named.
use Rattle.std.specs.Prelude.{◌≡◌, ◌+◌, ◌<◌, nat_lt, ℕ, Bool, true, false, List, [], ◌∷◌, ◌++◌, replicate, flat_map, Option, Some, None, Result, Ok, Err, if◌then◌else◌}
use Rattle.base.specs.Texts.Lines.{lines_of, positioned}
use Rattle.xb_span.specs.declared.limit.Limit.{Limit}
use Rattle.xb_span.specs.declared.limit.What.TheVariants.{Cycles}
use Rattle.chan_file.specs.declared.refusal.Cause.{Cause}
use Rattle.chan_file.specs.declared.refusal.Cause.TheVariants.{Syntax}
use Rattle.vlog_tree.specs.declared.module.VModule.{VModule}
use Rattle.vlog_tree.specs.declared.row.Row.{Row}
use Rattle.vlog_tree.specs.declared.row.Drive.{Drive}
use Rattle.vlog_tree.specs.Signals.{Channel, channels_of}
use Rattle.cycle_sim.specs.declared.rows.draft.Draft.{Draft}
use Rattle.cycle_sim.specs.declared.rows.line.LineSaid.{LineSaid}
use Rattle.cycle_sim.specs.declared.rows.line.LineSaid.TheVariants.{Nothing, Repeat, Fault}
use Rattle.cycle_sim.specs.declared.rows.refusal.RowError.{RowError}
use Rattle.cycle_sim.specs.declared.rows.refusal.RowError.TheVariants.{Input, Over, OutOfMemory}
use Rattle.cycle_sim.specs.declared.rows.rows.Repeated.{Repeated}
use Rattle.cycle_sim.specs.Rows.Forms.{is_remark, most_rows, pieces_of, reset_of, times_of, without_repeat}
use Rattle.cycle_sim.specs.Rows.Said.{SaysItems, blank_draft}

-- ---- one line

-- a row whose items were all read, or the fault of it that is named
abbrev pub row_or : Bool → ℕ → List Drive → Option Cause → LineSaid
row_or reset times drives None = Repeat (record { row = record { reset = reset; channels = drives }; times = times })
row_or reset times drives (Some cause) = Fault cause

abbrev pub row_by : Bool → ℕ → Draft → LineSaid
row_by reset times draft = row_or reset times draft.drives draft.worst

-- what the pieces of a line say
pub data SaysRow (channels : List Channel) : List (List ℕ) → LineSaid → Type 0 where
  no_row : (head : List ℕ) (items : List (List ℕ)) → reset_of head ≡ None → SaysRow channels (head ∷ items) (Fault Syntax)
  a_row : (head : List ℕ) (items : List (List ℕ)) (reset : Bool) (draft : Draft) → reset_of head ≡ Some reset → SaysItems channels (without_repeat items) (blank_draft channels) draft
      → SaysRow channels (head ∷ items) (row_by reset (times_of items) draft)

-- what a line says
pub data SaysRowLine (channels : List Channel) (line : List ℕ) : LineSaid → Type 0 where
  remark : is_remark line ≡ true → SaysRowLine channels line Nothing
  other : (said : LineSaid) → is_remark line ≡ false → SaysRow channels (pieces_of 0 line) said → SaysRowLine channels line said

-- ---- the lines of a file

-- rows, or the first fault and the position at which its line begins
abbrev pub RowLines : Type 0
RowLines = Result (List Repeated) (Cause × ℕ)

abbrev pub before_rows : Repeated → RowLines → RowLines
before_rows x (Ok xs) = Ok (x ∷ xs)
before_rows x (Err e) = Err e

pub data SaysRowLines (channels : List Channel) : List (ℕ × List ℕ) → RowLines → Type 0 where
  at_end : SaysRowLines channels [] (Ok [])
  behind_nothing : (at : ℕ) (line : List ℕ) (lines : List (ℕ × List ℕ)) (r : RowLines) → SaysRowLine channels line Nothing → SaysRowLines channels lines r → SaysRowLines channels ((at, line) ∷ lines) r
  behind_row : (at : ℕ) (line : List ℕ) (lines : List (ℕ × List ℕ)) (r : RowLines) (x : Repeated) → SaysRowLine channels line (Repeat x) → SaysRowLines channels lines r → SaysRowLines channels ((at, line) ∷ lines) (before_rows x r)
  at_fault : (at : ℕ) (line : List ℕ) (lines : List (ℕ × List ℕ)) (cause : Cause) → SaysRowLine channels line (Fault cause) → SaysRowLines channels ((at, line) ∷ lines) (Err (cause, at))

-- ---- a file

-- how many rows these are, repeats counted
abbrev pub count_rows : List Repeated → ℕ
count_rows [] = 0
count_rows (x ∷ xs) = x.times + count_rows xs

-- the rows, each as often as it is repeated
abbrev pub all_rows : List Repeated → List Row
all_rows xs = flat_map (λ (x : Repeated). replicate x.times x.row) xs

abbrev pub cycles_limit : Limit
cycles_limit = record { what = Cycles; found = 1048577; most = 1048576 }

-- a limit on the rows comes after all faults of lines
abbrev pub limited : RowLines → Result (List Repeated) RowError
limited (Ok xs) = if nat_lt most_rows (count_rows xs) then Err (Over cycles_limit) else Ok xs
limited (Err e) = Err (Input e.0 e.1)

-- the text says these rows of the module, or is refused so
pub record Reads (m : VModule) (text : List ℕ) (r : Result (List Repeated) RowError) : Type 0 where
  pub lines : RowLines
  pub says : SaysRowLines (channels_of m) (positioned 0 (lines_of text)) lines
  pub is : r ≡ limited lines

-- why a text is refused
abbrev pub IsRefusal : VModule → List ℕ → RowError → Type 0
IsRefusal m text OutOfMemory = Unit {0}
IsRefusal m text e = Reads m text (Err e)
