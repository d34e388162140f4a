-- What a command did: what is expected, but for want of memory and faults of the outside.
use Rattle.std.specs.Prelude.{◌≡◌, ℕ, List, [], ◌∷◌, ◌++◌, Result, Ok, Err, string_bytes}
use Rattle.base.specs.Lists.Prefix.{IsPrefix}
use Rattle.std.specs.Borrow.{Bor}
use Rattle.xb_span.specs.declared.read_error.ReadError.{ReadError}
use Rattle.xb_span.specs.declared.read_error.ReadError.TheVariants.{OutOfMemory}
use Rattle.xls_cmd.specs.declared.shared.refusal.Refusal.{Refusal}
use Rattle.xls_cmd.specs.declared.shared.refusal.Refusal.TheVariants as refusal
use Rattle.xls_cmd.specs.declared.shared.fault.Fault.TheVariants.{Usage, TooBig, Text, Infeasible}
use Rattle.xls_cmd.specs.declared.shared.fault.Fault as code
use Rattle.xls_cmd.specs.Shared.Fault.{Fault, named}
use Rattle.xls_cmd.specs.Shared.Events.{FileEvents}

-- a fault of other steps than loading
abbrev pub IsBehindLoads : {N : Type 0} → code.Fault N → Type 0
IsBehindLoads Usage = ⊥
IsBehindLoads (TooBig name) = ⊥
IsBehindLoads _ = Unit {0}

-- A step behind the loads refuses for want of memory, or with a fault that it gives.
abbrev pub StopsBy : {A : Type 0} → (Result A Fault → Type 0) → Refusal → Type 0
StopsBy step refusal.OutOfMemory = Unit {0}
StopsBy step (refusal.Unread name) = ⊥
StopsBy step (refusal.Fault fault) = step (Err (named fault)) × IsBehindLoads fault
StopsBy step (refusal.Infeasible line) = step (Err (Infeasible (string_bytes line)))

-- the refusal of the text of a file, for a fault of the text or for want of memory
abbrev pub text_refusal : Bor (List ℕ) → ReadError → Refusal
text_refusal name OutOfMemory = refusal.OutOfMemory
text_refusal name error = refusal.Fault (Text name error)

-- a reader refuses for this, or for want of memory
abbrev pub RefusesFor : {A : Type 0} → (Result A ReadError → Type 0) → ReadError → Type 0
RefusesFor reader OutOfMemory = Unit {0}
RefusesFor reader error = reader (Err error)

-- the last of the names
abbrev pub IsLast : List (List ℕ) → List ℕ → Type 0
IsLast names name = (before : List (List ℕ)) × (names ≡ before ++ name ∷ [])

-- a file counts as past the limit only where so many bytes were taken
abbrev pub IsBackedByBytes : FileEvents → Fault → Type 0
IsBackedByBytes files (TooBig name) = files.took_past_limit
IsBackedByBytes files _ = Unit {0}

-- why there is no output, after these names were asked for
abbrev pub IsRefused : (Result (List ℕ) Fault → Type 0) → FileEvents → List (List ℕ) → Refusal → Type 0
IsRefused expected files names refusal.OutOfMemory = files.sound
IsRefused expected files names (refusal.Unread name) = files.faulted × IsLast names name.now
IsRefused expected files names (refusal.Fault fault) = expected (Err (named fault)) × files.sound × IsBackedByBytes files (named fault)
IsRefused expected files names (refusal.Infeasible line) = expected (Err (Infeasible (string_bytes line))) × files.sound

-- a command that names files gave the text that is expected, or refused
abbrev pub GivesExpected : {V : Type 0} → (V → List ℕ) → (Result (List ℕ) Fault → Type 0) → FileEvents → List (List ℕ) → Result V Refusal → Type 0
GivesExpected items expected files names (Ok text) = expected (Ok (items text)) × files.sound
GivesExpected items expected files names (Err refused) = IsRefused expected files names refused

-- Of the files that the words name, the command asked for the first ones in their order, each once, and gave what is expected,
-- its text as `items` shows it.
pub record IsDone {V : Type 0} (items : V → List ℕ) (expected : Result (List ℕ) Fault → Type 0) (named_files : List (List ℕ)) (files : FileEvents) (given : Result V Refusal) : Type 0 where
  pub names : List (List ℕ)
  pub in_order : IsPrefix names named_files
  pub asked : files.asks names
  pub gives : GivesExpected items expected files names given
