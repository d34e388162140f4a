-- What is put for what a command gave, and the status.
use Rattle.std.specs.Prelude.{◌≡◌, ◌++◌, ◌⊎◌, ℕ, List, codes, string_bytes}
use Rattle.xls_cmd.specs.declared.shared.refusal.Refusal.{Refusal}
use Rattle.xls_cmd.specs.declared.shared.refusal.Refusal.TheVariants as refusal
use Rattle.xls_cmd.specs.declared.shared.fault.Fault.TheVariants.{Infeasible}
use Rattle.xls_cmd.specs.Shared.Fault.{line_of, named, status_of}
use Rattle.xls_cmd.specs.Shared.Events.{SinkEvents, PutsOrBreaksOff}

-- the output was written and nothing else, or it broke off
abbrev pub Writes : SinkEvents → SinkEvents → List ℕ → ℕ → Type 0
Writes out err text status =
    ((status ≡ 0) × out.puts text × err.untouched) ⊎ ((status ≡ 5) × out.breaks_off text × PutsOrBreaksOff err (codes "cannot write\n"))

-- the line and the status of a refusal
abbrev pub refusal_line : Refusal → List ℕ
refusal_line refusal.OutOfMemory = codes "out of memory\n"
refusal_line (refusal.Unread name) = codes "cannot read " ++ name.now ++ codes "\n"
refusal_line (refusal.Fault fault) = line_of (named fault)
refusal_line (refusal.Infeasible line) = line_of (Infeasible (string_bytes line))

abbrev pub refusal_status : Refusal → ℕ
refusal_status refusal.OutOfMemory = 3
refusal_status (refusal.Unread name) = 4
refusal_status (refusal.Fault fault) = status_of fault
refusal_status (refusal.Infeasible line) = status_of (Infeasible (string_bytes line))

abbrev pub ShowsRefusal : SinkEvents → SinkEvents → Refusal → ℕ → Type 0
ShowsRefusal out err refused status = out.untouched × (status ≡ refusal_status refused) × PutsOrBreaksOff err (refusal_line refused)
