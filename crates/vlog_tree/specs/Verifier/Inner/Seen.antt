-- What the code holds, as definitions see it.
use Rattle.std.specs.Prelude.{◌≡◌, ℕ, Bool, false, List, get_or, length}
use Rattle.vlog_tree.specs.declared.verifier.marks.Marks.{Marks}
use Rattle.vlog_tree.specs.Verifier.Parts.{is_target}
use Rattle.vlog_tree.specs.declared.verifier.ports.Due.{Due as RegisterSignal}
use Rattle.vlog_tree.specs.declared.verifier.ports.Due.TheVariants as held
use Rattle.vlog_tree.specs.Verifier.Ports.{Due, Clock, Reset, Data, Valid, Ready}

abbrev pub due_of : RegisterSignal → Due
due_of held.Clock = Clock
due_of held.Reset = Reset
due_of held.Data = Data
due_of (held.Valid p) = Valid p.now
due_of (held.Ready p) = Ready p.now

-- a signal is marked
abbrev pub mark_at : Marks → ℕ → Bool
mark_at marks s = get_or marks.flags.items s false

-- of so many signals these targets are marked
pub record ShowsMarks (count : ℕ) (marks : Marks) (targets : List ℕ) : Type 0 where
  pub size : length marks.flags.items ≡ count
  pub each : (s : ℕ) → mark_at marks s ≡ is_target count targets s
