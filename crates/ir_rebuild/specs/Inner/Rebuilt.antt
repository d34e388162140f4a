-- A proc and what became of it.
use Rattle.std.specs.Prelude.{◌≡◌, ℕ, List, true}
use Rattle.ir_tree.specs.declared.package.Channel.{Channel}
use Rattle.ir_tree.specs.declared.package.Proc.{Proc}
use Rattle.ir_tree.specs.Activations.{sites_of, activation}
use Rattle.ir_tree.specs.SameBehavior.{SameActivations}
use Rattle.ir_tree.specs.Rules.Lines.{Seen}
use Rattle.ir_tree.specs.Rules.Verified.{nowhere_proc, at_start, seen_after, proc_checks}
use Rattle.ir_tree.specs.Rules.Typed.Typed.{none_broken, AreChannels}

-- a proc that breaks no rule and passes no limit behind procs of these names that leave this
abbrev pub IsCheckedBehind : List Channel → List (List ℕ) → Seen → Proc → Type 0
IsCheckedBehind channels names seen proc = none_broken (proc_checks channels nowhere_proc names seen proc) ≡ true

-- there are such procs
pub record IsCheckedProc (channels : List Channel) (proc : Proc) : Type 0 where
  pub word_types : AreChannels channels
  pub names : List (List ℕ)
  pub seen : Seen
  pub checked : IsCheckedBehind channels names seen proc

-- the new proc is checked where the old one is, leaves the same, and does the same
pub record IsRebuilt (channels : List Channel) (old new : Proc) : Type 0 where
  pub name : new.name ≡ old.name
  pub state : new.state ≡ old.state
  pub init : new.init ≡ old.init
  pub sites : sites_of new.nodes ≡ sites_of old.nodes
  pub checked : (names : List (List ℕ)) (seen : Seen) → IsCheckedBehind channels names seen old → IsCheckedBehind channels names seen new
  pub leaves : (names : List (List ℕ)) (seen : Seen) → IsCheckedBehind channels names seen old → at_start (seen_after 0 (at_start seen) new.nodes) ≡ at_start (seen_after 0 (at_start seen) old.nodes)
  pub same : SameActivations (activation channels old) (activation channels new)
