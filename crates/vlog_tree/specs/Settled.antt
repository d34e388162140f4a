-- Assignments in an order in which each reads only what the outside gives, what registers hold and what earlier ones
-- drive; and what they give when they are taken in that order, one after another.
use Rattle.std.specs.Prelude.{◌≡◌, ◌≢◌, ℕ, ◌<◌, List, [], ◌∷◌, length, slice_set, slice_get, unwrap_or}
use Rattle.std.specs.List.{AllByRecursion}
use Rattle.xb_bits.specs.Word.{Word, word}
use Rattle.vlog_tree.specs.declared.module.Assignment.{Assignment}
use Rattle.vlog_tree.specs.declared.module.VModule.{VModule}
use Rattle.vlog_tree.specs.Signals.{Declared, IsSignal, signals}
use Rattle.vlog_tree.specs.declared.signal.Role.TheVariants.{InputSignal, WireSignal, RegisterSignal}
use Rattle.vlog_tree.specs.Value.{Values, expr_value}
use Rattle.vlog_tree.specs.Forms.{Widths, reads}

-- the number of each signal, from a list with one for each
abbrev pub values_of : List Word → Values
values_of words s = unwrap_or (slice_get words s) (word 1 0)

abbrev pub widths_of : List Word → Widths
widths_of words s = (values_of words s).width

-- none of the assignments drives signal s
abbrev pub IsUndriven : List Assignment → ℕ → Type 0
IsUndriven assignments s = AllByRecursion (λ a. a.target.0 ≢ s) assignments

-- each assignment reads nothing that it or a later one drives, and no two drive one signal
abbrev pub IsOrdered : List Assignment → Type 0
IsOrdered [] = Unit {0}
IsOrdered (a ∷ later) = AllByRecursion (IsUndriven (a ∷ later)) (reads a.value) × IsUndriven later a.target.0 × IsOrdered later

-- the signals' numbers after the assignments were taken in turn
abbrev pub settled : List Assignment → List Word → List Word
settled [] words = words
settled (a ∷ later) words = settled later (slice_set words a.target.0 (expr_value (values_of words) a.value))

-- words for all signals of a module, in which inputs have the values of `given` and registers those of `held`
pub record AreReady (m : VModule) (held given : Values) (words : List Word) : Type 0 where
  pub covers : length words ≡ length (signals m)
  pub inputs : (s : ℕ) (d : Declared) → IsSignal m s d → d.role ≡ InputSignal → values_of words s ≡ given s
  pub registers : (s : ℕ) (d : Declared) → IsSignal m s d → d.role ≡ RegisterSignal → values_of words s ≡ held s

-- each assignment of the module drives a wire or an output of it
abbrev pub DrivesWires : VModule → List Assignment → Type 0
DrivesWires m assignments = AllByRecursion (λ a. (d : Declared) × IsSignal m a.target.0 d × (d.role ≡ WireSignal)) assignments

-- each assignment reads signals of the module alone
abbrev pub ReadsSignals : ℕ → List Assignment → Type 0
ReadsSignals count assignments = AllByRecursion (λ a. AllByRecursion (λ s. s < count) (reads a.value)) assignments

-- each wire and output is driven
abbrev pub AreAllDriven : VModule → Type 0
AreAllDriven m = (s : ℕ) (d : Declared) → IsSignal m s d → d.role ≡ WireSignal → ¬ (IsUndriven m.assignments s)
