-- A simulator: the module, and what it stands at.
use Rattle.std.specs.Prelude.{◌≡◌, ℕ, ◌<◌, List, [], ◌∷◌, ◌++◌, length, All, false}
use Rattle.xb_bits.specs.Word.{Word}
use Rattle.vlog_tree.specs.declared.module.VModule.{VModule}
use Rattle.vlog_tree.specs.declared.row.Row.{Row}
use Rattle.vlog_tree.specs.declared.row.Outs.{Outs}
use Rattle.vlog_tree.specs.Value.{Values, bit}
use Rattle.vlog_tree.specs.Signals.{Declared, IsSignal, signals}
use Rattle.vlog_tree.specs.declared.signal.Role.TheVariants.{RegisterSignal}
use Rattle.vlog_tree.specs.Meaning.{AreDriven}
use Rattle.vlog_tree.specs.Settled.{values_of, widths_of, AreAllDriven, IsOrdered, IsUndriven}
use Rattle.vlog_tree.specs.WellFormed.{IsWired}
use Rattle.vlog_tree.specs.Signals.{declared_widths}
use Rattle.vlog_tree.specs.Rows.{Runs, outs_of}
use Rattle.cycle_sim.specs.Ordered.{taken}

-- what callers see of a simulator: the module, and a number for each of its signals. Of a register it is what the
-- register holds next, of every other signal what it had in the last cycle
pub record SimState : Type 0 where
  pub design : VModule
  pub words : List Word

-- these are the indices of all assignments, in an order in which each reads only what is there before it
pub record IsOrder (m : VModule) (indices : List ℕ) : Type 0 where
  pub within : All (λ place. place < length m.assignments) indices
  pub ordered : IsOrdered (taken m.assignments indices)
  pub covers : (values : Values) → AreDriven values (taken m.assignments indices) → AreDriven values m.assignments
  pub drives : (s : ℕ) → IsUndriven (taken m.assignments indices) s → IsUndriven m.assignments s

-- what a simulator keeps true
pub record IsRunning (m : VModule) (indices : List ℕ) (words before : List Word) : Type 0 where
  pub wired : IsWired m
  pub driven : AreAllDriven m
  pub order : IsOrder m indices
  pub covers : length words ≡ length (signals m)
  pub widths : widths_of words ≡ declared_widths m
  pub clock : values_of words 0 ≡ bit (false)
  pub room : length before ≡ length words

-- registers hold the same
abbrev pub SameRegisters : VModule → Values → Values → Type 0
SameRegisters m held other = (s : ℕ) (d : Declared) → IsSignal m s d → d.role ≡ RegisterSignal → held s ≡ other s

-- the simulator stands where the module stands after these rows, over which it has shown these, and the module can show
-- nothing else
pub record StandsAfter (now : SimState) (rows : List Row) (outs : List Outs) : Type 0 where
  pub held : Values
  pub runs : Runs now.design rows outs held
  pub only : (shown : List Outs) (other : Values) → Runs now.design rows shown other → (shown ≡ outs) × SameRegisters now.design other held
  pub registers : (s : ℕ) (d : Declared) → IsSignal now.design s d → d.role ≡ RegisterSignal → values_of now.words s ≡ held s

-- one more such row leaves the simulator as it is: where the module can stand there, it stands there behind that row too, and shows in
-- it what it showed in the last one. So it is over any number of such rows
abbrev pub IsUnchangedBy : SimState → Row → Type 0
IsUnchangedBy now row = (rows : List Row) (outs : List Outs) → StandsAfter now rows outs
    → StandsAfter now (rows ++ row ∷ []) (outs ++ outs_of now.design (values_of now.words) ∷ [])
