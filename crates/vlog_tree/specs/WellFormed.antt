-- What holds of a module that breaks no rule and passes no limit.
use Rattle.std.specs.Prelude.{◌≡◌, ◌≢◌, ℕ, ◌+◌, ◌<◌, ◌≤◌, ◌^◌, List, [], ◌∷◌, ◌++◌, length, slice_get, Option, Some, Contains, All}
use Rattle.std.specs.List.{AllByRecursion}
use Rattle.vlog_tree.specs.declared.module.VModule.{VModule}
use Rattle.vlog_tree.specs.declared.module.Port.{Port}
use Rattle.vlog_tree.specs.declared.module.Direction.{Direction}
use Rattle.vlog_tree.specs.declared.module.Direction.TheVariants.{Input, Output}
use Rattle.vlog_tree.specs.declared.module.Assignment.{Assignment}
use Rattle.vlog_tree.specs.declared.module.Set.{Set}
use Rattle.vlog_tree.specs.declared.expression.Atom.{Atom}
use Rattle.vlog_tree.specs.declared.expression.Atom.TheVariants as atom
use Rattle.vlog_tree.specs.Signals.{Declared, IsSignal, signals, declared_widths}
use Rattle.vlog_tree.specs.declared.signal.Role.TheVariants.{RegisterSignal}
use Rattle.vlog_tree.specs.Forms.{Widths, atom_width, reads}
use Rattle.vlog_tree.specs.Sound.{IsKnownAtom, IsSoundAssignment}
use Rattle.vlog_tree.specs.Settled.{DrivesWires, AreAllDriven}

-- the wire t reads the signal s, itself or by way of other wires
pub data ReadsThrough (m : VModule) : ℕ → ℕ → Type 0 where
  reads_it : (i k s : ℕ) (a : Assignment) → slice_get m.assignments i ≡ Some a → slice_get (reads a.value) k ≡ Some s → ReadsThrough m a.target.0 s
  by_way : (t u s : ℕ) → ReadsThrough m t u → ReadsThrough m u s → ReadsThrough m t s

-- no two assignments drive one signal
abbrev pub DriveApart : List Assignment → Type 0
DriveApart assignments = (i j : ℕ) (a b : Assignment) → slice_get assignments i ≡ Some a → slice_get assignments j ≡ Some b → a.target.0 ≡ b.target.0 → i ≡ j

-- a set gives a register a number of its width
pub record IsSoundSet (m : VModule) (set : Set) : Type 0 where
  pub target : (d : Declared) × IsSignal m set.target.0 d × (d.role ≡ RegisterSignal)
  pub known : IsKnownAtom (length (signals m)) set.value
  pub fit : atom_width (declared_widths m) set.value ≡ declared_widths m set.target.0

-- the ports behind `clk` and `rst` are channels: data and `vld` in one direction, `rdy` in the other, both of one bit
abbrev pub AreChannelPorts : List Port → Type 0
AreChannelPorts [] = Unit {0}
AreChannelPorts (data_port ∷ valid ∷ ready ∷ ports) =
    (valid.direction ≡ data_port.direction) × (ready.direction ≢ data_port.direction) × (valid.width ≡ 1) × (ready.width ≡ 1) × AreChannelPorts ports
AreChannelPorts _ = ⊥

pub record HasPorts (m : VModule) : Type 0 where
  pub clock : Port
  pub reset : Port
  pub channels : List Port
  pub are : m.ports ≡ clock ∷ reset ∷ channels
  pub clock_in : clock.direction ≡ Input
  pub clock_wide : clock.width ≡ 1
  pub reset_in : reset.direction ≡ Input
  pub reset_wide : reset.width ≡ 1
  pub rest : AreChannelPorts channels

-- what a simulator needs of a module, but for an order of its assignments: each part can be evaluated
pub record IsWired (m : VModule) : Type 0 where
  pub ports : HasPorts m
  pub port_widths : All (λ p. (1 ≤ p.width) × (p.width ≤ 128)) m.ports
  pub own_widths : All (λ d. (1 ≤ d.width) × (d.width ≤ 128)) m.declarations
  pub assignments : All (IsSoundAssignment (length (signals m)) (declared_widths m)) m.assignments
  pub wires : DrivesWires m m.assignments
  pub resets : All (IsSoundSet m) m.at_reset
  pub clocks : All (IsSoundSet m) m.at_clock

-- a module that can be simulated: each part can be evaluated, each wire has one driver, and no wire depends on itself
-- without a register between
pub record CanRun (m : VModule) : Type 0 where
  pub wired : IsWired m
  pub apart : DriveApart m.assignments
  pub driven : AreAllDriven m
  pub acyclic : (s : ℕ) → ¬ (ReadsThrough m s s)
  pub few : length m.assignments < 2 ^ 32
