-- What a list of wires promises when wires are put behind it.
use Rattle.std.specs.Prelude.{◌≡◌, ℕ, ◌+◌, List, [], ◌∷◌, ◌++◌, length}
use Rattle.vlog_tree.specs.declared.expression.Atom.{Atom}
use Rattle.vlog_tree.specs.Value.{Values}
use Rattle.block_build.specs.declared.netlist.wires.WireList.{WireList}
use Rattle.block_build.specs.Netlist.Wires.{Wire, AreWired}
use Rattle.block_build.specs.Netlist.Gates.{net}

-- by these values each wire of a list carries what drives it
abbrev pub Carries : Values → WireList → Type 0
Carries v list = AreWired v list.first list.wires.items

-- the number of the next wire
abbrev pub next_number : WireList → ℕ
next_number list = list.first + length list.wires.items

-- the wires of the first list are still there; and by all values by which those of the second carry what drives them, this holds
abbrev pub AddsWires : WireList → WireList → (Values → Type 0) → Type 0
AddsWires old new P = (v : Values) → Carries v new → Carries v old × P v

-- these wires are put behind those that are there
pub record Puts (old new : WireList) (wires : List Wire) : Type 0 where
  pub first : new.first ≡ old.first
  pub put : new.wires.items ≡ old.wires.items ++ wires
  pub wired : AddsWires old new (λ v. AreWired v (next_number old) wires)

-- one wire is put behind them, and this is its signal
pub record PutsNet (old new : WireList) (wire : Wire) (signal : Atom) : Type 0 where
  pub number : signal ≡ net (next_number old)
  pub puts : Puts old new (wire ∷ [])
