-- A netlist's wires. What they carry is said by equations alone: each has the value of what drives it. So each part of a
-- netlist speaks of its own wires, wherever they stand among the others. That there are such values, and only these, is the
-- law of wires in an order in which each reads only ports, registers and earlier wires.
use Rattle.std.specs.Prelude.{ℕ, suc, ◌<◌, List, [], ◌∷◌, ◌==◌, if◌then◌else◌}
use Rattle.std.specs.List.{AllByRecursion}
use Rattle.xb_bits.specs.Word.{Word}
use Rattle.block_build.specs.declared.netlist.wires.Wire as declared
use Rattle.vlog_tree.specs.declared.module.Assignment.{Assignment}
use Rattle.vlog_tree.specs.Value.{Values, expr_value}
use Rattle.vlog_tree.specs.Forms.{reads}
use Rattle.vlog_tree.specs.Meaning.{AreDriven}

-- a wire: how many bits it has, and what drives it. Its name is its number
abbrev pub Wire : Type 0
Wire = declared.Wire

-- wires with the numbers from n on, as assignments of a module
abbrev pub assigned : ℕ → List Wire → List Assignment
assigned n [] = []
assigned n (wire ∷ wires) = record { target = record { 0 = n }; value = wire.driver } ∷ assigned (suc n) wires

-- by these values each of them has what drives it
abbrev pub AreWired : Values → ℕ → List Wire → Type 0
AreWired values n wires = AreDriven values (assigned n wires)

-- each wire reads signals with smaller numbers than its own
abbrev pub ReadEarlier : ℕ → List Wire → Type 0
ReadEarlier n [] = Unit {0}
ReadEarlier n (wire ∷ wires) = AllByRecursion (λ s. s < n) (reads wire.driver) × ReadEarlier (suc n) wires

-- what a signal carries where this one carries that
abbrev pub with_signal : ℕ → Word → Values → Values
with_signal n w values s = if n == s then w else values s

-- what all signals carry: ports and registers carry these values, and each wire in turn the value of what drives it
abbrev pub carried : ℕ → List Wire → Values → Values
carried n [] values = values
carried n (wire ∷ wires) values = carried (suc n) wires (with_signal n (expr_value values wire.driver) values)
