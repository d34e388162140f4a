-- Registers that are laid out one behind another, with what they are reset to.
use Rattle.std.specs.Prelude.{◌≡◌, ℕ, suc, ◌+◌, ◌-◌, max, map, List, [], ◌∷◌, ◌++◌, length}
use Rattle.std.specs.Int.Count.{count_leading_zeros}
use Rattle.vlog_tree.specs.declared.expression.Atom.{Atom}
use Rattle.vlog_tree.specs.declared.module.Set.{Set}
use Rattle.vlog_tree.specs.Value.{Values, atom_value}
use Rattle.block_build.specs.declared.netlist.fifos.Fifo.{Fifo}
use Rattle.block_build.specs.declared.netlist.registers.Register.{Register}
use Rattle.block_build.specs.declared.netlist.registers.RegisterList.{RegisterList}
use Rattle.block_build.specs.Netlist.Gates.{net}
use Rattle.block_build.specs.Netlist.Literals.{literal_atom}

-- the number of the next register
abbrev pub next_register : RegisterList → ℕ
next_register list = list.first + length list.registers.items

-- these registers are laid behind those that are there
pub record Lays (old new : RegisterList) (registers : List Register) : Type 0 where
  pub first : new.first ≡ old.first
  pub laid : new.registers.items ≡ old.registers.items ++ registers

-- one that is reset to 0
abbrev pub zero_register : ℕ → Register
zero_register width = record { width = width; reset = literal_atom width 0 }

-- how many bits a count up to a depth has, one at least
abbrev pub count_bits : ℕ → ℕ
count_bits depth = max (32 - count_leading_zeros 32 depth) 1

-- a FIFO whose registers stand from one on
abbrev pub laid_fifo : ℕ → ℕ → ℕ → Fifo
laid_fifo depth width k = record { depth = depth; width = width; count_width = count_bits depth; count = net k; slots = suc k }

-- ---- what they hold next

-- what they are reset to
abbrev pub resets_of : List Register → List Atom
resets_of registers = map (λ (register : Register). register.reset) registers

-- registers from one on take what stands on these signals
abbrev pub AreTaken : Values → Values → ℕ → List Atom → Type 0
AreTaken v next k [] = Unit {0}
AreTaken v next k (a ∷ atoms) = (next k ≡ atom_value v a) × AreTaken v next (suc k) atoms

-- the sets of a module by which they do
abbrev pub sets_from : ℕ → List Atom → List Set
sets_from k [] = []
sets_from k (a ∷ atoms) = record { target = record { 0 = k }; value = a } ∷ sets_from (suc k) atoms
