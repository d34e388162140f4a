-- A module that is put together of registers, wires and what drives the ports.
use Rattle.std.specs.Prelude.{◌≡◌, ℕ, suc, ◌+◌, max, codes, decimal, map, List, [], ◌∷◌, ◌++◌}
use Rattle.ir_tree.specs.declared.package.Channel.{Channel}
use Rattle.ir_tree.specs.declared.package.Ends.{Ends}
use Rattle.ir_tree.specs.declared.package.Ends.TheVariants as ends
use Rattle.vlog_tree.specs.declared.expression.Atom.{Atom}
use Rattle.vlog_tree.specs.declared.expression.Expr.TheVariants as expr
use Rattle.vlog_tree.specs.declared.expression.Simple.TheVariants as simple
use Rattle.vlog_tree.specs.declared.module.Assignment.{Assignment}
use Rattle.vlog_tree.specs.declared.module.VModule.{VModule}
use Rattle.vlog_tree.specs.declared.signal.Role.TheVariants.{RegisterSignal, WireSignal}
use Rattle.vlog_tree.specs.Signals.{Declared, declared_port, declared_own}
use Rattle.block_build.specs.declared.netlist.fifos.ChannelEnds.{ChannelEnds}
use Rattle.block_build.specs.declared.netlist.registers.Register.{Register}
use Rattle.block_build.specs.declared.netlist.registers.RegisterList.{RegisterList}
use Rattle.block_build.specs.declared.netlist.wires.WireList.{WireList}
use Rattle.block_build.specs.Netlist.Registers.{resets_of, sets_from}
use Rattle.block_build.specs.Netlist.Wires.{Wire, assigned}
use Rattle.block_verilog.specs.Ports.{declared}

-- ---- names and widths of its own

-- `n_` and the number
abbrev pub own_name : ℕ → List ℕ
own_name number = codes "n_" ++ decimal number

-- registers with the numbers from one on
abbrev pub registers_declared : ℕ → List Register → List Declared
registers_declared n [] = []
registers_declared n (register ∷ registers) = declared (own_name n) RegisterSignal (max register.width 1) ∷ registers_declared (suc n) registers

abbrev pub wires_declared : ℕ → List Wire → List Declared
wires_declared n [] = []
wires_declared n (wire ∷ wires) = declared (own_name n) WireSignal (max wire.width 1) ∷ wires_declared (suc n) wires

-- ---- what drives its ports

abbrev pub port_driver : ℕ → Atom → Assignment
port_driver port a = record { target = record { 0 = port }; value = expr.Simple (simple.Atom a) }

-- at an input whether the module is ready for a word, at an output its word and whether one is valid
abbrev pub drivers_by : ℕ → Ends → ChannelEnds → List Assignment
drivers_by port ends.Input end = port_driver (port + 2) end.ready ∷ []
drivers_by port ends.Output end = port_driver port end.word ∷ port_driver (port + 1) end.offered ∷ []
drivers_by port (ends.Inner depth) end = []

-- of all channels, the first ports of which have these numbers
abbrev pub port_drivers : List Channel → List ℕ → List ChannelEnds → List Assignment
port_drivers [] ports sides = []
port_drivers (channel ∷ channels) [] sides = []
port_drivers (channel ∷ channels) (port ∷ ports) [] = []
port_drivers (channel ∷ channels) (port ∷ ports) (end ∷ sides) = drivers_by port channel.ends end ++ port_drivers channels ports sides

-- ---- the whole

-- a module with these ports, registers, which take these values, and wires
pub record IsAssembled (m : VModule) (ports : List Declared) (registers : RegisterList) (nexts : List Atom) (wires : WireList) (drivers : List Assignment) : Type 0 where
  pub ports_are : map declared_port m.ports ≡ ports
  pub declarations : map declared_own m.declarations ≡ registers_declared registers.first registers.registers.items ++ wires_declared wires.first wires.wires.items
  pub assignments : m.assignments ≡ assigned wires.first wires.wires.items ++ drivers
  pub at_reset : m.at_reset ≡ sets_from registers.first (resets_of registers.registers.items)
  pub at_clock : m.at_clock ≡ sets_from registers.first nexts
