-- The ports that a module must have: `clk` and `rst`, then three for each channel.
use Rattle.std.specs.Prelude.{ℕ, ◌-◌, ◌==◌, ◌&&◌, nat_lt, nat_le, not, Bool, true, false, List, length, take, drop, codes}
use Rattle.std.specs.Str.{bytes_eq}
use Rattle.vlog_tree.specs.declared.module.Port.{Port}
use Rattle.vlog_tree.specs.declared.module.Direction.{Direction}
use Rattle.vlog_tree.specs.declared.module.Direction.TheVariants.{Input, Output}

-- the port that must come next. The last two come behind the data port of their channel
pub data Due : Type 0 where
  Clock : Due
  Reset : Due
  Data : Due
  Valid : Port → Due
  Ready : Port → Due

abbrev pub is_input : Direction → Bool
is_input Input = true
is_input Output = false

abbrev pub same_direction : Direction → Direction → Bool
same_direction Input other = is_input other
same_direction Output other = not (is_input other)

-- an input of one bit with this name
abbrev pub is_bit_input : List ℕ → Port → Bool
is_bit_input name p = bytes_eq p.name name && (is_input p.direction && (p.width == 1))

-- a text is the first k bytes of another, and then the end
abbrev pub continues : ℕ → List ℕ → List ℕ → List ℕ → Bool
continues k base end text = nat_le k (length text) && (bytes_eq (take k text) (take k base) && bytes_eq (drop k text) end)

-- something, then `_data`
abbrev pub names_data : List ℕ → Bool
names_data name = nat_lt 5 (length name) && bytes_eq (drop (length name - 5) name) (codes "_data")

abbrev pub port_fits : Due → Port → Bool
port_fits Clock p = is_bit_input (codes "clk") p
port_fits Reset p = is_bit_input (codes "rst") p
port_fits Data p = names_data p.name
port_fits (Valid data_port) p =
    continues (length data_port.name - 5) data_port.name (codes "_vld") p.name && (same_direction data_port.direction p.direction && (p.width == 1))
port_fits (Ready data_port) p =
    continues (length data_port.name - 5) data_port.name (codes "_rdy") p.name && (not (same_direction data_port.direction p.direction) && (p.width == 1))

-- what must come next behind a port
abbrev pub due_behind : Due → Port → Due
due_behind Clock p = Reset
due_behind Reset p = Data
due_behind Data p = Valid p
due_behind (Valid data_port) p = Ready data_port
due_behind (Ready data_port) p = Data

-- the ports may end here
abbrev pub may_end : Due → Bool
may_end Data = true
may_end _ = false
