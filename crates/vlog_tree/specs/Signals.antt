-- What the signals of a module are: the ports in order, then the declarations.
use Rattle.std.specs.Prelude.{◌≡◌, ℕ, ◌-◌, List, [], ◌∷◌, ◌++◌, map, length, take, drop, slice_get, Some, true, false, option_map, unwrap_or}
use Rattle.vlog_tree.specs.declared.module.VModule.{VModule}
use Rattle.vlog_tree.specs.declared.module.Port.{Port}
use Rattle.vlog_tree.specs.declared.module.Direction.{Direction}
use Rattle.vlog_tree.specs.declared.module.Direction.TheVariants.{Input, Output}
use Rattle.vlog_tree.specs.declared.module.Declaration.{Declaration}
use Rattle.vlog_tree.specs.declared.module.Storage.{Storage}
use Rattle.vlog_tree.specs.declared.module.Storage.TheVariants as storage
use Rattle.vlog_tree.specs.declared.signal.Role.{Role}
use Rattle.vlog_tree.specs.declared.signal.Role.TheVariants.{InputSignal, WireSignal, RegisterSignal}
use Rattle.vlog_tree.specs.Forms.{Widths}

pub record Declared : Type 0 where
  pub name : List ℕ
  pub role : Role
  pub width : ℕ

abbrev pub port_role : Direction → Role
port_role Input = InputSignal
port_role Output = WireSignal

abbrev pub storage_role : Storage → Role
storage_role storage.Wire = WireSignal
storage_role storage.Register = RegisterSignal

abbrev pub declared_port : Port → Declared
declared_port p = record { name = p.name; role = port_role p.direction; width = p.width }

abbrev pub declared_own : Declaration → Declared
declared_own d = record { name = d.name; role = storage_role d.storage; width = d.width }

-- the signals of a module, each at its index
abbrev pub signals : VModule → List Declared
signals m = map declared_port m.ports ++ map declared_own m.declarations

-- signal s of the module is this one
abbrev pub IsSignal : VModule → ℕ → Declared → Type 0
IsSignal m s d = slice_get (signals m) s ≡ Some d

-- the width of each signal, as declared
abbrev pub declared_widths : VModule → Widths
declared_widths m s = unwrap_or (option_map (λ d. d.width) (slice_get (signals m) s)) 1

-- a channel of the module: its ports are `NAME_data`, `NAME_vld` and `NAME_rdy`. The outside puts words at an input and
-- takes them at an output; its direction is that of the first two ports, and its width that of the first
pub record Channel : Type 0 where
  pub name : List ℕ
  pub direction : Direction
  pub width : ℕ

-- the channel of a data port: its name is the port's without the last five bytes
abbrev pub channel_of : Port → Channel
channel_of p = record { name = take (length p.name - 5) p.name; direction = p.direction; width = p.width }

-- the channels of the ports behind `clk` and `rst`, three in a row for each
abbrev pub channels_at : List Port → List Channel
channels_at (data_port ∷ _valid ∷ _ready ∷ ports) = channel_of data_port ∷ channels_at ports
channels_at _ = []

abbrev pub channels_of : VModule → List Channel
channels_of m = channels_at (drop 2 m.ports)
