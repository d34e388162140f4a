-- The ports of a module: `clk`, `rst`, and three for each outer channel.
use Rattle.std.specs.Prelude.{ℕ, ◌+◌, ◌-◌, ◌^◌, max, min, codes, List, [], ◌∷◌, ◌++◌}
use Rattle.xb_value.specs.Width.{width_of}
use Rattle.ir_tree.specs.declared.package.Channel.{Channel}
use Rattle.ir_tree.specs.declared.package.Ends.{Ends}
use Rattle.ir_tree.specs.declared.package.Ends.TheVariants as ends
use Rattle.ir_tree.specs.Types.{ty_of}
use Rattle.vlog_tree.specs.declared.signal.Role.{Role}
use Rattle.vlog_tree.specs.declared.signal.Role.TheVariants.{InputSignal, WireSignal}
use Rattle.vlog_tree.specs.Signals.{Declared}

abbrev pub declared : List ℕ → Role → ℕ → Declared
declared name role width = record { name = name; role = role; width = width }

-- how many bits the flat words of a channel have, as a number of 64 bits has it; and its data, one at least
abbrev pub flat_bits : Channel → ℕ
flat_bits channel = min (width_of (ty_of channel.ty)) (2 ^ 64 - 1)

abbrev pub data_bits : Channel → ℕ
data_bits channel = max (flat_bits channel) 1

-- the ports of an outer channel: its data and `vld` are given by one side, `rdy` by the other
abbrev pub channel_ports : Channel → Role → Role → List Declared
channel_ports channel there back =
    declared (channel.name ++ codes "_data") there (data_bits channel)
    ∷ declared (channel.name ++ codes "_vld") there 1
    ∷ declared (channel.name ++ codes "_rdy") back 1
    ∷ []

abbrev pub ports_by : Channel → Ends → List Declared
ports_by channel ends.Input = channel_ports channel InputSignal WireSignal
ports_by channel ends.Output = channel_ports channel WireSignal InputSignal
ports_by channel (ends.Inner depth) = []

abbrev pub ports_of : List Channel → List Declared
ports_of [] = []
ports_of (channel ∷ channels) = ports_by channel channel.ends ++ ports_of channels

abbrev pub module_ports : List Channel → List Declared
module_ports channels = declared (codes "clk") InputSignal 1 ∷ declared (codes "rst") InputSignal 1 ∷ ports_of channels

-- ---- where they stand

abbrev pub count_ports : Ends → ℕ
count_ports ends.Input = 3
count_ports ends.Output = 3
count_ports (ends.Inner depth) = 0

-- the number of the first port of each channel, or of the next one's where it has none
abbrev pub ports_from : ℕ → List Channel → List ℕ
ports_from k [] = []
ports_from k (channel ∷ channels) = k ∷ ports_from (k + count_ports channel.ends) channels
