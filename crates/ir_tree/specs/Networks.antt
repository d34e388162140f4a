-- The network of a package.
use Rattle.std.specs.Prelude.{ℕ, ◌^◌, ◌-◌, min, map}
use Rattle.net_core.specs.declared.net.Net.{Net}
use Rattle.net_core.specs.declared.net.ProcHead.{ProcHead}
use Rattle.net_core.specs.declared.net.Chan.{Chan}
use Rattle.net_core.specs.declared.net.Kind.{Kind}
use Rattle.net_core.specs.declared.net.Kind.TheVariants as kind
use Rattle.net_core.specs.Behavior.{Behavior}
use Rattle.std.specs.Prelude.{List}
use Rattle.ir_tree.specs.declared.package.Package.{Package}
use Rattle.ir_tree.specs.declared.package.Proc.{Proc}
use Rattle.ir_tree.specs.declared.package.Channel.{Channel}
use Rattle.ir_tree.specs.declared.package.Ends.{Ends}
use Rattle.ir_tree.specs.declared.package.Ends.TheVariants as ends
use Rattle.ir_tree.specs.Types.{ty_of}
use Rattle.ir_tree.specs.Constants.{constant_value}
use Rattle.ir_tree.specs.Activations.{sites_of, activation}

abbrev pub kind_of : Ends → Kind
kind_of ends.Input = kind.Input
kind_of ends.Output = kind.Output
kind_of (ends.Inner depth) = kind.Inner

-- outer channels have depth 1, which does not count; none is deeper than 2^32 - 1
abbrev pub depth_of : Ends → ℕ
depth_of ends.Input = 1
depth_of ends.Output = 1
depth_of (ends.Inner depth) = min depth (2 ^ 32 - 1)

abbrev pub chan_of : Channel → Chan
chan_of c = record { name = c.name; ty = ty_of c.ty; kind = kind_of c.ends; depth = depth_of c.ends }

abbrev pub head_of : Proc → ProcHead
head_of p = record { path = p.name; state = ty_of p.state; init = constant_value (ty_of p.state) p.init; sites = sites_of p.nodes }

-- the network of a package
abbrev pub network_of : Package → Net
network_of ir = record { name = ir.name; procs = map head_of ir.procs; chans = map chan_of ir.channels }

-- what each of its procs does
abbrev pub behaviors_of : Package → List Behavior
behaviors_of ir = map (activation ir.channels) ir.procs
