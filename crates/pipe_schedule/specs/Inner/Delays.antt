-- Delays by widths that stop at the widest of verified packages.
use Rattle.std.specs.Prelude.{ℕ, ◌-◌, ◌^◌, min, List, map}
use Rattle.delay_model.specs.Delays.{delay_of, timed_by_of}
use Rattle.xb_value.specs.Width.{width_of}
use Rattle.ir_tree.specs.declared.ir_type.IrType.{IrType}
use Rattle.ir_tree.specs.declared.node.Node.{Node}
use Rattle.ir_tree.specs.Types.{ty_of}
use Rattle.ir_tree.specs.declared.package.Proc.{Proc}
use Rattle.ir_tree.specs.NodeValues.{role_of}
use Rattle.pipe_schedule.specs.Timed.{TimedNode, sources_of, type_timed_by}

abbrev pub type_width : IrType → ℕ
type_width t = min (width_of (ty_of t)) (2 ^ 64 - 1)

abbrev pub delay_within : IrType → List Node → Node → ℕ
delay_within state nodes n = delay_of n.op (min (type_width (type_timed_by state nodes n (timed_by_of n.op))) 32768)

abbrev pub timed_node_within : IrType → List Node → Node → TimedNode
timed_node_within state nodes n = record { delay = delay_within state nodes n; sources = sources_of n; role = role_of n }

abbrev pub timed_within : Proc → List TimedNode
timed_within p = map (timed_node_within p.state p.nodes) p.nodes
