use Rattle.std.proofs.Common.{◌≡◌, map, true, drop}
use Rattle.dslx_core.specs.Types.Typing.{some_fits, shapes_of}
use Rattle.ir_lower_nodes.specs.Exprs.NodeTypes.{arm_node_type}
use Rattle.ir_lower.proofs.types.fitting.some_fits.Given as goal

abbrev pub invariant-arms : goal.invariant-arms
invariant-arms l = some_fits (shapes_of (map arm_node_type (drop l.arm-index l.arms))) l.value ≡ true → some_fits (shapes_of (map arm_node_type l.arms)) l.value ≡ true
