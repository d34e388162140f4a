use Rattle.std.proofs.Common.{◌≡◌, map, true}
use Rattle.dslx_core.specs.Types.Typing.{each_fits, shapes_of}
use Rattle.ir_lower_nodes.specs.Exprs.NodeTypes.{arm_node_type}
use Rattle.ir_lower.proofs.types.fitting.each_fits.Given as goal

abbrev pub invariant-values : goal.invariant-values
invariant-values l = each_fits (shapes_of (map arm_node_type l.arms)) l.ty l.number ≡ true
