use Rattle.block_build.proofs.OnNetlist.OnServing.{operands_have_types}
use Rattle.block_build.proofs.OnNetlist.OnVerified.{verified_nodes_read_earlier, verified_next_is_there, verified_next_is_typed}
use Rattle.ir_tree.specs.NodeValues.{node_values}
use Rattle.block_build.specs.Netlist.Procs.{setting_by}
use Rattle.block_build.proofs.netlist.holding.verified_procs_can_be_pipelined.Goals as goal

pub returns-clause-earlier : goal.returns-clause-earlier
returns-clause-earlier c = verified_nodes_read_earlier

pub returns-clause-next : goal.returns-clause-next
returns-clause-next c = verified_next_is_there

pub returns-clause-next_type : goal.returns-clause-next_type
returns-clause-next_type c = verified_next_is_typed

pub returns-clause-types : goal.returns-clause-types
returns-clause-types c =
    λ ir p proc h e s words typed.
    operands_have_types proc.state proc.nodes s (node_values (setting_by ir.channels s words) proc.nodes) typed (c.nodes_have_types.ensures ir p proc s words h e typed)
