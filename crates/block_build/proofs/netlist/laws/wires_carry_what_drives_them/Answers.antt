use Rattle.block_build.proofs.OnNetlist.OnWires.{carried_values_are_driven, driven_values_are_carried}
use Rattle.block_build.proofs.netlist.laws.wires_carry_what_drives_them.Goals as goal

pub returns-clause-driven : goal.returns-clause-driven
returns-clause-driven c = carried_values_are_driven

pub returns-clause-only : goal.returns-clause-only
returns-clause-only c = driven_values_are_carried
