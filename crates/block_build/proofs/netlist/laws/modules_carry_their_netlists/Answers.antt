use Rattle.block_build.proofs.OnNetlist.OnSets.{module_wires_are_driven, set_is_taken, unset_stays}
use Rattle.block_build.proofs.netlist.laws.modules_carry_their_netlists.Goals as goal

pub returns-clause-wires : goal.returns-clause-wires
returns-clause-wires c = module_wires_are_driven

pub returns-clause-taken : goal.returns-clause-taken
returns-clause-taken c = set_is_taken

pub returns-clause-kept : goal.returns-clause-kept
returns-clause-kept c = unset_stays
