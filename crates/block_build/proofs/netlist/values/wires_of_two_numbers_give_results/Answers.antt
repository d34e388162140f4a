use Rattle.block_build.proofs.OnNetlist.OnGiving.{binary_given, comparison_given, shift_given, dyn_slice_given}
use Rattle.block_build.proofs.netlist.values.wires_of_two_numbers_give_results.Goals as goal

pub returns-clause-binary : goal.returns-clause-binary
returns-clause-binary c = binary_given

pub returns-clause-compared : goal.returns-clause-compared
returns-clause-compared c = comparison_given

pub returns-clause-shifted : goal.returns-clause-shifted
returns-clause-shifted c = shift_given

pub returns-clause-sliced : goal.returns-clause-sliced
returns-clause-sliced c = dyn_slice_given
