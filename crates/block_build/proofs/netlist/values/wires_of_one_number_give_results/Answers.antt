use Rattle.block_build.proofs.OnNetlist.OnGiving.{complement_given, negation_given, reverse_given, reduction_given, slice_given, zero_extension_given, sign_extension_given, concat_given}
use Rattle.block_build.proofs.netlist.values.wires_of_one_number_give_results.Goals as goal

pub returns-clause-complement : goal.returns-clause-complement
returns-clause-complement c = complement_given

pub returns-clause-negative : goal.returns-clause-negative
returns-clause-negative c = negation_given

pub returns-clause-reversed : goal.returns-clause-reversed
returns-clause-reversed c = reverse_given

pub returns-clause-reduced : goal.returns-clause-reduced
returns-clause-reduced c = reduction_given

pub returns-clause-sliced : goal.returns-clause-sliced
returns-clause-sliced c = slice_given

pub returns-clause-zero_extended : goal.returns-clause-zero_extended
returns-clause-zero_extended c = zero_extension_given

pub returns-clause-sign_extended : goal.returns-clause-sign_extended
returns-clause-sign_extended c = sign_extension_given

pub returns-clause-joined : goal.returns-clause-joined
returns-clause-joined c = concat_given
