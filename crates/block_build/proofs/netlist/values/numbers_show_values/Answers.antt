use Rattle.block_build.proofs.OnNetlist.OnResults.{binary_shown, unary_shown, compare_shown, shift_shown, reduce_shown, slice_shown, dyn_slice_shown, extend_shown, concat_shown}
use Rattle.block_build.proofs.netlist.values.numbers_show_values.Goals as goal

pub returns-clause-binary : goal.returns-clause-binary
returns-clause-binary c = binary_shown

pub returns-clause-unary : goal.returns-clause-unary
returns-clause-unary c = unary_shown

pub returns-clause-compared : goal.returns-clause-compared
returns-clause-compared c = compare_shown

pub returns-clause-shifted : goal.returns-clause-shifted
returns-clause-shifted c = shift_shown

pub returns-clause-reduced : goal.returns-clause-reduced
returns-clause-reduced c = reduce_shown

pub returns-clause-sliced : goal.returns-clause-sliced
returns-clause-sliced c = slice_shown

pub returns-clause-sliced_from : goal.returns-clause-sliced_from
returns-clause-sliced_from c = dyn_slice_shown

pub returns-clause-extended : goal.returns-clause-extended
returns-clause-extended c = extend_shown

pub returns-clause-joined : goal.returns-clause-joined
returns-clause-joined c = concat_shown
