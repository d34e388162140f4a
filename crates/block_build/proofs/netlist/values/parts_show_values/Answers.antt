use Rattle.block_build.proofs.OnNetlist.OnLeaves.{nothing_shown, tuple_shown, array_shown, shown_at, signal_count_is}
use Rattle.block_build.proofs.OnNetlist.OnResults.{tuple_index_shown}
use Rattle.block_build.proofs.netlist.values.parts_show_values.Goals as goal

pub returns-clause-token : goal.returns-clause-token
returns-clause-token c = nothing_shown

pub returns-clause-tuple : goal.returns-clause-tuple
returns-clause-tuple c = tuple_shown

pub returns-clause-array : goal.returns-clause-array
returns-clause-array c = array_shown

pub returns-clause-part : goal.returns-clause-part
returns-clause-part c = tuple_index_shown

pub returns-clause-element : goal.returns-clause-element
returns-clause-element c = shown_at

pub returns-clause-count : goal.returns-clause-count
returns-clause-count c = signal_count_is
