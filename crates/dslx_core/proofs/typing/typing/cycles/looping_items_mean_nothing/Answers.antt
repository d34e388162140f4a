use Rattle.dslx_core.proofs.OnTyping.OnCycles.OfItems.{no_call, no_constant, no_member, no_named_type, no_struct}
use Rattle.dslx_core.proofs.typing.typing.cycles.looping_items_mean_nothing.Goals as goal

pub returns-clause-constant : goal.returns-clause-constant
returns-clause-constant c = no_constant

pub returns-clause-written : goal.returns-clause-written
returns-clause-written c = no_named_type

pub returns-clause-fields : goal.returns-clause-fields
returns-clause-fields c = no_struct

pub returns-clause-member : goal.returns-clause-member
returns-clause-member c = no_member

pub returns-clause-call : goal.returns-clause-call
returns-clause-call c = no_call
