use Rattle.dslx_core.proofs.OnTyping.OnTyped.OfCalls.{counting_gives, reducing_gives, update_given}
use Rattle.dslx_core.proofs.typing.typed.builtins.builtins_give_values_of_their_types.Goals as goal

pub returns-clause-counting : goal.returns-clause-counting
returns-clause-counting c = counting_gives

pub returns-clause-reducing : goal.returns-clause-reducing
returns-clause-reducing c = reducing_gives

pub returns-clause-update : goal.returns-clause-update
returns-clause-update c = update_given
