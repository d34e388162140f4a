use Rattle.dslx_core.proofs.OnTyping.OnCycles.OnText.{instances_free, items_free}
use Rattle.dslx_core.proofs.typing.typing.cycles.accepted_texts_have_no_cycle.Goals as goal

pub returns-clause-item : goal.returns-clause-item
returns-clause-item c = items_free

pub returns-clause-instance : goal.returns-clause-instance
returns-clause-instance c = instances_free
