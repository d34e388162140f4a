use Rattle.dslx_core.proofs.OnTyping.OnSized.OfItems.{function_calls, item_calls, proc_calls}
use Rattle.dslx_core.proofs.OnTyping.OnSized.Joined.{block_of_text_sized, expression_sized, written_type_sized}
use Rattle.dslx_core.proofs.OnTyping.OnSized.Parts.{none, nothing_unknown}
use Rattle.dslx_core.proofs.typing.typing.reached.what_is_sized_reaches_what_it_calls.Goals as goal

pub returns-clause-expression : goal.returns-clause-expression
returns-clause-expression c P e bound on_top context = expression_sized P none e bound on_top context (nothing_unknown bound context)

pub returns-clause-block : goal.returns-clause-block
returns-clause-block c P b bound on_top context = block_of_text_sized P none b bound on_top context (nothing_unknown bound context)

pub returns-clause-written : goal.returns-clause-written
returns-clause-written c P t bound context = (written_type_sized P none t).typed bound context (nothing_unknown bound context)

pub returns-clause-function : goal.returns-clause-function
returns-clause-function c = function_calls

pub returns-clause-proc : goal.returns-clause-proc
returns-clause-proc c = proc_calls

pub returns-clause-item : goal.returns-clause-item
returns-clause-item c = item_calls
