use Rattle.std.proofs.Common.{suc, length, arith}
use Rattle.dslx_core.proofs.OnTyping.OnLaws.Endings.{only_meanings, recursion_settles}
use Rattle.dslx_core.proofs.typing.laws.recursion_ends.Goals as goal

pub returns-clause-longer : goal.returns-clause-longer
returns-clause-longer c = λ m free n h. recursion_settles m free n (length m.items) h (omega arith)

pub returns-clause-settled : goal.returns-clause-settled
returns-clause-settled c = λ m free. recursion_settles m free (suc (length m.items)) (length m.items) (omega arith) (omega arith)

pub returns-clause-only : goal.returns-clause-only
returns-clause-only c = only_meanings
