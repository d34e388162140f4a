use Rattle.dslx_core.proofs.OnTyping.OnDepends.Groups.{function_sees_types, proc_sees_types}
use Rattle.dslx_core.proofs.typing.depends.depends.a_group_sees_types_alone.Goals as goal

pub returns-clause-of_function : goal.returns-clause-of_function
returns-clause-of_function c = function_sees_types

pub returns-clause-of_proc : goal.returns-clause-of_proc
returns-clause-of_proc c = proc_sees_types
