-- Machines from which an instance or a task was taken, with it.
use Rattle.std.specs.Prelude.{◌∷◌, length, nat_lt, Option, Some}
use Rattle.dslx_meaning.specs.Lists.{and_then, where_true}
use Rattle.dslx_core.specs.Machines.Machine.Tasks.{InstanceMachine, LowerTask, OpenBody, OpenInstance}

abbrev pub with_opened : OpenInstance → InstanceMachine → InstanceMachine
with_opened o m = record { context = m.context; limit = m.limit; root = m.root; opened = o ∷ m.opened }

abbrev pub before_todo : LowerTask → OpenBody → OpenBody
before_todo d body = record body { todo = d ∷ body.todo }

abbrev pub with_task : LowerTask → OpenInstance → OpenInstance
with_task d o = record { instance = o.instance; arguments = o.arguments; body = before_todo d o.body }

abbrev pub with_root_task : LowerTask → InstanceMachine → InstanceMachine
with_root_task d m = record { context = m.context; limit = m.limit; root = before_todo d m.root; opened = m.opened }

-- an instance, if there is one and not too many are open
abbrev pub opened_within : Option OpenInstance → InstanceMachine → Option InstanceMachine
opened_within o m = where_true (nat_lt (length m.opened) m.limit) (and_then o (λ o. Some (with_opened o m)))
