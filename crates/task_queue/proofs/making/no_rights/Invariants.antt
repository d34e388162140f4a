use Rattle.task_queue.specs.Inner.Making.{AreNone}
use Rattle.task_queue.proofs.making.no_rights.Given as goal

abbrev pub invariant-loop : goal.invariant-loop
invariant-loop g l = AreNone l.counter l.rights.items
