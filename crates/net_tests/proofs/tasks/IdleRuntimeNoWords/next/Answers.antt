use Rattle.net_tests.proofs.Idle.{idle_next}
use Rattle.net_tests.proofs.tasks.IdleRuntimeNoWords.next.Goals as goal

pub returns-clause-event : goal.returns-clause-event
returns-clause-event c = idle_next c.args._number c.args.state.now c.in_ok-copy.field-0 c.args._got.now c.args._done c.in_ok-copy.ensures
