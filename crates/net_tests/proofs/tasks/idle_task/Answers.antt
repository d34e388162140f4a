use Rattle.net_tests.proofs.Idle.{idle_opens_as}
use Rattle.net_tests.proofs.tasks.idle_task.Goals as goal

pub new-requires-6 : goal.new-requires-6
new-requires-6 c = idle_opens_as c.args.lines.now c.new-2.result.items c.new.result c.new-3.result.items c.new-4.result.items c.new-5.result.items c.new-2.ensures.items c.new.ensures c.new-3.ensures.items c.new-4.ensures.items c.new-5.ensures.items
