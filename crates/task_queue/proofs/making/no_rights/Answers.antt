use Rattle.std.proofs.Common.{List, Option, ◌+◌, sym, subst}
use Rattle.task_queue.specs.declared.lane.deque.Thief.{Thief}
use Rattle.task_queue.specs.Inner.Making.{AreNone}
use Rattle.task_queue.proofs.OnMaking.{no_none, more_none}
use Rattle.task_queue.proofs.making.no_rights.Goals as goal

pub loop-init : goal.loop-init
loop-init g c = no_none c.new-rights.result.items c.new-rights.ensures.items

pub loop-preserved : goal.loop-preserved
loop-preserved g c = subst (λ (rs : List (Option (Thief _ _))). AreNone (c.loop.counter + 1) rs) (sym c.in_ok-push.ensures.items) (more_none c.loop.counter c.loop.rights.items c.loop.invariant)
