use Rattle.std.proofs.Common.{subst}
use Rattle.xls_cmd.specs.Shared.Events.{PutsOrBreaksOff, sink_events}
use Rattle.xls_cmd.proofs.OnShared.Putting.{shown}
use Rattle.xls_cmd.proofs.shared.response.put_refusal.Goals as goal

pub returns-in-OutOfMemory : goal.returns-in-OutOfMemory
returns-in-OutOfMemory g c = rw c.in-OutOfMemory.is (shown _ _ c.put_pieces.result c.put_pieces.ensures.ok c.put_pieces.ensures.failed)

pub returns-in-Unread : goal.returns-in-Unread
returns-in-Unread g c = rw c.in-Unread.is (shown _ _ c.put_pieces-in-Unread.result c.put_pieces-in-Unread.ensures.ok c.put_pieces-in-Unread.ensures.failed)

pub returns-in-Infeasible : goal.returns-in-Infeasible
returns-in-Infeasible g c =
    rw c.in-Infeasible.is
    (subst (PutsOrBreaksOff (sink_events g.S.Sink.written g.S.Sink.faults c.args.sink.now c.put_line-in-Infeasible.new.sink)) c.as_str.ensures.value
    (shown _ _ c.put_line-in-Infeasible.result c.put_line-in-Infeasible.ensures.ok c.put_line-in-Infeasible.ensures.failed))
