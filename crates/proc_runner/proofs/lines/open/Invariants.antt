use Rattle.std.proofs.Common.{◌≡◌, ℕ}
use Rattle.net_core.specs.Cuts.{Run}
use Rattle.chan_queue.specs.Streams.Streams.{stream_in}
use Rattle.proc_runner.specs.Inner.Opened.{AreOpened}
use Rattle.proc_runner.proofs.lines.open.Given as goal

abbrev pub invariant-loop-c : goal.invariant-loop-c
invariant-loop-c g l =
    (run : Run) → run.chans ≡ l.chans → run.depths ≡ l.depths → ((c : ℕ) → g.S.Streams.stream l.given c ≡ stream_in run c)
    → AreOpened run l.c l.lines.queues.items l.lines.sends.items l.lines.recvs.items
