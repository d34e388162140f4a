use Rattle.std.proofs.Common.{Some, refl, sym, subst}
use Rattle.net_core.specs.declared.net.Kind.{Kind}
use Rattle.proc_runner.specs.Inner.Opened.{IsLine}
use Rattle.proc_runner.proofs.lines.open_line.Goals as goal

pub returns-in_ok-queue-in-Inner : goal.returns-in_ok-queue-in-Inner
returns-in_ok-queue-in-Inner g c =
    let made = c.in_ok-queue-in-Inner.ensures in
    subst (λ (k : Kind). IsLine {S = g.row.S.Denot} k (g.S.Streams.stream c.args.given c.args.c) c.args.depth
    (record { queue = Some c.in_ok-queue-in-Inner.queue; send = Some c.in_ok-queue-in-Inner.send; recv = Some c.in_ok-queue-in-Inner.recv })) (sym c.in-Inner.is)
    (record {
      queue = c.in_ok-queue-in-Inner.queue;
      send = c.in_ok-queue-in-Inner.send;
      recv = c.in_ok-queue-in-Inner.recv;
      queue_is = refl;
      send_is = refl;
      recv_is = refl;
      sender = made.0;
      receiver = made.1;
      sends = made.3;
      receives = made.4;
    })
