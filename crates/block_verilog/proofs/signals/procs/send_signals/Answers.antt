use Rattle.block_verilog.proofs.OnSignals.OnProcs.{send_made}
use Rattle.block_verilog.proofs.signals.procs.send_signals.Goals as goal

pub returns : goal.returns
returns c =
    send_made c.args.wires.now c.sent.new.wires c.args.scope c.args.registers c.args.views.now c.view_of-view.result c.args.operands.now c.args.predicate c.args.channel c.in_ok-on.on c.channel_width-width.result c.in_ok-word.word
    c.new.result c.send_site-site.result c.in_ok-on.ensures c.view_of-view.ensures c.channel_width-width.ensures c.in_ok-word.ensures c.new.ensures c.send_site-site.ensures
