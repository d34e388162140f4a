use Rattle.block_verilog.proofs.OnSignals.OnProcs.{receive_made}
use Rattle.block_verilog.proofs.signals.procs.receive_signals.Goals as goal

pub returns : goal.returns
returns c =
    receive_made c.args.wires.now c.has_word.new.wires c.received.new.wires c.args.scope c.args.registers c.args.views.now c.view_of-view.result c.args.predicate c.args.channel c.in_ok-on.on c.channel_width-width.result c.in_ok-has.has
    c.in_ok-signals.signals c.receive_site-site.result c.in_ok-on.ensures c.view_of-view.ensures c.channel_width-width.ensures c.in_ok-has.ensures.number c.in_ok-has.ensures.puts c.in_ok-signals.ensures c.receive_site-site.ensures
