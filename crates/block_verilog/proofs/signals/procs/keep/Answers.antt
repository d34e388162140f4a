use Rattle.block_verilog.proofs.OnSignals.OnProcs.{kept_site, kept_none}
use Rattle.block_verilog.proofs.signals.procs.keep.Goals as goal

pub returns-in-Some : goal.returns-in-Some
returns-in-Some c =
    kept_site c.push-in-Some.result c.args.made.now c.args.own c.args.stage c.args.copies c.args.constant c.in-Some.site c.push.new.self c.push-in-Some.new.self c.in-Some.is c.in_ok-push.ensures.ok c.push-in-Some.ensures.ok

pub returns-in-None : goal.returns-in-None
returns-in-None c = kept_none c.args.made.now c.args.own c.args.stage c.args.copies c.args.constant c.push.new.self c.in-None.is c.in_ok-push.ensures.ok
