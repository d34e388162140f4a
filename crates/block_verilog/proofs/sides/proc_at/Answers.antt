use Rattle.std.proofs.Common.{arith}
use Rattle.block_verilog.specs.Sides.{has_site, proc_at}
use Rattle.block_verilog.proofs.OnEnds.{index_more, index_found, index_none}
use Rattle.block_verilog.proofs.sides.proc_at.Goals as goal

pub procs-preserved : goal.procs-preserved
procs-preserved c =
    index_more (has_site c.args.sends c.args.channel) c.args.procs.now c.procs.i c.index-procs-i.result c.stands.result (proc_at c.args.procs.now c.args.sends c.args.channel) c.procs-test.true c.index-procs-i.is c.stands.ensures c.if-stands.false c.procs.invariant

pub returns-then-stands : goal.returns-then-stands
returns-then-stands c =
    index_found (has_site c.args.sends c.args.channel) c.args.procs.now c.procs.i c.index-procs-i.result c.stands.result (proc_at c.args.procs.now c.args.sends c.args.channel) c.procs-test.true c.index-procs-i.is c.stands.ensures c.if-stands.true c.procs.invariant

pub returns : goal.returns
returns c = index_none (has_site c.args.sends c.args.channel) c.args.procs.now c.procs.i (proc_at c.args.procs.now c.args.sends c.args.channel) c.procs-test.false c.procs.auto.i-end c.procs.invariant
