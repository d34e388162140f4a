use Rattle.block_build.proofs.OnNetlist.OnLastReads.{noted_begun, noted_more, noted_all}
use Rattle.block_build.proofs.netlist.last_reads.note_all.Goals as goal

pub operands-init : goal.operands-init
operands-init c = noted_begun c.args.reads.now c.args.stage c.args.operands.now

pub operands-preserved : goal.operands-preserved
operands-preserved c =
    noted_more c.args.reads.now c.operands.reads c.note.new.reads c.args.stage c.args.operands.now c.operands.i _ c.operands-test.true c.operands.invariant c.note.ensures

pub returns : goal.returns
returns c = noted_all c.args.reads.now c.operands.reads c.args.stage c.args.operands.now c.operands.i c.operands-test.false c.operands.invariant
