use Rattle.std.proofs.Common.{length, get_or, replicate, refl, sym, ap, ◌∙◌, arith}
use Rattle.std.proofs.lemmas.List.{length-replicate}
use Rattle.block_build.proofs.OnNetlist.OnLastReads.{reads_begun, reads_more, reads_done}
use Rattle.block_build.proofs.netlist.last_reads.last_reads.Goals as goal

pub nodes-init : goal.nodes-init
nodes-init c =
    let long = ap length c.as_slice-nodes.ensures in
    let nodes = c.in_ok-no_reads.ensures ∙ ap (λ n. replicate n 0) long in
    reads_begun (record { state = 0; nodes = c.in_ok-no_reads.field-0 }) c.note.new.reads c.args.stages.now c.args.proc.now c.args.last refl nodes (ap length nodes ∙ length-replicate (length c.args.proc.now.nodes) 0) c.note.ensures

pub nodes-preserved : goal.nodes-preserved
nodes-preserved c =
    let long = ap length c.as_slice-nodes.ensures in
    reads_more c.nodes.reads c.note_node.new.reads c.args.stages.now c.args.proc.now c.args.last c.nodes.i c.stage_at.result c.index-nodes-i.result (omega (arith, c.nodes-test.true, long))
    (c.index-nodes-i.is ∙ ap (λ xs. get_or xs c.nodes.i c.index-nodes-i.result) c.as_slice-nodes.ensures) c.stage_at.ensures c.nodes.invariant c.note_node.ensures

pub returns : goal.returns
returns c =
    let long = ap length c.as_slice-nodes.ensures in
    record { count = c.nodes.invariant.count; last = reads_done c.nodes.reads c.args.stages.now c.args.proc.now c.args.last c.nodes.i (omega (arith, c.nodes-test.false, long)) c.nodes.invariant }
