use Rattle.block_build.proofs.netlist.last_reads.no_reads.Goals as goal

pub returns : goal.returns
returns c = c.in_ok-reads.ensures.items_if_clones_equal (λ y e. e)
