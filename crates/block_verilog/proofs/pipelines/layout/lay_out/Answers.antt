use Rattle.block_verilog.proofs.pipelines.layout.lay_out.Goals as goal

pub returns-clause-laid : goal.returns-clause-laid
returns-clause-laid c = record { count = c.in_ok-reads.ensures.count; reads = c.in_ok-reads.ensures.last; registers = c.in_ok-registers.ensures.laid }
