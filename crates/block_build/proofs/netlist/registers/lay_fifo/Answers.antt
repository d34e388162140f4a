use Rattle.block_build.proofs.OnNetlist.OnRegisters.{fifo_laid}
use Rattle.block_build.proofs.netlist.registers.lay_fifo.Goals as goal

pub returns : goal.returns
returns c =
    let d = fifo_laid c.args.registers.now c.register.new.self c.zeros-2.new.self c.args.depth c.args.width c.count_width-count_width.result c.in_ok-count.count.0 c.in_ok-slots.slots c.zeros.result c.count_width-count_width.ensures c.in_ok-count.ensures.lays c.zeros.ensures
    c.in_ok-count.ensures.number c.in_ok-slots.ensures.number c.in_ok-slots.ensures.lays in
    record { fifo = d.fifo_is; lays = d.lays }
