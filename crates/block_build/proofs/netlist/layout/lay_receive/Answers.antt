use Rattle.block_build.proofs.OnNetlist.OnLaying.{receive_laid}
use Rattle.block_build.proofs.netlist.layout.lay_receive.Goals as goal

pub returns : goal.returns
returns c =
    let d = receive_laid c.args.registers.now c.register.new.self c.register-2.new.self c.args.width c.in_ok-done.done.0 c.in_ok-kept.kept.0 c.zeros.result c.zeros-2.result c.in_ok-done.ensures.number c.zeros.ensures c.in_ok-done.ensures.lays
    c.in_ok-kept.ensures.number c.zeros-2.ensures c.in_ok-kept.ensures.lays in
    record { site = (d.done_is, d.kept_is); lays = d.lays }
