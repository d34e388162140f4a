use Rattle.block_build.proofs.OnNetlist.OnLaying.{full_begun, full_more, full_done}
use Rattle.block_build.proofs.netlist.layout.lay_full.Goals as goal

pub stages-init : goal.stages-init
stages-init c = full_begun c.args.registers.now c.args.stages

pub stages-preserved : goal.stages-preserved
stages-preserved c =
    full_more c.args.registers.now c.stages.registers c.register.new.self c.args.stages c.stages.stage c.full_bit.result c.stages-test.true c.full_bit.ensures c.stages.invariant c.in_ok-register.ensures.lays

pub returns-clause-lays : goal.returns-clause-lays
returns-clause-lays c = full_done c.args.registers.now c.stages.registers c.args.stages c.stages.stage c.stages-test.false c.stages.invariant
