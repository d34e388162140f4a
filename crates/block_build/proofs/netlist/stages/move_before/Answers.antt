use Rattle.block_build.proofs.OnNetlist.OnStaging.{moved_put}
use Rattle.block_build.proofs.netlist.stages.move_before.Goals as goal

pub returns : goal.returns
returns c =
    moved_put c.both.result c.args.wires.now c.inverse.new.self c.either.new.self c.both.new.self c.args.full c.args.passed c.args.behind c.in_ok-free.free c.in_ok-clear.clear c.in_ok-free.ensures c.in_ok-clear.ensures c.both.ensures
