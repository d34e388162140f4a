use Rattle.block_build.proofs.OnNetlist.OnStaging.{kept_put}
use Rattle.block_build.proofs.netlist.stages.keep.Goals as goal

pub returns : goal.returns
returns c =
    let both = kept_put c.either.result c.args.wires.now c.inverse.new.self c.both.new.self c.either.new.self c.args.comes c.args.full c.args.moves c.in_ok-stays.stays c.in_ok-keeps.keeps c.in_ok-stays.ensures c.in_ok-keeps.ensures c.either.ensures in
    record { signal = both.0; puts = both.1 }
