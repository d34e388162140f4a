use Rattle.std.proofs.Common.{refl}
use Rattle.cycle_sim.proofs.OnCycles.Written.{none_written}
use Rattle.cycle_sim.proofs.cycles.bench.new_bench.Goals as goal

pub returns-clause-written : goal.returns-clause-written
returns-clause-written c =
    none_written _ c.args.design c.len.result c.in_ok-sim.ensures.design c.in_ok-sim.ensures.stands c.in_ok-names.ensures c.new-2.ensures.items refl c.len.ensures c.in_ok-moved.ensures
