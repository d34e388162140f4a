use Rattle.std.proofs.lemmas.Slice.Eq.{slice_eq-Decides}
use Rattle.cycle_sim.proofs.Stillness.{word_decides}
use Rattle.cycle_sim.proofs.sim.are_same.Goals as goal

pub returns : goal.returns
returns c = slice_eq-Decides word_decides c.args.before.now c.args.values.now c.eq.result c.eq.ensures
