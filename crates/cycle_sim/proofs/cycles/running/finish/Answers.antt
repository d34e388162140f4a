use Rattle.std.proofs.Common.{◌++◌, ◌∙◌, length, ap, sym}
use Rattle.cycle_sim.specs.Cycles.CycleText.{moved_texts}
use Rattle.cycle_sim.proofs.OnCycles.Written.{written_all}
use Rattle.cycle_sim.proofs.cycles.running.finish.Goals as goal

pub push_all_moved-requires : goal.push_all_moved-requires
push_all_moved-requires c = ap length c.deref.ensures.value ∙ c.requires.1.sizes ∙ ap length (sym c.as_slice.ensures)

pub returns : goal.returns
returns c = λ rows w.
    written_all c.args.bench rows _ w
    (c.in_ok-push_all_moved.ensures
    ∙ ap (λ ns. c.args.bench.text.items ++ moved_texts ns c.deref.result.now) c.as_slice.ensures
    ∙ ap (λ ms. c.args.bench.text.items ++ moved_texts c.args.bench.names ms) c.deref.ensures.value)
