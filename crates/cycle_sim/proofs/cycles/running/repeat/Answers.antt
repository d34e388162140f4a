use Rattle.std.proofs.Common.{◌≡◌, ◌++◌, ◌∙◌, replicate, arith, refl, subst}
use Rattle.cycle_sim.specs.Cycles.Inner.Standing.{HasWritten}
use Rattle.cycle_sim.proofs.OnCycles.Written.{none_times, once_more}
use Rattle.cycle_sim.proofs.cycles.running.repeat.Goals as goal

pub times-init : goal.times-init
times-init c = record {
  written = λ rows w. none_times c.args.bench.now rows c.args.row.now w;
  count = omega arith;
  design = refl;
}

pub cycle-requires-clause-written : goal.cycle-requires-clause-written
cycle-requires-clause-written c = (c.requires.written.0 ++ replicate c.times._done c.args.row.now, c.times.invariant.written c.requires.written.0 c.requires.written.1)

pub times-preserved : goal.times-preserved
times-preserved c = record {
  written = λ rows w. once_more _ rows c.times._done c.args.row.now (c.in_ok-cycle.ensures.written (rows ++ replicate c.times._done c.args.row.now) (c.times.invariant.written rows w));
  count = omega (arith, c.in_ok-cycle.ensures.count);
  design = c.in_ok-cycle.ensures.design ∙ c.times.invariant.design;
}

pub returns-clause-written : goal.returns-clause-written
returns-clause-written c = λ rows w.
    let done : c.times._done ≡ c.args.times = omega arith in
    subst (λ n. HasWritten c.times.bench (rows ++ replicate n c.args.row.now)) done (c.times.invariant.written rows w)
