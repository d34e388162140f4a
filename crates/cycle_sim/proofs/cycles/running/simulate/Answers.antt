use Rattle.std.proofs.Common.{◌∙◌, sym, subst, arith}
use Rattle.std.specs.List.{AllByRecursion}
use Rattle.vlog_tree.specs.Rows.{IsRowOf}
use Rattle.cycle_sim.specs.Rows.RowFile.{all_rows}
use Rattle.cycle_sim.specs.Cycles.Simulated.{IsSimulated}
use Rattle.cycle_sim.proofs.cycles.running.simulate.Goals as goal

pub run-requires-clause-rows : goal.run-requires-clause-rows
run-requires-clause-rows c = subst (λ m. AllByRecursion (λ r. IsRowOf m r.row) c.args.rows.now) (sym c.in_ok-bench.ensures.design) c.requires.rows

pub run-requires-clause-few : goal.run-requires-clause-few
run-requires-clause-few c = omega (arith, c.in_ok-bench.ensures.count, c.requires.few)

pub finish-requires : goal.finish-requires
finish-requires c = (all_rows c.args.rows.now, c.in_ok-run.ensures.written)

pub returns : goal.returns
returns c =
    subst (λ m. IsSimulated m (all_rows c.args.rows.now) c.in_ok-text.text.items) (c.in_ok-run.ensures.design ∙ c.in_ok-bench.ensures.design)
    (c.in_ok-text.ensures (all_rows c.args.rows.now) c.in_ok-run.ensures.written)
