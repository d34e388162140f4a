use Rattle.std.proofs.Common.{◌∙◌, take, arith, sym, subst}
use Rattle.vlog_tree.specs.Rows.{IsRowOf}
use Rattle.cycle_sim.specs.Rows.RowFile.{all_rows}
use Rattle.cycle_sim.specs.Cycles.Inner.Standing.{HasWritten}
use Rattle.cycle_sim.proofs.OnCycles.Written.{each_here, rows_all_taken, rows_left, rows_more_taken}
use Rattle.cycle_sim.proofs.cycles.running.run.Goals as goal

pub repeat-requires-clause-row : goal.repeat-requires-clause-row
repeat-requires-clause-row c =
    subst (λ m. IsRowOf m c.repeated-item.result.row) (sym c.rows.invariant.design)
    (each_here (λ r. IsRowOf c.args.bench.now.sim.design r.row) c.args.rows.now c.rows.repeated-index c.repeated-item.result c.requires.rows c.rows-test.true c.repeated-item.is)

pub repeat-requires-clause-few : goal.repeat-requires-clause-few
repeat-requires-clause-few c =
    omega (arith, c.rows.invariant.few, rows_left c.args.rows.now c.rows.repeated-index c.repeated-item.result c.rows-test.true c.repeated-item.is)

pub repeat-requires-clause-written : goal.repeat-requires-clause-written
repeat-requires-clause-written c = (all_rows (take c.rows.repeated-index c.args.rows.now), c.rows.invariant.written)

pub rows-preserved : goal.rows-preserved
rows-preserved c =
    let left = rows_left c.args.rows.now c.rows.repeated-index c.repeated-item.result c.rows-test.true c.repeated-item.is in
    let more = rows_more_taken c.args.rows.now c.rows.repeated-index c.repeated-item.result c.rows-test.true c.repeated-item.is in
    record {
      written = subst (HasWritten _) (sym more) (c.in_ok-repeat.ensures.written (all_rows (take c.rows.repeated-index c.args.rows.now)) c.rows.invariant.written);
      few = omega (arith, left, c.rows.invariant.few, c.in_ok-repeat.ensures.count);
      design = c.in_ok-repeat.ensures.design ∙ c.rows.invariant.design;
    }

pub returns-clause-written : goal.returns-clause-written
returns-clause-written c = subst (HasWritten c.rows.bench) (rows_all_taken c.args.rows.now c.rows.repeated-index c.rows-test.false) c.rows.invariant.written
