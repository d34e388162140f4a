use Rattle.std.proofs.Common.{◌≡◌, add-one, arith, suc, subst, sym}
use Rattle.xls_gen.specs.Feed.Inner.Standing.{HasFed}
use Rattle.xls_gen.proofs.OnFeed.Standing.{at_design, feedable_at, rests_until}
use Rattle.xls_gen.proofs.feed.feeder.feed_rows.Goals as goal

pub cycle-requires-clause-fits : goal.cycle-requires-clause-fits
cycle-requires-clause-fits c = feedable_at c.args.feeder.now.sim.design c.rows.feeder.sim.design c.args.input c.args.output c.args.words.now c.rows.invariant.design_is c.requires.fits

pub cycle-requires-clause-fed : goal.cycle-requires-clause-fed
cycle-requires-clause-fed c = (c.rows._row, at_design c.args.feeder.now.sim.design c.args.input c.args.output c.args.words.now c.rows.feeder (suc c.rows._row) c.rows.invariant)

pub rows-preserved : goal.rows-preserved
rows-preserved c =
    subst (λ n. HasFed c.args.feeder.now.sim.design c.args.input c.args.output c.args.words.now c.cycle.new.self (suc n)) (sym (add-one c.rows._row))
    (c.in_ok-cycle.ensures.fed c.args.feeder.now.sim.design c.rows._row c.rows.invariant)

pub returns-then-branch : goal.returns-then-branch
returns-then-branch c =
    rests_until c.args.feeder.now.sim.design c.args.input c.args.output c.args.words.now c.cycle.new.self (suc c.rows._row) c.args.rows (c.in_ok-cycle.ensures.rests c.if-branch.true)
    (c.in_ok-cycle.ensures.fed c.args.feeder.now.sim.design c.rows._row c.rows.invariant) (omega arith)

pub returns : goal.returns
returns c =
    let done : c.rows._row ≡ c.args.rows = omega arith in
    subst (λ n. HasFed c.args.feeder.now.sim.design c.args.input c.args.output c.args.words.now c.rows.feeder (suc n)) done c.rows.invariant
