use Rattle.std.proofs.Common.{suc, subst}
use Rattle.xls_gen.specs.Feed.Inner.Standing.{HasFed}
use Rattle.xls_gen.proofs.OnFeed.Channels.{and_both}
use Rattle.xls_gen.proofs.OnFeed.Standing.{at_design, feedable_at, feeds}
use Rattle.xls_gen.proofs.feed.feeder.feed.Goals as goal

pub reset-requires-clause-fits : goal.reset-requires-clause-fits
reset-requires-clause-fits c =
    let first = c.in_ok-feeder.ensures c.args.input c.args.output c.args.words.now in
    (and_both _ _ (feedable_at c.args.design c.in_ok-feeder.feeder.sim.design c.args.input c.args.output c.args.words.now first.design_is c.requires.fits)).0

pub reset-requires-clause-first : goal.reset-requires-clause-first
reset-requires-clause-first c =
    (c.args.output, at_design c.args.design c.args.input c.args.output c.args.words.now c.in_ok-feeder.feeder 0 (c.in_ok-feeder.ensures c.args.input c.args.output c.args.words.now))

pub feed_rows-requires-clause-fits : goal.feed_rows-requires-clause-fits
feed_rows-requires-clause-fits c =
    let second = c.reset.ensures c.args.design c.args.output (c.in_ok-feeder.ensures c.args.input c.args.output c.args.words.now) in
    feedable_at c.args.design c.reset.new.self.sim.design c.args.input c.args.output c.args.words.now second.design_is c.requires.fits

pub feed_rows-requires-clause-first : goal.feed_rows-requires-clause-first
feed_rows-requires-clause-first c =
    let second = c.reset.ensures c.args.design c.args.output (c.in_ok-feeder.ensures c.args.input c.args.output c.args.words.now) in
    at_design c.args.design c.args.input c.args.output c.args.words.now c.reset.new.self 1 second

pub returns : goal.returns
returns c =
    let second = c.reset.ensures c.args.design c.args.output (c.in_ok-feeder.ensures c.args.input c.args.output c.args.words.now) in
    feeds c.args.design c.args.input c.args.output c.args.words.now c.feed_rows.new.feeder c.args.rows (subst (λ d. HasFed d c.args.input c.args.output c.args.words.now c.feed_rows.new.feeder (suc c.args.rows)) second.design_is c.in_ok-feed_rows.ensures)
