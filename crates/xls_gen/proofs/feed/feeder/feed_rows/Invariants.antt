use Rattle.std.proofs.Common.{suc}
use Rattle.xls_gen.specs.Feed.Inner.Standing.{HasFed}
use Rattle.xls_gen.proofs.feed.feeder.feed_rows.Given as goal

abbrev pub invariant-rows : goal.invariant-rows
invariant-rows l = HasFed l.initial.feeder.sim.design l.input l.output l.words l.feeder (suc l._row)
