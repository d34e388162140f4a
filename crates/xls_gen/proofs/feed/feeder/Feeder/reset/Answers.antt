use Rattle.xls_gen.proofs.OnFeed.Standing.{fed_first}
use Rattle.xls_gen.proofs.feed.feeder.Feeder.reset.Goals as goal

pub drive-requires-clause-drives : goal.drive-requires-clause-drives
drive-requires-clause-drives c = (c.requires.first.1.offered, c.requires.first.1.row_is)

pub returns : goal.returns
returns c = λ m output h.
    fed_first m c.args.input output c.args.words.now c.args.self.now c.drive.new.self h _ c.drive.ensures.design c.drive.ensures.row
    (c.drive.ensures.stands h.rows h.outs h.stands) c.drive.ensures.taken c.drive.ensures.given
