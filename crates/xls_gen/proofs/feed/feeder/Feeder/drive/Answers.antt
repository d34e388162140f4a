use Rattle.std.proofs.Common.{refl, subst, sym}
use Rattle.vlog_tree.specs.Rows.{IsRowOf}
use Rattle.xls_gen.proofs.OnFeed.Drives.{drive_there, driven, row_fits}
use Rattle.xls_gen.proofs.feed.feeder.Feeder.drive.Goals as goal

pub set-requires : goal.set-requires
set-requires c = drive_there c.args.self.now.sim.design c.args.input c.args.words.now c.args.self.now.row.channels c.requires.drives.0 c.requires.fits c.requires.drives.1

pub cycle_is_still-requires : goal.cycle_is_still-requires
cycle_is_still-requires c =
    let m = c.args.self.now.sim.design in
    let row = driven m c.args.input c.args.words.now c.args.self.now.taken c.args.reset c.args.self.now.row _ c.requires.drives.0 c.next_word-offered.result c.requires.fits c.requires.drives.1 c.next_word-offered.ensures refl c.set.ensures in
    subst (IsRowOf m) (sym row) (row_fits m c.args.input c.args.words.now c.requires.fits c.args.reset c.args.self.now.taken)

pub returns-clause-row : goal.returns-clause-row
returns-clause-row c =
    driven c.args.self.now.sim.design c.args.input c.args.words.now c.args.self.now.taken c.args.reset c.args.self.now.row _ c.requires.drives.0 c.next_word-offered.result c.requires.fits c.requires.drives.1 c.next_word-offered.ensures refl c.set.ensures

pub returns-clause-still : goal.returns-clause-still
returns-clause-still c = c.cycle_is_still.ensures.still
