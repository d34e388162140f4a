use Rattle.std.proofs.Common.{◌∙◌, refl, None}
use Rattle.vlog_tree.specs.Signals.{channels_of}
use Rattle.xls_gen.proofs.OnFeed.Drives.{idle_drives_feed}
use Rattle.xls_gen.proofs.OnFeed.Standing.{fed_nothing}
use Rattle.xls_gen.proofs.feed.feeder.Feeder.new.Goals as goal

pub returns : goal.returns
returns c = λ input output words.
    fed_nothing c.args.design input output words _ None c.in_ok-sim.ensures.design c.in_ok-sim.ensures.stands
    (c.in_ok-channels.ensures ∙ idle_drives_feed input 0 (channels_of c.args.design)) refl c.new-2.ensures
