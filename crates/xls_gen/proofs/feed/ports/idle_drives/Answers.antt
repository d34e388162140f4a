use Rattle.std.proofs.Common.{◌∙◌, map, ap, arith, refl}
use Rattle.std.proofs.lemmas.List.{take_all}
use Rattle.vlog_tree.specs.Signals.{Channel, channel_of, channels_of}
use Rattle.xls_gen.specs.Feed.Inner.Standing.{idle_drive}
use Rattle.xls_gen.proofs.OnFeed.Drives.{idle_more}
use Rattle.xls_gen.proofs.feed.ports.idle_drives.Goals as goal

pub channels-preserved : goal.channels-preserved
channels-preserved c =
    idle_more (channels_of c.args.design.now) c.channels.channel (channel_of c.data_port.result.now) c.channels.drives c.push_idle.new.drives (idle_drive c.data_port.result.now.direction)
    c.data_port.ensures c.channels.invariant c.in_ok-push_idle.ensures refl

pub returns : goal.returns
returns c =
    c.channels.invariant ∙ ap (map (λ (x : Channel). idle_drive x.direction)) (take_all c.channels.channel (channels_of c.args.design.now) (omega arith))
