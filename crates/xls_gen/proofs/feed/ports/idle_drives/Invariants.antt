use Rattle.std.proofs.Common.{◌≡◌, map, take}
use Rattle.vlog_tree.specs.Signals.{Channel, channels_of}
use Rattle.xls_gen.specs.Feed.Inner.Standing.{idle_drive}
use Rattle.xls_gen.proofs.feed.ports.idle_drives.Given as goal

abbrev pub invariant-channels : goal.invariant-channels
invariant-channels l = l.drives ≡ map (λ (c : Channel). idle_drive c.direction) (take l.channel (channels_of l.design))
