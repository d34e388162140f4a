use Rattle.std.proofs.Common.{◌≡◌, drop}
use Rattle.std.specs.List.{list_all}
use Rattle.ir_text.specs.RoundTrip.InRange.{channel_in_range}
use Rattle.ir_text.proofs.round_trip.range.channels_in_range.Given as goal

abbrev pub invariant-channels : goal.invariant-channels
invariant-channels l = list_all channel_in_range l.channels ≡ list_all channel_in_range (drop l.channel-index l.channels)
