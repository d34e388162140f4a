use Rattle.std.proofs.Common.{◌≡◌, ◌+◌, drop}
use Rattle.xls_gen.specs.Events.{events_over}
use Rattle.xls_gen.proofs.events.counting.count_moved.Given as goal

abbrev pub invariant-channels : goal.invariant-channels
invariant-channels l = l.count + events_over (drop l.channel l.chans) (drop l.channel l.streams) ≡ events_over l.chans l.streams
