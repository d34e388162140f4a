use Rattle.std.proofs.Common.{◌≡◌, max, drop}
use Rattle.xls_cmd.specs.Gen.Commands.{most_stages}
use Rattle.xls_cmd.proofs.generate.hardware.most_stages.Given as goal

abbrev pub invariant-schedules : goal.invariant-schedules
invariant-schedules l = max l.most (most_stages (drop l.schedule-index l.schedules)) ≡ most_stages l.schedules
