use Rattle.std.proofs.Common.{◌≡◌, drop}
use Rattle.dslx.specs.Count.Counting.{with_channels}
use Rattle.dslx.proofs.count.counting.own_size.Given as goal

abbrev pub invariant-statements : goal.invariant-statements
invariant-statements l = with_channels l.size (drop l.statement-index l.config_statements) ≡ with_channels (record { procs = 1; channels = 0 }) l.config_statements
