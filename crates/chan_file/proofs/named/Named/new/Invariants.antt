use Rattle.std.proofs.Common.{◌≡◌, false, replicate}
use Rattle.chan_file.proofs.named.Named.new.Given as goal

abbrev pub invariant-flags : goal.invariant-flags
invariant-flags l = l.flags.items ≡ replicate l._made false
