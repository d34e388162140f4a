use Rattle.std.proofs.Common.{◌≡◌, ◌++◌, drop, map}
use Rattle.dslx_meaning.specs.Network.{outer_ends}
use Rattle.dslx_config.specs.Configs.Shown.{held}
use Rattle.dslx_config.proofs.configs.end.number_given.Given as goal

abbrev pub invariant-given : goal.invariant-given
invariant-given l = map held l.ends.items ++ outer_ends l.i (drop l.i l.given) ≡ map held l.fn.ends.items ++ outer_ends 0 l.given
