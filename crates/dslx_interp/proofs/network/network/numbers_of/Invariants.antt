use Rattle.std.proofs.Common.{◌≡◌, ◌++◌, drop}
use Rattle.dslx_core.specs.Designs.{numbers_from}
use Rattle.dslx_interp.proofs.network.network.numbers_of.Given as goal

abbrev pub invariant-outer : goal.invariant-outer
invariant-outer l = l.numbers.items ++ numbers_from l.number (drop l.number l.outer) ≡ numbers_from 0 l.outer
