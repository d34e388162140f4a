use Rattle.std.proofs.Common.{◌-◌, drop}
use Rattle.dslx_check_declarations.proofs.OnDoubles.{AreApart}
use Rattle.dslx_check_declarations.proofs.doubles.has_equal_values.Given as goal

abbrev pub invariant-values : goal.invariant-values
invariant-values l = AreApart l.kind l.words (drop (l.count - l.i) l.values)
