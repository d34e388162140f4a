use Rattle.std.proofs.Common.{◌≡◌, take, map}
use Rattle.dslx_meaning.specs.Values.{plain_value}
use Rattle.dslx_core_exprs.proofs.types.literals.+plain_value.Given as goal

abbrev pub invariant-plain_values-values : goal.invariant-plain_values-values
invariant-plain_values-values l = l.plain.items ≡ map plain_value (take l.value-index l.values)
