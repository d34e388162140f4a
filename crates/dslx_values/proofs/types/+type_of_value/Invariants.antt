use Rattle.std.proofs.Common.{◌≡◌, take, map}
use Rattle.dslx_meaning.specs.Values.{type_of_value}
use Rattle.dslx_values.proofs.types.+type_of_value.Given as goal

abbrev pub invariant-types_of_values-values : goal.invariant-types_of_values-values
invariant-types_of_values-values l = l.types.items ≡ map type_of_value (take l.value-index l.values)
