use Rattle.std.proofs.Common.{◌≡◌, map, take}
use Rattle.dslx_meaning.specs.Values.{type_of_value}
use Rattle.dslx_const.proofs.calls.call.types_of.Given as goal

abbrev pub invariant-values : goal.invariant-values
invariant-values l = l.types.items ≡ map type_of_value (take l.value-index l.values)
