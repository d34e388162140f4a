use Rattle.std.proofs.Common.{◌≡◌, take, map, Some}
use Rattle.dslx_core.specs.Types.Typing.{value_type}
use Rattle.ir_lower.proofs.types.literals.+value_type.Given as goal

abbrev pub invariant-value_types-values : goal.invariant-value_types-values
invariant-value_types-values l = map value_type (take l.value-index l.values) ≡ map Some l.types.items
