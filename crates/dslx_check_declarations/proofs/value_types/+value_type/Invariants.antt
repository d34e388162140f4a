use Rattle.std.proofs.Common.{map, take}
use Rattle.dslx_meaning.specs.Values.{type_of_value}
use Rattle.dslx_check_facts.specs.Known.{item_names}
use Rattle.dslx_check_declarations.specs.Types.{AreTypesOf}
use Rattle.dslx_check_declarations.proofs.value_types.+value_type.Given as goal

abbrev pub invariant-value_types-values : goal.invariant-value_types-values
invariant-value_types-values l = AreTypesOf (item_names l.f) l.fn.types l.types l.all.items (map type_of_value (take l.value-index l.values))
