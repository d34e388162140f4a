use Rattle.std.proofs.Common.{◌≡◌, List, length, map, take}
use Rattle.base.specs.Lists.Prefix.{IsPrefix}
use Rattle.dslx_meaning.specs.Values.{type_of_value}
use Rattle.dslx_check_rules.specs.Interned.{type_at}
use Rattle.dslx_check_rules.specs.declared.table.row.TypeRow.{TypeRow}
use Rattle.dslx_check_facts.specs.Known.{item_names}
use Rattle.dslx_check_facts.proofs.typed_values.+gives.Given as goal

abbrev pub invariant-give_types-values : goal.invariant-give_types-values
invariant-give_types-values l =
    (length l.parts ≡ length l.values) × ((later : List TypeRow) → IsPrefix l.types later → map (type_at (item_names l.f) later) (take l.i l.parts) ≡ map type_of_value (take l.i l.values))
