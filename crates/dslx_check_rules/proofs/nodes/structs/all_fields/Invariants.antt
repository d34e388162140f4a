use Rattle.std.proofs.Common.{List, map, take}
use Rattle.base.specs.Lists.Prefix.{IsPrefix}
use Rattle.dslx_check_rules.specs.Interned.{AreDistinct, ItemNames}
use Rattle.dslx_check_rules.specs.declared.table.row.TypeRow.{TypeRow}
use Rattle.dslx_check_rules.specs.Nodes.Parts.{Pairs}
use Rattle.dslx_check_rules.specs.Nodes.Nodes.Lists.{IsList}
use Rattle.dslx_check_rules.specs.Nodes.Nodes.Structs.{FieldPlaced, IsField, field_of}
use Rattle.dslx_check_rules.proofs.nodes.structs.all_fields.Given as goal

abbrev pub invariant-fields : goal.invariant-fields
invariant-fields l = (names : ItemNames) (later : List TypeRow) (xs : List FieldPlaced) → AreDistinct names → IsPrefix l.types later → Pairs (IsField names l.types later) l.fields xs
    → IsList l.all (take l.field-index (map field_of xs))
