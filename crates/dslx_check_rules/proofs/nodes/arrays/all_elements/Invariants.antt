use Rattle.std.proofs.Common.{List, map, take}
use Rattle.base.specs.Lists.Prefix.{IsPrefix}
use Rattle.dslx_check_rules.specs.Interned.{AreDistinct, HasRowIf, ItemNames, type_if}
use Rattle.dslx_check_rules.specs.declared.table.row.TypeRow.{TypeRow}
use Rattle.dslx_check_rules.specs.Nodes.Parts.{Pairs}
use Rattle.dslx_check_rules.specs.Nodes.Nodes.Lists.{IsList}
use Rattle.dslx_check_rules.specs.Nodes.Nodes.Arrays.{ElementSeen, IsElement, element_seen}
use Rattle.dslx_check_rules.proofs.nodes.arrays.all_elements.Given as goal

abbrev pub invariant-elements : goal.invariant-elements
invariant-elements l = (names : ItemNames) (later : List TypeRow) (xs : List ElementSeen) → AreDistinct names → IsPrefix l.types later → HasRowIf l.types l.part
    → Pairs (IsElement names l.types later) l.elements xs → IsList l.all (take l.element-index (map (element_seen (type_if names later l.part)) xs))
