use Rattle.std.proofs.Common.{List, map, take}
use Rattle.base.specs.Lists.Prefix.{IsPrefix}
use Rattle.dslx_check_rules.specs.Interned.{AreDistinct, ItemNames}
use Rattle.dslx_check_rules.specs.declared.table.row.TypeRow.{TypeRow}
use Rattle.dslx_check_rules.specs.Nodes.Parts.{ArePlaced, Placed}
use Rattle.dslx_check_rules.specs.Nodes.Nodes.Lists.{IsList, element_of}
use Rattle.dslx_check_rules.proofs.nodes.lists.element_typings.Given as goal

abbrev pub invariant-parts : goal.invariant-parts
invariant-parts l = (names : ItemNames) (later : List TypeRow) (xs : List Placed) → AreDistinct names → IsPrefix l.types later → ArePlaced names l.types later l.parts xs
    → IsList l.all (take l.part-index (map element_of xs))
