use Rattle.std.proofs.Common.{List, take}
use Rattle.dslx_check_rules.specs.Interned.{ItemNames}
use Rattle.dslx_check_rules.specs.declared.table.row.TypeRow.{TypeRow}
use Rattle.dslx_check_rules.specs.Nodes.Parts.{ArePlaced, Placed, judgements}
use Rattle.dslx_check_rules.specs.Nodes.Nodes.Lists.{IsList}
use Rattle.dslx_check_rules.proofs.nodes.lists.all_typings.Given as goal

abbrev pub invariant-parts : goal.invariant-parts
invariant-parts l = (names : ItemNames) (rows later : List TypeRow) (xs : List Placed) → ArePlaced names rows later l.parts xs → IsList l.all (take l.part-index (judgements xs))
