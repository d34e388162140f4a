use Rattle.std.proofs.Common.{◌≡◌, List, Option, take}
use Rattle.base.specs.Lists.Prefix.{IsPrefix}
use Rattle.dslx_check_rules.specs.Interned.{AreDistinct, ItemNames}
use Rattle.dslx_check_rules.specs.declared.table.row.TypeRow.{TypeRow}
use Rattle.dslx_meaning.specs.declared.ty.DslxType.{DslxType}
use Rattle.dslx_check_rules.specs.Seen.{seen}
use Rattle.dslx_check_rules.specs.Nodes.Parts.{ArePlaced, Pairs, Placed}
use Rattle.dslx_check_rules.specs.Nodes.Nodes.Lists.{all_faults}
use Rattle.dslx_check_rules.specs.Control.Calls.{IsTypeIf, each_misfit}
use Rattle.dslx_check_rules.proofs.control.calls.operand_faults.Given as goal

abbrev pub invariant-operands : goal.invariant-operands
invariant-operands l = (names : ItemNames) (later : List TypeRow) (ts : List (Option DslxType)) (xs : List Placed) → AreDistinct names → IsPrefix l.types later
    → Pairs (IsTypeIf names l.types later) l.arguments ts → ArePlaced names l.types later l.operands xs → l.faults ≡ seen (all_faults (take l.i (each_misfit ts xs)))
