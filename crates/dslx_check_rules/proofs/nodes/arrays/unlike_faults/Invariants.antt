use Rattle.std.proofs.Common.{◌≡◌, List, map, take}
use Rattle.base.specs.Lists.Prefix.{IsPrefix}
use Rattle.dslx_check_rules.specs.Interned.{AreDistinct, HasRowIf, ItemNames, type_if}
use Rattle.dslx_check_rules.specs.declared.table.row.TypeRow.{TypeRow}
use Rattle.dslx_meaning.specs.Rules.AggregateRules.{wanted_faults}
use Rattle.dslx_check_rules.specs.Seen.{seen}
use Rattle.dslx_check_rules.specs.Nodes.Parts.{ArePlaced, Placed}
use Rattle.dslx_check_rules.specs.Nodes.Nodes.Lists.{all_faults}
use Rattle.dslx_check_rules.proofs.nodes.arrays.unlike_faults.Given as goal

abbrev pub invariant-parts : goal.invariant-parts
invariant-parts l = (names : ItemNames) (later : List TypeRow) (xs : List Placed) → AreDistinct names → IsPrefix l.types later → HasRowIf l.types l.ty → ArePlaced names l.types later l.parts xs
    → l.faults ≡ seen (all_faults (take l.part-index (map (λ (x : Placed). wanted_faults x.span (type_if names later l.ty) x.judgement.ty) xs)))
