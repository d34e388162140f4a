use Rattle.std.proofs.Common.{◌≡◌, ◌++◌, List, drop, map}
use Rattle.base.specs.Lists.Prefix.{IsPrefix}
use Rattle.dslx_meaning.specs.Rules.CallRules.{inferred_by, maybe_inferred}
use Rattle.dslx_check_rules.specs.Interned.{ItemNames, type_if}
use Rattle.dslx_check_rules.specs.declared.table.row.TypeRow.{TypeRow}
use Rattle.dslx_check_uses.specs.Inferring.{name_lent, number_of}
use Rattle.dslx_check_uses.proofs.inference.infer_all.Given as goal

abbrev pub invariant-operands : goal.invariant-operands
invariant-operands l = record {
  numbers : (names : ItemNames) (later : List TypeRow) → IsPrefix l.types later
      → map number_of l.found.numbers.items ++ inferred_by (drop l.i l.arguments) (map (type_if names later) (drop l.i l.operands)) ≡ inferred_by l.arguments (map (type_if names later) l.operands);
  maybe : (names : ItemNames) (later : List TypeRow)
      → map name_lent l.found.maybe.items ++ maybe_inferred (drop l.i l.arguments) (map (type_if names later) (drop l.i l.operands)) ≡ maybe_inferred l.arguments (map (type_if names later) l.operands);
}
