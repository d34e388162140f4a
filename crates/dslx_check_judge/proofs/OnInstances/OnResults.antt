-- The results of functions.
use Rattle.std.proofs.Common.{◌≡◌, arith, List, [], Option, Some, None, min, refl, sym, ap, subst}
use Rattle.base.specs.Lists.Prefix.{IsPrefix}
use Rattle.dslx_tree.specs.declared.type_expr.TypeExpr.{TypeExpr}
use Rattle.dslx_meaning.specs.Rules.ItemRules.{result_typing}
use Rattle.dslx_meaning.specs.Types.{unit_type}
use Rattle.dslx_check_rules.specs.declared.faults.Faults.{Faults}
use Rattle.dslx_check_rules.specs.declared.table.row.TypeId.{TypeId}
use Rattle.dslx_check_rules.specs.declared.table.row.TypeRow.{TypeRow}
use Rattle.dslx_check_rules.specs.declared.table.row.TypeRow.TheVariants as row
use Rattle.dslx_check_rules.specs.declared.typing.Typing.{Typing}
use Rattle.dslx_check_rules.specs.Interned.{HasRow, ItemNames, KeepsItems, type_at, with_row}
use Rattle.dslx_check_rules.proofs.Lemmas.Rows.{items_stay}
use Rattle.dslx_check_rules.specs.Seen.{most_counted, seen}
use Rattle.dslx_check_facts.specs.declared.facts.Facts.{Facts}
use Rattle.dslx_check_facts.specs.declared.type_env.TypeEnv.{TypeEnv as CodeEnv}
use Rattle.dslx_check_facts.specs.Walks.{WalkShown}
use Rattle.dslx_check_leaves.specs.Fits.Typed.{type_typed}
use Rattle.dslx_check_leaves.specs.Walked.{TypesPart, WalksTo}
use Rattle.dslx_check_leaves.proofs.Lemmas.Walking.{AddsTypes, nothing_reached, with_rows}

pub one_result : {f : Facts} {s0 s1 : CodeEnv} {w0 w1 : WalkShown} {j : Typing} (written : Option TypeExpr) (t : TypeExpr) → written ≡ Some t → WalksTo f s0 s1 w0 w1 (TypesPart j (λ context. (type_typed t).1 context))
    → WalksTo f s0 s1 w0 w1 (TypesPart j (λ context. result_typing context written))
one_result {f} {s0} {s1} {w0} {w1} {j} written t is g = subst (λ (o : Option TypeExpr). WalksTo f s0 s1 w0 w1 (TypesPart j (λ context. result_typing context o))) (sym is) g

pub no_result : {f : Facts} {s : CodeEnv} {w : WalkShown} {rows : List TypeRow} {t : TypeId} {faults : Faults} (written : Option TypeExpr) → written ≡ None
    → ((names : ItemNames) (later : List TypeRow) → IsPrefix rows later → type_at names later t ≡ unit_type) → rows ≡ with_row w.rows (row.Tuple []) → HasRow rows t → IsPrefix w.rows rows → faults ≡ seen []
    → WalksTo f s s w (with_rows w rows) (TypesPart (record { ty = Some t; faults = faults; size = Some 0 }) (λ context. result_typing context written))
no_result {f} {s} {w} {rows} {t} {faults} written is unit added there grows none =
    subst (λ (o : Option TypeExpr). WalksTo f s s w (with_rows w rows) (TypesPart (record { ty = Some t; faults = faults; size = Some 0 }) (λ context. result_typing context o))) (sym is)
    (nothing_reached (TypesPart (record { ty = Some t; faults = faults; size = Some 0 }) (λ context. result_typing context None)) more
    (λ names later env distinct p. record {
      part = record { row = there; ty = ap Some (unit names later.rows p); faults = none; size = ap Some (let z : 0 ≡ min most_counted 0 = omega arith in z) };
      reaches = refl;
    }))
  where
    more : AddsTypes w.rows rows
    more = record { rows = grows; items = subst (KeepsItems w.rows) (sym added) (items_stay w.rows (row.Tuple []) refl) }
