use Rattle.std.proofs.Common.{false, refl}
use Rattle.dslx_check_rules.specs.declared.table.row.TypeRow.TheVariants as row
use Rattle.dslx_check_rules.proofs.Lemmas.Nodes.Lists.{with_row_kept}
use Rattle.dslx_check_leaves.proofs.Lemmas.OnOneValue.{bool_walked}
use Rattle.dslx_check_leaves.proofs.patterns.bool_pattern.Goals as goal

pub returns : goal.returns
returns c = bool_walked c.args.span c.args.may_fail
    (record { rows = c.in_ok-bit.ensures.grows; items = with_row_kept _ _ (row.Bits (record { signed = false; width = 1 })) refl c.in_ok-bit.ensures.rows })
    c.in_ok-bit.ensures.there c.in_ok-bit.ensures.is c.none.ensures c.unlimited-own.ensures c.value_pattern.ensures
