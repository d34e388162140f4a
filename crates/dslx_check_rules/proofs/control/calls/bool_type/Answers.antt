use Rattle.std.proofs.Common.{false, refl}
use Rattle.dslx_check_rules.specs.declared.table.row.TypeRow.TheVariants as row
use Rattle.dslx_check_rules.proofs.Lemmas.Nodes.Lists.{with_row_kept}
use Rattle.dslx_check_rules.proofs.control.calls.bool_type.Goals as goal

pub returns-clause-items : goal.returns-clause-items
returns-clause-items c = with_row_kept c.args.types.now c.bits.new.self (row.Bits (record { signed = false; width = 1 })) refl c.in_ok-ty.ensures.rows
