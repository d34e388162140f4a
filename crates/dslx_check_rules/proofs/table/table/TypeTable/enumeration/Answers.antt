use Rattle.std.proofs.Common.{◌∙◌, sym}
use Rattle.dslx_check_rules.specs.declared.table.row.TypeRow.TheVariants as row
use Rattle.dslx_check_rules.specs.Interned.{HasBase, types_in}
use Rattle.dslx_check_rules.proofs.OnTable.Measured.{row_measured}
use Rattle.dslx_check_rules.proofs.OnTable.Puts.{enum_only, made_if}
use Rattle.dslx_check_rules.proofs.table.table.TypeTable.enumeration.Goals as goal

pub put-requires-clause-measured : goal.put-requires-clause-measured
put-requires-clause-measured c = λ names.
    c.of_leaf.ensures
    ∙ sym (row_measured names (types_in names c.args.self.now) (row.Enum c.args.item c.args.base))

pub returns-clause-is : goal.returns-clause-is
returns-clause-is c =
    made_if c.put.result c.args.self.now c.put.new.self (HasBase c.args.self.now c.args.item c.args.base) (row.Enum c.args.item c.args.base) (enum_only c.args.self.now c.args.item c.args.base) c.put.ensures.rows c.put.ensures.number
