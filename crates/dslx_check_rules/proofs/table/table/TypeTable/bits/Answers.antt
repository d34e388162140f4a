use Rattle.std.proofs.Common.{◌∙◌, sym}
use Rattle.dslx_check_rules.specs.declared.table.row.TypeRow.TheVariants as row
use Rattle.dslx_check_rules.specs.Interned.{types_in}
use Rattle.dslx_check_rules.proofs.OnTable.Measured.{row_measured}
use Rattle.dslx_check_rules.proofs.OnTable.Puts.{bits_only, made}
use Rattle.dslx_check_rules.proofs.table.table.TypeTable.bits.Goals as goal

pub put-requires-clause-measured : goal.put-requires-clause-measured
put-requires-clause-measured c = λ names.
    c.of_leaf.ensures
    ∙ sym (row_measured names (types_in names c.args.self.now) (row.Bits c.args.kind))

pub returns-clause-is : goal.returns-clause-is
returns-clause-is c =
    made c.put.result c.args.self.now c.put.new.self (row.Bits c.args.kind) (bits_only c.args.self.now c.args.kind) c.put.ensures.rows c.put.ensures.number
