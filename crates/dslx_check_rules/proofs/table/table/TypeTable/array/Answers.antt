use Rattle.std.proofs.Common.{◌∙◌, sym, ap}
use Rattle.dslx_check_rules.specs.declared.table.row.TypeRow.TheVariants as row
use Rattle.dslx_check_rules.specs.Interned.{types_in}
use Rattle.dslx_check_rules.proofs.OnTable.Measured.{row_measured}
use Rattle.dslx_check_rules.proofs.OnTable.Puts.{array_only, made}
use Rattle.dslx_check_rules.specs.Inner.Measured.{of_array}
use Rattle.dslx_check_rules.proofs.table.table.TypeTable.array.Goals as goal

pub put-requires-clause-measured : goal.put-requires-clause-measured
put-requires-clause-measured c = λ names.
    c.of_array-measures.ensures ∙ ap (λ m. of_array m c.args.count) (c.measures.ensures names)
    ∙ sym (row_measured names (types_in names c.args.self.now) (row.Array c.args.part c.args.count))

pub returns-clause-is : goal.returns-clause-is
returns-clause-is c =
    made c.put.result c.args.self.now c.put.new.self (row.Array c.args.part c.args.count) (array_only c.args.self.now c.args.part c.args.count) c.put.ensures.rows c.put.ensures.number
