use Rattle.std.proofs.Common.{◌∙◌, sym}
use Rattle.dslx_check_rules.specs.declared.table.row.TypeRow.TheVariants as row
use Rattle.dslx_check_rules.specs.Interned.{types_in}
use Rattle.dslx_check_rules.proofs.OnTable.Measured.{row_measured}
use Rattle.dslx_check_rules.proofs.OnTable.Puts.{made, token_only}
use Rattle.dslx_check_rules.proofs.table.table.TypeTable.token.Goals as goal

pub put-requires-clause-measured : goal.put-requires-clause-measured
put-requires-clause-measured c = λ names.
    c.of_token.ensures
    ∙ sym (row_measured names (types_in names c.args.self.now) (row.Token))

pub returns-clause-is : goal.returns-clause-is
returns-clause-is c =
    made c.put.result c.args.self.now c.put.new.self (row.Token) (token_only c.args.self.now) c.put.ensures.rows c.put.ensures.number
