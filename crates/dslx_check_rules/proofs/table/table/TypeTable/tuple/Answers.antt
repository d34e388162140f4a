use Rattle.std.proofs.Common.{◌∙◌, sym, ap, map}
use Rattle.dslx_check_rules.specs.declared.table.row.TypeRow.TheVariants as row
use Rattle.dslx_check_rules.specs.Interned.{type_at, types_in}
use Rattle.dslx_check_rules.specs.Measures.{measures_of}
use Rattle.dslx_check_rules.proofs.OnTable.Measured.{row_measured}
use Rattle.dslx_check_rules.proofs.OnTable.Puts.{made, tuple_only}
use Rattle.dslx_check_rules.specs.Inner.Measured.{of_tuple}
use Rattle.dslx_check_rules.proofs.table.table.TypeTable.tuple.Goals as goal

pub put-requires-clause-measured : goal.put-requires-clause-measured
put-requires-clause-measured c = λ names.
    c.tuple_measures-measures.ensures names ∙ ap (λ ts. of_tuple (map (λ p. measures_of (type_at names c.args.self.now p)) ts)) c.as_slice.ensures
    ∙ sym (row_measured names (types_in names c.args.self.now) (row.Tuple c.args.parts))

pub returns-clause-is : goal.returns-clause-is
returns-clause-is c =
    made c.put.result c.args.self.now c.put.new.self (row.Tuple c.args.parts) (tuple_only c.args.self.now c.args.parts) c.put.ensures.rows c.put.ensures.number
