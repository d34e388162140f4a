use Rattle.std.proofs.Common.{◌∙◌, sym, ap, map}
use Rattle.dslx_check_rules.specs.declared.table.row.TypeRow.TheVariants as row
use Rattle.dslx_check_rules.specs.Interned.{HasFields, type_at, types_in}
use Rattle.dslx_check_rules.specs.Measures.{measures_of}
use Rattle.dslx_check_rules.proofs.OnTable.Measured.{row_measured}
use Rattle.dslx_check_rules.proofs.OnTable.Puts.{made_if, struct_only}
use Rattle.dslx_check_rules.specs.Inner.Measured.{of_parts, raised}
use Rattle.dslx_check_rules.proofs.table.table.TypeTable.structure.Goals as goal

pub put-requires-clause-measured : goal.put-requires-clause-measured
put-requires-clause-measured c = λ names.
    c.raised-measures.ensures ∙ ap raised (c.measures_of_all.ensures names ∙ ap (λ ts. of_parts (map (λ p. measures_of (type_at names c.args.self.now p)) ts)) c.as_slice.ensures)
    ∙ sym (row_measured names (types_in names c.args.self.now) (row.Struct c.args.item c.args.parts))

pub returns-clause-is : goal.returns-clause-is
returns-clause-is c =
    made_if c.put.result c.args.self.now c.put.new.self (HasFields c.args.self.now c.args.item c.args.parts) (row.Struct c.args.item c.args.parts) (struct_only c.args.self.now c.args.item c.args.parts) c.put.ensures.rows c.put.ensures.number
