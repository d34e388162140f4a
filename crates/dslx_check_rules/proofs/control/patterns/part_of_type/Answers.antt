use Rattle.std.proofs.Common.{◌∙◌, Some, sym, ap}
use Rattle.dslx_meaning.specs.declared.ty.DslxType.{DslxType}
use Rattle.dslx_check_rules.specs.Interned.{type_if, types_in}
use Rattle.dslx_check_rules.specs.Control.Patterns.{part_of_so_many}
use Rattle.dslx_check_rules.proofs.OnControl.OnPatterns.{so_many_by_row, so_many_there}
use Rattle.dslx_check_rules.proofs.control.patterns.part_of_type.Goals as goal

pub returns-in-Some-clause-is : goal.returns-in-Some-clause-is
returns-in-Some-clause-is c = λ names later p h.
    ap (type_if names later) c.part_of_row.ensures
    ∙ sym (ap (λ (t : DslxType). part_of_so_many c.args.count c.args.at (Some t)) (c.in-Some.ensures.is names later p) ∙ so_many_by_row names (types_in names later) c.in-Some.row.now c.args.count c.args.at)

pub returns-in-Some-clause-there : goal.returns-in-Some-clause-there
returns-in-Some-clause-there c = λ h. so_many_there c.args.types.now c.args.ty c.in-Some.row.now c.args.count c.args.at c.part_of_row.result c.part_of_row.ensures c.in-Some.ensures.earlier h
