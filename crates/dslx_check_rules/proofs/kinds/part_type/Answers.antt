use Rattle.std.proofs.Common.{◌∙◌, sym, ap}
use Rattle.dslx_meaning.specs.Rules.AggregateRules.{part_type}
use Rattle.dslx_check_rules.specs.Interned.{type_if, types_in}
use Rattle.dslx_check_rules.proofs.OnKinds.{part_by_row, part_there}
use Rattle.dslx_check_rules.proofs.kinds.part_type.Goals as goal

pub returns-in-Some-clause-is : goal.returns-in-Some-clause-is
returns-in-Some-clause-is c = λ names later p h.
    ap (type_if names later) c.part_of_row.ensures
    ∙ sym (ap (λ t. part_type t c.args.at) (c.in-Some.ensures.is names later p) ∙ part_by_row names (types_in names later) c.in-Some.row.now c.args.at)

pub returns-in-Some-clause-there : goal.returns-in-Some-clause-there
returns-in-Some-clause-there c = λ h. part_there c.args.types.now c.args.ty c.in-Some.row.now c.args.at c.part_of_row.result c.part_of_row.ensures c.in-Some.ensures.earlier h
