use Rattle.std.proofs.Common.{◌∙◌, Some, sym, ap}
use Rattle.dslx_meaning.specs.Lists.{and_then, index_in}
use Rattle.dslx_meaning.specs.declared.ty.DslxType.{DslxType}
use Rattle.dslx_meaning.specs.Rules.AggregateRules.{field_type}
use Rattle.dslx_check_rules.specs.Interned.{type_if, types_in}
use Rattle.dslx_check_rules.specs.Nodes.Nodes.Structs.{fields_of}
use Rattle.dslx_check_rules.proofs.Lemmas.Nodes.Rows.{field_by_row, field_there}
use Rattle.dslx_check_rules.proofs.nodes.structs.part_of_type.Goals as goal

pub returns-in-Some-clause-is : goal.returns-in-Some-clause-is
returns-in-Some-clause-is c = λ names later name p h e.
    let is = c.in-Some.ensures.is names later p in
    ap (type_if names later) c.part_of_row.ensures
    ∙ field_by_row names (types_in names later) c.in-Some.row.now c.args.at name (e ∙ ap (λ (t : DslxType). and_then (fields_of (Some t)) (index_in name)) is)
    ∙ ap (λ (t : DslxType). field_type (Some t) name) (sym is)

pub returns-in-Some-clause-there : goal.returns-in-Some-clause-there
returns-in-Some-clause-there c = λ h. field_there c.args.types.now c.args.ty c.in-Some.row.now c.args.at c.part_of_row.result c.part_of_row.ensures c.in-Some.ensures.earlier h
