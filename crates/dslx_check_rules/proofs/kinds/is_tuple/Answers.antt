use Rattle.std.proofs.Common.{◌∙◌, sym, ap}
use Rattle.dslx_meaning.specs.Rules.AggregateRules.{is_some_tuple}
use Rattle.dslx_meaning.specs.declared.ty.DslxType.{DslxType, out-DslxType}
use Rattle.dslx_check_rules.specs.Interned.{types_in}
use Rattle.dslx_check_rules.proofs.OnKinds.{tuple_by_row}
use Rattle.dslx_check_rules.proofs.kinds.is_tuple.Goals as goal

pub returns-in-Some : goal.returns-in-Some
returns-in-Some c = λ names later p h. c.is_tuple_row.ensures ∙ sym (ap (λ (t : DslxType). is_some_tuple (out-DslxType t)) (c.in-Some.ensures.is names later p) ∙ tuple_by_row names (types_in names later) c.in-Some.row.now)
