use Rattle.std.proofs.Common.{ℕ, ◌∙◌, sym, ap}
use Rattle.std.specs.Option.{option_map}
use Rattle.dslx_meaning.specs.Rules.AggregateRules.{array_in}
use Rattle.dslx_check_rules.specs.Interned.{type_at, types_in}
use Rattle.dslx_check_rules.specs.declared.table.row.TypeId.{TypeId}
use Rattle.dslx_check_rules.proofs.OnKinds.{array_by_row}
use Rattle.dslx_check_rules.proofs.kinds.array_in.Goals as goal

pub returns-in-Some-clause-is : goal.returns-in-Some-clause-is
returns-in-Some-clause-is c = λ names later p h.
    ap (option_map (λ (q : TypeId × ℕ). (type_at names later q.0, q.1))) c.array_of_row.ensures
    ∙ sym (ap array_in (c.in-Some.ensures.is names later p) ∙ array_by_row names (types_in names later) c.in-Some.row.now)
