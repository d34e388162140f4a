use Rattle.std.proofs.Common.{◌∙◌, Some, sym, ap}
use Rattle.dslx_meaning.specs.declared.ty.DslxType.{DslxType}
use Rattle.dslx_meaning.specs.Rules.PatternRules.{is_there, part_types}
use Rattle.dslx_check_rules.specs.Interned.{types_in}
use Rattle.dslx_check_rules.proofs.OnControl.OnPatterns.{many_by_row}
use Rattle.dslx_check_rules.proofs.control.patterns.has_so_many.Goals as goal

pub returns-in-Some : goal.returns-in-Some
returns-in-Some c = λ names later p h.
    c.row_has_so_many.ensures
    ∙ sym (ap (λ (t : DslxType). is_there (part_types c.args.count (Some t))) (c.in-Some.ensures.is names later p) ∙ many_by_row names (types_in names later) c.in-Some.row.now c.args.count)
