use Rattle.std.proofs.Common.{◌∙◌}
use Rattle.dslx_meaning.specs.Rules.OperatorRules.{is_bool, unless_type}
use Rattle.dslx_meaning.specs.Rules.AggregateRules.{wanted_faults}
use Rattle.dslx_meaning.specs.Rules.RuleNumbers as rule
use Rattle.dslx_check_rules.specs.Seen.{seen}
use Rattle.dslx_check_rules.specs.Interned.{type_if}
use Rattle.dslx_check_rules.proofs.control.effects.word_faults.Goals as goal

pub returns : goal.returns
returns c = λ names later t x distinct p row test is.
    c.and.ensures (unless_type is_bool rule.CONDITION_IS_BOOL t.span t.judgement.ty) (wanted_faults x.span (type_if names later c.args.word) x.judgement.ty)
    (c.unless_bool-odd.ensures names later p test.part.row ∙ (λ i. seen (unless_type is_bool rule.CONDITION_IS_BOOL (test.span i) (test.part.ty i))))
    (c.wanted_faults-own.ensures names later distinct p row is.part.row ∙ (λ i. seen (wanted_faults (is.span i) (type_if names later c.args.word) (is.part.ty i))))
