use Rattle.std.proofs.Common.{◌∙◌, arith}
use Rattle.dslx_check_rules.specs.Interned.{type_if}
use Rattle.dslx_check_rules.proofs.OnControl.OnCalls.{others_none, others_two}
use Rattle.dslx_check_rules.proofs.control.effects.other_faults.Goals as goal

pub returns-in-len2 : goal.returns-in-len2
returns-in-len2 c = λ names later xs distinct p row parts.
    others_two names c.args.types.now later c.args.others.now xs (type_if names later c.args.word) c.word_faults.result _ _ parts c.in-len2.len_at_least c.in-len2.len_below
    (λ t x test is. c.word_faults.ensures names later t x distinct p row test is)

pub returns-in-empty : goal.returns-in-empty
returns-in-empty c = λ names later xs distinct p row parts.
    c.none.ensures ∙ others_none names c.args.types.now later c.args.others.now xs (type_if names later c.args.word) parts (λ e. absurd (omega (arith, e))) (λ e. absurd (omega (arith, e)))

pub returns-in-len3-up : goal.returns-in-len3-up
returns-in-len3-up c = λ names later xs distinct p row parts.
    c.none-in-len3-up.ensures ∙ others_none names c.args.types.now later c.args.others.now xs (type_if names later c.args.word) parts (λ e. absurd (omega (arith, e))) (λ e. absurd (omega (arith, e)))
