use Rattle.std.proofs.Common.{◌∙◌, [], sym, ap}
use Rattle.std.specs.Prelude.{if◌then◌else◌}
use Rattle.dslx_check_rules.specs.Seen.{seen}
use Rattle.dslx_check_rules.specs.Control.Calls.{misfits}
use Rattle.dslx_check_rules.proofs.control.calls.fitting_faults.Goals as goal

pub returns-then-callee : goal.returns-then-callee
returns-then-callee c = λ names later k xs distinct p is parts.
    c.none.ensures ∙ sym (ap (λ b. seen (if b then [] else misfits k.arguments xs)) (sym is.wrong ∙ c.if-callee.true))

pub returns-else-callee : goal.returns-else-callee
returns-else-callee c = λ names later k xs distinct p is parts.
    c.operand_faults.ensures names later k.arguments xs distinct p is.arguments parts ∙ sym (ap (λ b. seen (if b then [] else misfits k.arguments xs)) (sym is.wrong ∙ c.if-callee.false))
