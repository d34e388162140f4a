use Rattle.std.proofs.Common.{◌∙◌, sym, ap}
use Rattle.dslx_check_rules.proofs.OnLimits.{of_width, widths_seen}
use Rattle.dslx_check_rules.proofs.limits.widths_passed.Goals as goal

pub returns-in-None : goal.returns-in-None
returns-in-None c = λ widths e. c.none.ensures ∙ ap (of_width c.args.end) (sym c.in-None.is ∙ e) ∙ sym (widths_seen c.args.end widths)

pub returns-in-Some : goal.returns-in-Some
returns-in-Some c = λ widths e. ap (of_width c.args.end) (sym c.in-Some.is ∙ e) ∙ sym (widths_seen c.args.end widths)
