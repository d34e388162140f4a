use Rattle.dslx_check_rules.proofs.OnControl.OnControl.{sure_last}
use Rattle.dslx_check_rules.proofs.control.matches.last_is_sure.Goals as goal

pub returns-in-len1-up : goal.returns-in-len1-up
returns-in-len1-up c = λ names rows later xs p. sure_last names rows later c.args.arms.now xs _ p c.in-len1-up.len_at_least
