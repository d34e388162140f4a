use Rattle.vlog_text.proofs.OnToken.PrefixFacts.{run_digits}
use Rattle.std.proofs.Common.{subst, sym, take}
use Rattle.std.specs.Str.Parse.{AllDigits}
use Rattle.vlog_text.proofs.token.front.prefix_digits.Goals as goal

pub returns-clause-all : goal.returns-clause-all
returns-clause-all c = subst (λ n. AllDigits 10 (take n c.args.text.now)) (sym c.digit_run.ensures.len) (run_digits c.args.text.now)
