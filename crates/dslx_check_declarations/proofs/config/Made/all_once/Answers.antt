use Rattle.std.proofs.Common.{◌∙◌, refl, sym, arith}
use Rattle.std.proofs.lemmas.List.{length-reverse}
use Rattle.dslx_check_declarations.proofs.OnConfig.{all_used_once, not_used_once, once_next}
use Rattle.dslx_check_declarations.proofs.config.Made.all_once.Goals as goal

pub ends-preserved : goal.ends-preserved
ends-preserved c = λ used are. once_next used _ c.ends.i (omega (arith, c.len-i-end.ensures, length-reverse c.args.s.now.ends)) (sym (c.is_once_at-is_once.ensures used are) ∙ c.if-not-is_once.false) (c.ends.invariant used are)

pub returns-then-not-is_once : goal.returns-then-not-is_once
returns-then-not-is_once c = λ used are. not_used_once used c.args.s.now.ends c.ends.i (omega (arith, c.len-i-end.ensures)) (sym (c.is_once_at-is_once.ensures used are) ∙ c.if-not-is_once.true)

pub returns : goal.returns
returns c = λ used are. all_used_once used c.args.s.now.ends c.ends.i (omega (arith, c.len-i-end.ensures)) (c.ends.invariant used are)
