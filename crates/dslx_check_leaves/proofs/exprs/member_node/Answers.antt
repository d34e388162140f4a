use Rattle.std.proofs.Common.{refl}
use Rattle.dslx_check_leaves.proofs.Lemmas.Walking.{limited_from, looked_up, one_kept}
use Rattle.dslx_check_leaves.proofs.exprs.member_node.Goals as goal

pub returns : goal.returns
returns c = one_kept (looked_up c.in_ok-value.ensures.misses c.in_ok-value.ensures.judged) (limited_from c.args.span c.limited.ensures.ty c.limited.ensures.faults c.limited.ensures.size) (λ x. refl)
