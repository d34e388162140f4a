use Rattle.std.proofs.Common.{refl}
use Rattle.dslx_tree.specs.declared.type_expr.TypeExpr.{out-TypeExpr}
use Rattle.dslx_check_leaves.proofs.Lemmas.Walking as walk
use Rattle.dslx_check_judge.proofs.OnInstances.OnChannels.{channel_is, word_from}
use Rattle.dslx_check_judge.proofs.instances.channels.channel_type.Goals as goal

pub returns : goal.returns
returns c = walk.retyped (channel_is c.args.ty.now)
    (walk.one_kept c.in_ok-typing.ensures (word_from (out-TypeExpr c.args.ty.now).span.to c.word_limit-limit.ensures c.with.ensures.ty c.with.ensures.faults c.with.ensures.size) (λ x. refl))
