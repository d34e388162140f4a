use Rattle.std.proofs.Common.{◌≡◌, true, Some, subst}
use Rattle.dslx_core.specs.Types.Typing.{binds_types}
use Rattle.ir_lower.specs.Types.Signatures.{call_types}
use Rattle.ir_lower.specs.Types.Words.{word_at}
use Rattle.ir_lower.proofs.OnTypes.OnSteps.{on_ok, value_bound}
use Rattle.ir_lower.proofs.types.steps.bind_value.Goals as goal

pub returns : goal.returns
returns c =
    on_ok c.bind_all.result _ _
    (λ h. value_bound (call_types c.args.signatures.now) (word_at c.args.words.now) c.args.expr.now c.args.shape.now c.args.bound.now.items c.bind_all.new.bound.items c.in_ok-ty.ty c.in_ok-ty.ensures.ty
    (subst (λ ts. binds_types true c.args.shape.now c.in_ok-ty.ty ts ≡ Some c.bind_all.new.bound.items) c.in_ok-ty.ensures.kept h))
    c.bind_all.ensures.binds
