use Rattle.std.proofs.Common.{◌∙◌, ap}
use Rattle.dslx_core.specs.Types.Typing.{if_alike}
use Rattle.ir_lower.proofs.OnTypes.OnSame.{match_true, same_alike}
use Rattle.ir_lower.proofs.types.binding.may_equal.Goals as goal

pub returns : goal.returns
returns c =
    match_true c.is.result _ (λ so. (c.if-certain.false, ap (if_alike c.args.ty.now) c.in_ok-own.ensures ∙ same_alike c.args.ty.now c.in_ok-own.own (c.is.ensures.0 so)))
