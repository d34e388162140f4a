use Rattle.std.proofs.lemmas.Result.{IfOk-weaker}
use Rattle.ir_lower.proofs.OnTypes.OnKinds.{slot_typed}
use Rattle.ir_lower.proofs.types.exprs.type_slot.Goals as goal

pub returns : goal.returns
returns c = IfOk-weaker c.within.result _ _ (λ t h calls. slot_typed calls c.args.bound.now c.args.number c.in_ok-ty.ty t c.in_ok-ty.ensures h) c.within.ensures
