use Rattle.std.proofs.lemmas.Result.{IfOk-weaker}
use Rattle.ir_lower.proofs.OnTypes.OnKinds.{literal_typed}
use Rattle.ir_lower.proofs.types.exprs.type_literal.Goals as goal

pub returns : goal.returns
returns c = IfOk-weaker c.literal.result _ _ (λ t h calls types. literal_typed calls types c.args.value.now t h) c.literal.ensures
