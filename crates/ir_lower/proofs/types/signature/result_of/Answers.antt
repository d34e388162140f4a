use Rattle.std.proofs.Common.{◌∙◌, Some, ap, sym}
use Rattle.ir_lower.proofs.OnTypes.OnSame.{some_weaker}
use Rattle.ir_lower.proofs.OnTypes.OnSignatures.{at_index, call_gives}
use Rattle.ir_lower.proofs.types.signature.result_of.Goals as goal

pub returns-then-place-signatures : goal.returns-then-place-signatures
returns-then-place-signatures c =
    some_weaker c.result_for.result _ _
    (λ t h. call_gives c.args.signatures.now c.args.function c.index-signatures-place.result c.args.types.now
    (at_index c.args.signatures.now c.args.function c.index-signatures-place.result c.if-place-signatures.true c.index-signatures-place.is) h.0 ∙ ap Some (sym h.1))
    c.result_for.ensures
