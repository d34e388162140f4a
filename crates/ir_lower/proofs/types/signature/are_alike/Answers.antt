use Rattle.std.proofs.Common.{◌∙◌, arith}
use Rattle.ir_lower.proofs.OnTypes.OnSame.{pairs_next}
use Rattle.ir_lower.proofs.types.signature.are_alike.Goals as goal

pub types-preserved : goal.types-preserved
types-preserved c = record {
  same_length = c.types.invariant.same_length;
  same_rest =
      pairs_next c.args.types.now c.args.others.now c.types.i c.index-types-i.result c.index-others-i.result c.types-test.true (omega (arith, c.types-test.true, c.types.invariant.same_length)) c.index-types-i.is c.index-others-i.is
      (c.is.ensures.0 c.if-not-is.false)
      ∙ c.types.invariant.same_rest;
}
