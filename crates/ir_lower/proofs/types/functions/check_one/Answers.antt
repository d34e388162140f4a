use Rattle.ir_lower.proofs.OnTypes.OnSame.{on_ok_both}
use Rattle.ir_lower.proofs.OnTypes.OnSignatures.{at_index}
use Rattle.ir_lower.proofs.types.functions.check_one.Goals as goal

pub returns-then-number-functions : goal.returns-then-number-functions
returns-then-number-functions c =
    on_ok_both c.check_body.result _ _ _
    (λ arity body. record {
      signature = c.index-signatures-number.result;
      own = at_index c.args.signatures.now c.args.number c.index-signatures-number.result c.requires c.index-signatures-number.is;
      function = c.index-functions-number.result;
      there = at_index c.args.functions.now c.args.number c.index-functions-number.result c.if-number-functions.true c.index-functions-number.is;
      arity = arity;
      body = body;
    })
    c.check_body.ensures.arity c.check_body.ensures.body
