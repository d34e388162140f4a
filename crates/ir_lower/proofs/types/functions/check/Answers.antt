use Rattle.std.proofs.Common.{arith}
use Rattle.ir_lower.specs.Types.Typed.{IsSigned}
use Rattle.ir_lower.proofs.OnTypes.OnFunctions.{all_signed, below_more}
use Rattle.ir_lower.proofs.types.functions.check.Goals as goal

pub signatures-preserved : goal.signatures-preserved
signatures-preserved c = λ k less. below_more (IsSigned c.args.signatures.now c.args.functions.now) c.signatures.number c.signatures.invariant c.in_ok-check_one.ensures k (omega (arith, less))

pub returns : goal.returns
returns c = all_signed c.args.signatures.now c.args.functions.now (λ k less. c.signatures.invariant k (omega (arith, less, c.signatures-test.false)))
