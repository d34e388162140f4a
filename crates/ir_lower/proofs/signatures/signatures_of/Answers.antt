use Rattle.std.proofs.Common.{subst}
use Rattle.ir_lower_nodes.specs.Exprs.Calls.{AreNodeFunctions}
use Rattle.ir_lower.specs.Types.Signatures.{signatures_of}
use Rattle.ir_lower.proofs.signatures.signatures_of.Goals as goal

pub returns : goal.returns
returns c =
    subst (λ ss. AreNodeFunctions (signatures_of ss) c.args.design.now.functions) c.as_slice.ensures.value
    (subst (λ fs. AreNodeFunctions (signatures_of c.as_slice.result.now) fs) c.as_slice-functions.ensures c.in_ok-check.ensures)
