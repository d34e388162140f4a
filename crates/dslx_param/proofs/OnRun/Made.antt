-- What is made of what was made last, in a body.
use Rattle.std.proofs.Common.{◌≡◌, Bool, true, false, List, Option, Some, ap}
use Rattle.dslx_meaning.specs.Lists.{and_then, where_true}
use Rattle.dslx_core.specs.Lowering.Lowering.{LoweredExpr}
use Rattle.dslx_core.specs.Machines.Machine.Bodies.{with_made}
use Rattle.dslx_core.specs.Machines.Machine.Tasks.{OpenBody}

-- it takes the place of what it is made of, if there is such
pub made_is : (is : Bool) (new : List LoweredExpr) (o : Option (List LoweredExpr)) (body : OpenBody) → where_true is (Some new) ≡ o
    → where_true is (Some (with_made new body)) ≡ and_then o (λ made. Some (with_made made body))
made_is true new o body h = ap (λ o. and_then o (λ made. Some (with_made made body))) h
made_is false new o body h = ap (λ o. and_then o (λ made. Some (with_made made body))) h
