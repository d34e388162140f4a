use Rattle.std.proofs.Common.{true}
use Rattle.dslx_core.specs.Lowering.Functions.{callee_in}
use Rattle.dslx_core.specs.Machines.Alike.Alike.{OfOneType}
use Rattle.dslx_core.proofs.OnMachines.OnAlike.Joined.{block_alike, expression_alike}
use Rattle.dslx_core.proofs.OnMachines.OnAlike.OfCalls.{calls_known}
use Rattle.dslx_core.proofs.OnMachines.OnAlike.OfInstances.{next_alike}
use Rattle.dslx_core.proofs.OnMachines.OnAlike.OfOperators.{OneType}
use Rattle.dslx_core.proofs.OnMachines.OnAlike.Relation.{there_too}
use Rattle.dslx_core.proofs.machines.alike.lower_mono.Goals as goal

pub returns-clause-expression : goal.returns-clause-expression
returns-clause-expression f = λ e scope c d calls. there_too OneType _ _ (expression_alike true c d (calls_known c d calls) e scope)

pub returns-clause-block : goal.returns-clause-block
returns-clause-block f = λ b scope c d calls. there_too OneType _ _ (block_alike true c d (calls_known c d calls) b scope)

pub returns-clause-instance : goal.returns-clause-instance
returns-clause-instance f = λ m items before other calls i.
    there_too OfOneType _ _ (next_alike true m items before other (calls_known (callee_in m items before) (callee_in m items other) calls) i)
