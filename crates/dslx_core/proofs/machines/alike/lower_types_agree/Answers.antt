use Rattle.std.proofs.Common.{false}
use Rattle.dslx_core.specs.Lowering.Functions.{callee_in}
use Rattle.dslx_core.specs.Machines.Alike.Alike.{OfOneType}
use Rattle.dslx_core.proofs.OnMachines.OnAlike.Joined.{block_alike, expression_alike}
use Rattle.dslx_core.proofs.OnMachines.OnAlike.OfCalls.{calls_agree}
use Rattle.dslx_core.proofs.OnMachines.OnAlike.OfInstances.{next_alike}
use Rattle.dslx_core.proofs.OnMachines.OnAlike.OfOperators.{OneType}
use Rattle.dslx_core.proofs.OnMachines.OnAlike.Relation.{where_both}
use Rattle.dslx_core.proofs.machines.alike.lower_types_agree.Goals as goal

pub returns-clause-expression : goal.returns-clause-expression
returns-clause-expression f = λ e scope c d calls. where_both OneType _ _ (expression_alike false c d (calls_agree c d calls) e scope)

pub returns-clause-block : goal.returns-clause-block
returns-clause-block f = λ b scope c d calls. where_both OneType _ _ (block_alike false c d (calls_agree c d calls) b scope)

pub returns-clause-instance : goal.returns-clause-instance
returns-clause-instance f = λ m items before other calls i.
    where_both OfOneType _ _ (next_alike false m items before other (calls_agree (callee_in m items before) (callee_in m items other) calls) i)
