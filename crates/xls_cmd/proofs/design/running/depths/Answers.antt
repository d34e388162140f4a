use Rattle.std.proofs.Common.{sym, subst}
use Rattle.net_core.specs.WellFormed.{IsDepths}
use Rattle.xls_cmd.proofs.OnDesign.Steps.{own_depths}
use Rattle.xls_cmd.proofs.design.running.depths.Goals as goal

pub returns-clause-fit : goal.returns-clause-fit
returns-clause-fit c = subst (IsDepths c.args.net.now) (sym c.in_ok-depths.ensures) (own_depths c.args.arguments c.args.net.now)
