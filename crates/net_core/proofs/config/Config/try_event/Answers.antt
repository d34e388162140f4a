use Rattle.std.proofs.Common.{refl}
use Rattle.net_core.proofs.config.Config.try_event.Goals as goal

pub returns-in-End-clause-ok : goal.returns-in-End-clause-ok
returns-in-End-clause-ok c = rw c.in-End.is (refl, c.end.ensures)
