use Rattle.std.proofs.Common.{refl, arith}
use Rattle.proc_task.proofs.Rights.{inlet_received}
use Rattle.proc_task.proofs.port.Inlet.take.Goals as goal

pub returns-clause-inlet : goal.returns-clause-inlet
returns-clause-inlet g c = inlet_received _ _ c.receive.new.self _ refl (omega arith) refl c.in_ok-word.ensures.taken.0
