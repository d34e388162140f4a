use denote.Param.Send.{sendable}
use Rattle.dslx_interp.proofs.Lemmas.Threads.Shared.{design_field, instance_field}
use Rattle.dslx_interp.proofs.threads.bodies_are_shared.Goals as goal

pub shared-requires-sync-T : goal.shared-requires-sync-T
shared-requires-sync-T c κs = let a = design_field in let b = instance_field in search sendable depth 20
