use Rattle.ir_passes.proofs.Determined.{one_made}
use Rattle.ir_passes.proofs.laws.optimised_is_one.Goals as goal

pub returns : goal.returns
returns c = one_made
