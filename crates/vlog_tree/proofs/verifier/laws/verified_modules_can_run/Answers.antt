use Rattle.vlog_tree.proofs.OnVerifier.Running.{can_run}
use Rattle.vlog_tree.proofs.verifier.laws.verified_modules_can_run.Goals as goal

pub returns : goal.returns
returns c = can_run
