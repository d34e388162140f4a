use Rattle.xls_cmd.proofs.Answering as answering
use Rattle.xls_cmd.proofs.laws.any_workers.Goals as goal

pub returns : goal.returns
returns c = answering.any_workers
