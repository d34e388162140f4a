use Rattle.pipe_schedule.proofs.OnLaws.One as one
use Rattle.pipe_schedule.proofs.laws.laws.one_cause.Goals as goal

pub returns : goal.returns
returns c = one.one_cause
