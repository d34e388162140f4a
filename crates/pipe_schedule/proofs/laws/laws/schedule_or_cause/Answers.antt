use Rattle.pipe_schedule.proofs.OnLaws.One as one
use Rattle.pipe_schedule.proofs.laws.laws.schedule_or_cause.Goals as goal

pub returns : goal.returns
returns c = one.schedule_or_cause
