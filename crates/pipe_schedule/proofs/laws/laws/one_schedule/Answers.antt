use Rattle.pipe_schedule.proofs.OnLaws.One as one
use Rattle.pipe_schedule.proofs.laws.laws.one_schedule.Goals as goal

pub returns : goal.returns
returns c = one.one_schedule
