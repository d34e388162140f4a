use Rattle.pipe_schedule.proofs.OnLaws.Packages as packages
use Rattle.pipe_schedule.proofs.laws.laws.schedules_or_infeasible.Goals as goal

pub returns : goal.returns
returns c = packages.schedules_or_infeasible
