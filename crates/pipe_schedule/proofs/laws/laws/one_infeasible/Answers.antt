use Rattle.pipe_schedule.proofs.OnLaws.Packages as packages
use Rattle.pipe_schedule.proofs.laws.laws.one_infeasible.Goals as goal

pub returns : goal.returns
returns c = packages.one_infeasible
