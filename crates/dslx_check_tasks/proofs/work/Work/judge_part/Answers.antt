use Rattle.dslx_check_tasks.proofs.Lemmas.Standing.{stays}
use Rattle.dslx_check_tasks.proofs.work.Work.judge_part.Goals as goal

pub returns-in-Some-Some : goal.returns-in-Some-Some
returns-in-Some-Some c = stays c.args.self.now
