use Rattle.dslx_check_tasks.proofs.Lemmas.Standing.{stays}
use Rattle.dslx_check_tasks.proofs.work.Work.judge_instance.Goals as goal

pub returns-then-is_some : goal.returns-then-is_some
returns-then-is_some c = stays c.args.self.now
