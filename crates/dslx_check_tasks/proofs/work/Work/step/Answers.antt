use Rattle.dslx_check_tasks.proofs.work.Work.step.Goals as goal

pub returns-in-Item : goal.returns-in-Item
returns-in-Item c = c.judge_item.ensures

pub returns-in-Size : goal.returns-in-Size
returns-in-Size c = c.judge_instance.ensures

pub returns-in-Instance : goal.returns-in-Instance
returns-in-Instance c = c.judge_instance-in-Instance.ensures

pub returns-in-Foreign : goal.returns-in-Foreign
returns-in-Foreign c = c.judge_part.ensures
