use Rattle.std.proofs.Common.{sym}
use Rattle.std.proofs.lemmas.Result.{IfOk-weaker}
use Rattle.std.proofs.Common.{subst}
use Rattle.dslx_check_facts.specs.Walks.{shown}
use Rattle.dslx_check_judge.specs.Instances.Inner.Config.{StepsStatement}
use Rattle.dslx_check_judge.proofs.instances.config.statement_faults.Goals as goal

pub returns-in-Channel : goal.returns-in-Channel
returns-in-Channel c = IfOk-weaker c.channel_faults.result _ _ (λ faults g. subst (StepsStatement c.args.f.now c.args.s.now _ (shown c.args.w.now) _ c.args.made.now _ faults) (sym c.in-Channel.is) g) c.channel_faults.ensures

pub returns-in-Spawn : goal.returns-in-Spawn
returns-in-Spawn c = IfOk-weaker c.spawn_faults.result _ _ (λ faults g. subst (StepsStatement c.args.f.now c.args.s.now _ (shown c.args.w.now) _ c.args.made.now _ faults) (sym c.in-Spawn.is) g) c.spawn_faults.ensures
