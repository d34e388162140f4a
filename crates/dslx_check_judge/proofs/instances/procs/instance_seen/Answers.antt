use Rattle.std.proofs.lemmas.Result.{IfOk-weaker}
use Rattle.dslx_check_judge.proofs.OnInstances.OnInstances.{function_judged, nothing_judged, other_item, proc_judged}
use Rattle.dslx_check_judge.proofs.instances.procs.instance_seen.Goals as goal

pub returns-in-Function : goal.returns-in-Function
returns-in-Function c = IfOk-weaker c.function_seen.result _ _ (λ j g. function_judged c.in-Function.function c.in-Function.is g) c.function_seen.ensures

pub returns-in-Proc : goal.returns-in-Proc
returns-in-Proc c = IfOk-weaker c.proc_seen.result _ _ (λ j g. proc_judged c.in-Proc.process c.in-Proc.is g) c.proc_seen.ensures

pub returns-in_default : goal.returns-in_default
returns-in_default c = nothing_judged (other_item c.args.definition.now c.in_default.not-Function c.in_default.not-Proc) c.none.ensures
