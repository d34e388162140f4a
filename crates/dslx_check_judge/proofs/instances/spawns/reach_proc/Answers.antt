use Rattle.std.proofs.Common.{◌∙◌, ◌++◌, ap, sym}
use Rattle.dslx_check_facts.specs.Walks.{shown}
use Rattle.dslx_check_judge.proofs.OnInstances.OnSpawns.{parametrics_reach, proc_is_reached, refused_reaches}
use Rattle.dslx_check_judge.proofs.instances.spawns.reach_proc.Goals as goal

pub returns-then-refused : goal.returns-then-refused
returns-then-refused c = refused_reaches (sym c.is_refused-refused.ensures ∙ c.if-refused.true)

pub returns-in-None : goal.returns-in-None
returns-in-None c = parametrics_reach (sym c.is_refused-refused.ensures ∙ c.if-refused.false)
    (c.in_ok-reach_all.ensures ∙ ap (λ l. record (shown c.args.w.now) { reached = (shown c.args.w.now).reached ++ l }) c.as_slice.ensures.value) (sym c.in-None.is ∙ c.in_ok-all.ensures)

pub returns-in_ok-reach_instance-in-Some : goal.returns-in_ok-reach_instance-in-Some
returns-in_ok-reach_instance-in-Some c = proc_is_reached (sym c.is_refused-refused.ensures ∙ c.if-refused.false)
    (c.in_ok-reach_all.ensures ∙ ap (λ l. record (shown c.args.w.now) { reached = (shown c.args.w.now).reached ++ l }) c.as_slice.ensures.value) (sym c.in-Some.is ∙ c.in_ok-all.ensures) c.in_ok-reach_instance-in-Some.ensures
