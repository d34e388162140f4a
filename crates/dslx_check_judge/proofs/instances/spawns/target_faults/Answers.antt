use Rattle.std.proofs.Common.{◌∙◌, ap, refl, sym}
use Rattle.std.proofs.lemmas.Result.{IfOk-weaker}
use Rattle.dslx_meaning.specs.Rules.RuleNumbers as rule
use Rattle.dslx_meaning.specs.Rules.TypeEnvs.{breaks_if}
use Rattle.dslx_check_rules.specs.Seen.{seen}
use Rattle.dslx_check_judge.proofs.OnInstances.OnSpawns.{none_spawned, proc_spawned, wrongly_spawned}
use Rattle.dslx_check_judge.proofs.instances.spawns.target_faults.Goals as goal

pub returns-in-None : goal.returns-in-None
returns-in-None c = none_spawned c.args.spawn.now c.args.given.now c.in-None.ensures c.breaks.ensures

pub returns-then-is_right : goal.returns-then-is_right
returns-then-is_right c = IfOk-weaker c.right_faults.result _ _
    (λ faults g. proc_spawned c.args.spawn.now _ c.args.given.now c.in-Some.ensures c.is_cyclic-is_cyclic.ensures refl (sym c.has_right_count-is_right.ensures ∙ c.if-is_right.true) g) c.right_faults.ensures

pub returns-else-is_right : goal.returns-else-is_right
returns-else-is_right c = wrongly_spawned c.args.spawn.now _ c.args.given.now c.in-Some.ensures (sym c.has_right_count-is_right.ensures ∙ c.if-is_right.false)
    (c.cyclic_faults.ensures ∙ ap (λ b. seen (breaks_if b rule.NO_ITEM_REACHES_ITSELF c.args.spawn.now.span)) c.is_cyclic-is_cyclic.ensures) c.breaks-wrong.ensures c.and.ensures
