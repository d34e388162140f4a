use Rattle.std.proofs.Common.{◌∙◌, ◌<◌, Some, length, take, arith, sym, ap}
use Rattle.dslx_meaning.specs.Lists.{all_some}
use Rattle.dslx_check_rules.proofs.Lemmas.Nodes.Lists.{one_missing, there_next}
use Rattle.dslx_check_uses.proofs.OnArguments.{take_next}
use Rattle.dslx_check_uses.proofs.parametrics.values_of.Goals as goal

pub returns-in-None : goal.returns-in-None
returns-in-None c =
    let within : c.values.value-index < length c.args.values.now = omega arith in
    sym (one_missing c.args.values.now c.values.value-index c.value-item.result within (sym c.value-item.is ∙ c.in-None.is))

pub values-preserved : goal.values-preserved
values-preserved c =
    let within : c.values.value-index < length c.args.values.now = omega arith in
    ap all_some (take_next c.args.values.now c.values.value-index c.value-item.result within)
    ∙ there_next (take c.values.value-index c.args.values.now) c.values.all.items _ c.in_ok-own-in-Some.own c.values.invariant (sym c.value-item.is ∙ c.in-Some.is ∙ ap Some (sym c.in_ok-own-in-Some.ensures))
    ∙ ap Some (sym c.in_ok-push-in-Some.ensures.items)
