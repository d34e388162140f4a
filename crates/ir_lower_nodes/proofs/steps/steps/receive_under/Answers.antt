use Rattle.std.proofs.Common.{subst, ◌∙◌}
use Rattle.ir_lower_nodes.specs.Exprs.Lowered.{Lowers}
use Rattle.ir_lower_nodes.proofs.OnSteps.OnSteps.{PairBinds, under_lowers}
use Rattle.ir_lower_nodes.proofs.steps.steps.receive_under.Goals as goal

pub returns : goal.returns
returns c cs same some =
    under_lowers c.args.functions.now cs c.args.receive.now c.args.condition.now c.args.other.now c.args.channel c.args.nodes.now c.lower.new.nodes c.lower-2.new.nodes c.put_receive.new.nodes c.element.new.self c.element-2.new.self c.choose.new.self c.bind_pair.new.nodes
    c.args.token c.in_ok-on.on c.in_ok-off.off c.in_ok-site.site c.in_ok-last.last c.in_ok-word.word c.in_ok-value.value c.args.slots.now.items c.bind_pair.new.slots.items
    c.in_ok-on.ensures.value
    (subst (λ os. Lowers c.args.functions.now c.args.other.now os c.lower.new.nodes c.lower-2.new.nodes c.in_ok-off.off) c.in_ok-on.ensures.kept c.in_ok-off.ensures.value)
    c.in_ok-site.ensures c.in_ok-last.ensures c.in_ok-word.ensures c.in_ok-value.ensures
    (subst (λ os. PairBinds c.args.receive.now.shape c.in_ok-value.value c.choose.new.self c.bind_pair.new.nodes os c.bind_pair.new.slots.items) (c.in_ok-off.ensures.kept ∙ c.in_ok-on.ensures.kept) c.in_ok-bind_pair.ensures.binds)
    same some
