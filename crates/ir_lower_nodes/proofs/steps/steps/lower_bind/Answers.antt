use Rattle.std.proofs.Common.{subst}
use Rattle.ir_lower_nodes.proofs.Lemmas.Patterns.{BindsTo}
use Rattle.ir_lower_nodes.proofs.OnSteps.OnSteps.{bind_lowers}
use Rattle.ir_lower_nodes.proofs.steps.steps.lower_bind.Goals as goal

pub returns : goal.returns
returns c cs =
    bind_lowers c.args.functions.now cs c.args.expr.now c.args.shape.now c.args.nodes.now c.lower.new.nodes c.bind.new.nodes c.args.token c.in_ok-value.value c.args.slots.now.items c.bind.new.slots.items c.in_ok-value.ensures.value
    (subst (λ os. BindsTo c.args.shape.now c.in_ok-value.value c.lower.new.nodes c.bind.new.nodes os c.bind.new.slots.items) c.in_ok-value.ensures.kept c.in_ok-bind.ensures.binds)
