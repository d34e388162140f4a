use Rattle.std.proofs.Common.{subst, sym}
use Rattle.std.proofs.lemmas.Result.{IfOk-weaker}
use Rattle.ir_lower_nodes.specs.Steps.Steps.{StepLowers}
use Rattle.ir_lower_nodes.proofs.steps.steps.lower_step.Goals as goal

pub returns-in-Bind : goal.returns-in-Bind
returns-in-Bind c =
    IfOk-weaker c.lower_bind.result _ _
    (λ o h. subst (λ s. StepLowers c.args.functions.now c.args.channels.now s c.args.slots.now.items c.lower_bind.new.slots.items c.args.nodes.now c.lower_bind.new.nodes c.args.token o) (sym c.in-Bind.is) (h c.args.channels.now))
    c.lower_bind.ensures

pub returns-in-Receive : goal.returns-in-Receive
returns-in-Receive c =
    IfOk-weaker c.lower_receive.result _ _
    (λ o h. subst (λ s. StepLowers c.args.functions.now c.args.channels.now s c.args.slots.now.items c.lower_receive.new.slots.items c.args.nodes.now c.lower_receive.new.nodes c.args.token o) (sym c.in-Receive.is) h)
    c.lower_receive.ensures

pub returns-in-Send : goal.returns-in-Send
returns-in-Send c =
    IfOk-weaker c.lower_send.result _ _
    (λ o h. subst (λ s. StepLowers c.args.functions.now c.args.channels.now s c.args.slots.now.items c.lower_send.new.slots.items c.args.nodes.now c.lower_send.new.nodes c.args.token o) (sym c.in-Send.is) h)
    c.lower_send.ensures
