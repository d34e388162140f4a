use Rattle.ir_lower_nodes.proofs.OnSteps.OnSteps.{always_lowers}
use Rattle.ir_lower_nodes.proofs.steps.steps.receive_always.Goals as goal

pub returns : goal.returns
returns c fs cs same none =
    always_lowers fs cs c.args.receive.now c.args.channel c.args.nodes.now c.put_receive.new.nodes c.element.new.self c.element-2.new.self c.bind_pair.new.nodes c.args.token c.in_ok-site.site c.in_ok-last.last c.in_ok-word.word c.args.slots.now.items c.bind_pair.new.slots.items
    c.in_ok-site.ensures c.in_ok-last.ensures c.in_ok-word.ensures c.in_ok-bind_pair.ensures.binds same none
