use Rattle.ir_lower_nodes.proofs.OnSteps.OnSteps.{pair_binds}
use Rattle.ir_lower_nodes.proofs.OnSteps.OnLists.{on_ok}
use Rattle.ir_lower_nodes.proofs.steps.sites.bind_pair.Goals as goal

pub returns-clause-binds : goal.returns-clause-binds
returns-clause-binds c =
    on_ok c.bind.result _ _
    (λ call. pair_binds c.args.shape.now c.args.nodes.now c.unit.new.self c.tuple.new.self c.bind.new.nodes c.in_ok-unit.unit c.args.value c.in_ok-pair.pair c.args.slots.now.items c.bind.new.slots.items c.in_ok-unit.ensures c.in_ok-pair.ensures call)
    c.bind.ensures.binds
