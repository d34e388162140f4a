use Rattle.ir_lower_nodes.proofs.OnPatterns.OnParts.{one_item}
use Rattle.ir_lower_nodes.proofs.OnPatterns.OnBound.{on_ok, arm_binds_one}
use Rattle.ir_lower_nodes.proofs.patterns.binding.bind_arm.Goals as goal

pub returns-in-len1-clause-binds : goal.returns-in-len1-clause-binds
returns-in-len1-clause-binds c =
    on_ok c.bind.result _ _
    (λ call. arm_binds_one c.args.nodes.now c.bind.new.nodes c.args.a c.args.slots.now.items c.bind.new.slots.items _ c.args.shapes.now (one_item c.args.shapes.now _ c.in-len1.len_at_least c.in-len1.len_below c.only-item.is) call)
    c.bind.ensures.binds
