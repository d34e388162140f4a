use Rattle.std.proofs.Common.{ap, ◌∙◌}
use Rattle.chan_queue.specs.declared.view.View.{View}
use Rattle.chan_queue.proofs.Keeps.{joins, told, parts}
use Rattle.chan_queue.proofs.queue.ChanQueue.meet.Goals as goal

pub absorb-requires-clause-rule : goal.absorb-requires-clause-rule
absorb-requires-clause-rule g c = joins _ _ _ _ c.requires.sender.sends c.requires.receiver.receives

pub learn_as-requires-clause-rule : goal.learn_as-requires-clause-rule
learn_as-requires-clause-rule g c =
    let e = c.absorb.ensures.rule in
    told _ _ (ap (λ (u : View). u.sends) e ∙ c.requires.sender.sends) (ap (λ (u : View). u.receives) e)

pub another-receiver-requires-clause-rule : goal.another-receiver-requires-clause-rule
another-receiver-requires-clause-rule g c =
    let e = c.learn_as.ensures.queue.1 ∙ c.absorb.ensures.rule in
    parts _ _ (ap (λ (u : View). u.sends) e ∙ c.requires.sender.sends) (ap (λ (u : View). u.receives) e)
