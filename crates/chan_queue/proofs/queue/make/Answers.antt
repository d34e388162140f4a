use Rattle.std.proofs.Common.{ap, ◌∙◌}
use Rattle.chan_queue.specs.declared.view.View.{View}
use Rattle.chan_queue.proofs.Keeps.{begins, opens, nothing_yet, takes, one_opening, parts}
use Rattle.chan_queue.proofs.queue.make.Goals as goal

pub ruled-requires-clause-rule : goal.ruled-requires-clause-rule
ruled-requires-clause-rule g c = begins

pub push_as-requires-clause-rule : goal.push_as-requires-clause-rule
push_as-requires-clause-rule g c =
    let fresh = c.in_ok-line.ensures.3 in
    (opens _ _ _ _ (g.S.Streams.stream c.args.run c.args.chan) c.args.depth fresh tt, nothing_yet _ _ fresh)

pub pop_as-requires-clause-rule : goal.pop_as-requires-clause-rule
pop_as-requires-clause-rule g c =
    let e = c.in-Ok.ensures.rule in
    let open_now = ap (λ (u : View). u.opens) e in
    let sends = ap (λ (u : View). u.sends) e in
    (takes _ _ open_now sends (ap (λ (u : View). u.receives) e), one_opening _ _ open_now sends)

pub another-receiver-requires-clause-rule : goal.another-receiver-requires-clause-rule
another-receiver-requires-clause-rule g c =
    let e = c.in-Ok.ensures.rule in
    let f = c.in-Some.ensures.rule in
    parts _ _ (ap (λ (u : View). u.sends) f ∙ ap (λ (u : View). u.sends) e) (ap (λ (u : View). u.receives) f ∙ ap (λ (u : View). u.receives) e)
