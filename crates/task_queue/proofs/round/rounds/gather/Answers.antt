use Rattle.std.proofs.Common.{◌≡◌, [], ◌∷◌, ◌++◌, ap, ◌∙◌, rules}
use Rattle.task_queue.proofs.OnRound.Jobs.{gathers_first, may_take_in, gathers_more, gathers_all}
use Rattle.task_queue.proofs.round.rounds.gather.Goals as goal

pub loop-next-init : goal.loop-next-init
loop-next-init g c runtime jobs workers can =
    gathers_first g.T.Numbered.number_of g.T.Numbered.run_of g.T.Numbered.fact g.T.Steps.waits c.args.queue.now runtime workers jobs c.args.shares.items can c.pop.new.self.items c.in_ok-all.all
    (c.in-Some.ensures.items ∙ ap (λ s. c.pop.new.self.items ++ s ∷ []) c.in_ok-all.was)

pub take_in-requires-clause-pass : goal.take_in-requires-clause-pass
take_in-requires-clause-pass g c =
    let can = c.requires in
    let got = (c.loop-next.invariant can.0 can.1 can.2 can.3).got in
    (got.is, got.dealt)

pub take_in-requires-clause-other : goal.take_in-requires-clause-other
take_in-requires-clause-other g c =
    let can = c.requires in
    let split = c.in-Some-pop.ensures.items ∙ ap (λ s. c.pop-in-loop-next.new.self.items ++ s ∷ []) c.in_ok-share.was in
    (may_take_in g.T.Numbered.number_of g.T.Numbered.run_of g.T.Numbered.fact g.T.Steps.waits c.args.queue.now can.0 can.2 can.1 c.args.shares.items can.3 c.loop-next.shares.items c.pop-in-loop-next.new.self.items c.loop-next.all c.in_ok-share.share
    (c.loop-next.invariant can.0 can.1 can.2 can.3) split).0

pub take_in-requires-clause-apart : goal.take_in-requires-clause-apart
take_in-requires-clause-apart g c =
    let can = c.requires in
    let split = c.in-Some-pop.ensures.items ∙ ap (λ s. c.pop-in-loop-next.new.self.items ++ s ∷ []) c.in_ok-share.was in
    (may_take_in g.T.Numbered.number_of g.T.Numbered.run_of g.T.Numbered.fact g.T.Steps.waits c.args.queue.now can.0 can.2 can.1 c.args.shares.items can.3 c.loop-next.shares.items c.pop-in-loop-next.new.self.items c.loop-next.all c.in_ok-share.share
    (c.loop-next.invariant can.0 can.1 can.2 can.3) split).1

pub take_in-requires-clause-reserve : goal.take_in-requires-clause-reserve
take_in-requires-clause-reserve g c =
    let can = c.requires in
    let split = c.in-Some-pop.ensures.items ∙ ap (λ s. c.pop-in-loop-next.new.self.items ++ s ∷ []) c.in_ok-share.was in
    (may_take_in g.T.Numbered.number_of g.T.Numbered.run_of g.T.Numbered.fact g.T.Steps.waits c.args.queue.now can.0 can.2 can.1 c.args.shares.items can.3 c.loop-next.shares.items c.pop-in-loop-next.new.self.items c.loop-next.all c.in_ok-share.share
    (c.loop-next.invariant can.0 can.1 can.2 can.3) split).2

pub loop-next-preserved : goal.loop-next-preserved
loop-next-preserved g c runtime jobs workers can =
    let split = c.in-Some-pop.ensures.items ∙ ap (λ s. c.pop-in-loop-next.new.self.items ++ s ∷ []) c.in_ok-share.was in
    gathers_more g.T.Numbered.number_of g.T.Numbered.run_of g.T.Numbered.fact g.T.Steps.waits c.args.queue.now runtime workers jobs c.args.shares.items can c.loop-next.shares.items c.pop-in-loop-next.new.self.items c.loop-next.all c.in_ok-share.share
    (c.loop-next.invariant runtime jobs workers can) split c.take_in.new.self c.in_ok-take_in.ensures

pub returns : goal.returns
returns g c runtime jobs workers can =
    let empty : c.loop-next.shares.items ≡ [] = search rules in
    gathers_all g.T.Numbered.number_of g.T.Numbered.run_of g.T.Numbered.fact g.T.Steps.waits c.args.queue.now runtime workers jobs c.args.shares.items can c.loop-next.shares.items c.loop-next.all (c.loop-next.invariant runtime jobs workers can) empty
