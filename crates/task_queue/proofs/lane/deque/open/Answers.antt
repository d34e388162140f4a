use Rattle.std.proofs.Common.{ap, arith, ◌∙◌, Some, true, false}
use Rattle.task_queue.proofs.LaneKeeps.{begins, opens, taken_out, not_empty}
use Rattle.task_queue.specs.declared.lane.tally.Tally.{Tally}
use Rattle.task_queue.proofs.lane.deque.open.Goals as goal

pub fifo_as-requires : goal.fifo_as-requires
fifo_as-requires g c = begins g.T.Numbered.number_of g.T.Numbered.run_of g.T.Numbered.fact

pub push_as-requires-clause-pushes : goal.push_as-requires-clause-pushes
push_as-requires-clause-pushes g c =
    let new = c.in_ok-worker.ensures.4 in
    opens g.T.Numbered.number_of g.T.Numbered.run_of g.T.Numbered.fact _ _ c.args.run (ap (λ (v : Tally _). v.parts) new) (ap (λ (v : Tally _). v.opens) new) (ap (λ (v : Tally _). v.put) new) (ap (λ (v : Tally _). v.taken) new)

pub pop_as-requires-clause-fifo : goal.pop_as-requires-clause-fifo
pop_as-requires-clause-fifo g c is =
    let told = c.in-Ok.ensures.rule.0 in
    taken_out g.T.Numbered.number_of g.T.Numbered.run_of g.T.Numbered.fact _ _ (ap (λ (v : Tally _). v.parts) told ∙ ap (λ (v : Tally _). v.parts) c.in_ok-worker.ensures.4) (ap (λ (v : Tally _). v.opens) told)

pub pop_as-requires-clause-lifo : goal.pop_as-requires-clause-lifo
pop_as-requires-clause-lifo g c is = absurd (omega (arith, is, c.push_as.ensures.same.1, c.in_ok-worker.ensures.1))

pub pop_as-requires-clause-empty : goal.pop_as-requires-clause-empty
pop_as-requires-clause-empty g c =
    let told = c.in-Ok.ensures.rule.0 in
    not_empty g.T.Numbered.number_of g.T.Numbered.run_of g.T.Numbered.fact _ _ (ap (λ (v : Tally _). v.parts) told ∙ ap (λ (v : Tally _). v.parts) c.in_ok-worker.ensures.4) (ap (λ (v : Tally _). v.opens) told)

pub returns : goal.returns
returns g c =
    let v0 = c.in_ok-worker.ensures.4 in
    let v1 = c.in-Ok.ensures.rule.0 in
    let v2 = c.in-Some.ensures.rule in
    let all = v2 ∙ ap (λ (v : Tally _). record v { opens = false }) (v1 ∙ ap (λ (v : Tally _). record v { opens = true; run = Some c.args.run }) v0) in
    let flavor = c.pop_as.ensures.same.0.1 ∙ (c.push_as.ensures.same.1 ∙ c.in_ok-worker.ensures.1) in (
      record { order = flavor; part = omega (arith, ap (λ (v : Tally _). v.parts) all); opens = ap (λ (v : Tally _). v.opens) all },
      c.in_ok-stealer.ensures.1 ∙ flavor,
      c.in_ok-stealer.ensures.0,
      all,
      omega (arith, c.in_ok-worker.ensures.0.1, c.push_as.ensures.same.3, c.pop_as.ensures.same.0.3, c.pop_as.ensures.same.1, c.in-Ok.ensures.rule.1, c.in_ok-worker.ensures.3),
    )
