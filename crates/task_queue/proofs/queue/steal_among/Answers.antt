use Rattle.std.proofs.Common.{◌∙◌, List, Option, subst}
use Rattle.task_queue.specs.declared.lane.tally.Tally.{Tally}
use Rattle.task_queue.specs.Seats.{rights_know}
use Rattle.task_queue.specs.Passes.{IsStolen}
use Rattle.task_queue.proofs.OnPasses.{settled_more}
use Rattle.task_queue.proofs.queue.steal_among.Goals as goal

pub loop-k-preserved : goal.loop-k-preserved
loop-k-preserved g c =
    let told = c.in_default.ensures.stolen in (
      c.in_default.ensures.rights,
      told.0 ∙ c.loop-k.invariant.1,
      settled_more (rights_know c.args.rights.now.items) (rights_know c.loop-k.rights.items) c.args.from c.loop-k.k c.loop-k.invariant.1 c.loop-k.invariant.2 told.1,
    )

pub returns-in-Some-clause-stolen : goal.returns-in-Some-clause-stolen
returns-in-Some-clause-stolen g c =
    subst (λ (vs : List (Option (Tally _))). IsStolen g.T.Numbered.number_of g.T.Numbered.run_of g.T.Numbered.fact vs (rights_know c.steal_at.new.rights.items) c.in-Some.task) c.loop-k.invariant.1 c.in-Some.ensures.stolen
