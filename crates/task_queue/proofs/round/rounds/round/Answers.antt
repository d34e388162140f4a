use Rattle.std.proofs.Common.{◌≡◌, ◌+◌, ℕ, Some, length, subst, arith}
use Rattle.std.specs.Prelude.{slice_get}
use Rattle.task_queue.specs.declared.queue.TaskPass.{TaskPass}
use Rattle.task_queue.specs.Seats.{numbers_below}
use Rattle.task_queue.specs.Passes.{IsNewPass}
use Rattle.task_queue.specs.Round.Inner.Shares.{MayWork}
use Rattle.task_queue.specs.Round.Inner.Jobs.{HasPut, AreJobs, IsGathered}
use Rattle.task_queue.proofs.OnRound.Jobs.{can_gather, owns_all}
use Rattle.task_queue.proofs.round.rounds.round.Goals as goal
use Rattle.task_queue.proofs.round.rounds.round.Goals.{In_ok-jobs, In_ok-shares, In_ok-share}

pub deal-requires-clause-pass : goal.deal-requires-clause-pass
deal-requires-clause-pass g c =
    let count : c.len.result ≡ length c.args.tasks.items = omega (arith, c.len.ensures, c.args.tasks.ok.0) in
    (Some c.args.run, subst (λ (n : ℕ). IsNewPass c.in_ok-made.made (Some c.args.run) c.args.workers (n + 1024) c.in_ok-made.pass) count c.in_ok-made.ensures, c.requires.tasks.0)

pub deal-requires-clause-workers : goal.deal-requires-clause-workers
deal-requires-clause-workers g c = c.requires.workers.0

-- the pass has room for all tasks and for its worker's turns
new_pass : (g : _) (c : In_ok-jobs g) → IsNewPass c.in_ok-made.made (Some c.args.run) c.args.workers (length c.args.tasks.items + 1024) c.in_ok-made.pass
new_pass g c =
    let count : c.len.result ≡ length c.args.tasks.items = omega (arith, c.len.ensures, c.args.tasks.ok.0) in
    subst (λ (n : ℕ). IsNewPass c.in_ok-made.made (Some c.args.run) c.args.workers (n + 1024) c.in_ok-made.pass) count c.in_ok-made.ensures

dealt : (g : _) (c : In_ok-jobs g)
    → (put : TaskPass _ _) × HasPut g.T.Numbered.number_of c.in_ok-made.made c.args.tasks.items c.in_ok-made.pass put × AreJobs c.in_ok-made.made (Some c.args.run) 1024 c.args.workers put c.in_ok-jobs.jobs.items
dealt g c = c.in_ok-jobs.ensures (Some c.args.run) (new_pass g c)

-- so each worker may begin
ready : (g : _) (c : In_ok-jobs g) (k : ℕ) (job : TaskPass _ _) → slice_get c.in_ok-jobs.jobs.items k ≡ Some job → MayWork c.in_ok-made.made job
ready g c k job e =
    let is = ((dealt g c).2.each k job e).2 in
    record { pass_is = is.is; runtime = Some c.args.run; knows = is.knows; room = is.room_is }

pub work_all-requires-after_bounds : goal.work_all-requires-after_bounds
work_all-requires-after_bounds g c κs within = ready g (goal.at.work_all-requires-after_bounds g c).In_ok-jobs

pub gather-requires : goal.gather-requires
gather-requires g c =
    let all = dealt g (goal.at.gather-requires g c).In_ok-jobs in
    let can = can_gather g.T.Numbered.number_of g.T.Numbered.run_of g.T.Numbered.fact g.T.Steps.waits c.in_ok-made.made (Some c.args.run) c.args.workers all.0 c.in_ok-jobs.jobs.items all.2 c.requires.workers.0 c.in_ok-shares.shares.items c.in_ok-shares.ensures in
    (Some c.args.run, c.in_ok-jobs.jobs.items, c.args.workers, can)

-- what the workers have brought back
gathered : (g : _) (c : In_ok-share g) (all : (put : TaskPass _ _) × HasPut g.T.Numbered.number_of c.in_ok-made.made c.args.tasks.items c.in_ok-made.pass put × AreJobs c.in_ok-made.made (Some c.args.run) 1024 c.args.workers put c.in_ok-jobs.jobs.items)
    → IsGathered g.T.Numbered.number_of g.T.Numbered.run_of g.T.Numbered.fact g.T.Steps.waits c.in_ok-made.made (Some c.args.run) (numbers_below c.args.workers) c.in_ok-jobs.jobs.items c.in_ok-share.share
gathered g c all =
    c.in_ok-share.ensures (Some c.args.run) c.in_ok-jobs.jobs.items c.args.workers
    (can_gather g.T.Numbered.number_of g.T.Numbered.run_of g.T.Numbered.fact g.T.Steps.waits c.in_ok-made.made (Some c.args.run) c.args.workers all.0 c.in_ok-jobs.jobs.items all.2 c.requires.workers.0 c.in_ok-shares.shares.items c.in_ok-shares.ensures)

pub drain-requires : goal.drain-requires
drain-requires g c =
    let at = goal.at.drain-requires g c in
    let back = gathered g at.In_ok-share (dealt g at.In_ok-jobs) in
    let new = new_pass g at.In_ok-jobs in
    (back.is, owns_all c.in_ok-made.made c.args.workers c.in_ok-share.share.pass new.count back.owned_are, back.dealt)

pub try_all-requires : goal.try_all-requires
try_all-requires g c =
    let at = goal.at.try_all-requires g c in
    let back = gathered g at.In_ok-share (dealt g at.In_ok-jobs) in
    (Some c.args.run, c.in_ok-rest.ensures.tasks (Some c.args.run) back.knows)

pub returns-clause-tasks : goal.returns-clause-tasks
returns-clause-tasks g c =
    let at = goal.at.returns-clause-tasks g c in
    let back = gathered g at.In_ok-share (dealt g at.In_ok-jobs) in
    c.in_ok-moved.ensures.tasks (Some c.args.run) (c.in_ok-rest.ensures.tasks (Some c.args.run) back.knows) back.tasks_are

pub returns-clause-all : goal.returns-clause-all
returns-clause-all g c h =
    let at = goal.at.returns-clause-all g c in
    let all = dealt g at.In_ok-jobs in
    let back = gathered g at.In_ok-share all in
    let new = new_pass g at.In_ok-jobs in
    let rest = c.in_ok-rest.ensures.all h in
    let moved = c.in_ok-moved.ensures.all h in
    omega (arith, back.held h, rest, moved, all.2.put h, all.2.taken h, all.1.put h, all.1.taken h, new.put h, new.taken h)

pub returns-clause-waits : goal.returns-clause-waits
returns-clause-waits g c still =
    let at = goal.at.returns-clause-waits g c in
    let back = gathered g at.In_ok-share (dealt g at.In_ok-jobs) in
    c.in_ok-moved.ensures.waits still back.waits_if
