use Rattle.std.proofs.Common.{◌≡◌, ◌+◌, [], ◌∷◌, length, refl, sym, ap, subst, arith}
use Rattle.std.proofs.lemmas.List.{length-append}
use Rattle.task_queue.specs.Passes.{owned, seats}
use Rattle.task_queue.proofs.OnPasses.{seats_length}
use Rattle.task_queue.proofs.OnRound.Jobs.{IsLeft, owned_length, left_less, job_is, splits_none, splits_more, splits_all}
use Rattle.task_queue.proofs.round.rounds.split_all.Goals as goal

pub loop-init : goal.loop-init
loop-init g c =
    let none = ap length c.new-jobs.ensures.items in (
      omega (arith, none),
      record {
        is = c.requires.pass.0;
        dealt = c.requires.pass.1;
        left = c.args.workers;
        left_is = omega (arith, none);
        owned_are = c.requires.pass.2;
        places_are = c.requires.pass.3;
        room = c.requires.room;
      },
      λ runtime knows. splits_none c.args.queue.now c.args.workers runtime c.args.pass c.new-jobs.result.items c.new-jobs.ensures.items knows,
    )

pub split-job-requires-clause-pass : goal.split-job-requires-clause-pass
split-job-requires-clause-pass g c = (c.loop.invariant.1.is, c.loop.invariant.1.dealt)

pub split-job-requires-clause-two : goal.split-job-requires-clause-two
split-job-requires-clause-two g c =
    let count = owned_length c.args.queue.now c.args.workers c.loop.pass (length c.loop.jobs.items) c.loop.invariant.1 in
    omega (arith, count, c.loop.invariant.0, c.loop-test.true, seats_length (seats c.loop.pass) (owned c.loop.pass) refl)

pub loop-preserved : goal.loop-preserved
loop-preserved g c =
    let jobs = c.loop.jobs.items in
    let split = c.split-job.ensures in
    let was = c.loop.invariant.1 in
    let pushed = c.in_ok-push.ensures.items in
    let longer : length c.push.new.self.items ≡ length jobs + 1 = omega (arith, ap length pushed, length-append jobs (c.split-job.result ∷ [])) in (
      omega (arith, longer, c.loop.invariant.0),
      subst (λ n. IsLeft c.args.queue.now c.args.workers c.split-job.new.pass n) (sym longer) (left_less c.args.queue.now c.args.workers c.loop.pass c.split-job.new.pass c.split-job.result (length jobs) was split.passes split.deques split.room),
      λ runtime knows.
          let before = c.loop.invariant.2 runtime knows in
          let both = split.run runtime before.knows in
          splits_more c.args.queue.now c.args.workers runtime c.args.pass c.loop.pass jobs c.push.new.self.items c.split-job.result before pushed c.split-job.new.pass
          (job_is c.args.queue.now c.args.workers c.loop.pass c.split-job.new.pass c.split-job.result (length jobs) was split.passes split.deques split.room runtime both.1) both.0 split.sums,
    )

pub returns : goal.returns
returns g c runtime knows =
    splits_all c.args.queue.now c.args.workers runtime c.args.pass c.loop.pass c.loop.jobs.items c.push-2.new.self.items c.loop.pass (c.loop.invariant.2 runtime knows) c.in_ok-push-2.ensures.items refl c.loop.invariant.1
    (omega (arith, c.loop.invariant.0, c.loop-test.false))
