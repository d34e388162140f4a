use Rattle.std.proofs.Common.{◌≡◌, ◌<◌, Ok, length, refl, subst, arith}
use Rattle.std.specs.Prelude.{IfOk}
use Rattle.std.proofs.lemmas.Option.{slice_get_within, slice_get_read, get_or_from_slice_get}
use Rattle.task_queue.specs.Round.Inner.Shares.{IsShareOf}
use Rattle.task_queue.proofs.round.rounds.work_all.Goals as goal

pub map_vec-requires-after_bounds : goal.map_vec-requires-after_bounds
map_vec-requires-after_bounds g c κs within i job l e = c.requires i job (slice_get_read c.args.jobs.items _ i job refl l e)

pub returns : goal.returns
returns g c =
    let shares = c.in_ok-shares.shares in
    let jobs = c.args.jobs in
    let count : length shares.items ≡ length jobs.items = omega (arith, c.in_ok-shares.ensures.len, shares.ok.0, jobs.ok.0) in
    record {
      count = count;
      each = λ k share e.
          let within : k < length jobs.items = omega (arith, slice_get_within shares.items k (Ok share) e, count) in
          let gave = (c.in_ok-shares.ensures.each k (Ok share) within).1 in
          let there = slice_get_read jobs.items _ k gave.job refl within gave.job_read in
          (gave.job, there, subst (λ r. IfOk r (λ s. IsShareOf g.T.Numbered.number_of g.T.Numbered.run_of g.T.Numbered.fact g.T.Steps.waits c.args.queue.now gave.job s)) (get_or_from_slice_get shares.items k (Ok share) (Ok share) e) gave.call.met);
    }
