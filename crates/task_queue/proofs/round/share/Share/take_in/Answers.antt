use Rattle.task_queue.proofs.round.share.Share.take_in.Goals as goal

pub returns : goal.returns
returns g c =
    let joined = c.join.ensures in
    record {
      is = joined.pass.0;
      dealt = joined.pass.1;
      owned_are = joined.deques.0;
      places_are = joined.deques.1;
      run = joined.run;
      put = λ h. (joined.sums h).0;
      taken = λ h. (joined.sums h).1;
      parked_are = c.in_ok-append.ensures.items;
      moved_is = c.either-moved.ensures;
    }
