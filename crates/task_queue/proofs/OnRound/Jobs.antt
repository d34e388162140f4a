-- What the workers of a round get, and what they bring back.
use Rattle.std.proofs.Common.{◌≡◌, ℕ, suc, ◌+◌, ◌-◌, ◌<◌, ◌≤◌, Bool, true, false, true≢false, List, [], ◌∷◌, ◌++◌, length, map, drop, Option, Some, Ok, refl, sym, ap, ◌∙◌, subst, arith, inl, inr}
use Rattle.std.specs.Prelude.{slice_get, sum_by, ◌⊎◌, ◌||◌, ◌==◌, Result}
use Rattle.std.specs.declared.alloc.AllocError.{AllocError}
use Rattle.std.proofs.lemmas.Bool.{cases_eq, eqb-false, or_parts}
use Rattle.std.proofs.lemmas.List.{length-append, drop_all}
use Rattle.std.proofs.lemmas.List.Sums.{sum_by-cons, sum_by-append, sum_by_push}
use Rattle.task_queue.specs.declared.seat.Seat.{Seat}
use Rattle.task_queue.specs.declared.queue.TaskQueue.{TaskQueue}
use Rattle.task_queue.specs.declared.queue.TaskPass.{TaskPass}
use Rattle.task_queue.specs.declared.round.share.Share.{Share}
use Rattle.task_queue.specs.Seats.{Each, is_among, AreApart, numbers_below, seat_number, HasRoomAt, HasRoomIf}
use Rattle.task_queue.specs.Passes.{IsTaskPass, IsSamePass, IsNewPass, KnowsRun, IsDealt, OwnsAll, HasRoom, HasRoomOn, AreTasks, owned, places, seats, put_by, taken_by, sum_numbers}
use Rattle.task_queue.specs.Round.Inner.Shares.{TakesIn}
use Rattle.task_queue.specs.Round.Inner.Jobs.{AreSharesOf, HasPut, IsJob, AreJobs, CanGather, IsGathered}
use Rattle.task_queue.proofs.Lists.{snoc_cases, snoc_same, last_there, in_prefix, in_both, each_weaker, among_below, below_apart, below_length, drop_there}
use Rattle.task_queue.proofs.Sums.{sum_one}

or_false : (a b : Bool) → a || b ≡ false → (a ≡ false) × (b ≡ false)
or_false true b e = absurd (true≢false e)
or_false false b e = (refl, e)

module _ {N T : Type 0} where
  -- room on the first deque
  room_on : (queue : TaskQueue N T) (u : TaskPass N T) (n : ℕ) → IsTaskPass queue u → HasRoom n u → HasRoomOn u.first.number n u
  room_on queue u n is has = ((λ e. has), others u.more.items is.differ.0)
    where
      others : (xs : List (Seat N T)) → is_among (map seat_number xs) u.first.number ≡ false → Each (HasRoomIf u.first.number n) xs
      others [] none = tt
      others (x ∷ xs) none =
          let both = or_parts (x.number == u.first.number) (is_among (map seat_number xs) u.first.number) none in
          ((λ e. absurd (eqb-false x.number u.first.number both.0 e)), others xs both.1)

  room_less : (d n m : ℕ) (xs : List (Seat N T)) → m ≤ n → Each (HasRoomAt n) xs → Each (HasRoomIf d m) xs
  room_less d n m xs less all = each_weaker (HasRoomAt n) (HasRoomIf d m) xs (λ x has e. (let h = has in omega (arith, h, less))) all

  -- behind the puts of all tasks, each deque has room for the turns
  pub room_left : (number : T → ℕ) (queue : TaskQueue N T) (runtime : Option N) (workers : ℕ) (tasks : List T) (pass put : TaskPass N T) → IsNewPass queue runtime workers (length tasks + 1024) pass → HasPut number queue tasks pass put
      → (d : ℕ) → HasRoomOn d 1024 put
  room_left number queue runtime workers tasks pass put new has d = go (cases_eq d pass.first.number)
    where
      go : (d ≡ pass.first.number) ⊎ (d ≡ pass.first.number → ⊥) → HasRoomOn d 1024 put
      go (inl e) = subst (λ i. HasRoomOn i 1024 put) (has.same.number ∙ sym e) (room_on queue put 1024 has.is (has.room 1024 new.rooms.0))
      go (inr other) = has.same.room d 1024 other (room_less d (length tasks + 1024) 1024 (seats pass) (omega arith) new.rooms)

  -- a pass of one deque
  one_owned : (pass : TaskPass N T) → length (owned pass) ≡ 1 → owned pass ≡ pass.first.number ∷ []
  one_owned pass one = ap (λ ns. pass.first.number ∷ ns) (nothing (map seat_number pass.more.items) (omega (arith, one)))
    where
      nothing : (ns : List ℕ) → length ns ≤ 0 → ns ≡ []
      nothing [] l = refl
      nothing (n ∷ ns) l = absurd (omega (arith, l))

-- what is left behind some splits
module _ {N T : Type 0} (queue : TaskQueue N T) (workers : ℕ) where
  pub record IsLeft (pass : TaskPass N T) (count : ℕ) : Type 0 where
    pub is : IsTaskPass queue pass
    pub dealt : IsDealt pass
    pub left : ℕ
    pub left_is : left + count ≡ workers
    pub owned_are : owned pass ≡ numbers_below left
    pub places_are : workers ≤ places pass
    pub room : (d : ℕ) → HasRoomOn d 1024 pass

  pub owned_length : (pass : TaskPass N T) (count : ℕ) (is : IsLeft pass count) → length (owned pass) + count ≡ workers
  owned_length pass count is = omega (arith, ap length is.owned_are, below_length is.left, is.left_is)

  pub some_left : (pass : TaskPass N T) (count : ℕ) → IsLeft pass count → count + 1 ≤ workers
  some_left pass count is = let more : 1 ≤ length (owned pass) = omega arith in omega (arith, owned_length pass count is, more)

  module _ (pass new job : TaskPass N T) (count : ℕ) (was : IsLeft pass count) (both : IsTaskPass queue new × IsTaskPass queue job × IsDealt new × IsDealt job)
      (own : (owned pass ≡ owned new ++ owned job) × (length (owned job) ≡ 1) × (places new ≡ places pass)) (room : (d n : ℕ) → HasRoomOn d n pass → HasRoomOn d n new × HasRoomOn d n job) where
    abbrev before : ℕ
    before = was.left - 1

    owned_split : (numbers_below before ≡ owned new) × (before ≡ job.first.number)
    owned_split =
        let more : 1 ≤ length (owned pass) = omega arith in
        let is : suc before ≡ was.left = omega (arith, more, ap length was.owned_are, below_length was.left) in
        snoc_same (numbers_below before) (owned new) before job.first.number (ap numbers_below is ∙ (sym was.owned_are ∙ (own.0 ∙ ap (λ ns. owned new ++ ns) (one_owned job own.1))))

    pub left_less : IsLeft new (count + 1)
    left_less = record {
      is = both.0;
      dealt = both.2;
      left = before;
      left_is = (let more : 1 ≤ length (owned pass) = omega arith in omega (arith, was.left_is, more, ap length was.owned_are, below_length was.left));
      owned_are = sym owned_split.0;
      places_are = omega (arith, was.places_are, own.2);
      room = λ d. (room d 1024 (was.room d)).0;
    }

    pub job_is : (runtime : Option N) → KnowsRun runtime job → (number : ℕ) × (number + count + 1 ≡ workers) × IsJob queue runtime 1024 number job
    job_is runtime knows = (
      before,
      (let more : 1 ≤ length (owned pass) = omega arith in omega (arith, was.left_is, more, ap length was.owned_are, below_length was.left)),
      record {
        is = both.1;
        dealt = both.3;
        knows = knows;
        room_is = (room job.first.number 1024 (was.room job.first.number)).1.0 refl;
        owned_are = one_owned job own.1 ∙ ap (λ n. n ∷ []) (sym owned_split.1);
      },
    )

  -- and what was split off
  module _ (runtime : Option N) (old : TaskPass N T) where
    pub record Splits (pass : TaskPass N T) (jobs : List (TaskPass N T)) : Type 0 where
      pub knows : KnowsRun runtime pass
      pub each : (k : ℕ) (job : TaskPass N T) → slice_get jobs k ≡ Some job → (number : ℕ) × (number + k + 1 ≡ workers) × IsJob queue runtime 1024 number job
      pub put : (h : ℕ → ℕ) → sum_by (put_by h) jobs + put_by h pass ≡ put_by h old
      pub taken : (h : ℕ → ℕ) → sum_by (taken_by h) jobs + taken_by h pass ≡ taken_by h old

    pub splits_none : (jobs : List (TaskPass N T)) → jobs ≡ [] → KnowsRun runtime old → Splits old jobs
    splits_none jobs empty knows = record {
      knows = knows;
      each = λ k job e. absurd (nothing k job (ap (λ js. slice_get js k) (sym empty) ∙ e));
      put = λ h. (let none = ap (sum_by (put_by h)) empty in omega (arith, none));
      taken = λ h. (let none = ap (sum_by (taken_by h)) empty in omega (arith, none));
    }
      where
        nothing : (k : ℕ) (job : TaskPass N T) → slice_get [] k ≡ Some job → ⊥
        nothing k job e = cc

    module _ (pass : TaskPass N T) (jobs more : List (TaskPass N T)) (job : TaskPass N T) (was : Splits pass jobs) (more_is : more ≡ jobs ++ job ∷ []) where
      each_more : ((number : ℕ) × (number + length jobs + 1 ≡ workers) × IsJob queue runtime 1024 number job) → (k : ℕ) (x : TaskPass N T) → slice_get more k ≡ Some x → (number : ℕ) × (number + k + 1 ≡ workers) × IsJob queue runtime 1024 number x
      each_more last k x e = go (snoc_cases jobs job k x (ap (λ js. slice_get js k) (sym more_is) ∙ e))
        where
          go : ((k < length jobs) × (slice_get jobs k ≡ Some x)) ⊎ ((k ≡ length jobs) × (job ≡ x)) → (number : ℕ) × (number + k + 1 ≡ workers) × IsJob queue runtime 1024 number x
          go (inl p) = was.each k x p.1
          go (inr p) = (last.0, omega (arith, last.1, p.0), subst (IsJob queue runtime 1024 last.0) p.1 last.2)

      pub splits_more : (new : TaskPass N T) → ((number : ℕ) × (number + length jobs + 1 ≡ workers) × IsJob queue runtime 1024 number job) → KnowsRun runtime new
          → ((h : ℕ → ℕ) → (put_by h new + put_by h job ≡ put_by h pass) × (taken_by h new + taken_by h job ≡ taken_by h pass)) → Splits new more
      splits_more new last knows sums = record {
        knows = knows;
        each = each_more last;
        put = λ h. (let all = ap (sum_by (put_by h)) more_is in omega (arith, all, sum_by_push (put_by h) jobs job, (sums h).0, was.put h));
        taken = λ h. (let all = ap (sum_by (taken_by h)) more_is in omega (arith, all, sum_by_push (taken_by h) jobs job, (sums h).1, was.taken h));
      }

      -- the last one, with what is left
      pub splits_all : pass ≡ job → IsLeft pass (length jobs) → workers ≤ length jobs + 1 → AreJobs queue runtime 1024 workers old more
      splits_all same left most = record {
        count = omega (arith, ap length more_is, length-append jobs (job ∷ []), some_left pass (length jobs) left, most);
        each = each_more (
          0,
          omega (arith, some_left pass (length jobs) left, most),
          subst (IsJob queue runtime 1024 0) same (record {
            is = left.is;
            dealt = left.dealt;
            knows = was.knows;
            room_is = (left.room pass.first.number).0 refl;
            owned_are = left.owned_are ∙ ap numbers_below one;
          }),
        );
        last = λ k x e here. last k x here (snoc_cases jobs job k x (ap (λ js. slice_get js k) (sym more_is) ∙ e));
        put = λ h. (let all = ap (sum_by (put_by h)) more_is in let it = ap (put_by h) same in omega (arith, all, sum_by_push (put_by h) jobs job, it, was.put h));
        taken = λ h. (let all = ap (sum_by (taken_by h)) more_is in let it = ap (taken_by h) same in omega (arith, all, sum_by_push (taken_by h) jobs job, it, was.taken h));
      }
        where
          one : left.left ≡ 1
          one = omega (arith, left.left_is, some_left pass (length jobs) left, most)

          last : (k : ℕ) (x : TaskPass N T) → k + 1 ≡ workers → ((k < length jobs) × (slice_get jobs k ≡ Some x)) ⊎ ((k ≡ length jobs) × (job ≡ x)) → workers ≤ places x
          last k x here (inl p) = absurd (omega (arith, p.0, here, some_left pass (length jobs) left))
          last k x here (inr p) = subst (λ (y : TaskPass N T). workers ≤ places y) (same ∙ p.1) left.places_are

-- what comes back
module _ {N T : Type 0} (number : T → ℕ) (run : T → N) (fact waits : T → Type 0) (queue : TaskQueue N T) (runtime : Option N) (workers : ℕ) (jobs : List (TaskPass N T)) (shares : List (Result (Share N T) AllocError)) where
  -- the workers from number done on haven't been gathered yet
  pub record Gathers (left : List (Result (Share N T) AllocError)) (share : Share N T) : Type 0 where
    pub done : ℕ
    pub count : done + length left ≡ workers
    pub rest : (k : ℕ) (s : Result (Share N T) AllocError) → slice_get left k ≡ Some s → slice_get shares k ≡ Some s
    pub places_are : workers ≤ places share.pass
    pub got : IsGathered number run fact waits queue runtime (numbers_below done) (drop (length left) jobs) share

module _ {N T : Type 0} (number : T → ℕ) (run : T → N) (fact waits : T → Type 0) (queue : TaskQueue N T) (runtime : Option N) (workers : ℕ) (jobs : List (TaskPass N T)) (shares : List (Result (Share N T) AllocError))
    (can : CanGather number run fact waits queue runtime workers jobs shares) where
  -- one share, behind its worker's job
  module _ (k : ℕ) (share : Share N T) (there : slice_get shares k ≡ Some (Ok share)) where
    abbrev pub share_number : ℕ
    share_number = (can.each k share there).1

    pub share_tasks : AreTasks run fact runtime share.parked.items
    share_tasks =
        let from = can.each k share there in
        let knows = from.5.same.run runtime from.4.knows in
        λ i task e. let at = from.5.is.each i task e in (sym knows.0.lane ∙ (from.5.is.knows.0.lane ∙ at.0), at.1)

    pub share_one : IsGathered number run fact waits queue runtime (share_number ∷ []) ((can.each k share there).0 ∷ []) share
    share_one =
        let from = can.each k share there in
        record {
          is = from.5.is.pass_is;
          dealt = from.5.same.dealt from.4.dealt;
          knows = from.5.same.run runtime from.4.knows;
          owned_are = from.5.same.owned_are ∙ from.4.owned_are;
          tasks_are = share_tasks;
          waits_if = from.5.still;
          held = λ h. omega (arith, from.5.held h, sum_one (taken_by h) from.0, sum_one (put_by h) from.0);
        }

    pub number_is : share_number + k + 1 ≡ workers
    number_is = (can.each k share there).2

    pub job_there : drop k jobs ≡ (can.each k share there).0 ∷ drop (k + 1) jobs
    job_there = drop_there jobs k (can.each k share there).0 (can.each k share there).3

  pub gathers_first : (rest : List (Result (Share N T) AllocError)) (share : Share N T) → shares ≡ rest ++ Ok share ∷ [] → Gathers number run fact waits queue runtime workers jobs shares rest share
  gathers_first rest share split = record {
    done = 1;
    count = omega (arith, longer, can.count);
    rest = λ k s e. ap (λ ss. slice_get ss k) split ∙ in_prefix rest (Ok share ∷ []) k s e;
    places_are =
        let from = can.each (length rest) share there in
        omega (arith, can.last (length rest) from.0 from.3 (omega (arith, longer, can.count)), from.5.same.places_are);
    got =
        let one = share_one (length rest) share there in
        let zero_is : share_number (length rest) share there ≡ 0 = omega (arith, number_is (length rest) share there, longer, can.count) in
        let none : drop (length rest + 1) jobs ≡ [] = drop_all (length rest + 1) jobs (omega (arith, longer, can.count, can.jobs_count)) in
        subst (λ (x : List ℕ × List (TaskPass N T)). IsGathered number run fact waits queue runtime x.0 x.1 share)
        (λ i. (zero_is i ∷ [], sym (job_there (length rest) share there ∙ ap (λ js. (can.each (length rest) share there).0 ∷ js) none) i)) one;
  }
    where
      longer : length shares ≡ length rest + 1
      longer = ap length split ∙ length-append rest (Ok share ∷ [])

      there : slice_get shares (length rest) ≡ Some (Ok share)
      there = ap (λ ss. slice_get ss (length rest)) split ∙ last_there rest (Ok share)

  module _ (left rest : List (Result (Share N T) AllocError)) (share one : Share N T) (is : Gathers number run fact waits queue runtime workers jobs shares left share) (split : left ≡ rest ++ Ok one ∷ []) where
    longer : length left ≡ length rest + 1
    longer = ap length split ∙ length-append rest (Ok one ∷ [])

    there : slice_get shares (length rest) ≡ Some (Ok one)
    there = is.rest (length rest) (Ok one) (ap (λ ss. slice_get ss (length rest)) split ∙ last_there rest (Ok one))

    same_number : share_number (length rest) one there ≡ is.done
    same_number = omega (arith, number_is (length rest) one there, longer, is.count)

    one_owned_are : owned one.pass ≡ is.done ∷ []
    one_owned_are = (share_one (length rest) one there).owned_are ∙ ap (λ n. n ∷ []) same_number

    -- it may come
    pub may_take_in : (IsTaskPass queue one.pass × IsDealt one.pass) × AreApart (owned share.pass) (owned one.pass) × (length (owned share.pass) + length (owned one.pass) ≤ places share.pass)
    may_take_in = (
      ((share_one (length rest) one there).is, (share_one (length rest) one there).dealt),
      subst (λ (x : List ℕ × List ℕ). AreApart x.0 x.1) (λ i. (sym is.got.owned_are i, sym one_owned_are i)) (below_apart is.done),
      omega (arith, ap length is.got.owned_are, ap length one_owned_are, below_length is.done, is.count, longer, is.places_are),
    )

    pub gathers_more : (new : Share N T) → TakesIn queue share one new → Gathers number run fact waits queue runtime workers jobs shares rest new
    gathers_more new took = record {
      done = suc is.done;
      count = omega (arith, is.count, longer);
      rest = λ k s e. is.rest k s (ap (λ ss. slice_get ss k) split ∙ in_prefix rest (Ok one ∷ []) k s e);
      places_are = omega (arith, is.places_are, took.places_are);
      got = record {
        is = took.is;
        dealt = took.dealt;
        knows = took.run runtime is.got.knows mine.knows;
        owned_are = took.owned_are ∙ (λ i. is.got.owned_are i ++ one_owned_are i);
        tasks_are = λ i task e. tasks i task (in_both share.parked.items one.parked.items i task (ap (λ ts. slice_get ts i) (sym took.parked_are) ∙ e));
        waits_if = λ still i task e. waiting (or_false share.moved one.moved (sym took.moved_is ∙ still)) i task (in_both share.parked.items one.parked.items i task (ap (λ ts. slice_get ts i) (sym took.parked_are) ∙ e));
        held = λ h.
            let jobs_are = job_there (length rest) one there in
            let behind = ap (λ n. drop n jobs) longer in
            let put_jobs = ap (sum_by (put_by h)) jobs_are in
            let taken_jobs = ap (sum_by (taken_by h)) jobs_are in
            let put_behind = ap (sum_by (put_by h)) behind in
            let taken_behind = ap (sum_by (taken_by h)) behind in
            let parked = ap (λ ts. sum_numbers number h ts) took.parked_are in
            omega (
              arith,
              took.put h,
              took.taken h,
              is.got.held h,
              (can.each (length rest) one there).5.held h,
              put_jobs,
              taken_jobs,
              put_behind,
              taken_behind,
              parked,
              sum_by-append (λ (t : T). h (number t)) share.parked.items one.parked.items,
              sum_by-cons (put_by h) (can.each (length rest) one there).0 (drop (length rest + 1) jobs),
              sum_by-cons (taken_by h) (can.each (length rest) one there).0 (drop (length rest + 1) jobs),
            );
      };
    }
      where
        mine : IsGathered number run fact waits queue runtime (share_number (length rest) one there ∷ []) ((can.each (length rest) one there).0 ∷ []) one
        mine = share_one (length rest) one there

        tasks : (i : ℕ) (task : T) → (slice_get share.parked.items i ≡ Some task) ⊎ ((j : ℕ) × (slice_get one.parked.items j ≡ Some task)) → (runtime ≡ Some (run task)) × fact task
        tasks i task (inl e) = is.got.tasks_are i task e
        tasks i task (inr p) = mine.tasks_are p.0 task p.1

        waiting : (share.moved ≡ false) × (one.moved ≡ false) → (i : ℕ) (task : T) → (slice_get share.parked.items i ≡ Some task) ⊎ ((j : ℕ) × (slice_get one.parked.items j ≡ Some task)) → waits task
        waiting still i task (inl e) = is.got.waits_if still.0 i task e
        waiting still i task (inr p) = mine.waits_if still.1 p.0 task p.1

  pub gathers_all : (left : List (Result (Share N T) AllocError)) (share : Share N T) → Gathers number run fact waits queue runtime workers jobs shares left share → left ≡ [] → IsGathered number run fact waits queue runtime (numbers_below workers) jobs share
  gathers_all left share is empty =
      let done : is.done ≡ workers = omega (arith, is.count, ap length empty) in
      subst (λ (x : ℕ × List (TaskPass N T)). IsGathered number run fact waits queue runtime (numbers_below x.0) x.1 share) (λ i. (done i, drop (length (empty i)) jobs)) is.got

-- a round, from what its calls promise
module _ {N T : Type 0} (number : T → ℕ) (run : T → N) (fact waits : T → Type 0) (queue : TaskQueue N T) (runtime : Option N) (workers : ℕ) (pass : TaskPass N T) (jobs : List (TaskPass N T)) (are : AreJobs queue runtime 1024 workers pass jobs) where
  pub can_gather : 1 ≤ workers → (shares : List (Result (Share N T) AllocError)) → AreSharesOf number run fact waits queue jobs shares → CanGather number run fact waits queue runtime workers jobs shares
  can_gather some shares of = record {
    some = some;
    count = of.count ∙ are.count;
    jobs_count = are.count;
    each = λ k share e.
        let from = of.each k share e in
        let job = are.each k from.0 from.1 in
        (from.0, job.0, job.1, from.1, job.2, from.2);
    last = are.last;
  }

pub owns_all : {N T : Type 0} (queue : TaskQueue N T) (workers : ℕ) (pass : TaskPass N T) → length queue.windows.items ≡ workers → owned pass ≡ numbers_below workers → OwnsAll queue pass
owns_all queue workers pass count own k l = ap (λ ns. is_among ns k) own ∙ among_below workers k (omega (arith, l, count))

pub owns_same : {N T : Type 0} (queue : TaskQueue N T) (old new : TaskPass N T) → IsSamePass old new → OwnsAll queue old → OwnsAll queue new
owns_same queue old new same all k l = ap (λ ns. is_among ns k) same.owned_are ∙ all k l
