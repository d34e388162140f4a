-- Seats at which their owner was, or which have stolen.
use Rattle.std.proofs.Common.{◌≡◌, ◌≢◌, ℕ, zero, suc, ◌+◌, ◌<◌, ◌≤◌, Bool, true, false, List, [], ◌∷◌, ◌++◌, length, set, Option, Some, None, refl, sym, ap, ◌∙◌, subst, arith, inl, inr}
use Rattle.std.specs.Prelude.{slice_get, sum_by, option_map, MatchOption, ◌⊎◌}
use Rattle.std.specs.declared.vec.Vec.{Vec}
use Rattle.std.specs.declared.alloc.Global.{Global}
use Rattle.std.proofs.lemmas.Bool.{cases_eq, cases_lt}
use Rattle.std.proofs.lemmas.List.{length-map}
use Rattle.std.proofs.lemmas.List.Sums.{sum_by-cons}
use Rattle.std.proofs.lemmas.Option.{slice_get_within}
use Rattle.task_queue.specs.declared.lane.tally.Tally.{Tally}
use Rattle.task_queue.specs.declared.lane.deque.Lane.{Lane}
use Rattle.task_queue.specs.declared.lane.deque.Window.{Window}
use Rattle.task_queue.specs.declared.lane.deque.Thief.{Thief}
use Rattle.task_queue.specs.declared.seat.Seat.{Seat}
use Rattle.task_queue.specs.Lane.Steps.{IsExhausted}
use Rattle.task_queue.specs.Lane.Handles.{IsLane, IsSameLane, lane_knows, lane_deque, lane_puts, thief_knows}
use Rattle.task_queue.specs.Seats.{Each, AreRights, rights_know, seat_knows, seat_number, IsSeat, KnowsRunAt, IsDealtAt, HasRoomAt, right_count, right_taken, tally_put, tally_taken, is_empty_place, seat_put, seat_taken}
use Rattle.task_queue.specs.Passes.{AreExhausted, IsStolen}
use Rattle.task_queue.specs.Inner.Looks.{KeepsSeat, KeepSeats, IsExhaustedAt, IsTakenAmong}
use Rattle.task_queue.proofs.Sums.{sum_append, sum_one}
use Rattle.task_queue.proofs.Lists.{none_there, some_same, same_some, set_cases, set_other, set_same, sum_changed, sum_nothing, each_at, each_from}
use Rattle.task_queue.proofs.OnSeats.Halves.{empty_at}
use Rattle.task_queue.proofs.OnSeats.Many.{LacksAs}

-- what is added up over a list with one number more
pub more_by : (h : ℕ → ℕ) (xs : List ℕ) (n : ℕ) → sum_by h (xs ++ n ∷ []) ≡ sum_by h xs + h n
more_by h xs n = omega (arith, sum_append h xs (n ∷ []), sum_one h n)

module _ {N T : Type 0} (ws : List (Window N T)) where
  -- from one seat a task was taken at most
  pub record TakesAt (old new : Seat N T) : Type 0 where
    pub keeps : KeepsSeat ws old new
    pub room : (n : ℕ) → HasRoomAt n old → HasRoomAt n new
    pub put : (h : ℕ → ℕ) → seat_put h new ≡ seat_put h old

  pub takes_self : (x : Seat N T) → TakesAt x x
  takes_self x = record {
    keeps = record { number = refl; seat = λ a. a; run = λ run a. a; dealt = λ a. a; right = λ k. refl };
    room = λ n a. a;
    put = λ h. refl;
  }

  pub keep_refl : (xs : List (Seat N T)) → KeepSeats ws xs xs
  keep_refl xs = record { numbers = refl; seats_are = λ a. a; run = λ run a. a; dealt = λ a. a; room = λ d n a. a; put = λ h. refl; rights = λ f a. a }

  pub keep_then : (xs ys zs : List (Seat N T)) → KeepSeats ws xs ys → KeepSeats ws ys zs → KeepSeats ws xs zs
  keep_then xs ys zs p q = record {
    numbers = q.numbers ∙ p.numbers;
    seats_are = λ a. q.seats_are (p.seats_are a);
    run = λ run a. q.run run (p.run run a);
    dealt = λ a. q.dealt (p.dealt a);
    room = λ d n a. q.room d n (p.room d n a);
    put = λ h. q.put h ∙ p.put h;
    rights = λ f a. q.rights f (p.rights f a);
  }

  pub keep_cons : (x y : Seat N T) (xs ys : List (Seat N T)) → TakesAt x y → KeepSeats ws xs ys → KeepSeats ws (x ∷ xs) (y ∷ ys)
  keep_cons x y xs ys t ks = record {
    numbers = λ i. t.keeps.number i ∷ ks.numbers i;
    seats_are = λ all. (t.keeps.seat all.0, ks.seats_are all.1);
    run = λ run all. (t.keeps.run run all.0, ks.run run all.1);
    dealt = λ all. (t.keeps.dealt all.0, ks.dealt all.1);
    room = λ d n all. ((λ e. t.room n (all.0 (sym t.keeps.number ∙ e))), ks.room d n all.1);
    put = λ h. omega (arith, sum_by-cons (seat_put h) x xs, sum_by-cons (seat_put h) y ys, t.put h, ks.put h);
    rights = λ f all. ((λ k. t.keeps.right k ∙ all.0 k), ks.rights f all.1);
  }

  pub keep_at : (xs : List (Seat N T)) (k : ℕ) (x y : Seat N T) → slice_get xs k ≡ Some x → TakesAt x y → KeepSeats ws xs (set xs k y)
  keep_at [] k x y e t = absurd (none_there k x e)
  keep_at (z ∷ zs) zero x y e t = keep_cons z y zs zs (subst (λ (w : Seat N T). TakesAt w y) (sym (some_same z x e)) t) (keep_refl zs)
  keep_at (z ∷ zs) (suc k) x y e t = keep_cons z z zs (set zs k y) (takes_self z) (keep_at zs k x y e t)

  -- its owner put or took a task
  pub lane_keeps : (x : Seat N T) (lane : Lane N T) (ps xs : List ℕ) → IsLane lane → lane_deque lane ≡ lane_deque x.lane → lane_knows lane ≡ record (lane_knows x.lane) { put = ps; taken = xs } → KeepsSeat ws x (record x { lane = lane })
  lane_keeps x lane ps xs is deque knows = record {
    number = refl;
    seat = λ a. record { lane = is; within = a.within; at = λ w e. deque ∙ a.at w e; rights = a.rights };
    run = λ run a. record { lane = ap (λ (v : Tally N). v.run) knows ∙ a.lane; rights = a.rights };
    dealt = λ a. record { lane = (let p = ap (λ (v : Tally N). v.parts) knows in omega (arith, p, a.lane)); rights = a.rights };
    right = λ k. refl;
  }

  pub lane_takes : (x : Seat N T) (lane : Lane N T) (xs : List ℕ) → IsLane lane → IsSameLane x.lane lane → lane_puts lane ≤ lane_puts x.lane → lane_knows lane ≡ record (lane_knows x.lane) { taken = xs } → TakesAt x (record x { lane = lane })
  lane_takes x lane xs is same puts knows = record {
    keeps = lane_keeps x lane (lane_knows x.lane).put xs is same.deque knows;
    room = λ n has. omega (arith, has, same.room, puts);
    put = λ h. ap (tally_put h) knows;
  }

  -- a task was stolen by one of its rights, or none was
  module _ (number : T → ℕ) (run : T → N) (fact : T → Type 0) where
    module _ (old new : List (Option (Tally N))) (task : T) (is : IsStolen number run fact old new task) where
      abbrev had : Tally N
      had = record is.knew { taken = is.knew.taken ++ number task ∷ [] }

      pub stolen_sum : (h : ℕ → ℕ) → sum_by (right_taken h) new ≡ sum_by (right_taken h) old + h (number task)
      stolen_sum h =
          let more : tally_taken h had ≡ tally_taken h is.knew + h (number task) = more_by h is.knew.taken (number task) in
          ap (sum_by (right_taken h)) is.now ∙ sum_changed (right_taken h) old is.at (Some is.knew) (Some had) (h (number task)) is.there more

      stolen_count : sum_by right_count new ≡ sum_by right_count old + 0
      stolen_count = let one : 1 ≡ 1 + 0 = omega arith in ap (sum_by right_count) is.now ∙ sum_changed right_count old is.at (Some is.knew) (Some had) 0 is.there one

      stolen_keeps : (P : Tally N → Type 0) → ((v : Tally N) (xs : List ℕ) → P v → P (record v { taken = xs })) → ((k : ℕ) (v : Tally N) → slice_get old k ≡ Some (Some v) → P v) → (k : ℕ) (v : Tally N) → slice_get new k ≡ Some (Some v) → P v
      stolen_keeps P stays all k v e = one (set_cases old is.at k (Some had) (Some v) (ap (λ (vs : List (Option (Tally N))). slice_get vs k) (sym is.now) ∙ e))
        where
          one : ((k ≡ is.at) × (◌≡◌ {A = Option (Tally N)} (Some had) (Some v))) ⊎ ((k ≢ is.at) × (slice_get old k ≡ Some (Some v))) → P v
          one (inl p) = subst P (some_same had v p.1) (stays is.knew (is.knew.taken ++ number task ∷ []) (all is.at is.knew is.there))
          one (inr p) = all k v p.1

      stolen_places : (k : ℕ) → (k ≡ is.at) ⊎ (k ≡ is.at → ⊥) → is_empty_place (slice_get new k) ≡ is_empty_place (slice_get old k)
      stolen_places k (inl e) =
          let now : is_empty_place (slice_get new k) ≡ false = ap is_empty_place (ap (λ (vs : List (Option (Tally N))). slice_get vs k) is.now ∙ (ap (λ i. slice_get (set old is.at (Some had)) i) e ∙ set_same old is.at (Some is.knew) (Some had) is.there)) in
          let before : is_empty_place (slice_get old k) ≡ false = ap is_empty_place (ap (λ i. slice_get old i) e ∙ is.there) in
          now ∙ sym before
      stolen_places k (inr other) = ap is_empty_place (ap (λ (vs : List (Option (Tally N))). slice_get vs k) is.now ∙ set_other old is.at k (Some had) other)

    module _ (x : Seat N T) (rights : Vec (Option (Thief N T)) Global) (are : AreRights ws rights.items) where
      keeps_stolen : (task : T) → IsStolen number run fact (seat_knows x) (rights_know rights.items) task → KeepsSeat ws x (record x { rights = rights })
      keeps_stolen task is = record {
        number = refl;
        seat = λ a. record { lane = a.lane; within = a.within; at = a.at; rights = are };
        run = λ runtime a. record { lane = a.lane; rights = stolen_keeps (seat_knows x) (rights_know rights.items) task is (λ v. v.run ≡ runtime) (λ v xs p. p) a.rights };
        dealt = λ a. record { lane = omega (arith, a.lane, stolen_count (seat_knows x) (rights_know rights.items) task is); rights = stolen_keeps (seat_knows x) (rights_know rights.items) task is (λ v. v.parts ≡ 1) (λ v xs p. p) a.rights };
        right = λ k. stolen_places (seat_knows x) (rights_know rights.items) task is k (cases_eq k is.at);
      }

      keeps_none : rights_know rights.items ≡ seat_knows x → KeepsSeat ws x (record x { rights = rights })
      keeps_none same = record {
        number = refl;
        seat = λ a. record { lane = a.lane; within = a.within; at = a.at; rights = are };
        run = λ runtime a. record { lane = a.lane; rights = λ k v e. a.rights k v (ap (λ (vs : List (Option (Tally N))). slice_get vs k) (sym same) ∙ e) };
        dealt = λ a. record { lane = ap (λ (vs : List (Option (Tally N))). (lane_knows x.lane).parts + sum_by right_count vs) same ∙ a.lane; rights = λ k v e. a.rights k v (ap (λ (vs : List (Option (Tally N))). slice_get vs k) (sym same) ∙ e) };
        right = λ k. ap (λ (vs : List (Option (Tally N))). is_empty_place (slice_get vs k)) same;
      }

      pub steals_at : (r : Option T) → MatchOption r ((rights_know rights.items ≡ seat_knows x) × AreExhausted x.number (seat_knows x)) (λ task. IsStolen number run fact (seat_knows x) (rights_know rights.items) task)
          → TakesAt x (record x { rights = rights })
      steals_at None h = record { keeps = keeps_none h.0; room = λ n a. a; put = λ h. refl }
      steals_at (Some task) h = record { keeps = keeps_stolen task h; room = λ n a. a; put = λ h. refl }

  -- where no right is elsewhere, a deque that was found empty has given all that was put there
  pub settle_one : (f : ℕ → Bool) (x : Seat N T) → IsSeat ws x → LacksAs f x → ((k : ℕ) → k < length ws → f k ≡ true) → IsDealtAt x → IsExhaustedAt x → (h : ℕ → ℕ) → seat_put h x ≡ seat_taken h x
  settle_one f x is lack all dealt settled h =
      let none : (k : ℕ) (o : Option (Tally N)) → slice_get (seat_knows x) k ≡ Some o → o ≡ None = λ k o e.
      let within : k < length ws = omega (arith, slice_get_within (seat_knows x) k o e, length-map x.rights.items (option_map thief_knows), is.rights.count) in
      same_some (slice_get (seat_knows x) k) o None e (empty_at (slice_get (seat_knows x) k) (lack k ∙ all k within)) in
      let count = sum_nothing right_count (seat_knows x) (λ k o e. ap right_count (none k o e)) in
      let taken = sum_nothing (right_taken h) (seat_knows x) (λ k o e. ap (right_taken h) (none k o e)) in
      let mine = settled (omega (arith, dealt.lane, count)) h in
      omega (arith, mine, taken)

  pub settle_all : (f : ℕ → Bool) (xs : List (Seat N T)) → Each (IsSeat ws) xs → Each (LacksAs f) xs → ((k : ℕ) → k < length ws → f k ≡ true) → Each IsDealtAt xs → Each IsExhaustedAt xs → (h : ℕ → ℕ) → sum_by (seat_put h) xs ≡ sum_by (seat_taken h) xs
  settle_all f [] is lack all dealt settled h = refl
  settle_all f (x ∷ xs) is lack all dealt settled h =
      omega (arith, sum_by-cons (seat_put h) x xs, sum_by-cons (seat_taken h) x xs, settle_one f x is.0 lack.0 all dealt.0 settled.0 h, settle_all f xs is.1 lack.1 all dealt.1 settled.1 h)

-- a look at one deque after the other
module _ {N T : Type 0} where
  pub record LooksAt (old now : List (Seat N T)) (k : ℕ) : Type 0 where
    pub keep : (ws : List (Window N T)) → KeepSeats ws old now
    pub taken : (h : ℕ → ℕ) → sum_by (seat_taken h) now ≡ sum_by (seat_taken h) old
    pub done : (j : ℕ) (x : Seat N T) → j < k → slice_get old j ≡ Some x → IsExhaustedAt x
    pub left : (j : ℕ) → k ≤ j → slice_get now j ≡ slice_get old j

  pub looks_none : (old : List (Seat N T)) → LooksAt old old 0
  looks_none old = record { keep = λ ws. keep_refl ws old; taken = λ h. refl; done = λ j x l e. absurd (omega (arith, l)); left = λ j l. refl }

  pub look_length : (old now : List (Seat N T)) (k : ℕ) → LooksAt old now k → length now ≡ length old
  look_length old now k is = sym (length-map now seat_number) ∙ (ap length (is.keep []).numbers ∙ length-map old seat_number)

  -- the owner's end of one
  module _ (old now : List (Seat N T)) (k : ℕ) (x : Seat N T) (lane : Lane N T) (is : LooksAt old now k) (at : slice_get now k ≡ Some x) (xs : List ℕ) (is_lane : IsLane lane) (same : IsSameLane x.lane lane)
      (puts : lane_puts lane ≤ lane_puts x.lane) (knows : lane_knows lane ≡ record (lane_knows x.lane) { taken = xs }) where
    pub look_keeps : (ws : List (Window N T)) → KeepSeats ws old (set now k (record x { lane = lane }))
    look_keeps ws = keep_then ws old now _ (is.keep ws) (keep_at ws now k x (record x { lane = lane }) at (lane_takes ws x lane xs is_lane same puts knows))

    look_sum : (h : ℕ → ℕ) (n : ℕ) → sum_by h xs ≡ tally_taken h (lane_knows x.lane) + n → sum_by (seat_taken h) (set now k (record x { lane = lane })) ≡ sum_by (seat_taken h) old + n
    look_sum h n more =
        let now_is : tally_taken h (lane_knows lane) ≡ sum_by h xs = ap (tally_taken h) knows in
        let one : seat_taken h (record x { lane = lane }) ≡ seat_taken h x + n = omega (arith, now_is, more) in
        omega (arith, sum_changed (seat_taken h) now k x (record x { lane = lane }) n at one, is.taken h)

    old_at : slice_get old k ≡ Some x
    old_at = sym (is.left k (omega arith)) ∙ at

    -- has a task
    pub look_finds : (number : T → ℕ) (run : T → N) (fact : T → Type 0) (task : T) → xs ≡ (lane_knows x.lane).taken ++ number task ∷ [] → (lane_knows x.lane).run ≡ Some (run task) → fact task
        → IsTakenAmong number run fact old (set now k (record x { lane = lane })) (Some task)
    look_finds number run fact task xs_are run_is holds = (
      (λ h. look_sum h (h (number task)) (ap (sum_by h) xs_are ∙ more_by h (lane_knows x.lane).taken (number task))),
      (λ runtime all. sym (each_at (KnowsRunAt runtime) old k x all old_at).lane ∙ run_is),
      holds,
    )

    -- or has none
    pub looks_more : xs ≡ (lane_knows x.lane).taken → IsExhausted (lane_knows x.lane) → LooksAt old (set now k (record x { lane = lane })) (k + 1)
    looks_more xs_are settled = record {
      keep = look_keeps;
      taken = λ h. (let none = ap (sum_by h) xs_are in let sum = look_sum h 0 (omega (arith, none)) in omega (arith, sum));
      done = λ j y l e. done j y l e (cases_eq j k);
      left = λ j l. set_other now k j (record x { lane = lane }) (λ e. omega (arith, l, e)) ∙ is.left j (omega (arith, l));
    }
      where
        done : (j : ℕ) (y : Seat N T) → j < k + 1 → slice_get old j ≡ Some y → (j ≡ k) ⊎ (j ≡ k → ⊥) → IsExhaustedAt y
        done j y l e (inl here) = subst IsExhaustedAt (same_some (slice_get old k) x y old_at (ap (λ i. slice_get old i) (sym here) ∙ e)) settled
        done j y l e (inr other) = is.done j y (before (cases_lt j k)) e
          where
            before : (j < k) ⊎ (k ≤ j) → j < k
            before (inl m) = m
            before (inr m) = absurd (other (omega (arith, l, m)))

  pub looks_all : (old now : List (Seat N T)) (k : ℕ) → LooksAt old now k → length now ≤ k → Each IsExhaustedAt old
  looks_all old now k is most = each_from IsExhaustedAt old (λ j x e. is.done j x (omega (arith, slice_get_within old j x e, look_length old now k is, most)) e)

-- a look at the first of several, and at the others
module _ {N T : Type 0} (number : T → ℕ) (run : T → N) (fact : T → Type 0) (x : Seat N T) (lane : Lane N T) where
  pub own_finds : (xs : List (Seat N T)) (is_lane : IsLane lane) (same : IsSameLane x.lane lane) (puts : lane_puts lane ≤ lane_puts x.lane) (task : T)
      → lane_knows lane ≡ record (lane_knows x.lane) { taken = (lane_knows x.lane).taken ++ number task ∷ [] } → (lane_knows x.lane).run ≡ Some (run task) → fact task
      → IsTakenAmong number run fact (x ∷ xs) (record x { lane = lane } ∷ xs) (Some task)
  own_finds xs is_lane same puts task knows run_is holds =
      look_finds (x ∷ xs) (x ∷ xs) 0 x lane (looks_none (x ∷ xs)) refl ((lane_knows x.lane).taken ++ number task ∷ []) is_lane same puts knows number run fact task refl run_is holds

  pub own_then : (xs ys : List (Seat N T)) → lane_knows lane ≡ lane_knows x.lane → IsExhausted (lane_knows x.lane) → (r : Option T) → IsTakenAmong number run fact xs ys r
      → IsTakenAmong number run fact (x ∷ xs) (record x { lane = lane } ∷ ys) r
  own_then xs ys knows settled None told = (
    (λ h.
        let same : tally_taken h (lane_knows lane) ≡ tally_taken h (lane_knows x.lane) = ap (tally_taken h) knows in
        omega (arith, told.0 h, sum_by-cons (seat_taken h) x xs, sum_by-cons (seat_taken h) (record x { lane = lane }) ys, same)),
    (settled, told.1),
  )
  own_then xs ys knows settled (Some task) told = (
    (λ h.
        let same : tally_taken h (lane_knows lane) ≡ tally_taken h (lane_knows x.lane) = ap (tally_taken h) knows in
        omega (arith, told.0 h, sum_by-cons (seat_taken h) x xs, sum_by-cons (seat_taken h) (record x { lane = lane }) ys, same)),
    (λ runtime all. told.1 runtime all.1),
    told.2,
  )
