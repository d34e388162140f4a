-- What a step of a pass does to its deques and its rights.
use Rattle.std.proofs.Common.{◌≡◌, ◌≢◌, ℕ, ◌+◌, ◌<◌, ◌≤◌, Bool, true, false, List, [], ◌∷◌, ◌++◌, length, map, set, Option, Some, None, refl, sym, ap, ◌∙◌, subst, arith, inl, inr}
use Rattle.std.specs.Prelude.{slice_get, sum_by, option_map, not, ◌==◌, ◌||◌, ◌⊎◌, MatchOption, IfNone}
use Rattle.std.specs.declared.vec.Vec.{Vec}
use Rattle.std.specs.declared.alloc.Global.{Global}
use Rattle.std.proofs.lemmas.Bool.{false≢true, cases_lt, cases_eq, cases_Bool, eq-eqb, ne_eqb, and_right, or_from, or_right, not_from_true}
use Rattle.std.proofs.lemmas.List.{map-set, map-append, length-set, length-map}
use Rattle.std.proofs.lemmas.List.Sums.{sum_by-cons, sum_by-append, sum_by_push}
use Rattle.std.proofs.lemmas.Option.{slice_get_within, get_or_from_slice_get}
use Rattle.std.proofs.Math.Seq.{map-set_same}
use Rattle.task_queue.specs.declared.lane.tally.Tally.{Tally}
use Rattle.task_queue.specs.declared.lane.deque.Window.{Window}
use Rattle.task_queue.specs.declared.lane.deque.Thief.{Thief}
use Rattle.task_queue.specs.declared.seat.Seat.{Seat}
use Rattle.task_queue.specs.declared.queue.TaskQueue.{TaskQueue}
use Rattle.task_queue.specs.declared.queue.TaskPass.{TaskPass}
use Rattle.task_queue.specs.Lane.Steps.{IsExhausted}
use Rattle.task_queue.specs.Lane.Handles.{IsThiefOf, thief_knows, window_deque}
use Rattle.task_queue.specs.Seats.{Each, is_among, AllDiffer, AreApart, AreRights, rights_know, right_taken, seat_knows, seat_number, lacks, IsSeat, KnowsRunAt, IsDealtAt, HasRoomIf, seat_put, seat_taken}
use Rattle.task_queue.specs.Passes.{AreExhausted, IsTaskPass, KnowsRun, IsDealt, OwnsAll, FoundEmpty, HasRoomOn, owned, places, seats, put_by, taken_by, IsSamePass, IsStolen}
use Rattle.task_queue.specs.Inner.Exchange.{gets, gives, MayExchangeAll, AreExchanged, MayUniteAll, AreUnited}
use Rattle.task_queue.specs.Inner.Looks.{IsAnyLane, KeepsSeat, KeepSeats, IsExhaustedAt, IsTakenAmong, IsStolenBy}
use Rattle.task_queue.proofs.Lists.{some_same, same_some, set_cases, at_map, first_of, each_weaker, each_append, each_parts, or_none, among_append, among_first, differ_mid, differ_first, differ_append}
use Rattle.task_queue.proofs.OnSeats.Many.{LacksAs, gets_none, each_lacks, united_one, united_append}
use Rattle.task_queue.proofs.OnSeats.Looks.{keep_refl, keep_then, keep_cons, steals_at, stolen_sum, settle_all}
use Rattle.task_queue.proofs.Sums.{sum_one}

module _ {N T : Type 0} where
  -- one right is changed
  pub rights_changed : (windows : List (Window N T)) (rights : List (Option (Thief N T))) (k : ℕ) (window : Window N T) (right : Option (Thief N T)) → AreRights windows rights → slice_get windows k ≡ Some window
      → ((thief : Thief N T) → right ≡ Some thief → IsThiefOf (window_deque window) thief) → AreRights windows (set rights k right)
  rights_changed windows rights k window right are at is = record {
    count = length-set rights k right ∙ are.count;
    each = λ j other w e f. one j other w (set_cases rights k j right (Some other) e) f;
  }
    where
      one : (j : ℕ) (other : Thief N T) (w : Window N T) → ((j ≡ k) × (right ≡ Some other)) ⊎ ((j ≢ k) × (slice_get rights j ≡ Some (Some other))) → slice_get windows j ≡ Some w → IsThiefOf (window_deque w) other
      one j other w (inl p) f = subst (λ (u : Window N T). IsThiefOf (window_deque u) other) (same_some (slice_get windows k) window w at (ap (λ i. slice_get windows i) (sym p.0) ∙ f)) (is other p.1)
      one j other w (inr p) f = are.each j other w p.1 f

  -- it knows what it knew
  pub rights_same : (rights : List (Option (Thief N T))) (k : ℕ) (old right : Option (Thief N T)) → slice_get rights k ≡ Some old → option_map thief_knows right ≡ option_map thief_knows old → rights_know (set rights k right) ≡ rights_know rights
  rights_same rights k old right e same = map-set_same (option_map thief_knows) rights k right old (same ∙ sym (ap (option_map thief_knows) (get_or_from_slice_get rights k old old e)))

-- what a step tells, for each of its answers
module _ {N T : Type 0} (number : T → ℕ) (run : T → N) (fact : T → Type 0) where
  -- of one right
  pub told_at : (rights : List (Option (Thief N T))) (k : ℕ) (old new : Option (Thief N T)) → slice_get rights k ≡ Some old → (r : Option T)
      → IsStolenBy number run fact (option_map thief_knows old) (option_map thief_knows new) r
      → MatchOption r ((rights_know (set rights k new) ≡ rights_know rights) × ((v : Tally N) → slice_get (rights_know rights) k ≡ Some (Some v) → IsExhausted v))
      (λ task. IsStolen number run fact (rights_know rights) (rights_know (set rights k new)) task)
  told_at rights k old new at None h = (
    rights_same rights k old new at h.0,
    λ v e. h.1 v (some_same (option_map thief_knows old) (Some v) (sym (at_map (option_map thief_knows) rights k old at) ∙ e)),
  )
  told_at rights k old new at (Some task) h = record {
    at = k;
    knew = h.0;
    there = at_map (option_map thief_knows) rights k old at ∙ ap Some h.1;
    now = map-set (option_map thief_knows) rights k new ∙ ap (λ (v : Option (Tally N)). set (rights_know rights) k v) h.2;
    run_is = h.3;
    holds = h.4;
  }

  -- of the deques before this number, where those behind it were empty
  pub told_then : (d count : ℕ) (old mid new : List (Option (Tally N))) → mid ≡ old → length old ≡ count
      → ((k : ℕ) (v : Tally N) → slice_get old k ≡ Some (Some v) → d + 1 ≤ k → k < count → IsExhausted v) → (r : Option T)
      → MatchOption r ((new ≡ mid) × ((k : ℕ) (v : Tally N) → slice_get mid k ≡ Some (Some v) → 0 ≤ k → k < d → IsExhausted v)) (λ task. IsStolen number run fact mid new task)
      → MatchOption r ((new ≡ old) × AreExhausted d old) (λ task. IsStolen number run fact old new task)
  told_then d count old mid new same all behind None h = (h.0 ∙ same, λ k v e other. go k v e other (cases_lt k d))
    where
      go : (k : ℕ) (v : Tally N) → slice_get old k ≡ Some (Some v) → k ≢ d → (k < d) ⊎ (d ≤ k) → IsExhausted v
      go k v e other (inl l) = h.1 k v (ap (λ (vs : List (Option (Tally N))). slice_get vs k) same ∙ e) (omega arith) l
      go k v e other (inr l) = behind k v e (omega (arith, l, other)) (omega (arith, slice_get_within old k (Some v) e, all))
  told_then d count old mid new same all behind (Some task) h = subst (λ (vs : List (Option (Tally N))). IsStolen number run fact vs new task) same h

-- one deque more was empty
pub settled_more : {N : Type 0} (old now : List (Option (Tally N))) (from at : ℕ) → now ≡ old → ((k : ℕ) (v : Tally N) → slice_get old k ≡ Some (Some v) → from ≤ k → k < at → IsExhausted v)
    → ((v : Tally N) → slice_get now at ≡ Some (Some v) → IsExhausted v) → (k : ℕ) (v : Tally N) → slice_get old k ≡ Some (Some v) → from ≤ k → k < at + 1 → IsExhausted v
settled_more {N} old now from at same all here k v e l m = go (cases_lt k at)
  where
    go : (k < at) ⊎ (at ≤ k) → IsExhausted v
    go (inl s) = all k v e l s
    go (inr s) =
        let is : at ≡ k = omega (arith, s, m) in
        here v (ap (λ (vs : List (Option (Tally N))). slice_get vs at) same ∙ (ap (λ i. slice_get old i) is ∙ e))

-- a pass behind a look at its deques
module _ {N T : Type 0} (queue : TaskQueue N T) (pass u : TaskPass N T) where
  pub pass_keeps : IsTaskPass queue pass → KeepSeats queue.windows.items (seats pass) (seats u) → IsTaskPass queue u
  pass_keeps is keep = record {
    windows = is.windows;
    few = is.few;
    seats_are = keep.seats_are is.seats_are;
    differ = subst AllDiffer (sym keep.numbers) is.differ;
    rights = each_lacks (is_among (owned pass)) (is_among (owned u)) (seats u) (λ k. ap (λ ns. is_among ns k) (sym keep.numbers)) (keep.rights (is_among (owned pass)) is.rights);
  }

  pub same_keeps : KeepSeats queue.windows.items (seats pass) (seats u) → places u ≡ places pass → IsSamePass pass u
  same_keeps keep reserve = record {
    number = ap first_of keep.numbers;
    owned_are = keep.numbers;
    places_are = reserve;
    run = keep.run;
    dealt = keep.dealt;
    room = λ d n other. keep.room d n;
  }

-- a task was put on the first deque
module _ {N T : Type 0} (queue : TaskQueue N T) (pass : TaskPass N T) (first : Seat N T) (is : IsTaskPass queue pass) (keep : KeepsSeat queue.windows.items pass.first first) where
  numbers : map seat_number (first ∷ pass.more.items) ≡ owned pass
  numbers = λ i. keep.number i ∷ map seat_number pass.more.items

  pub put_keeps : IsTaskPass queue (record pass { first = first })
  put_keeps = record {
    windows = is.windows;
    few = is.few;
    seats_are = (keep.seat is.seats_are.0, is.seats_are.1);
    differ = subst AllDiffer (sym numbers) is.differ;
    rights = (
      (λ k. keep.right k ∙ (is.rights.0 k ∙ ap (λ ns. is_among ns k) (sym numbers))),
      each_lacks (is_among (owned pass)) (is_among (map seat_number (first ∷ pass.more.items))) pass.more.items (λ k. ap (λ ns. is_among ns k) (sym numbers)) is.rights.1,
    );
  }

  pub put_same : IsSamePass pass (record pass { first = first })
  put_same = record {
    number = keep.number;
    owned_are = numbers;
    places_are = refl;
    run = λ run know. (keep.run run know.0, know.1);
    dealt = λ all. (keep.dealt all.0, all.1);
    room = λ d n other all. ((λ e. absurd (other (sym (sym keep.number ∙ e)))), all.1);
  }

-- a pass that has looked at its own deques has stolen a task, or none
module _ {N T : Type 0} (number : T → ℕ) (run : T → N) (fact : T → Type 0) (queue : TaskQueue N T) (old mid : TaskPass N T) (rights : Vec (Option (Thief N T)) Global)
    (keep : KeepSeats queue.windows.items (seats old) (seats mid)) (same_rights : mid.first.rights ≡ old.first.rights) (same_number : mid.first.number ≡ old.first.number)
    (none : IsTakenAmong number run fact (seats old) (seats mid) None) (are : AreRights queue.windows.items rights.items) where
  abbrev pub then_pass : TaskPass N T
  then_pass = record mid { first = record mid.first { rights = rights } }

  -- what the steal tells
  abbrev pub IsTold : Option T → Type 0
  IsTold r = MatchOption r ((rights_know rights.items ≡ seat_knows mid.first) × AreExhausted mid.first.number (seat_knows mid.first)) (λ task. IsStolen number run fact (seat_knows mid.first) (rights_know rights.items) task)

  pub stolen_keeps : (r : Option T) → IsTold r → KeepSeats queue.windows.items (seats old) (seats then_pass)
  stolen_keeps r told =
      keep_then queue.windows.items (seats old) (seats mid) (seats then_pass) keep
      (keep_cons queue.windows.items mid.first (record mid.first { rights = rights }) mid.more.items mid.more.items (steals_at queue.windows.items number run fact mid.first rights are r told) (keep_refl queue.windows.items mid.more.items))

  pub stolen_taken : (r : Option T) → IsTold r
      → MatchOption r (((h : ℕ → ℕ) → taken_by h then_pass ≡ taken_by h old) × FoundEmpty old)
      (λ task. ((h : ℕ → ℕ) → taken_by h then_pass ≡ taken_by h old + h (number task)) × ((runtime : Option N) → KnowsRun runtime old → runtime ≡ Some (run task)) × fact task)
  stolen_taken None told = (
    (λ h.
        let same = ap (sum_by (right_taken h)) told.0 in
        omega (arith, none.0 h, sum_by-cons (seat_taken h) mid.first mid.more.items, sum_by-cons (seat_taken h) (record mid.first { rights = rights }) mid.more.items, same)),
    record {
      own = none.1;
      others = subst (λ (x : ℕ × List (Option (Tally N))). AreExhausted x.0 x.1) (λ i. (same_number i, rights_know (same_rights i).items)) told.1;
    },
  )
  stolen_taken (Some task) told = (
    (λ h.
        let more = stolen_sum queue.windows.items number run fact (seat_knows mid.first) (rights_know rights.items) task told h in
        omega (arith, none.0 h, sum_by-cons (seat_taken h) mid.first mid.more.items, sum_by-cons (seat_taken h) (record mid.first { rights = rights }) mid.more.items, more)),
    (λ runtime know. sym ((keep.run runtime know).0.rights told.at told.knew told.there) ∙ told.run_is),
    told.holds,
  )

-- a pass that owns all deques and found each empty has taken all that was put
pub all_settled : {N T : Type 0} (queue : TaskQueue N T) (pass : TaskPass N T) → IsTaskPass queue pass → OwnsAll queue pass → IsDealt pass → Each IsExhaustedAt (seats pass) → (h : ℕ → ℕ) → put_by h pass ≡ taken_by h pass
all_settled queue pass is all dealt settled h = settle_all queue.windows.items (is_among (owned pass)) (seats pass) is.seats_are is.rights all dealt settled h

-- which rights a seat lacks, behind a split
pub part_law : (ns : List ℕ) (n k : ℕ) → is_among ns n ≡ false → gets (is_among (ns ++ n ∷ []) k) (n == k) ≡ is_among ns k
part_law ns n k other = go (cases_eq n k)
  where
    go : (n ≡ k) ⊎ (n ≡ k → ⊥) → gets (is_among (ns ++ n ∷ []) k) (n == k) ≡ is_among ns k
    go (inl e) = and_right (is_among (ns ++ n ∷ []) k) (not (n == k)) (not_from_true (n == k) (eq-eqb n k e)) ∙ sym (ap (λ i. is_among ns i) (sym e) ∙ other)
    go (inr e) =
        ap (λ b. gets (is_among (ns ++ n ∷ []) k) b) (ne_eqb n k e)
        ∙ (gets_none (is_among (ns ++ n ∷ []) k) ∙ (among_append ns (n ∷ []) k ∙ or_none (is_among ns k) (is_among (n ∷ []) k) (or_from (n == k) false (ne_eqb n k e) refl)))

pub left_law : (ns : List ℕ) (n k : ℕ) → is_among ns n ≡ false → gets (is_among (ns ++ n ∷ []) k) (is_among ns k) ≡ is_among (n ∷ []) k
left_law ns n k other = go (cases_Bool (is_among ns k))
  where
    go : (is_among ns k ≡ true) ⊎ (is_among ns k ≡ false) → gets (is_among (ns ++ n ∷ []) k) (is_among ns k) ≡ is_among (n ∷ []) k
    go (inl e) =
        and_right (is_among (ns ++ n ∷ []) k) (not (is_among ns k)) (not_from_true (is_among ns k) e)
        ∙ sym (or_from (n == k) false (ne_eqb n k (λ same. false≢true (sym other ∙ (ap (λ i. is_among ns i) same ∙ e)))) refl)
    go (inr e) =
        ap (λ b. gets (is_among (ns ++ n ∷ []) k) b) e
        ∙ (gets_none (is_among (ns ++ n ∷ []) k) ∙ (among_append ns (n ∷ []) k ∙ ap (λ b. b || is_among (n ∷ []) k) e))

-- the last seat of a pass leaves it
module _ {N T : Type 0} (queue : TaskQueue N T) (pass : TaskPass N T) (rest : List (Seat N T)) (seat : Seat N T) (is : IsTaskPass queue pass) (dealt : IsDealt pass) (split : pass.more.items ≡ rest ++ seat ∷ []) where
  abbrev pub kept : List (Seat N T)
  kept = pass.first ∷ rest

  seats_split : seats pass ≡ kept ++ seat ∷ []
  seats_split = ap (λ xs. pass.first ∷ xs) split

  owned_split : owned pass ≡ map seat_number kept ++ seat.number ∷ []
  owned_split = ap (λ xs. map seat_number xs) seats_split ∙ map-append seat_number kept (seat ∷ [])

  not_kept : is_among (map seat_number kept) seat.number ≡ false
  not_kept = differ_mid (map seat_number kept) [] seat.number (subst AllDiffer owned_split is.differ)

  pub parts_of : (P : Seat N T → Type 0) → Each P (seats pass) → Each P kept × P seat
  parts_of P all = let parts = each_parts P kept (seat ∷ []) (subst (Each P) seats_split all) in (parts.0, parts.1.0)

  lacked : (k : ℕ) → is_among (owned pass) k ≡ is_among (map seat_number kept) k || is_among (seat.number ∷ []) k
  lacked k = ap (λ ns. is_among ns k) owned_split ∙ among_append (map seat_number kept) (seat.number ∷ []) k

  pub may_leave : MayExchangeAll true kept seat
  may_leave =
      let rights = parts_of (LacksAs (is_among (owned pass))) is.rights in
      let places_are = parts_of (IsSeat queue.windows.items) is.seats_are in
      let all_dealt = parts_of IsDealtAt dealt in
      record {
        windows = queue.windows.items;
        few = is.few;
        seats_are = places_are.0;
        seat_is = places_are.1;
        dealt_all = all_dealt.0;
        dealt = all_dealt.1;
        differ = differ_first (map seat_number kept) (seat.number ∷ []) (subst AllDiffer owned_split is.differ);
        rights = each_weaker (LacksAs (is_among (owned pass))) (λ a. lacks a seat.number ≡ true) kept
            (λ a h. h seat.number ∙ (lacked seat.number ∙ (ap (λ b. b || is_among (seat.number ∷ []) seat.number) not_kept ∙ among_first seat.number []))) rights.0;
        right = λ k e. rights.1 k ∙ (lacked k ∙ ap (λ b. b || is_among (seat.number ∷ []) k) e);
      }

  -- and has left
  module _ (u v : TaskPass N T) (gone : AreExchanged gets kept seat (seats u) v.first) (alone : v.more.items ≡ []) where
    pub left_owned : (owned pass ≡ owned u ++ owned v) × (length (owned v) ≡ 1)
    left_owned =
        let mine : owned v ≡ seat.number ∷ [] = (λ i. gone.number i ∷ map seat_number (alone i)) in (
          owned_split ∙ (λ i. sym gone.numbers i ++ sym mine i),
          ap length mine,
        )

    pub left_first : IsTaskPass queue u
    left_first =
        let rights = parts_of (LacksAs (is_among (owned pass))) is.rights in
        let places_are = parts_of (IsSeat queue.windows.items) is.seats_are in
        record {
          windows = is.windows;
          few = is.few;
          seats_are = (gone.seats_are queue.windows.items places_are.0 places_are.1).0;
          differ = subst AllDiffer (sym gone.numbers) (differ_first (map seat_number kept) (seat.number ∷ []) (subst AllDiffer owned_split is.differ));
          rights = each_lacks (λ k. gets (is_among (owned pass) k) (seat.number == k)) (is_among (owned u)) (seats u)
              (λ k. ap (λ ns. gets (is_among ns k) (seat.number == k)) owned_split ∙ (part_law (map seat_number kept) seat.number k not_kept ∙ ap (λ ns. is_among ns k) (sym gone.numbers))) (gone.rights (is_among (owned pass)) rights.0);
        }

    -- the pass of the last one alone
    alone_of : (P : Seat N T → Type 0) → P v.first → Each P (seats v)
    alone_of P p = (p, subst (Each P) (sym alone) tt)

    pub left_second : IsTaskPass queue v
    left_second =
        let rights = parts_of (LacksAs (is_among (owned pass))) is.rights in
        let places_are = parts_of (IsSeat queue.windows.items) is.seats_are in
        let mine : owned v ≡ seat.number ∷ [] = (λ i. gone.number i ∷ map seat_number (alone i)) in
        record {
          windows = is.windows;
          few = is.few;
          seats_are = alone_of (IsSeat queue.windows.items) (gone.seats_are queue.windows.items places_are.0 places_are.1).1;
          differ = subst AllDiffer (sym mine) (refl, tt);
          rights = alone_of (LacksAs (is_among (owned v)))
              (λ k.
              gone.right k
              ∙ (ap (λ b. gets b (is_among (map seat_number kept) k)) (rights.1 k ∙ ap (λ ns. is_among ns k) owned_split)
              ∙ (left_law (map seat_number kept) seat.number k not_kept ∙ ap (λ ns. is_among ns k) (sym mine))));
        }

    pub left_dealt : IsDealt u × IsDealt v
    left_dealt = let all = parts_of IsDealtAt dealt in let both = gone.dealt all.0 all.1 in (both.0, alone_of IsDealtAt both.1)

    pub left_run : (run : Option N) → KnowsRun run pass → KnowsRun run u × KnowsRun run v
    left_run run know = let all = parts_of (KnowsRunAt run) know in let both = gone.run run all.0 all.1 in (both.0, alone_of (KnowsRunAt run) both.1)

    pub left_room : (d n : ℕ) → HasRoomOn d n pass → HasRoomOn d n u × HasRoomOn d n v
    left_room d n has = let all = parts_of (HasRoomIf d n) has in ((gone.room d n).0 all.0, alone_of (HasRoomIf d n) ((gone.room d n).1 all.1))

    pub left_sums : (h : ℕ → ℕ) → (put_by h u + put_by h v ≡ put_by h pass) × (taken_by h u + taken_by h v ≡ taken_by h pass)
    left_sums h =
        let put_all = ap (sum_by (seat_put h)) seats_split in
        let taken_all = ap (sum_by (seat_taken h)) seats_split in
        let put_v = ap (λ xs. sum_by (seat_put h) (v.first ∷ xs)) alone in
        let taken_v = ap (λ xs. sum_by (seat_taken h) (v.first ∷ xs)) alone in (
          omega (arith, put_all, sum_by_push (seat_put h) kept seat, put_v, sum_one (seat_put h) v.first, (gone.put h).0, (gone.put h).1),
          omega (arith, taken_all, sum_by_push (seat_taken h) kept seat, taken_v, sum_one (seat_taken h) v.first, gone.taken h),
        )

-- what is in one list isn't in the other
pub apart_not : (ns ms : List ℕ) (k : ℕ) → AreApart ns ms → is_among ms k ≡ true → is_among ns k ≡ false
apart_not ns ms k apart there = go (cases_Bool (is_among ns k))
  where
    go : (is_among ns k ≡ true) ⊎ (is_among ns k ≡ false) → is_among ns k ≡ false
    go (inl e) = absurd (false≢true (sym (apart k e) ∙ there))
    go (inr e) = e

or_comm : (a b : Bool) → a || b ≡ b || a
or_comm true true = refl
or_comm true false = refl
or_comm false true = refl
or_comm false false = refl

-- two passes come together
module _ {N T : Type 0} (queue : TaskQueue N T) (pass other : TaskPass N T) (is : IsTaskPass queue pass) (of : IsTaskPass queue other) (dealt : IsDealt pass) (dealt_other : IsDealt other) (apart : AreApart (owned pass) (owned other)) where
  -- the first seat of the other one may meet
  pub may_meet : MayExchangeAll false (seats pass) other.first
  may_meet = record {
    windows = queue.windows.items;
    few = is.few;
    seats_are = is.seats_are;
    seat_is = of.seats_are.0;
    dealt_all = dealt;
    dealt = dealt_other.0;
    differ = is.differ;
    rights = each_weaker (LacksAs (is_among (owned pass))) (λ a. lacks a other.first.number ≡ false) (seats pass)
        (λ a h. h other.first.number ∙ apart_not (owned pass) (owned other) other.first.number apart (among_first other.first.number (map seat_number other.more.items))) is.rights;
    right = λ k e. of.rights.0 k ∙ apart k e;
  }

  -- and the others behind it
  module _ (mid : TaskPass N T) (first : Seat N T) (met : AreExchanged gives (seats pass) other.first (seats mid) first) where
    pub may_meet_all : MayUniteAll (seats mid) other.more.items
    may_meet_all = record {
      windows = queue.windows.items;
      few = is.few;
      seats_a = (met.seats_are queue.windows.items is.seats_are of.seats_are.0).0;
      seats_b = of.seats_are.1;
      dealt_a = (met.dealt dealt dealt_other.0).0;
      dealt_b = dealt_other.1;
      differ_a = subst AllDiffer (sym met.numbers) is.differ;
      differ_b = of.differ.1;
      f = λ k. gives (is_among (owned pass) k) (other.first.number == k);
      f_not = λ k e.
          or_from (is_among (owned pass) k) (other.first.number == k) (apart_not (owned pass) (owned other) k apart (or_right (other.first.number == k) (is_among (map seat_number other.more.items) k) e))
          (ne_eqb other.first.number k (λ same. false≢true (sym of.differ.0 ∙ (ap (λ i. is_among (map seat_number other.more.items) i) same ∙ e))));
      rights_a = met.rights (is_among (owned pass)) is.rights;
      rights_b = each_weaker (LacksAs (is_among (owned other))) (λ b. (k : ℕ) → is_among (map seat_number (seats mid)) k ≡ true → lacks b k ≡ false) other.more.items
          (λ b h k e. h k ∙ apart k (ap (λ ns. is_among ns k) (sym met.numbers) ∙ e)) of.rights.1;
    }

    pub met_all : (end : TaskPass N T) (more : List (Seat N T)) → AreUnited (seats mid) other.more.items (seats end) more → AreUnited (seats pass) (seats other) (seats end) (first ∷ more)
    met_all end more rest = united_append (seats pass) (seats mid) (seats end) (other.first ∷ []) other.more.items (first ∷ []) more (united_one (seats pass) (seats mid) other.first first met) rest

  -- and all are in one pass
  module _ (u : TaskPass N T) (mine theirs : List (Seat N T)) (one : AreUnited (seats pass) (seats other) mine theirs) (seats_are : seats u ≡ mine ++ theirs) where
    from_both : (P : Seat N T → Type 0) → Each P mine → Each P theirs → Each P (seats u)
    from_both P a b = subst (Each P) (sym seats_are) (each_append P mine theirs a b)

    pub joined_owned : owned u ≡ owned pass ++ owned other
    joined_owned = ap (λ xs. map seat_number xs) seats_are ∙ (map-append seat_number mine theirs ∙ (λ i. one.numbers.0 i ++ one.numbers.1 i))

    pub joined : IsTaskPass queue u
    joined =
        let all = one.seats_are queue.windows.items is.seats_are of.seats_are in
        record {
          windows = is.windows;
          few = is.few;
          seats_are = from_both (IsSeat queue.windows.items) all.0 all.1;
          differ = subst AllDiffer (sym joined_owned) (differ_append (owned pass) (owned other) is.differ of.differ apart);
          rights = from_both (LacksAs (is_among (owned u)))
              (each_lacks (λ k. is_among (owned pass) k || is_among (owned other) k) (is_among (owned u)) mine (λ k. sym (ap (λ ns. is_among ns k) joined_owned ∙ among_append (owned pass) (owned other) k)) (one.rights_a (is_among (owned pass)) is.rights))
              (each_lacks (λ k. is_among (owned other) k || is_among (owned pass) k) (is_among (owned u)) theirs
              (λ k. or_comm (is_among (owned other) k) (is_among (owned pass) k) ∙ sym (ap (λ ns. is_among ns k) joined_owned ∙ among_append (owned pass) (owned other) k)) (one.rights_b (is_among (owned other)) of.rights));
        }

    pub joined_dealt : IsDealt u
    joined_dealt = let all = one.dealt dealt dealt_other in from_both IsDealtAt all.0 all.1

    pub joined_run : (run : Option N) → KnowsRun run pass → KnowsRun run other → KnowsRun run u
    joined_run run a b = let all = one.run run a b in from_both (KnowsRunAt run) all.0 all.1

    pub joined_room : (d n : ℕ) → HasRoomOn d n pass → HasRoomOn d n other → HasRoomOn d n u
    joined_room d n a b = from_both (HasRoomIf d n) ((one.room d n).0 a) ((one.room d n).1 b)

    pub joined_sums : (h : ℕ → ℕ) → (put_by h u ≡ put_by h pass + put_by h other) × (taken_by h u ≡ taken_by h pass + taken_by h other)
    joined_sums h = (
      (let put_all = ap (sum_by (seat_put h)) seats_are in omega (arith, put_all, sum_by-append (seat_put h) mine theirs, (one.put h).0, (one.put h).1)),
      (let taken_all = ap (sum_by (seat_taken h)) seats_are in omega (arith, taken_all, sum_by-append (seat_taken h) mine theirs, one.taken h)),
    )

-- as many seats as numbers
pub seats_length : {N T : Type 0} (xs : List (Seat N T)) (ns : List ℕ) → map seat_number xs ≡ ns → length xs ≡ length ns
seats_length xs ns e = sym (length-map xs seat_number) ∙ ap length e

-- the owner's ends of all its deques
pub lanes_of : {N T : Type 0} (queue : TaskQueue N T) (pass : TaskPass N T) → IsTaskPass queue pass → Each IsAnyLane (seats pass)
lanes_of queue pass is = each_weaker (IsSeat queue.windows.items) IsAnyLane (seats pass) (λ x seat. seat.lane) is.seats_are

-- none is left where a pass that owns all deques found each empty
module _ {N T : Type 0} (number : T → ℕ) (run : T → N) (fact : T → Type 0) (queue : TaskQueue N T) (old mid : TaskPass N T) (rights : Vec (Option (Thief N T)) Global)
    (keep : KeepSeats queue.windows.items (seats old) (seats mid)) (same_rights : mid.first.rights ≡ old.first.rights) (same_number : mid.first.number ≡ old.first.number)
    (none : IsTakenAmong number run fact (seats old) (seats mid) None) (are : AreRights queue.windows.items rights.items) (is : IsTaskPass queue old) where
  pub none_settled : (r : Option T) → IsTold number run fact queue old mid rights keep same_rights same_number none are r
      → IfNone r (OwnsAll queue old → IsDealt old → (h : ℕ → ℕ) → put_by h (record mid { first = record mid.first { rights = rights } }) ≡ taken_by h (record mid { first = record mid.first { rights = rights } }))
  none_settled None told = λ all dealt h.
      let put = (stolen_keeps number run fact queue old mid rights keep same_rights same_number none are None told).put h in
      let taken = (stolen_taken number run fact queue old mid rights keep same_rights same_number none are None told).0 h in
      put ∙ (all_settled queue old is all dealt none.1 h ∙ sym taken)
  none_settled (Some task) told = tt
