-- How a queue and its pass are made.
use Rattle.std.proofs.Common.{◌≡◌, ℕ, ◌+◌, ◌<◌, ◌≤◌, true, false, List, [], ◌∷◌, ◌++◌, length, Option, Some, None, refl, sym, ap, ◌∙◌, subst, arith, inl, inr}
use Rattle.std.specs.Prelude.{slice_get, option_map, ◌⊎◌}
use Rattle.std.proofs.lemmas.Bool.{cases_lt}
use Rattle.std.proofs.lemmas.List.{length-append, length-map}
use Rattle.task_queue.specs.declared.lane.tally.Tally.{Tally}
use Rattle.task_queue.specs.declared.lane.deque.Window.{Window}
use Rattle.task_queue.specs.declared.lane.deque.Thief.{Thief}
use Rattle.task_queue.specs.declared.seat.Seat.{Seat}
use Rattle.task_queue.specs.declared.queue.TaskQueue.{TaskQueue}
use Rattle.task_queue.specs.declared.queue.TaskPass.{TaskPass}
use Rattle.task_queue.specs.Lane.Handles.{IsWindow, lane_knows, thief_knows}
use Rattle.task_queue.specs.Seats.{Each, is_among, AllDiffer, numbers_below, AreWindows, seat_knows, lacks, is_empty_place, IsSeat, KnowsRunAt, IsDealtAt, HasRoomAt, right_count, right_taken, tally_put, tally_taken, seat_put, seat_taken}
use Rattle.task_queue.specs.Passes.{IsNewPass, owned, places, seats}
use Rattle.task_queue.specs.Inner.Making.{AreNone, IsNewSeat, HaveOpened}
use Rattle.task_queue.proofs.Lists.{none_there, same_some, snoc_cases, last_there, in_prefix, some_there, at_map, map_at, sum_nothing, past_end, each_at, each_weaker, below_differ, among_below, not_below}
use Rattle.task_queue.proofs.OnSeats.Many.{LacksAs}

module _ {N T : Type 0} where
  -- one place more
  pub more_none : (count : ℕ) (rights : List (Option (Thief N T))) → AreNone count rights → AreNone (count + 1) (rights ++ None ∷ [])
  more_none count rights are = record {
    length_is = omega (arith, length-append rights (None ∷ []), are.length_is);
    each = λ k right e. one k right (snoc_cases rights None k right e);
  }
    where
      one : (k : ℕ) (right : Option (Thief N T)) → ((k < length rights) × (slice_get rights k ≡ Some right)) ⊎ ((k ≡ length rights) × (None ≡ right)) → right ≡ None
      one k right (inl p) = are.each k right p.1
      one k right (inr p) = sym p.1

  pub no_none : (rights : List (Option (Thief N T))) → rights ≡ [] → AreNone 0 rights
  no_none rights empty = record { length_is = ap length empty; each = λ k right e. absurd (none_there k right (ap (λ rs. slice_get rs k) (sym empty) ∙ e)) }

  -- one deque more
  pub more_windows : (old new : List (Window N T)) (window : Window N T) (number : ℕ) → AreWindows old → IsWindow window → length old ≡ number → new ≡ old ++ window ∷ [] → HaveOpened (number + 1) old new
  more_windows old new window number are is count new_is = record {
    length_is = omega (arith, ap length new_is, length-append old (window ∷ []), count);
    windows = λ k w e. one k w (snoc_cases old window k w (ap (λ ws. slice_get ws k) (sym new_is) ∙ e));
    same = λ k l. let there = some_there old k l in ap (λ ws. slice_get ws k) new_is ∙ (in_prefix old (window ∷ []) k there.0 there.1 ∙ sym there.1);
  }
    where
      one : (k : ℕ) (w : Window N T) → ((k < length old) × (slice_get old k ≡ Some w)) ⊎ ((k ≡ length old) × (window ≡ w)) → IsWindow w
      one k w (inl p) = are k w p.1
      one k w (inr p) = subst IsWindow p.1 is

  pub window_last : (old new : List (Window N T)) (window w : Window N T) (number : ℕ) → length old ≡ number → new ≡ old ++ window ∷ [] → slice_get new number ≡ Some w → window ≡ w
  window_last old new window w number count new_is e =
      same_some (slice_get new number) window w (ap (λ ws. slice_get ws number) new_is ∙ (ap (λ i. slice_get (old ++ window ∷ []) i) (sym count) ∙ last_there old window)) e

  pub opened_none : (windows : List (Window N T)) → AreWindows windows → length windows ≡ 1 → HaveOpened 1 windows windows
  opened_none windows are count = record { length_is = count; windows = are; same = λ k l. refl }

  pub opened_then : (a b c : List (Window N T)) (n m : ℕ) → n ≤ m → length a ≤ n → HaveOpened n a b → HaveOpened m b c → HaveOpened m a c
  opened_then a b c n m most few p q = record {
    length_is = q.length_is;
    windows = q.windows;
    same = λ k l. q.same k (omega (arith, l, few, p.length_is)) ∙ p.same k l;
  }

  -- a seat stays new
  pub still_new : (run : N) (room workers count : ℕ) (old new : List (Window N T)) (x : Seat N T) → HaveOpened count old new → length old ≤ count → IsNewSeat run room workers old x → IsNewSeat run room workers new x
  still_new run room workers count old new x grown most is = record {
    lane = is.lane;
    within = omega (arith, is.within, most, grown.length_is);
    at = λ w e. is.at w (sym (grown.same x.number is.within) ∙ e);
    knows = is.knows;
    room_is = is.room_is;
    none = is.none;
  }

-- a new seat among all
module _ {N T : Type 0} (run : N) (room workers : ℕ) (ws : List (Window N T)) (count : length ws ≡ workers) where
  no_view : (x : Seat N T) → IsNewSeat run room workers ws x → (k : ℕ) (o : Option (Tally N)) → slice_get (seat_knows x) k ≡ Some o → o ≡ None
  no_view x is k o e =
      let there = map_at (option_map thief_knows) x.rights.items k o e in
      sym there.2 ∙ ap (option_map thief_knows) (is.none.each k there.0 there.1)

  no_tally : (x : Seat N T) → IsNewSeat run room workers ws x → (k : ℕ) (v : Tally N) → slice_get (seat_knows x) k ≡ Some (Some v) → ⊥
  no_tally x is k v e = let none = no_view x is k (Some v) e in cc

  seat_is : (x : Seat N T) → IsNewSeat run room workers ws x → IsSeat ws x
  seat_is x is = record {
    lane = is.lane;
    within = is.within;
    at = is.at;
    rights = record { count = is.none.length_is ∙ sym count; each = λ k right w e f. absurd (no_right k right (is.none.each k (Some right) e)) };
  }
    where
      no_right : (k : ℕ) (right : Thief N T) → ◌≡◌ {A = Option (Thief N T)} (Some right) None → ⊥
      no_right k right e = cc

  lacks_all : (x : Seat N T) → IsNewSeat run room workers ws x → LacksAs (is_among (numbers_below workers)) x
  lacks_all x is k = go (cases_lt k workers)
    where
      go : (k < workers) ⊎ (workers ≤ k) → lacks x k ≡ is_among (numbers_below workers) k
      go (inl l) =
          let there = some_there x.rights.items k (omega (arith, l, is.none.length_is)) in
          let view : slice_get (seat_knows x) k ≡ Some None = at_map (option_map thief_knows) x.rights.items k there.0 there.1 ∙ ap (λ r. Some (option_map thief_knows r)) (is.none.each k there.0 there.1) in
          let lacking : lacks x k ≡ true = ap is_empty_place view in
          lacking ∙ sym (among_below workers k l)
      go (inr l) =
          let past : lacks x k ≡ false = ap is_empty_place (past_end (seat_knows x) k (omega (arith, l, is.none.length_is, length-map x.rights.items (option_map thief_knows)))) in
          past ∙ sym (not_below workers k l)

  knows_run : (x : Seat N T) → IsNewSeat run room workers ws x → KnowsRunAt (Some run) x
  knows_run x is = record { lane = ap (λ (v : Tally N). v.run) is.knows; rights = λ k v e. absurd (no_tally x is k v e) }

  dealt_new : (x : Seat N T) → IsNewSeat run room workers ws x → IsDealtAt x
  dealt_new x is = record {
    lane =
        let parts : (lane_knows x.lane).parts ≡ 1024 = ap (λ (v : Tally N). v.parts) is.knows in
        let none = sum_nothing right_count (seat_knows x) (λ k o e. ap right_count (no_view x is k o e)) in
        omega (arith, parts, none);
    rights = λ k v e. absurd (no_tally x is k v e);
  }

  put_nothing : (h : ℕ → ℕ) (x : Seat N T) → IsNewSeat run room workers ws x → seat_put h x ≡ 0
  put_nothing h x is = ap (tally_put h) is.knows

  taken_nothing : (h : ℕ → ℕ) (x : Seat N T) → IsNewSeat run room workers ws x → seat_taken h x ≡ 0
  taken_nothing h x is =
      let lane : tally_taken h (lane_knows x.lane) ≡ 0 = ap (tally_taken h) is.knows in
      let none = sum_nothing (right_taken h) (seat_knows x) (λ k o e. ap (right_taken h) (no_view x is k o e)) in
      omega (arith, lane, none)

  -- the pass that owns them
  pub new_pass : (queue : TaskQueue N T) (pass : TaskPass N T) → queue.windows.items ≡ ws → workers < 1024 → AreWindows ws → Each (IsNewSeat run room workers ws) (seats pass) → owned pass ≡ numbers_below workers
      → workers ≤ places pass → IsNewPass queue (Some run) workers room pass
  new_pass queue pass ws_are few are all owned_are reserve = record {
    is = record {
      windows = subst AreWindows (sym ws_are) are;
      few = omega (arith, ap length ws_are, count, few);
      seats_are = subst (λ (vs : List (Window N T)). Each (IsSeat vs) (seats pass)) (sym ws_are) (each_weaker (IsNewSeat run room workers ws) (IsSeat ws) (seats pass) seat_is all);
      differ = subst AllDiffer (sym owned_are) (below_differ workers);
      rights = subst (λ ns. Each (LacksAs (is_among ns)) (seats pass)) (sym owned_are) (each_weaker (IsNewSeat run room workers ws) (LacksAs (is_among (numbers_below workers))) (seats pass) lacks_all all);
    };
    count = ap length ws_are ∙ count;
    owned_are = owned_are;
    knows = each_weaker (IsNewSeat run room workers ws) (KnowsRunAt (Some run)) (seats pass) knows_run all;
    dealt = each_weaker (IsNewSeat run room workers ws) IsDealtAt (seats pass) dealt_new all;
    rooms = each_weaker (IsNewSeat run room workers ws) (HasRoomAt room) (seats pass) (λ x is. is.room_is) all;
    places_are = reserve;
    put = λ h. sum_nothing (seat_put h) (seats pass) (λ k x e. put_nothing h x (each_at (IsNewSeat run room workers ws) (seats pass) k x all e));
    taken = λ h. sum_nothing (seat_taken h) (seats pass) (λ k x e. taken_nothing h x (each_at (IsNewSeat run room workers ws) (seats pass) k x all e));
  }
