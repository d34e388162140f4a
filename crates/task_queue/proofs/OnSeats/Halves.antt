-- What two seats get from each other, or give back.
use Rattle.std.proofs.Common.{◌≡◌, ◌≢◌, ℕ, zero, suc, ◌+◌, ◌<◌, ◌≤◌, true, false, true≢false, List, [], ◌∷◌, length, set, Option, Some, None, refl, sym, ap, ◌∙◌, subst, arith, inl, inr}
use Rattle.std.specs.Prelude.{slice_get, sum_by, option_map, not, ◌==◌, ◌&&◌, ◌||◌, ◌⊎◌}
use Rattle.std.proofs.lemmas.Bool.{false≢true, cases_eq, eq-eqb, ne_eqb, and_right, or_right, not_from_true, not_from_false}
use Rattle.std.proofs.lemmas.List.{length-set, length-map, map-set}
use Rattle.std.proofs.lemmas.List.Sums.{sum_by-cons}
use Rattle.task_queue.specs.declared.lane.tally.Tally.{Tally}
use Rattle.task_queue.specs.declared.lane.deque.Lane.{Lane}
use Rattle.task_queue.specs.declared.lane.deque.Window.{Window}
use Rattle.task_queue.specs.declared.lane.deque.Thief.{Thief}
use Rattle.task_queue.specs.declared.seat.Seat.{Seat}
use Rattle.task_queue.specs.Lane.Rule.{giving}
use Rattle.task_queue.specs.Lane.Handles.{IsThiefOf, lane_knows, lane_deque, thief_knows, window_deque}
use Rattle.task_queue.specs.Seats.{rights_know, seat_knows, lacks, IsSeat, IsDealtAt, right_count, right_taken, tally_put, tally_taken, is_empty_place}
use Rattle.task_queue.specs.Inner.Exchange.{gets, gives, HasLent, Lends, HasBack, TakesBack, MayExchange, IsHalf, IsExchange}
use Rattle.task_queue.proofs.Sums.{sum_append}
use Rattle.task_queue.proofs.Lists.{none_there, some_same, set_cases, set_other, set_same, set_back, some_there, at_map, sum_changed, or_none, and_one}

-- places of rights
module _ {N : Type 0} where
  pub empty_at : (o : Option (Option (Tally N))) → is_empty_place o ≡ true → o ≡ Some None
  empty_at None e = absurd (false≢true e)
  empty_at (Some None) e = refl
  empty_at (Some (Some v)) e = absurd (false≢true e)

  one_most : (o : Option (Tally N)) → right_count o ≤ 1
  one_most None = let h : 0 ≤ 1 = omega arith in h
  one_most (Some v) = let h : 1 ≤ 1 = omega arith in h

  count_most : (views : List (Option (Tally N))) → sum_by right_count views ≤ length views
  count_most [] = omega arith
  count_most (o ∷ views) = omega (arith, sum_by-cons right_count o views, one_most o, count_most views)

  pub count_less : (views : List (Option (Tally N))) (k : ℕ) → slice_get views k ≡ Some None → sum_by right_count views + 1 ≤ length views
  count_less [] k e = absurd (none_there k None e)
  count_less (o ∷ views) zero e =
      let none : right_count o ≡ 0 = ap right_count (some_same o None e) in
      omega (arith, sum_by-cons right_count o views, none, count_most views)
  count_less (o ∷ views) (suc k) e = omega (arith, sum_by-cons right_count o views, one_most o, count_less views k e)

pub full_at : {N T : Type 0} (rights : List (Option (Thief N T))) (k : ℕ) → k < length rights → is_empty_place (slice_get (rights_know rights) k) ≡ false → (right : Thief N T) × (slice_get rights k ≡ Some (Some right))
full_at [] k l e = absurd (omega (arith, l))
full_at (None ∷ rights) zero l e = absurd (true≢false e)
full_at (Some right ∷ rights) zero l e = (right, refl)
full_at (o ∷ rights) (suc k) l e = full_at rights k (omega (arith, l)) e

-- what is added up over places, after a change of one
module _ {N : Type 0} (f : Option (Tally N) → ℕ) (views : List (Option (Tally N))) (k : ℕ) (v : Tally N) (n : ℕ) (one : f (Some v) ≡ f None + n) where
  pub sum_filled : slice_get views k ≡ Some None → sum_by f (set views k (Some v)) ≡ sum_by f views + n
  sum_filled at = sum_changed f views k None (Some v) n at one

  pub sum_emptied : slice_get views k ≡ Some (Some v) → sum_by f views ≡ sum_by f (set views k None) + n
  sum_emptied at = ap (sum_by f) (sym (set_back views k (Some v) None at)) ∙ sum_changed f (set views k None) k None (Some v) n (set_same views k (Some v) None at) one

module _ {N T : Type 0} (x s y : Seat N T) (number_is : y.number ≡ x.number) (dealt : IsDealtAt x) where
  -- a seat gets a right, and lends one
  module _ (lent : HasLent x.lane y.lane) (r : Thief N T) (of : IsThiefOf (lane_deque s.lane) r) (knows : thief_knows r ≡ giving (lane_knows s.lane))
      (rights : y.rights.items ≡ set x.rights.items s.number (Some r)) (some : 1 < (lane_knows x.lane).parts) (lacking : lacks x s.number ≡ true) where
    there : slice_get (seat_knows x) s.number ≡ Some None
    there = empty_at (slice_get (seat_knows x) s.number) lacking

    now : seat_knows y ≡ set (seat_knows x) s.number (Some (thief_knows r))
    now = ap rights_know rights ∙ map-set (option_map thief_knows) x.rights.items s.number (Some r)

    views_at : (P : Tally N → Type 0) → P (giving (lane_knows s.lane)) → ((k : ℕ) (v : Tally N) → slice_get (seat_knows x) k ≡ Some (Some v) → P v) → (k : ℕ) (v : Tally N) → slice_get (seat_knows y) k ≡ Some (Some v) → P v
    views_at P p all k v e = go (set_cases (seat_knows x) s.number k (Some (thief_knows r)) (Some v) (ap (λ (vs : List (Option (Tally N))). slice_get vs k) (sym now) ∙ e))
      where
        go : ((k ≡ s.number) × (◌≡◌ {A = Option (Tally N)} (Some (thief_knows r)) (Some v))) ⊎ ((k ≢ s.number) × (slice_get (seat_knows x) k ≡ Some (Some v))) → P v
        go (inl q) = subst P (sym knows ∙ some_same (thief_knows r) v q.1) p
        go (inr q) = all k v q.1

    deques_at : (ws : List (Window N T)) → IsSeat ws x → IsSeat ws s → (k : ℕ) (right : Thief N T) (w : Window N T) → slice_get y.rights.items k ≡ Some (Some right) → slice_get ws k ≡ Some w → IsThiefOf (window_deque w) right
    deques_at ws a b k right w e f = go (set_cases x.rights.items s.number k (Some r) (Some right) (ap (λ (rs : List (Option (Thief N T))). slice_get rs k) (sym rights) ∙ e))
      where
        go : ((k ≡ s.number) × (◌≡◌ {A = Option (Thief N T)} (Some r) (Some right))) ⊎ ((k ≢ s.number) × (slice_get x.rights.items k ≡ Some (Some right))) → IsThiefOf (window_deque w) right
        go (inl q) =
            let deque = b.at w (ap (λ i. slice_get ws i) (sym q.0) ∙ f) in
            subst (IsThiefOf (window_deque w)) (some_same r right q.1) (subst (λ d. IsThiefOf d r) deque of)
        go (inr q) = a.rights.each k right w q.1 f

    lacks_now : (k : ℕ) → (s.number ≡ k) ⊎ (s.number ≡ k → ⊥) → lacks y k ≡ lacks x k && not (s.number == k)
    lacks_now k (inl e) =
        let filled : lacks y k ≡ false = ap is_empty_place (ap (λ (vs : List (Option (Tally N))). slice_get vs k) now ∙ (ap (λ i. slice_get (set (seat_knows x) s.number (Some (thief_knows r))) i) (sym e) ∙ set_same (seat_knows x) s.number None (Some (thief_knows r)) there)) in
        filled ∙ sym (and_right (lacks x k) (not (s.number == k)) (not_from_true (s.number == k) (eq-eqb s.number k e)))
    lacks_now k (inr other) =
        ap is_empty_place (ap (λ (vs : List (Option (Tally N))). slice_get vs k) now ∙ set_other (seat_knows x) s.number k (Some (thief_knows r)) (λ e. other (sym e)))
        ∙ sym (and_one (lacks x k) (not (s.number == k)) (not_from_false (s.number == k) (ne_eqb s.number k other)))

    pub half_part : IsHalf gets (λ h. 0) (λ h. 0) x s y
    half_part = record {
      number = number_is;
      seat = λ ws a b. record {
        lane = lent.lane;
        within = omega (arith, number_is, a.within);
        at = λ w e. lent.same.deque ∙ a.at w (ap (λ i. slice_get ws i) (sym number_is) ∙ e);
        rights = record { count = ap length rights ∙ (length-set x.rights.items s.number (Some r) ∙ a.rights.count); each = deques_at ws a b };
      };
      dealt = record {
        lane =
            let parts : (lane_knows y.lane).parts + 1 ≡ (lane_knows x.lane).parts = (let p = ap (λ (v : Tally N). v.parts) lent.knows in omega (arith, p, some)) in
            let one : 1 ≡ 0 + 1 = omega arith in
            let more : sum_by right_count (seat_knows y) ≡ sum_by right_count (seat_knows x) + 1 = ap (sum_by right_count) now ∙ sum_filled right_count (seat_knows x) s.number (thief_knows r) 1 one there in
            omega (arith, parts, more, dealt.lane);
        rights = views_at (λ v. v.parts ≡ 1) refl dealt.rights;
      };
      run = λ run a b. record { lane = ap (λ (v : Tally N). v.run) lent.knows ∙ a.lane; rights = views_at (λ v. v.run ≡ run) b.lane a.rights };
      room = λ d n has e. (let old = has (sym number_is ∙ e) in omega (arith, old, lent.same.room, lent.puts));
      put = λ h. ap (tally_put h) lent.knows;
      taken = λ h.
          let lane : tally_taken h (lane_knows y.lane) ≡ tally_taken h (lane_knows x.lane) = ap (tally_taken h) lent.knows in
          let none : tally_taken h (thief_knows r) ≡ 0 = ap (tally_taken h) knows in
          let one : tally_taken h (thief_knows r) ≡ 0 + 0 = omega (arith, none) in
          let more : sum_by (right_taken h) (seat_knows y) ≡ sum_by (right_taken h) (seat_knows x) + 0 = ap (sum_by (right_taken h)) now ∙ sum_filled (right_taken h) (seat_knows x) s.number (thief_knows r) 0 one there in
          omega (arith, lane, more);
      right = λ k. lacks_now k (cases_eq s.number k);
    }

  -- a seat gives back a right, and its own comes back
  module _ (mine : Thief N T) (back : HasBack mine x.lane y.lane) (of : IsThiefOf (lane_deque x.lane) mine) (one_part : (thief_knows mine).parts ≡ 1) (given : Thief N T)
      (had : slice_get x.rights.items s.number ≡ Some (Some given)) (rights : y.rights.items ≡ set x.rights.items s.number None) where
    stood : slice_get (seat_knows x) s.number ≡ Some (Some (thief_knows given))
    stood = at_map (option_map thief_knows) x.rights.items s.number (Some given) had

    left : seat_knows y ≡ set (seat_knows x) s.number None
    left = ap rights_know rights ∙ map-set (option_map thief_knows) x.rights.items s.number None

    views_left : (k : ℕ) (v : Tally N) → slice_get (seat_knows y) k ≡ Some (Some v) → slice_get (seat_knows x) k ≡ Some (Some v)
    views_left k v e = go (set_cases (seat_knows x) s.number k None (Some v) (ap (λ (vs : List (Option (Tally N))). slice_get vs k) (sym left) ∙ e))
      where
        go : ((k ≡ s.number) × (◌≡◌ {A = Option (Tally N)} None (Some v))) ⊎ ((k ≢ s.number) × (slice_get (seat_knows x) k ≡ Some (Some v))) → slice_get (seat_knows x) k ≡ Some (Some v)
        go (inl q) = let no = q.1 in cc
        go (inr q) = q.1

    rights_left : (k : ℕ) (right : Thief N T) → slice_get y.rights.items k ≡ Some (Some right) → slice_get x.rights.items k ≡ Some (Some right)
    rights_left k right e = go (set_cases x.rights.items s.number k None (Some right) (ap (λ (rs : List (Option (Thief N T))). slice_get rs k) (sym rights) ∙ e))
      where
        go : ((k ≡ s.number) × (◌≡◌ {A = Option (Thief N T)} None (Some right))) ⊎ ((k ≢ s.number) × (slice_get x.rights.items k ≡ Some (Some right))) → slice_get x.rights.items k ≡ Some (Some right)
        go (inl q) = let no = q.1 in cc
        go (inr q) = q.1

    lacks_left : (k : ℕ) → (s.number ≡ k) ⊎ (s.number ≡ k → ⊥) → lacks y k ≡ lacks x k || (s.number == k)
    lacks_left k (inl e) =
        let emptied : lacks y k ≡ true = ap is_empty_place (ap (λ (vs : List (Option (Tally N))). slice_get vs k) left ∙ (ap (λ i. slice_get (set (seat_knows x) s.number None) i) (sym e) ∙ set_same (seat_knows x) s.number (Some (thief_knows given)) None stood)) in
        emptied ∙ sym (or_right (lacks x k) (s.number == k) (eq-eqb s.number k e))
    lacks_left k (inr other) =
        ap is_empty_place (ap (λ (vs : List (Option (Tally N))). slice_get vs k) left ∙ set_other (seat_knows x) s.number k None (λ e. other (sym e)))
        ∙ sym (or_none (lacks x k) (s.number == k) (ne_eqb s.number k other))

    pub half_unite : IsHalf gives (λ h. tally_taken h (thief_knows given)) (λ h. tally_taken h (thief_knows mine)) x s y
    half_unite = record {
      number = number_is;
      seat = λ ws a b. record {
        lane = back.lane;
        within = omega (arith, number_is, a.within);
        at = λ w e. back.same.deque ∙ a.at w (ap (λ i. slice_get ws i) (sym number_is) ∙ e);
        rights = record { count = ap length rights ∙ (length-set x.rights.items s.number None ∙ a.rights.count); each = λ k right w e f. a.rights.each k right w (rights_left k right e) f };
      };
      dealt = record {
        lane =
            let parts : (lane_knows y.lane).parts ≡ (lane_knows x.lane).parts + 1 = (let p = ap (λ (v : Tally N). v.parts) back.knows in omega (arith, p, one_part)) in
            let one : 1 ≡ 0 + 1 = omega arith in
            let fewer : sum_by right_count (seat_knows x) ≡ sum_by right_count (seat_knows y) + 1 = sum_emptied right_count (seat_knows x) s.number (thief_knows given) 1 one stood ∙ ap (λ (vs : List (Option (Tally N))). sum_by right_count vs + 1) (sym left) in
            omega (arith, parts, fewer, dealt.lane);
        rights = λ k v e. dealt.rights k v (views_left k v e);
      };
      run = λ run a b. record { lane = ap (λ (v : Tally N). v.run) back.knows ∙ a.lane; rights = λ k v e. a.rights k v (views_left k v e) };
      room = λ d n has e. (let old = has (sym number_is ∙ e) in omega (arith, old, back.same.room, back.puts));
      put = λ h.
          let lane : tally_put h (lane_knows y.lane) ≡ tally_put h (lane_knows x.lane) + sum_by h (thief_knows mine).put = ap (tally_put h) back.knows ∙ sum_append h (lane_knows x.lane).put (thief_knows mine).put in
          let none : sum_by h (thief_knows mine).put ≡ 0 = ap (sum_by h) of.put in
          omega (arith, lane, none);
      taken = λ h.
          let lane : tally_taken h (lane_knows y.lane) ≡ tally_taken h (lane_knows x.lane) + tally_taken h (thief_knows mine) = ap (tally_taken h) back.knows ∙ sum_append h (lane_knows x.lane).taken (thief_knows mine).taken in
          let one : tally_taken h (thief_knows given) ≡ 0 + tally_taken h (thief_knows given) = omega arith in
          let fewer : sum_by (right_taken h) (seat_knows x) ≡ sum_by (right_taken h) (seat_knows y) + tally_taken h (thief_knows given) =
          sum_emptied (right_taken h) (seat_knows x) s.number (thief_knows given) (tally_taken h (thief_knows given)) one stood ∙ ap (λ (vs : List (Option (Tally N))). sum_by (right_taken h) vs + tally_taken h (thief_knows given)) (sym left) in
          omega (arith, lane, fewer);
      right = λ k. lacks_left k (cases_eq s.number k);
    }

-- of two seats without rights on each other, either has parts to lend
module _ {N T : Type 0} (a b : Seat N T) where
  pub may_lend : (windows : List (Window N T)) → length windows < 1024 → IsSeat windows a → IsDealtAt a → lacks a b.number ≡ true → 1 < (lane_knows a.lane).parts
  may_lend windows few is dealt lacking =
      let less = count_less (seat_knows a) b.number (empty_at (slice_get (seat_knows a) b.number) lacking) in
      omega (arith, less, length-map a.rights.items (option_map thief_knows), is.rights.count, few, dealt.lane)

  -- both lend
  pub parted : (a1 b1 a2 b2 : Seat N T) → MayExchange true a b → Lends a a1 b b1 → Lends b1 b2 a1 a2 → IsExchange gets a b a2 b2
  parted a1 b1 a2 b2 may p q = record {
    out = λ h. 0;
    into = λ h. 0;
    half_a = half_part a b a2 (q.thief_number ∙ p.number) may.dealt_a (subst (HasLent a.lane) (sym q.thief_lane) p.lent) q.right (subst (λ (l : Lane N T). IsThiefOf (lane_deque l) q.right) p.thief_lane q.right_of)
        (q.right_knows ∙ ap (λ (l : Lane N T). giving (lane_knows l)) p.thief_lane) (q.rights ∙ (λ i. set (p.kept i).items (p.thief_number i) (Some q.right))) (may_lend may.windows may.few may.seat_a may.dealt_a may.right_a) may.right_a;
    half_b = half_part b a b2 (q.number ∙ p.thief_number) may.dealt_b (subst (λ (l : Lane N T). HasLent l b2.lane) p.thief_lane q.lent) p.right p.right_of p.right_knows (ap (λ rs. rs.items) q.kept ∙ p.rights)
        (may_lend_back may) may.right_b;
  }
    where
      may_lend_back : MayExchange true a b → 1 < (lane_knows b.lane).parts
      may_lend_back may =
          let less = count_less (seat_knows b) a.number (empty_at (slice_get (seat_knows b) a.number) may.right_b) in
          omega (arith, less, length-map b.rights.items (option_map thief_knows), may.seat_b.rights.count, may.few, may.dealt_b.lane)

  -- the right that a has on the deque of b
  pub right_on : (windows : List (Window N T)) → IsSeat windows a → IsSeat windows b → lacks a b.number ≡ false → (right : Thief N T) × (slice_get a.rights.items b.number ≡ Some (Some right)) × IsThiefOf (lane_deque b.lane) right
  right_on windows is_a is_b has =
      let there = full_at a.rights.items b.number (omega (arith, is_a.rights.count, is_b.within)) has in
      let window = some_there windows b.number is_b.within in
      (there.0, there.1, subst (λ d. IsThiefOf d there.0) (sym (is_b.at window.0 window.1)) (is_a.rights.each b.number there.0 window.0 there.1 window.1))

  -- it is the one that stands there
  pub thief_on : (windows : List (Window N T)) → IsSeat windows a → IsSeat windows b → (right : Thief N T) → slice_get a.rights.items b.number ≡ Some (Some right) → IsThiefOf (lane_deque b.lane) right
  thief_on windows is_a is_b right there =
      let window = some_there windows b.number is_b.within in
      subst (λ d. IsThiefOf d right) (sym (is_b.at window.0 window.1)) (is_a.rights.each b.number right window.0 there window.1)

  pub part_one : IsDealtAt a → (right : Thief N T) → slice_get a.rights.items b.number ≡ Some (Some right) → (thief_knows right).parts ≡ 1
  part_one dealt right there = dealt.rights b.number (thief_knows right) (at_map (option_map thief_knows) a.rights.items b.number (Some right) there)

-- both give back
pub united : {N T : Type 0} (a b a1 b1 a2 b2 : Seat N T) → MayExchange false a b → TakesBack a a1 b b1 → TakesBack b1 b2 a1 a2 → IsExchange gives a b a2 b2
united {N} {T} a b a1 b1 a2 b2 may p q = record {
  out = λ h. tally_taken h (thief_knows q.right);
  into = λ h. tally_taken h (thief_knows p.right);
  half_a = half_unite a b a2 (q.thief_number ∙ p.number) may.dealt_a p.right (subst (HasBack p.right a.lane) (sym q.thief_lane) p.back) (thief_on b a may.windows may.seat_b may.seat_a p.right p.right_was)
      (part_one b a may.dealt_b p.right p.right_was) q.right was (q.rights ∙ (λ i. set (p.kept i).items (p.thief_number i) None));
  half_b = half_unite b a b2 (q.number ∙ p.thief_number) may.dealt_b q.right (subst (λ (l : Lane N T). HasBack q.right l b2.lane) p.thief_lane q.back) (thief_on a b may.windows may.seat_a may.seat_b q.right was)
      (part_one a b may.dealt_a q.right was) p.right p.right_was (ap (λ rs. rs.items) q.kept ∙ p.rights);
}
  where
    was : slice_get a.rights.items b.number ≡ Some (Some q.right)
    was = (λ i. slice_get (sym p.kept i).items (sym p.thief_number i)) ∙ q.right_was
