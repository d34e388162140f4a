-- A ring of registers does what the list does.
use Rattle.std.proofs.Common.{◌≡◌, ℕ, zero, suc, ◌+◌, ◌-◌, ◌<◌, ◌≤◌, List, [], ◌∷◌, ◌++◌, length, refl, sym, ap, ◌∙◌, subst, arith, cond, true, false, Bool, eqb, Option, Some, None}
use Rattle.std.specs.Prelude.{nat_lt, not, ◌&&◌, is_some, option_to_list, slice_get, ◌⊎◌}
use Rattle.std.proofs.Common.{inl, inr}
use Rattle.std.proofs.lemmas.Bool.{cases_lt}
use Rattle.std.proofs.lemmas.Bool.Decides.{nat_tests}
use Rattle.std.proofs.lemmas.List.{length-append, append-nil}
use Rattle.base.proofs.Lemmas.Lists.Indices.{slice_get-append_left, slice_get-append_right}
use Rattle.block_stage.specs.Fifo.Fifo.{next_word, after_cycle}
use Rattle.block_stage.specs.Fifo.Fifo as fifo
use Rattle.block_stage.specs.Fifo.Ring.{Ring, RingHolds, place, up, on_by, has_word, has_room, first_word, gives, takes, ring_after}
use Rattle.block_stage.proofs.OnFifo.Lists.{kept_in}
use Rattle.block_stage.proofs.OnFifo.Rows.{eq_false, eq_true}

lt_true : (a b : ℕ) → a < b → nat_lt a b ≡ true
lt_true a b h = grind (arith, nat_tests)

lt_false : (a b : ℕ) → b ≤ a → nat_lt a b ≡ false
lt_false a b h = grind (arith, nat_tests)

-- the pointers, case by case
on_low : (d p k : ℕ) → p + k < d + d → on_by d p k ≡ p + k
on_low d p k h = let e = lt_true (p + k) (d + d) h in rw e refl

on_high : (d p k : ℕ) → d + d ≤ p + k → on_by d p k ≡ p + k - (d + d)
on_high d p k h = let e = lt_false (p + k) (d + d) h in rw e refl

place_low : (d p : ℕ) → p < d → place d p ≡ p
place_low d p h = let e = lt_true p d h in rw e refl

place_high : (d p : ℕ) → d ≤ p → place d p ≡ p - d
place_high d p h = let e = lt_false p d h in rw e refl

up_low : (d p : ℕ) → suc p < d + d → up d p ≡ suc p
up_low d p h = let e = eq_false (suc p) (d + d) (λ x. omega arith) in rw e refl

up_high : (d p : ℕ) → suc p ≡ d + d → up d p ≡ 0
up_high d p h = let e = eq_true (suc p) (d + d) h in rw e refl

on_below : (d p k : ℕ) → p < d + d → k ≤ d → on_by d p k < d + d
on_below d p k h l = go (cases_lt (p + k) (d + d))
  where
    go : (p + k < d + d) ⊎ (d + d ≤ p + k) → on_by d p k < d + d
    go (inl x) = let e = on_low d p k x in omega arith
    go (inr x) = let e = on_high d p k x in omega arith

up_on : (d p k : ℕ) → p < d + d → k < d + d → on_by d (up d p) k ≡ on_by d p (suc k)
up_on d p k h l = go (cases_lt (suc p) (d + d))
  where
    low : suc p < d + d → (suc p + k < d + d) ⊎ (d + d ≤ suc p + k) → on_by d (suc p) k ≡ on_by d p (suc k)
    low x (inl y) = let a = on_low d (suc p) k y in let b = on_low d p (suc k) (omega arith) in omega arith
    low x (inr y) = let a = on_high d (suc p) k y in let b = on_high d p (suc k) (omega arith) in omega arith

    go : (suc p < d + d) ⊎ (d + d ≤ suc p) → on_by d (up d p) k ≡ on_by d p (suc k)
    go (inl x) = let e = up_low d p x in rw e (low x (cases_lt (suc p + k) (d + d)))
    go (inr x) =
        let e = up_high d p (omega arith) in
        let a = on_low d 0 k (omega arith) in
        let b = on_high d p (suc k) (omega arith) in
        rw e (omega (arith, a, b))

on_up : (d p k : ℕ) → p < d + d → k < d → up d (on_by d p k) ≡ on_by d p (suc k)
on_up d p k h l = go (cases_lt (p + k) (d + d))
  where
    low : (p + k < d + d) → (suc (p + k) < d + d) ⊎ (d + d ≤ suc (p + k)) → up d (p + k) ≡ on_by d p (suc k)
    low x (inl y) = let a = up_low d (p + k) y in let b = on_low d p (suc k) (omega arith) in omega arith
    low x (inr y) = let a = up_high d (p + k) (omega arith) in let b = on_high d p (suc k) (omega arith) in omega arith

    go : (p + k < d + d) ⊎ (d + d ≤ p + k) → up d (on_by d p k) ≡ on_by d p (suc k)
    go (inl x) = let e = on_low d p k x in rw e (low x (cases_lt (suc (p + k)) (d + d)))
    go (inr x) =
        let e = on_high d p k x in
        let a = up_low d (p + k - (d + d)) (omega arith) in
        let b = on_high d p (suc k) (omega arith) in
        rw e (omega (arith, a, b))

-- the place of a pointer, and how far it is from another
apart_places : (d x y : ℕ) → x < d + d → y < d + d → (x + d ≡ y → ⊥) → (y + d ≡ x → ⊥) → (x ≡ y → ⊥) → place d x ≡ place d y → ⊥
apart_places d x y hx hy a b n e = go (cases_lt x d) (cases_lt y d)
  where
    go : (x < d) ⊎ (d ≤ x) → (y < d) ⊎ (d ≤ y) → ⊥
    go (inl p) (inl q) = n (sym (place_low d x p) ∙ e ∙ place_low d y q)
    go (inl p) (inr q) = let f = place_low d x p in let g = place_high d y q in a (omega arith)
    go (inr p) (inl q) = let f = place_high d x p in let g = place_low d y q in b (omega arith)
    go (inr p) (inr q) = let f = place_high d x p in let g = place_high d y q in n (omega arith)

same_place : (d x y : ℕ) → (x + d ≡ y) ⊎ (y + d ≡ x) → x < d + d → y < d + d → place d x ≡ place d y
same_place d x y (inl e) hx hy = let f = place_low d x (omega arith) in let g = place_high d y (omega arith) in omega arith
same_place d x y (inr e) hx hy = let f = place_high d x (omega arith) in let g = place_low d y (omega arith) in omega arith

-- slots nearer than the depth are apart
near_apart : (d r k n : ℕ) → r < d + d → k < n → n < d → place d (on_by d r n) ≡ place d (on_by d r k) → ⊥
near_apart d r k n h l m = apart_places d (on_by d r n) (on_by d r k) (on_below d r n h (omega arith)) (on_below d r k h (omega arith)) (λ x. a (cases_lt (r + k) (d + d)) (cases_lt (r + n) (d + d)) x)
    (λ x. b (cases_lt (r + k) (d + d)) (cases_lt (r + n) (d + d)) x) (λ x. c (cases_lt (r + k) (d + d)) (cases_lt (r + n) (d + d)) x)
  where
    a : (r + k < d + d) ⊎ (d + d ≤ r + k) → (r + n < d + d) ⊎ (d + d ≤ r + n) → on_by d r n + d ≡ on_by d r k → ⊥
    a (inl p) (inl q) x = let f = on_low d r k p in let g = on_low d r n q in omega arith
    a (inl p) (inr q) x = let f = on_low d r k p in let g = on_high d r n q in omega arith
    a (inr p) (inl q) x = let f = on_high d r k p in let g = on_low d r n q in omega arith
    a (inr p) (inr q) x = let f = on_high d r k p in let g = on_high d r n q in omega arith

    b : (r + k < d + d) ⊎ (d + d ≤ r + k) → (r + n < d + d) ⊎ (d + d ≤ r + n) → on_by d r k + d ≡ on_by d r n → ⊥
    b (inl p) (inl q) x = let f = on_low d r k p in let g = on_low d r n q in omega arith
    b (inl p) (inr q) x = let f = on_low d r k p in let g = on_high d r n q in omega arith
    b (inr p) (inl q) x = let f = on_high d r k p in let g = on_low d r n q in omega arith
    b (inr p) (inr q) x = let f = on_high d r k p in let g = on_high d r n q in omega arith

    c : (r + k < d + d) ⊎ (d + d ≤ r + k) → (r + n < d + d) ⊎ (d + d ≤ r + n) → on_by d r n ≡ on_by d r k → ⊥
    c (inl p) (inl q) x = let f = on_low d r k p in let g = on_low d r n q in omega arith
    c (inl p) (inr q) x = let f = on_low d r k p in let g = on_high d r n q in omega arith
    c (inr p) (inl q) x = let f = on_high d r k p in let g = on_low d r n q in omega arith
    c (inr p) (inr q) x = let f = on_high d r k p in let g = on_high d r n q in omega arith

on_zero : (d r : ℕ) → r < d + d → on_by d r 0 ≡ r
on_zero d r h = let e = on_low d r 0 (omega arith) in omega arith

on_apart : (d r n : ℕ) → r < d + d → 0 < n → n ≤ d → r ≡ on_by d r n → ⊥
on_apart d r n h p l e = go (cases_lt (r + n) (d + d))
  where
    go : (r + n < d + d) ⊎ (d + d ≤ r + n) → ⊥
    go (inl x) = let f = on_low d r n x in omega arith
    go (inr x) = let f = on_high d r n x in omega arith

-- the tests
word_test : (d r n : ℕ) → r < d + d → n ≤ d → not (eqb r (on_by d r n)) ≡ not (eqb n 0)
word_test d r zero h l = let e = eq_true r (on_by d r 0) (sym (on_zero d r h)) in rw e refl
word_test d r (suc n) h l =
    let e = eq_false r (on_by d r (suc n)) (on_apart d r (suc n) h (omega arith) l) in
    let f = eq_false (suc n) 0 (λ x. omega arith) in
    rw (e, f) refl

room_test : (d r n : ℕ) → r < d + d → 0 < d → n ≤ d → not (eqb (place d r) (place d (on_by d r n)) && not (eqb r (on_by d r n))) ≡ nat_lt n d
room_test d r n h pos l = go (cases_lt n d)
  where
    full : n ≡ d → place d r ≡ place d (on_by d r n)
    full e = same_place d r (on_by d r n) (shift (cases_lt (r + n) (d + d))) h (on_below d r n h l)
      where
        shift : (r + n < d + d) ⊎ (d + d ≤ r + n) → (r + d ≡ on_by d r n) ⊎ (on_by d r n + d ≡ r)
        shift (inl x) = inl (let f = on_low d r n x in omega (arith, e))
        shift (inr x) = inr (let f = on_high d r n x in omega (arith, e))

    low : (m : ℕ) → n ≡ m → n < d → not (eqb (place d r) (place d (on_by d r n)) && not (eqb r (on_by d r n))) ≡ true
    low zero e x =
        let z : on_by d r n ≡ r = ap (on_by d r) e ∙ on_zero d r h in
        let s = eq_true r (on_by d r n) (sym z) in
        rw s (and_none (eqb (place d r) (place d (on_by d r n))))
      where
        and_none : (t : Bool) → not (t && not true) ≡ true
        and_none true = refl
        and_none false = refl
    low (suc m) e x =
        let ne = eq_false (place d r) (place d (on_by d r n)) (λ y. near_apart d r 0 n h (omega arith) x (sym y ∙ ap (place d) (sym (on_zero d r h)))) in
        rw ne refl

    go : (n < d) ⊎ (d ≤ n) → not (eqb (place d r) (place d (on_by d r n)) && not (eqb r (on_by d r n))) ≡ nat_lt n d
    go (inl x) = low n refl x ∙ sym (lt_true n d x)
    go (inr x) =
        let e : n ≡ d = omega arith in
        let a = eq_true (place d r) (place d (on_by d r n)) (full e) in
        let b = eq_false r (on_by d r n) (on_apart d r n h (omega arith) l) in
        rw (a, b) (sym (lt_false n d x))

word_of : {A : Type 0} (words : List A) → not (eqb (length words) 0) ≡ is_some (next_word words)
word_of [] = refl
word_of (w ∷ ws) = let e = eq_false (suc (length ws)) 0 (λ x. omega arith) in rw e refl

pub ring_word : {A : Type 0} (depth : ℕ) (ring : Ring A) (words : List A) → RingHolds A depth ring words → 0 < depth → length words ≤ depth → has_word ring ≡ is_some (next_word words)
ring_word depth ring words h pos l = ap (λ x. not (eqb ring.read x)) h.write ∙ word_test depth ring.read (length words) h.read l ∙ word_of words

pub ring_first : {A : Type 0} (depth : ℕ) (ring : Ring A) (words : List A) (w : A) → RingHolds A depth ring words → next_word words ≡ Some w → first_word depth ring ≡ w
ring_first depth ring [] w h e = cc
ring_first depth ring (v ∷ vs) w h e =
    let s = h.slots 0 (omega arith) in
    let z = on_zero depth ring.read h.read in
    let t = rw z at s in
    cc

pub ring_room : {A : Type 0} (depth : ℕ) (ring : Ring A) (words : List A) → RingHolds A depth ring words → 0 < depth → length words ≤ depth → has_room depth ring ≡ fifo.has_room depth words
ring_room depth ring words h pos l =
    ap (λ x. not (eqb (place depth ring.read) (place depth x) && not (eqb ring.read x))) h.write ∙ room_test depth ring.read (length words) h.read pos l

-- behind what is given
record Left (A : Type 0) (depth : ℕ) (ring : Ring A) (read : ℕ) (words : List A) : Type 0 where
  within : read < depth + depth
  write : ring.write ≡ on_by depth read (length words)
  slots : (k : ℕ) → k < length words → slice_get words k ≡ Some (ring.slot (place depth (on_by depth read k)))

up_below : (d p : ℕ) → p < d + d → up d p < d + d
up_below d p h = go (cases_lt (suc p) (d + d))
  where
    go : (suc p < d + d) ⊎ (d + d ≤ suc p) → up d p < d + d
    go (inl x) = let e = up_low d p x in omega arith
    go (inr x) = let e = up_high d p (omega arith) in omega arith

left_ring : {A : Type 0} (depth : ℕ) (ring : Ring A) (words : List A) (ready : Bool) → RingHolds A depth ring words → 0 < depth → length words ≤ depth
    → Left A depth ring (cond (gives ring ready) (up depth ring.read) ring.read) (kept_in words ready)
left_ring depth ring words false h pos l = record { within = h.read; write = h.write; slots = h.slots }
left_ring {A = A} depth ring [] true h pos l =
    let t = ring_word depth ring [] h pos l in
    subst (λ x. Left A depth ring (cond x (up depth ring.read) ring.read) []) (sym t) (record { within = h.read; write = h.write; slots = h.slots })
left_ring {A = A} depth ring (w ∷ ws) true h pos l =
    let t = ring_word depth ring (w ∷ ws) h pos l in
    subst (λ x. Left A depth ring (cond x (up depth ring.read) ring.read) ws) (sym t) (record {
      within = up_below depth ring.read h.read;
      write = h.write ∙ sym (up_on depth ring.read (length ws) h.read (omega arith));
      slots = λ k x. h.slots (suc k) (omega arith) ∙ ap (λ z. Some (ring.slot (place depth z))) (sym (up_on depth ring.read k h.read (omega arith)));
    })

put_ring : {A : Type 0} (depth : ℕ) (ring : Ring A) (ready : Bool) (valid_data : Option A) (words : List A) → Left A depth ring (cond (gives ring ready) (up depth ring.read) ring.read) words
    → (takes depth ring valid_data ≡ true → length words < depth)
    → RingHolds A depth (ring_after depth ring ready valid_data) (words ++ cond (takes depth ring valid_data) (option_to_list valid_data) [])
put_ring {A = A} depth ring ready valid_data words left short = go valid_data (takes depth ring valid_data) refl (λ e. short e)
  where
    read : ℕ
    read = cond (gives ring ready) (up depth ring.read) ring.read

    go : (valid_data : Option A) (t : Bool) → takes depth ring valid_data ≡ t → (t ≡ true → length words < depth) → RingHolds A depth (ring_after depth ring ready valid_data) (words ++ cond t (option_to_list valid_data) [])
    go valid_data false e s = record {
      read = left.within;
      write = rw e (left.write ∙ ap (λ z. on_by depth read (length z)) (sym (append-nil words)));
      slots = λ k l. rw e (ap (λ z. slice_get z k) (append-nil words) ∙ left.slots k (let n = ap length (append-nil words) in omega (arith, n)));
    }
    go None true e s = cc
    go (Some w) true e s = record {
      read = left.within;
      write = rw e (
          let m = s refl in
          let n = length-append words (w ∷ []) in
          let more : suc (length words) ≡ length (words ++ w ∷ []) = omega (arith, n) in
          ap (up depth) left.write ∙ on_up depth read (length words) left.within m ∙ ap (on_by depth read) more);
      slots = λ k l. rw e (slot k (let n = length-append words (w ∷ []) in omega (arith, n)) (cases_lt k (length words)));
    }
      where
        slot : (k : ℕ) → k < length words + 1 → (k < length words) ⊎ (length words ≤ k)
            → slice_get (words ++ w ∷ []) k ≡ Some (cond (true && eqb (place depth ring.write) (place depth (on_by depth read k))) w (ring.slot (place depth (on_by depth read k))))
        slot k l (inl x) =
            let n = eq_false (place depth ring.write) (place depth (on_by depth read k)) (λ z. near_apart depth read k (length words) left.within x (s refl) (ap (place depth) (sym left.write) ∙ z)) in
            slice_get-append_left words (w ∷ []) k x ∙ left.slots k x ∙ (rw n refl)
        slot k l (inr x) =
            let same : length words ≡ k = omega arith in
            let n = eq_true (place depth ring.write) (place depth (on_by depth read k)) (ap (place depth) (left.write ∙ ap (on_by depth read) same)) in
            slice_get-append_right words (w ∷ []) k 0 (omega arith) ∙ (rw n refl)

kept_short : {A : Type 0} (words : List A) (ready : Bool) (d : ℕ) → length words < d → length (kept_in words ready) < d
kept_short [] true d h = h
kept_short [] false d h = h
kept_short (w ∷ ws) true d h = omega arith
kept_short (w ∷ ws) false d h = h

pub ring_cycle : {A : Type 0} (depth : ℕ) (ring : Ring A) (words : List A) (ready : Bool) (valid_data : Option A) → RingHolds A depth ring words → 0 < depth → length words ≤ depth
    → RingHolds A depth (ring_after depth ring ready valid_data) (after_cycle depth words ready valid_data)
ring_cycle {A = A} depth ring words ready valid_data h pos l =
    subst (λ z. RingHolds A depth (ring_after depth ring ready valid_data) (kept_in words ready ++ z)) (same valid_data room)
    (put_ring depth ring ready valid_data (kept_in words ready) (left_ring depth ring words ready h pos l) (λ e. kept_short words ready depth (short valid_data e)))
  where
    room : has_room depth ring ≡ fifo.has_room depth words
    room = ring_room depth ring words h pos l

    lt_from : (a b : ℕ) → nat_lt a b ≡ true → a < b
    lt_from a b e = grind (arith, nat_tests)

    short : (valid_data : Option A) → takes depth ring valid_data ≡ true → length words < depth
    short None e = cc
    short (Some w) e = lt_from (length words) depth (sym room ∙ e)

    same : (valid_data : Option A) → has_room depth ring ≡ fifo.has_room depth words → cond (takes depth ring valid_data) (option_to_list valid_data) [] ≡ cond (fifo.has_room depth words) (option_to_list valid_data) []
    same None e = go (fifo.has_room depth words)
      where
        go : (t : Bool) → ◌≡◌ {A = List A} [] (cond t [] [])
        go true = refl
        go false = refl
    same (Some w) e = rw e refl
