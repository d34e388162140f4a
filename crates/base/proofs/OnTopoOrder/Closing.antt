-- A group is done, and starts are joined.
use Rattle.std.proofs.Common.{◌≡◌, ◌≢◌, ℕ, zero, suc, ◌+◌, ◌<◌, ◌≤◌, Bool, true, false, List, [], ◌∷◌, ◌++◌, length, length-set, take, drop, refl, sym, ap, ◌∙◌, subst, ◌⊎◌, inl, inr, Some, ◌-◌, arith}
use Rattle.std.proofs.lemmas.Bool.{cases_eq, ltb-true, ltb-false}
use Rattle.std.specs.Prelude.{nat_lt, slice_get, slice_set, if◌then◌else◌}
use Rattle.std.proofs.lemmas.Option.{slice_get_within}
use Rattle.base.specs.declared.topo_order.walk.Mark.{Mark}
use Rattle.base.specs.declared.topo_order.walk.Mark.TheVariants.{New, Open, Done}
use Rattle.base.specs.TopoOrder.Needs.{needs_of, AreMutual, Needs, Reaches, itself, by_way}
use Rattle.base.specs.TopoOrder.Inner.Walk.{mark_of, taken_of, GoOn}
use Rattle.base.specs.TopoOrder.Inner.Groups.{position_of, flag_of, IsNotBelow, IsOpenAbove, IsGrouping, Rises, AreJoined, all_done, all_flagged}
use Rattle.base.proofs.OnTopoOrder.Steps.{mark_of-set, mark_of-set_other, get_pushed, get_start, get_last, new_done, new_open, open_done, done_open}
use Rattle.base.proofs.OnTopoOrder.Work.{known_inside}
use Rattle.base.proofs.OnTopoOrder.Grouping.{flag_of-set, flag_of-set_other, joined, order_of, stands_once}

-- ---- lists

get_take : (n : ℕ) (xs : List ℕ) (p x : ℕ) → slice_get (take n xs) p ≡ Some x → (p < n) × (slice_get xs p ≡ Some x)
get_take zero xs p x h = cc
get_take (suc n) [] p x h = cc
get_take (suc n) (y ∷ xs) zero x h = (omega arith, h)
get_take (suc n) (y ∷ xs) (suc p) x h = let rest = get_take n xs p x h in (omega (arith, rest.0), rest.1)

take_get : (n : ℕ) (xs : List ℕ) (p x : ℕ) → p < n → slice_get xs p ≡ Some x → slice_get (take n xs) p ≡ Some x
take_get zero xs p x h at = absurd (omega arith)
take_get (suc n) [] p x h at = cc
take_get (suc n) (y ∷ xs) zero x h at = at
take_get (suc n) (y ∷ xs) (suc p) x h at = take_get n xs p x (omega (arith, h)) at

pub drop_get : (n : ℕ) (xs : List ℕ) (p x : ℕ) → n ≤ p → slice_get xs p ≡ Some x → (q : ℕ) × (slice_get (drop n xs) q ≡ Some x)
drop_get zero xs p x h at = (p, at)
drop_get (suc n) [] p x h at = cc
drop_get (suc n) (y ∷ xs) zero x h at = absurd (omega arith)
drop_get (suc n) (y ∷ xs) (suc p) x h at = drop_get n xs p x (omega (arith, h)) at

pub get_drop : (n : ℕ) (xs : List ℕ) (q x : ℕ) → slice_get (drop n xs) q ≡ Some x → (p : ℕ) × (n ≤ p) × (slice_get xs p ≡ Some x)
get_drop zero xs q x h = (q, omega arith, h)
get_drop (suc n) [] q x h = cc
get_drop (suc n) (y ∷ xs) q x h = let (p, low, at) = get_drop n xs q x h in (suc p, omega (arith, low), at)

get_some : (xs : List ℕ) (p : ℕ) → p < length xs → (x : ℕ) × (slice_get xs p ≡ Some x)
get_some [] p h = absurd (omega arith)
get_some (x ∷ xs) zero h = (x, refl)
get_some (x ∷ xs) (suc p) h = get_some xs p (omega (arith, h))

-- ---- what is done and noted

pub length-all_done : (things : List ℕ) (marks : List Mark) → length (all_done things marks) ≡ length marks
length-all_done [] marks = refl
length-all_done (t ∷ things) marks = length-all_done things (slice_set marks t Done) ∙ length-set marks t Done

pub length-all_flagged : (things : List ℕ) (loops : List Bool) → length (all_flagged things loops) ≡ length loops
length-all_flagged [] loops = refl
length-all_flagged (t ∷ things) loops = length-all_flagged things (slice_set loops t true) ∙ length-set loops t true

stays_done : (things : List ℕ) (marks : List Mark) (i : ℕ) → i < length marks → mark_of marks i ≡ Done → mark_of (all_done things marks) i ≡ Done
stays_done [] marks i inside h = h
stays_done (t ∷ things) marks i inside h = stays_done things (slice_set marks t Done) i (rw (length-set marks t Done) inside) (one (cases_eq t i))
  where
    one : (t ≡ i) ⊎ (t ≢ i) → mark_of (slice_set marks t Done) i ≡ Done
    one (inl e) = subst (λ k. mark_of (slice_set marks k Done) i ≡ Done) (sym e) (mark_of-set marks i Done inside)
    one (inr ne) = mark_of-set_other marks t i Done (λ e. ne (sym e)) ∙ h

done_at : (things : List ℕ) (marks : List Mark) (q i : ℕ) → i < length marks → slice_get things q ≡ Some i → mark_of (all_done things marks) i ≡ Done
done_at [] marks q i inside h = cc
done_at (t ∷ things) marks zero i inside h =
    let same : t ≡ i = cc in
    stays_done things (slice_set marks t Done) i (rw (length-set marks t Done) inside) (subst (λ k. mark_of (slice_set marks k Done) i ≡ Done) (sym same) (mark_of-set marks i Done inside))
done_at (t ∷ things) marks (suc q) i inside h = done_at things (slice_set marks t Done) q i (rw (length-set marks t Done) inside) h

undone : (things : List ℕ) (marks : List Mark) (i : ℕ) → ((q : ℕ) → slice_get things q ≢ Some i) → mark_of (all_done things marks) i ≡ mark_of marks i
undone [] marks i none = refl
undone (t ∷ things) marks i none =
    undone things (slice_set marks t Done) i (λ q h. none (suc q) h) ∙ mark_of-set_other marks t i Done (λ e. none 0 (ap Some (sym e)))

stays_flagged : (things : List ℕ) (loops : List Bool) (i : ℕ) → i < length loops → flag_of loops i ≡ true → flag_of (all_flagged things loops) i ≡ true
stays_flagged [] loops i inside h = h
stays_flagged (t ∷ things) loops i inside h = stays_flagged things (slice_set loops t true) i (rw (length-set loops t true) inside) (one (cases_eq t i))
  where
    one : (t ≡ i) ⊎ (t ≢ i) → flag_of (slice_set loops t true) i ≡ true
    one (inl e) = subst (λ k. flag_of (slice_set loops k true) i ≡ true) (sym e) (flag_of-set loops i inside)
    one (inr ne) = flag_of-set_other loops t i (λ e. ne (sym e)) ∙ h

flagged_at : (things : List ℕ) (loops : List Bool) (q i : ℕ) → i < length loops → slice_get things q ≡ Some i → flag_of (all_flagged things loops) i ≡ true
flagged_at [] loops q i inside h = cc
flagged_at (t ∷ things) loops zero i inside h =
    let same : t ≡ i = cc in
    stays_flagged things (slice_set loops t true) i (rw (length-set loops t true) inside) (subst (λ k. flag_of (slice_set loops k true) i ≡ true) (sym same) (flag_of-set loops i inside))
flagged_at (t ∷ things) loops (suc q) i inside h = flagged_at things (slice_set loops t true) q i (rw (length-set loops t true) inside) h

unflagged : (things : List ℕ) (loops : List Bool) (i : ℕ) → ((q : ℕ) → slice_get things q ≢ Some i) → flag_of (all_flagged things loops) i ≡ flag_of loops i
unflagged [] loops i none = refl
unflagged (t ∷ things) loops i none =
    unflagged things (slice_set loops t true) i (λ q h. none (suc q) h) ∙ flag_of-set_other loops t i (λ e. none 0 (ap Some (sym e)))

-- ---- the last group is done

-- what is known of a group that ends
pub record Ends (needs : List (List ℕ)) (marks : List Mark) (taken positions path stack starts : List ℕ) (loops : List Bool) (front starts' : List ℕ) (top b : ℕ) : Type 0 where
  pub grouping : IsGrouping needs marks taken positions path stack starts loops
  pub path_is : path ≡ front ++ top ∷ []
  pub starts_is : starts ≡ starts' ++ b ∷ []
  pub begins_at : position_of positions top ≡ b
  pub all : length (needs_of needs top) ≤ taken_of taken top

abbrev pub flags_after : List ℕ → ℕ → List Bool → List Bool
flags_after stack b loops = if nat_lt (b + 1) (length stack) then all_flagged (drop b stack) loops else loops

pub record HasEnded (needs : List (List ℕ)) (marks : List Mark) (taken positions front stack starts' : List ℕ) (loops : List Bool) (top b : ℕ) : Type 0 where
  pub grouping : IsGrouping needs (all_done (drop b stack) marks) taken positions front (take b stack) starts' (flags_after stack b loops)
  pub on : GoOn marks (all_done (drop b stack) marks)
  -- what is done was done, or is of this group, which began at `top`
  pub was : (i : ℕ) → mark_of (all_done (drop b stack) marks) i ≡ Done → (mark_of marks i ≡ Done) ⊎ ((mark_of marks i ≡ Open) × (b ≤ position_of positions i))
  pub first : mark_of (all_done (drop b stack) marks) top ≡ Done
  pub with_top : (i : ℕ) → mark_of marks i ≡ Open → b ≤ position_of positions i → AreMutual needs i top
  -- what was done reaches what was done alone
  pub far : (i j : ℕ) → Reaches needs i j → mark_of marks i ≡ Done → mark_of marks j ≡ Done

pub ended : (needs : List (List ℕ)) (marks : List Mark) (taken positions path stack starts : List ℕ) (loops : List Bool) (front starts' : List ℕ) (top b : ℕ)
    → Ends needs marks taken positions path stack starts loops front starts' top b → HasEnded needs marks taken positions front stack starts' loops top b
ended needs marks taken positions path stack starts loops front starts' top b e = record {
  grouping = record {
    marks_size = length-all_done (drop b stack) marks ∙ g.marks_size;
    taken_size = g.taken_size;
    positions_size = g.positions_size;
    loops_size = flags_size (nat_lt (b + 1) (length stack)) ∙ g.loops_size;
    open_on = λ i h. open_on i h (where_is i);
    on_open = λ p i h. let (low, at) = get_take b stack p i h in kept i (λ q far there. omega (arith, low, far, sym (g.placed q i there), g.placed p i at)) ∙ g.on_open p i at;
    placed = λ p i h. g.placed p i (get_take b stack p i h).1;
    path_open = λ k i h. let op = g.path_open k i (on_path k i h) in kept i (below i (front_low k i h)) ∙ op;
    path_rises = λ k l i j h x y. g.path_rises k l i j h (on_path k i x) (on_path l j y);
    starts_rise = λ q r c d h x y. g.starts_rise q r c d h (on_starts q c x) (on_starts r d y);
    begins = λ q c h. begins q c h (g.begins q c (on_starts q c h));
    grouped = λ p i h. let (low, at) = get_take b stack p i h in grouped p low (g.grouped p i at);
    down = λ p q i j h x y. g.down p q i j h (get_take b stack p i x).1 (get_take b stack q j y).1;
    up = λ p q i j h x y n. g.up p q i j h (get_take b stack p i x).1 (get_take b stack q j y).1 (not_below p q (get_take b stack q j y).0 n);
    settled = λ i k j low h. settled i j (g.settled i k j low h);
    finished = λ i h none. finished i (was_met i h (where_is i)) none (cases_eq top i);
    sound = λ i h. sound (nat_lt (b + 1) (length stack)) refl i h (where_is i);
    noticed = λ i k low h. still (nat_lt (b + 1) (length stack)) i (g.noticed i k low h) (where_is i);
    free = λ i h unset. free (nat_lt (b + 1) (length stack)) refl i h unset (where_is i);
  };
  on = record { done = λ i h. kept i (not_there i (λ o. open_done (sym o ∙ h))) ∙ h; begun = λ i h. met i h (where_is i) };
  was = λ i h. was_done i h (where_is i);
  first = closed top top_open (omega (arith, e.begins_at));
  with_top = λ i h far. with_top i h far (order_of b (position_of positions i));
  far = done_far;
}
  where
    g : IsGrouping needs marks taken positions path stack starts loops
    g = e.grouping

    on_path : (k i : ℕ) → slice_get front k ≡ Some i → slice_get path k ≡ Some i
    on_path k i h = ap (λ xs. slice_get xs k) e.path_is ∙ get_start front top i k h

    top_at : slice_get path (length front) ≡ Some top
    top_at = ap (λ xs. slice_get xs (length front)) e.path_is ∙ get_last front top

    top_open : mark_of marks top ≡ Open
    top_open = g.path_open (length front) top top_at

    off_path : (k i : ℕ) → slice_get path k ≡ Some i → (slice_get front k ≡ Some i) ⊎ (top ≡ i)
    off_path k i h = elim (get_pushed front top i k (ap (λ xs. slice_get xs k) (sym e.path_is) ∙ h)) [ inl old ↦ inl old | inr w ↦ inr w.1 ]

    on_starts : (q c : ℕ) → slice_get starts' q ≡ Some c → slice_get starts q ≡ Some c
    on_starts q c h = ap (λ xs. slice_get xs q) e.starts_is ∙ get_start starts' b c q h

    off_starts : (q c : ℕ) → slice_get starts q ≡ Some c → (slice_get starts' q ≡ Some c) ⊎ (b ≡ c)
    off_starts q c h = elim (get_pushed starts' b c q (ap (λ xs. slice_get xs q) (sym e.starts_is) ∙ h)) [ inl old ↦ inl old | inr w ↦ inr w.1 ]

    last_start : slice_get starts (length starts') ≡ Some b
    last_start = ap (λ xs. slice_get xs (length starts')) e.starts_is ∙ get_last starts' b

    start_low : (q c : ℕ) → slice_get starts' q ≡ Some c → c < b
    start_low q c h = g.starts_rise q (length starts') c b (slice_get_within starts' q c h) (on_starts q c h) last_start

    start_most : (q c : ℕ) → slice_get starts q ≡ Some c → c ≤ b
    start_most q c h = split (off_starts q c h)
      where
        split : (slice_get starts' q ≡ Some c) ⊎ (b ≡ c) → c ≤ b
        split (inl old) = let low = start_low q c old in omega (arith, low)
        split (inr same) = omega (arith, same)

    front_low : (k i : ℕ) → slice_get front k ≡ Some i → position_of positions i < b
    front_low k i h =
        let less = g.path_rises k (length front) i top (slice_get_within front k i h) (on_path k i h) top_at in
        omega (arith, less, e.begins_at)

    -- ---- what stands from there on, and what doesn't

    below : (i : ℕ) → position_of positions i < b → (p : ℕ) → b ≤ p → slice_get stack p ≢ Some i
    below i low p far at = let place = g.placed p i at in omega (arith, low, far, place)

    not_there : (i : ℕ) → (mark_of marks i ≢ Open) → (p : ℕ) → b ≤ p → slice_get stack p ≢ Some i
    not_there i closed p far at = closed (g.on_open p i at)

    -- it is open and stands from there on, or it isn't
    where_is : (i : ℕ) → ((mark_of marks i ≡ Open) × (b ≤ position_of positions i)) ⊎ ((p : ℕ) → b ≤ p → slice_get stack p ≢ Some i)
    where_is i = by_mark (mark_of marks i) refl
      where
        by_place : mark_of marks i ≡ Open → (position_of positions i < b) ⊎ ((position_of positions i ≡ b) ⊎ (b < position_of positions i)) → ((mark_of marks i ≡ Open) × (b ≤ position_of positions i)) ⊎ ((p : ℕ) → b ≤ p → slice_get stack p ≢ Some i)
        by_place h (inl low) = inr (below i low)
        by_place h (inr (inl same)) = inl (h, omega (arith, same))
        by_place h (inr (inr far)) = inl (h, omega (arith, far))

        by_mark : (m : Mark) → mark_of marks i ≡ m → ((mark_of marks i ≡ Open) × (b ≤ position_of positions i)) ⊎ ((p : ℕ) → b ≤ p → slice_get stack p ≢ Some i)
        by_mark New h = inr (not_there i (λ o. new_open (sym h ∙ o)))
        by_mark Open h = by_place h (order_of (position_of positions i) b)
        by_mark Done h = inr (not_there i (λ o. done_open (sym h ∙ o)))

    kept : (i : ℕ) → ((p : ℕ) → b ≤ p → slice_get stack p ≢ Some i) → mark_of (all_done (drop b stack) marks) i ≡ mark_of marks i
    kept i none = undone (drop b stack) marks i (λ q h. let (p, far, at) = get_drop b stack q i h in none p far at)

    kept_flag : (i : ℕ) → ((p : ℕ) → b ≤ p → slice_get stack p ≢ Some i) → flag_of (all_flagged (drop b stack) loops) i ≡ flag_of loops i
    kept_flag i none = unflagged (drop b stack) loops i (λ q h. let (p, far, at) = get_drop b stack q i h in none p far at)

    inside : (i : ℕ) → mark_of marks i ≡ Open → i < length marks
    inside i h = known_inside marks i (λ n. new_open (sym n ∙ h))

    closed : (i : ℕ) → mark_of marks i ≡ Open → b ≤ position_of positions i → mark_of (all_done (drop b stack) marks) i ≡ Done
    closed i h far = let (q, at) = drop_get b stack (position_of positions i) i far (g.open_on i h) in done_at (drop b stack) marks q i (inside i h) at

    set_flag : (i : ℕ) → mark_of marks i ≡ Open → b ≤ position_of positions i → flag_of (all_flagged (drop b stack) loops) i ≡ true
    set_flag i h far =
        let (q, at) = drop_get b stack (position_of positions i) i far (g.open_on i h) in
        flagged_at (drop b stack) loops q i (rw (g.loops_size, ← g.marks_size) (inside i h)) at

    flags_size : (many : Bool) → length (if many then all_flagged (drop b stack) loops else loops) ≡ length loops
    flags_size true = length-all_flagged (drop b stack) loops
    flags_size false = refl

    met : (i : ℕ) → mark_of marks i ≢ New → ((mark_of marks i ≡ Open) × (b ≤ position_of positions i)) ⊎ ((p : ℕ) → b ≤ p → slice_get stack p ≢ Some i) → mark_of (all_done (drop b stack) marks) i ≢ New
    met i h (inl w) n = new_done (sym n ∙ closed i w.0 w.1)
    met i h (inr none) n = h (sym (kept i none) ∙ n)

    was_met : (i : ℕ) → mark_of (all_done (drop b stack) marks) i ≢ New → ((mark_of marks i ≡ Open) × (b ≤ position_of positions i)) ⊎ ((p : ℕ) → b ≤ p → slice_get stack p ≢ Some i) → mark_of marks i ≢ New
    was_met i h (inl w) n = new_open (sym n ∙ w.0)
    was_met i h (inr none) n = h (kept i none ∙ n)

    was_done : (i : ℕ) → mark_of (all_done (drop b stack) marks) i ≡ Done → ((mark_of marks i ≡ Open) × (b ≤ position_of positions i)) ⊎ ((p : ℕ) → b ≤ p → slice_get stack p ≢ Some i)
        → (mark_of marks i ≡ Done) ⊎ ((mark_of marks i ≡ Open) × (b ≤ position_of positions i))
    was_done i h (inl w) = inr w
    was_done i h (inr none) = inl (sym (kept i none) ∙ h)

    open_on : (i : ℕ) → mark_of (all_done (drop b stack) marks) i ≡ Open → ((mark_of marks i ≡ Open) × (b ≤ position_of positions i)) ⊎ ((p : ℕ) → b ≤ p → slice_get stack p ≢ Some i)
        → slice_get (take b stack) (position_of positions i) ≡ Some i
    open_on i h (inl w) = absurd (open_done (sym h ∙ closed i w.0 w.1))
    open_on i h (inr none) =
        let op : mark_of marks i ≡ Open = sym (kept i none) ∙ h in
        let at = g.open_on i op in
        by_order at (order_of (position_of positions i) b)
      where
        by_order : slice_get stack (position_of positions i) ≡ Some i → (position_of positions i < b) ⊎ ((position_of positions i ≡ b) ⊎ (b < position_of positions i)) → slice_get (take b stack) (position_of positions i) ≡ Some i
        by_order at (inl low) = take_get b stack (position_of positions i) i low at
        by_order at (inr (inl same)) = absurd (none (position_of positions i) (omega (arith, same)) at)
        by_order at (inr (inr far)) = absurd (none (position_of positions i) (omega (arith, far)) at)

    begins : (q c : ℕ) → slice_get starts' q ≡ Some c → ((k : ℕ) × (i : ℕ) × (slice_get path k ≡ Some i) × (position_of positions i ≡ c))
        → (k : ℕ) × (i : ℕ) × (slice_get front k ≡ Some i) × (position_of positions i ≡ c)
    begins q c h (k, i, at, place) = split (off_path k i at)
      where
        split : (slice_get front k ≡ Some i) ⊎ (top ≡ i) → (k : ℕ) × (i : ℕ) × (slice_get front k ≡ Some i) × (position_of positions i ≡ c)
        split (inl old) = (k, i, old, place)
        split (inr same) = let low = start_low q c h in let there = ap (position_of positions) same in absurd (omega (arith, low, place, there, e.begins_at))

    grouped : (p : ℕ) → p < b → ((q : ℕ) × (c : ℕ) × (slice_get starts q ≡ Some c) × (c ≤ p)) → (q : ℕ) × (c : ℕ) × (slice_get starts' q ≡ Some c) × (c ≤ p)
    grouped p low (q, c, at, less) = split (off_starts q c at)
      where
        split : (slice_get starts' q ≡ Some c) ⊎ (b ≡ c) → (q : ℕ) × (c : ℕ) × (slice_get starts' q ≡ Some c) × (c ≤ p)
        split (inl old) = (q, c, old, less)
        split (inr same) = absurd (omega (arith, low, less, same))

    not_below : (p q : ℕ) → q < b → IsNotBelow starts' q p → IsNotBelow starts q p
    not_below p q low n r c at less = split (off_starts r c at)
      where
        split : (slice_get starts' r ≡ Some c) ⊎ (b ≡ c) → c ≤ p
        split (inl old) = n r c old less
        split (inr same) = absurd (omega (arith, low, less, same))

    settled : (i j : ℕ) → (mark_of marks j ≡ Done) ⊎ IsOpenAbove marks positions starts i j
        → (mark_of (all_done (drop b stack) marks) j ≡ Done) ⊎ IsOpenAbove (all_done (drop b stack) marks) positions starts' i j
    settled i j (inl done) = inl (kept j (not_there j (λ o. open_done (sym o ∙ done))) ∙ done)
    settled i j (inr w) = split (order_of (position_of positions j) b)
      where
        split : (position_of positions j < b) ⊎ ((position_of positions j ≡ b) ⊎ (b < position_of positions j))
            → (mark_of (all_done (drop b stack) marks) j ≡ Done) ⊎ IsOpenAbove (all_done (drop b stack) marks) positions starts' i j
        split (inr (inl same)) = inl (closed j w.second (omega (arith, same)))
        split (inr (inr far)) = inl (closed j w.second (omega (arith, far)))
        split (inl low) = first (order_of (position_of positions i) b)
          where
            within : position_of positions i < b → IsOpenAbove (all_done (drop b stack) marks) positions starts' i j
            within less = record {
              first = kept i (below i less) ∙ w.first;
              second = kept j (below j low) ∙ w.second;
              above = λ q c h up. w.above q c (on_starts q c h) up;
            }

            first : (position_of positions i < b) ⊎ ((position_of positions i ≡ b) ⊎ (b < position_of positions i))
                → (mark_of (all_done (drop b stack) marks) j ≡ Done) ⊎ IsOpenAbove (all_done (drop b stack) marks) positions starts' i j
            first (inl less) = inr (within less)
            first (inr (inl same)) = let up = w.above (length starts') b last_start (omega (arith, same)) in absurd (omega (arith, up, low))
            first (inr (inr far)) = let up = w.above (length starts') b last_start (omega (arith, far)) in absurd (omega (arith, up, low))

    finished : (i : ℕ) → mark_of marks i ≢ New → ((k : ℕ) → slice_get front k ≢ Some i) → (top ≡ i) ⊎ (top ≢ i) → length (needs_of needs i) ≤ taken_of taken i
    finished i h none (inl same) = subst (λ t. length (needs_of needs t) ≤ taken_of taken t) same e.all
    finished i h none (inr ne) = g.finished i h (λ k at. split k (off_path k i at))
      where
        split : (k : ℕ) → (slice_get front k ≡ Some i) ⊎ (top ≡ i) → ⊥
        split k (inl old) = none k old
        split k (inr same) = ne same

    -- ---- what needs itself

    -- two things of the group reach one another
    both : (p q i j : ℕ) → p < q → b ≤ p → slice_get stack p ≡ Some i → slice_get stack q ≡ Some j → Reaches needs i j × Reaches needs j i
    both p q i j less far x y = (g.down p q i j less x y, g.up p q i j less x y (λ r c at low. let most = start_most r c at in omega (arith, most, far)))

    another : (i : ℕ) → mark_of marks i ≡ Open → b ≤ position_of positions i → b + 1 < length stack → Reaches needs i i
    another i h far many = split (order_of b (position_of positions i))
      where
        at : slice_get stack (position_of positions i) ≡ Some i
        at = g.open_on i h

        split : (b < position_of positions i) ⊎ ((b ≡ position_of positions i) ⊎ (position_of positions i < b)) → Reaches needs i i
        split (inl more) = let (j, there) = get_some stack b (omega (arith, many)) in let w = both b (position_of positions i) j i more (omega arith) there at in joined needs i j i w.1 w.0
        split (inr (inl same)) = let (j, there) = get_some stack (b + 1) many in let w = both (position_of positions i) (b + 1) i j (omega (arith, same)) far at there in joined needs i j i w.0 w.1
        split (inr (inr less)) = absurd (omega (arith, less, far))

    with_top : (i : ℕ) → mark_of marks i ≡ Open → b ≤ position_of positions i → (b < position_of positions i) ⊎ ((b ≡ position_of positions i) ⊎ (position_of positions i < b)) → AreMutual needs i top
    with_top i h far (inl more) =
        let w = both (position_of positions top) (position_of positions i) top i (omega (arith, more, e.begins_at)) (omega (arith, e.begins_at)) (g.open_on top top_open) (g.open_on i h) in
        inr (w.1, w.0)
    with_top i h far (inr (inl same)) = inl (stands_once stack (position_of positions i) (position_of positions top) i top (omega (arith, same, e.begins_at)) (g.open_on i h) (g.open_on top top_open))
    with_top i h far (inr (inr less)) = absurd (omega (arith, less, far))

    sound : (many : Bool) → nat_lt (b + 1) (length stack) ≡ many → (i : ℕ) → flag_of (if many then all_flagged (drop b stack) loops else loops) i ≡ true
        → ((mark_of marks i ≡ Open) × (b ≤ position_of positions i)) ⊎ ((p : ℕ) → b ≤ p → slice_get stack p ≢ Some i) → Reaches needs i i
    sound false is i h w = g.sound i h
    sound true is i h (inl w) = another i w.0 w.1 (ltb-true (b + 1) (length stack) is)
    sound true is i h (inr none) = g.sound i (sym (kept_flag i none) ∙ h)

    still : (many : Bool) (i : ℕ) → flag_of loops i ≡ true → ((mark_of marks i ≡ Open) × (b ≤ position_of positions i)) ⊎ ((p : ℕ) → b ≤ p → slice_get stack p ≢ Some i)
        → flag_of (if many then all_flagged (drop b stack) loops else loops) i ≡ true
    still false i h w = h
    still true i h (inl w) = set_flag i w.0 w.1
    still true i h (inr none) = kept_flag i none ∙ h

    -- what is done needs what is done alone
    done_on : (i j : ℕ) → mark_of marks i ≡ Done → Needs needs i j → mark_of marks j ≡ Done
    done_on i j h (k, at) =
        let all = g.finished i (λ n. new_done (sym n ∙ h)) (λ l there. open_done (sym (g.path_open l i there) ∙ h)) in
        let within = slice_get_within (needs_of needs i) k j at in
        split (g.settled i k j (omega (arith, all, within)) at)
      where
        split : (mark_of marks j ≡ Done) ⊎ IsOpenAbove marks positions starts i j → mark_of marks j ≡ Done
        split (inl done) = done
        split (inr w) = absurd (open_done (sym w.first ∙ h))

    done_far : (i j : ℕ) → Reaches needs i j → mark_of marks i ≡ Done → mark_of marks j ≡ Done
    done_far i j (itself _ _ n) h = done_on i j h n
    done_far i j (by_way _ k _ n rest) h = done_far k j rest (done_on i k h n)

    -- a group of one thing that isn't known to need itself
    alone : (i : ℕ) → mark_of marks i ≡ Open → b ≤ position_of positions i → length stack ≤ b + 1 → top ≡ i
    alone i h far few =
        let at = g.open_on i h in
        let within = slice_get_within stack (position_of positions i) i at in
        stands_once stack (position_of positions top) (position_of positions i) top i (omega (arith, within, far, few, e.begins_at)) (g.open_on top top_open) at

    lonely : length stack ≤ b + 1 → flag_of loops top ≡ false → (j : ℕ) → Needs needs top j → mark_of marks j ≡ Done
    lonely few free_top j (k, at) =
        let within = slice_get_within (needs_of needs top) k j at in
        let low : k < taken_of taken top = omega (arith, within, e.all) in
        split low (g.settled top k j low at)
      where
        split : k < taken_of taken top → (mark_of marks j ≡ Done) ⊎ IsOpenAbove marks positions starts top j → mark_of marks j ≡ Done
        split low (inl done) = done
        split low (inr w) =
            let up = w.above (length starts') b last_start (omega (arith, e.begins_at)) in
            let same = alone j w.second up few in
            let itself_at : slice_get (needs_of needs top) k ≡ Some top = at ∙ ap Some (sym same) in
            let yes = g.noticed top k low itself_at in
            let wrong : true ≡ false = sym yes ∙ free_top in
            absurd (cc)

    far_done : length stack ≤ b + 1 → flag_of loops top ≡ false → (j : ℕ) → Reaches needs top j → mark_of marks j ≡ Done
    far_done few free_top j (itself _ _ n) = lonely few free_top j n
    far_done few free_top j (by_way _ k _ n rest) = done_far k j rest (lonely few free_top k n)

    free : (many : Bool) → nat_lt (b + 1) (length stack) ≡ many → (i : ℕ) → mark_of (all_done (drop b stack) marks) i ≡ Done
        → flag_of (if many then all_flagged (drop b stack) loops else loops) i ≡ false
        → ((mark_of marks i ≡ Open) × (b ≤ position_of positions i)) ⊎ ((p : ℕ) → b ≤ p → slice_get stack p ≢ Some i) → ¬ (Reaches needs i i)
    free true is i h unset (inl w) r = let wrong : true ≡ false = sym (set_flag i w.0 w.1) ∙ unset in cc
    free true is i h unset (inr none) r = g.free i (sym (kept i none) ∙ h) (sym (kept_flag i none) ∙ unset) r
    free false is i h unset (inr none) r = g.free i (sym (kept i none) ∙ h) unset r
    free false is i h unset (inl w) r =
        let few = ltb-false (b + 1) (length stack) is in
        let same = alone i w.0 w.1 few in
        let no_top : flag_of loops top ≡ false = ap (flag_of loops) same ∙ unset in
        let done = far_done few no_top i (subst (λ t. Reaches needs t i) (sym same) r) in
        open_done (sym w.0 ∙ done)

-- ---- starts are joined

pub record IsJoining (first starts : List ℕ) (at : ℕ) : Type 0 where
  pub kept : (q b : ℕ) → slice_get first q ≡ Some b → b ≤ at → slice_get starts q ≡ Some b
  pub only : (q b : ℕ) → slice_get starts q ≡ Some b → slice_get first q ≡ Some b

pub join_begins : (starts : List ℕ) (at : ℕ) → IsJoining starts starts at
join_begins starts at = record { kept = λ q b h low. h; only = λ q b h. h }

pub join_goes_on : (first starts starts' : List ℕ) (at last : ℕ) → IsJoining first starts at → starts ≡ starts' ++ last ∷ [] → at < last → IsJoining first starts' at
join_goes_on first starts starts' at last is e far = record {
  kept = λ q b h low. split q b low (get_pushed starts' last b q (ap (λ xs. slice_get xs q) (sym e) ∙ is.kept q b h low));
  only = λ q b h. is.only q b (ap (λ xs. slice_get xs q) e ∙ get_start starts' last b q h);
}
  where
    split : (q b : ℕ) → b ≤ at → (slice_get starts' q ≡ Some b) ⊎ ((q ≡ length starts') × (last ≡ b)) → slice_get starts' q ≡ Some b
    split q b low (inl old) = old
    split q b low (inr (_, same)) = absurd (omega (arith, low, far, same))

pub join_ends : (first starts : List ℕ) (at last : ℕ) → IsJoining first starts at → Rises first → slice_get starts (length starts - 1) ≡ Some last → last ≤ at → AreJoined first starts at
join_ends first starts at last is rises there low = record { kept = is.kept; only = λ q b h. (is.only q b h, small q b h) }
  where
    small : (q b : ℕ) → slice_get starts q ≡ Some b → b ≤ at
    small q b h = split (order_of q (length starts - 1))
      where
        within : q < length starts
        within = slice_get_within starts q b h

        split : (q < length starts - 1) ⊎ ((q ≡ length starts - 1) ⊎ (length starts - 1 < q)) → b ≤ at
        split (inl less) = let under = rises q (length starts - 1) b last less (is.only q b h) (is.only (length starts - 1) last there) in omega (arith, under, low)
        split (inr (inl same)) = let one = stands_once starts q (length starts - 1) b last same h there in omega (arith, one, low)
        split (inr (inr far)) = absurd (omega (arith, far, within))

pub join_empty : (first starts : List ℕ) (at : ℕ) → IsJoining first starts at → length starts ≡ 0 → AreJoined first starts at
join_empty first starts at is none = record { kept = is.kept; only = λ q b h. absurd (let within = slice_get_within starts q b h in omega (arith, within, none)) }
