-- Each step of the walk keeps its groups.
use Rattle.std.proofs.Common.{◌≡◌, ◌≢◌, ℕ, zero, suc, ◌+◌, ◌<◌, ◌≤◌, Bool, true, false, List, [], ◌∷◌, ◌++◌, length, length-set, refl, sym, ap, ◌∙◌, subst, ◌⊎◌, inl, inr, Some, arith}
use Rattle.std.proofs.lemmas.Bool.{cases_eq}
use Rattle.std.specs.Prelude.{slice_get, slice_set, unwrap_or, replicate}
use Rattle.std.proofs.lemmas.Option.{slice_get_within}
use Rattle.std.proofs.lemmas.List.{length-replicate}
use Rattle.base.proofs.Lemmas.Lists.Indices.{slice_get-set_other}
use Rattle.base.specs.declared.topo_order.walk.Mark.{Mark}
use Rattle.base.specs.declared.topo_order.walk.Mark.TheVariants.{New, Open, Done}
use Rattle.base.specs.TopoOrder.Needs.{needs_of, Needs, Reaches, itself, by_way}
use Rattle.base.specs.TopoOrder.Inner.Walk.{mark_of, taken_of}
use Rattle.base.specs.TopoOrder.Inner.Groups.{position_of, flag_of, IsNotBelow, IsOpenAbove, IsGrouping, AreJoined}
use Rattle.base.proofs.OnTopoOrder.Steps.{mark_of-set, mark_of-set_other, get_pushed, get_start, get_last, taken_of-set, taken_of-set_other, new_done, new_open, open_done}

pub position_of-set : (positions : List ℕ) (i n : ℕ) → i < length positions → position_of (slice_set positions i n) i ≡ n
position_of-set [] i n h = absurd (omega arith)
position_of-set (x ∷ xs) zero n h = refl
position_of-set (x ∷ xs) (suc i) n h = position_of-set xs i n (omega arith)

pub position_of-set_other : (positions : List ℕ) (i j n : ℕ) → j ≢ i → position_of (slice_set positions i n) j ≡ position_of positions j
position_of-set_other positions i j n h = ap (λ o. unwrap_or o 0) (slice_get-set_other positions i j n h)

pub flag_of-set : (loops : List Bool) (i : ℕ) → i < length loops → flag_of (slice_set loops i true) i ≡ true
flag_of-set [] i h = absurd (omega arith)
flag_of-set (x ∷ xs) zero h = refl
flag_of-set (x ∷ xs) (suc i) h = flag_of-set xs i (omega arith)

pub flag_of-set_other : (loops : List Bool) (i j : ℕ) → j ≢ i → flag_of (slice_set loops i true) j ≡ flag_of loops j
flag_of-set_other loops i j h = ap (λ o. unwrap_or o false) (slice_get-set_other loops i j true h)

pub joined : (needs : List (List ℕ)) (i j k : ℕ) → Reaches needs i j → Reaches needs j k → Reaches needs i k
joined needs i j k (itself _ _ n) more = by_way i j k n more
joined needs i j k (by_way _ u _ n rest) more = by_way i u k n (joined needs u j k rest more)

-- ---- before the first step

pub grouping_begins : (needs : List (List ℕ)) → IsGrouping needs (replicate (length needs) New) (replicate (length needs) 0) (replicate (length needs) 0) [] [] [] (replicate (length needs) false)
grouping_begins needs = record {
  marks_size = length-replicate (length needs) New;
  taken_size = length-replicate (length needs) 0;
  positions_size = length-replicate (length needs) 0;
  loops_size = length-replicate (length needs) false;
  open_on = λ i h. absurd (new_open (sym (fresh (length needs) i) ∙ h));
  on_open = λ p i h. cc;
  placed = λ p i h. cc;
  path_open = λ k i h. cc;
  path_rises = λ k l i j h a b. cc;
  starts_rise = λ q r b c h a d. cc;
  begins = λ q b h. cc;
  grouped = λ p i h. cc;
  down = λ p q i j h a b. cc;
  up = λ p q i j h a b n. cc;
  settled = λ i k j below h. absurd (none_taken (length needs) i k below);
  finished = λ i h none. absurd (h (fresh (length needs) i));
  sound = λ i h. absurd (let wrong : true ≡ false = sym h ∙ unknown (length needs) i in cc);
  noticed = λ i k below h. absurd (none_taken (length needs) i k below);
  free = λ i h e. absurd (new_done (sym (fresh (length needs) i) ∙ h));
}
  where
    fresh : (n i : ℕ) → mark_of (replicate n New) i ≡ New
    fresh zero i = refl
    fresh (suc n) zero = refl
    fresh (suc n) (suc i) = fresh n i

    unknown : (n i : ℕ) → flag_of (replicate n false) i ≡ false
    unknown zero i = refl
    unknown (suc n) zero = refl
    unknown (suc n) (suc i) = unknown n i

    none_taken : (n i k : ℕ) → k < taken_of (replicate n 0) i → ⊥
    none_taken zero i k h = omega (arith, h)
    none_taken (suc n) zero k h = omega (arith, h)
    none_taken (suc n) (suc i) k h = none_taken n i k h

-- ---- a new thing is met

pub grouping_entered : (needs : List (List ℕ)) (marks : List Mark) (taken positions path stack starts : List ℕ) (loops : List Bool) (child : ℕ)
    → IsGrouping needs marks taken positions path stack starts loops → child < length needs → mark_of marks child ≡ New
    → ((p i : ℕ) → slice_get stack p ≡ Some i → Reaches needs i child)
    → IsGrouping needs (slice_set marks child Open) taken (slice_set positions child (length stack)) (path ++ child ∷ []) (stack ++ child ∷ []) (starts ++ length stack ∷ []) loops
grouping_entered needs marks taken positions path stack starts loops child g inside new reached = record {
  marks_size = length-set marks child Open ∙ g.marks_size;
  taken_size = g.taken_size;
  positions_size = length-set positions child (length stack) ∙ g.positions_size;
  loops_size = g.loops_size;
  open_on = λ i h. open_on i h (cases_eq i child);
  on_open = λ p i h. on_open i (on_stack p i h);
  placed = λ p i h. placed p i (on_stack p i h);
  path_open = λ k i h. path_open k i (get_pushed path child i k h);
  path_rises = λ k l i j h a b. path_rises k l i j h (get_pushed path child i k a) (get_pushed path child j l b);
  starts_rise = λ q r b c h x y. starts_rise q r b c h (get_pushed starts (length stack) b q x) (get_pushed starts (length stack) c r y);
  begins = λ q b h. begins q b (get_pushed starts (length stack) b q h);
  grouped = λ p i h. grouped p i (on_stack p i h);
  down = λ p q i j h a b. down p q i j h (on_stack p i a) (on_stack q j b);
  up = λ p q i j h a b n. up p q i j h (on_stack p i a) (on_stack q j b) n;
  settled = λ i k j below h. settled i j (g.settled i k j below h);
  finished = λ i h none. g.finished i (was_met i h none) (λ k at. none k (get_start path child i k at));
  sound = g.sound;
  noticed = g.noticed;
  free = λ i h e. g.free i (was_done i h) e;
}
  where
    in_marks : child < length marks
    in_marks = rw g.marks_size inside

    in_places : child < length positions
    in_places = rw g.positions_size inside

    opened : mark_of (slice_set marks child Open) child ≡ Open
    opened = mark_of-set marks child Open in_marks

    kept : (i : ℕ) → i ≢ child → mark_of (slice_set marks child Open) i ≡ mark_of marks i
    kept i h = mark_of-set_other marks child i Open h

    new_place : position_of (slice_set positions child (length stack)) child ≡ length stack
    new_place = position_of-set positions child (length stack) in_places

    old_place : (i : ℕ) → i ≢ child → position_of (slice_set positions child (length stack)) i ≡ position_of positions i
    old_place i h = position_of-set_other positions child i (length stack) h

    -- what is open is another thing
    other : (i : ℕ) → mark_of marks i ≡ Open → i ≢ child
    other i h e = new_open (sym new ∙ ap (mark_of marks) (sym e) ∙ h)

    on_stack : (p i : ℕ) → slice_get (stack ++ child ∷ []) p ≡ Some i → (slice_get stack p ≡ Some i) ⊎ ((p ≡ length stack) × (child ≡ i))
    on_stack p i h = get_pushed stack child i p h

    old_on : (p i : ℕ) → slice_get stack p ≡ Some i → i ≢ child
    old_on p i h = other i (g.on_open p i h)

    open_on : (i : ℕ) → mark_of (slice_set marks child Open) i ≡ Open → (i ≡ child) ⊎ (i ≢ child)
        → slice_get (stack ++ child ∷ []) (position_of (slice_set positions child (length stack)) i) ≡ Some i
    open_on i h (inl e) =
        subst (λ k. slice_get (stack ++ child ∷ []) (position_of (slice_set positions child (length stack)) k) ≡ Some k) (sym e)
        (ap (slice_get (stack ++ child ∷ [])) new_place ∙ get_last stack child)
    open_on i h (inr ne) = ap (slice_get (stack ++ child ∷ [])) (old_place i ne) ∙ get_start stack child i (position_of positions i) (g.open_on i (sym (kept i ne) ∙ h))

    on_open : {p : ℕ} → (i : ℕ) → (slice_get stack p ≡ Some i) ⊎ ((p ≡ length stack) × (child ≡ i)) → mark_of (slice_set marks child Open) i ≡ Open
    on_open {p} i (inl h) = kept i (old_on p i h) ∙ g.on_open p i h
    on_open i (inr (_, e)) = subst (λ k. mark_of (slice_set marks child Open) k ≡ Open) e opened

    placed : (p i : ℕ) → (slice_get stack p ≡ Some i) ⊎ ((p ≡ length stack) × (child ≡ i)) → position_of (slice_set positions child (length stack)) i ≡ p
    placed p i (inl h) = old_place i (old_on p i h) ∙ g.placed p i h
    placed p i (inr (at, e)) = subst (λ k. position_of (slice_set positions child (length stack)) k ≡ p) e (new_place ∙ sym at)

    path_open : (k i : ℕ) → (slice_get path k ≡ Some i) ⊎ ((k ≡ length path) × (child ≡ i)) → mark_of (slice_set marks child Open) i ≡ Open
    path_open k i (inl h) = kept i (other i (g.path_open k i h)) ∙ g.path_open k i h
    path_open k i (inr (_, e)) = subst (λ k. mark_of (slice_set marks child Open) k ≡ Open) e opened

    -- an open thing stands on the stack that was
    below : (i : ℕ) → mark_of marks i ≡ Open → position_of positions i < length stack
    below i h = slice_get_within stack (position_of positions i) i (g.open_on i h)

    path_rises : (k l i j : ℕ) → k < l → (slice_get path k ≡ Some i) ⊎ ((k ≡ length path) × (child ≡ i)) → (slice_get path l ≡ Some j) ⊎ ((l ≡ length path) × (child ≡ j))
        → position_of (slice_set positions child (length stack)) i < position_of (slice_set positions child (length stack)) j
    path_rises k l i j h (inl a) (inl b) =
        let x = old_place i (other i (g.path_open k i a)) in
        let y = old_place j (other j (g.path_open l j b)) in
        let z = g.path_rises k l i j h a b in
        omega (arith, x, y, z)
    path_rises k l i j h (inl a) (inr (_, e)) =
        let x = old_place i (other i (g.path_open k i a)) in
        let y : position_of (slice_set positions child (length stack)) j ≡ length stack = subst (λ k. position_of (slice_set positions child (length stack)) k ≡ length stack) e new_place in
        let z = below i (g.path_open k i a) in
        omega (arith, x, y, z)
    path_rises k l i j h (inr (at, _)) (inl b) = let far = slice_get_within path l j b in absurd (omega (arith, far, at, h))
    path_rises k l i j h (inr (at, _)) (inr (too, _)) = absurd (omega (arith, at, too, h))

    start_below : (q b : ℕ) → slice_get starts q ≡ Some b → b < length stack
    start_below q b h = let (k, i, at, is) = g.begins q b h in let low = below i (g.path_open k i at) in omega (arith, low, is)

    starts_rise : (q r b c : ℕ) → q < r → (slice_get starts q ≡ Some b) ⊎ ((q ≡ length starts) × (length stack ≡ b)) → (slice_get starts r ≡ Some c) ⊎ ((r ≡ length starts) × (length stack ≡ c)) → b < c
    starts_rise q r b c h (inl x) (inl y) = g.starts_rise q r b c h x y
    starts_rise q r b c h (inl x) (inr (_, is)) = let low = start_below q b x in omega (arith, low, is)
    starts_rise q r b c h (inr (at, _)) (inl y) = let far = slice_get_within starts r c y in absurd (omega (arith, far, at, h))
    starts_rise q r b c h (inr (at, _)) (inr (too, _)) = absurd (omega (arith, at, too, h))

    begins : (q b : ℕ) → (slice_get starts q ≡ Some b) ⊎ ((q ≡ length starts) × (length stack ≡ b))
        → (k : ℕ) × (i : ℕ) × (slice_get (path ++ child ∷ []) k ≡ Some i) × (position_of (slice_set positions child (length stack)) i ≡ b)
    begins q b (inl h) = let (k, i, at, is) = g.begins q b h in (k, i, get_start path child i k at, old_place i (other i (g.path_open k i at)) ∙ is)
    begins q b (inr (_, is)) = (length path, child, get_last path child, new_place ∙ is)

    grouped : (p i : ℕ) → (slice_get stack p ≡ Some i) ⊎ ((p ≡ length stack) × (child ≡ i)) → (q : ℕ) × (b : ℕ) × (slice_get (starts ++ length stack ∷ []) q ≡ Some b) × (b ≤ p)
    grouped p i (inl h) = let (q, b, at, low) = g.grouped p i h in (q, b, get_start starts (length stack) b q at, low)
    grouped p i (inr (at, _)) = (length starts, length stack, get_last starts (length stack), omega (arith, at))

    down : (p q i j : ℕ) → p < q → (slice_get stack p ≡ Some i) ⊎ ((p ≡ length stack) × (child ≡ i)) → (slice_get stack q ≡ Some j) ⊎ ((q ≡ length stack) × (child ≡ j)) → Reaches needs i j
    down p q i j h (inl a) (inl b) = g.down p q i j h a b
    down p q i j h (inl a) (inr (_, e)) = subst (Reaches needs i) e (reached p i a)
    down p q i j h (inr (at, _)) (inl b) = let far = slice_get_within stack q j b in absurd (omega (arith, far, at, h))
    down p q i j h (inr (at, _)) (inr (too, _)) = absurd (omega (arith, at, too, h))

    up : (p q i j : ℕ) → p < q → (slice_get stack p ≡ Some i) ⊎ ((p ≡ length stack) × (child ≡ i)) → (slice_get stack q ≡ Some j) ⊎ ((q ≡ length stack) × (child ≡ j))
        → IsNotBelow (starts ++ length stack ∷ []) q p → Reaches needs j i
    up p q i j h (inl a) (inl b) n = g.up p q i j h a b (λ r c at low. n r c (get_start starts (length stack) c r at) low)
    up p q i j h (inl a) (inr (at, _)) n = let low = n (length starts) (length stack) (get_last starts (length stack)) (omega (arith, at)) in absurd (omega (arith, low, at, h))
    up p q i j h (inr (at, _)) (inl b) n = let far = slice_get_within stack q j b in absurd (omega (arith, far, at, h))
    up p q i j h (inr (at, _)) (inr (too, _)) n = absurd (omega (arith, at, too, h))

    settled : (i j : ℕ) → (mark_of marks j ≡ Done) ⊎ IsOpenAbove marks positions starts i j
        → (mark_of (slice_set marks child Open) j ≡ Done) ⊎ IsOpenAbove (slice_set marks child Open) (slice_set positions child (length stack)) (starts ++ length stack ∷ []) i j
    settled i j (inl done) = inl (kept j (λ e. new_done (sym new ∙ ap (mark_of marks) (sym e) ∙ done)) ∙ done)
    settled i j (inr w) = inr (record {
      first = kept i (other i w.first) ∙ w.first;
      second = kept j (other j w.second) ∙ w.second;
      above = λ q b h low. above q b (get_pushed starts (length stack) b q h) (omega (arith, low, old_place i (other i w.first)));
    })
      where
        above : (q b : ℕ) → (slice_get starts q ≡ Some b) ⊎ ((q ≡ length starts) × (length stack ≡ b)) → b ≤ position_of positions i → b ≤ position_of (slice_set positions child (length stack)) j
        above q b (inl h) low = let x = w.above q b h low in let y = old_place j (other j w.second) in omega (arith, x, y)
        above q b (inr (_, is)) low = let x = below i w.first in absurd (omega (arith, x, is, low))

    was_met : (i : ℕ) → mark_of (slice_set marks child Open) i ≢ New → ((k : ℕ) → slice_get (path ++ child ∷ []) k ≢ Some i) → mark_of marks i ≢ New
    was_met i h none e = h (kept i (λ same. none (length path) (get_last path child ∙ ap Some (sym same))) ∙ e)

    was_done : (i : ℕ) → mark_of (slice_set marks child Open) i ≡ Done → mark_of marks i ≡ Done
    was_done i h = split (cases_eq i child)
      where
        split : (i ≡ child) ⊎ (i ≢ child) → mark_of marks i ≡ Done
        split (inl e) = absurd (open_done (sym opened ∙ ap (mark_of (slice_set marks child Open)) (sym e) ∙ h))
        split (inr ne) = sym (kept i ne) ∙ h

-- ---- a need is taken

pub grouping_flagged : (needs : List (List ℕ)) (marks : List Mark) (taken positions path stack starts : List ℕ) (loops : List Bool) (i : ℕ)
    → IsGrouping needs marks taken positions path stack starts loops → i < length needs → Reaches needs i i
    → IsGrouping needs marks taken positions path stack starts (slice_set loops i true)
grouping_flagged needs marks taken positions path stack starts loops i g inside reaches = record {
  marks_size = g.marks_size;
  taken_size = g.taken_size;
  positions_size = g.positions_size;
  loops_size = length-set loops i true ∙ g.loops_size;
  open_on = g.open_on;
  on_open = g.on_open;
  placed = g.placed;
  path_open = g.path_open;
  path_rises = g.path_rises;
  starts_rise = g.starts_rise;
  begins = g.begins;
  grouped = g.grouped;
  down = g.down;
  up = g.up;
  settled = g.settled;
  finished = g.finished;
  sound = λ j h. sound j h (cases_eq j i);
  noticed = λ j k below h. still j (g.noticed j k below h) (cases_eq j i);
  free = λ j h e. g.free j h (unset j e (cases_eq j i));
}
  where
    set : flag_of (slice_set loops i true) i ≡ true
    set = flag_of-set loops i (rw g.loops_size inside)

    sound : (j : ℕ) → flag_of (slice_set loops i true) j ≡ true → (j ≡ i) ⊎ (j ≢ i) → Reaches needs j j
    sound j h (inl e) = subst (λ k. Reaches needs k k) (sym e) reaches
    sound j h (inr ne) = g.sound j (sym (flag_of-set_other loops i j ne) ∙ h)

    still : (j : ℕ) → flag_of loops j ≡ true → (j ≡ i) ⊎ (j ≢ i) → flag_of (slice_set loops i true) j ≡ true
    still j h (inl e) = subst (λ k. flag_of (slice_set loops i true) k ≡ true) (sym e) set
    still j h (inr ne) = flag_of-set_other loops i j ne ∙ h

    unset : (j : ℕ) → flag_of (slice_set loops i true) j ≡ false → (j ≡ i) ⊎ (j ≢ i) → flag_of loops j ≡ false
    unset j h (inl e) = absurd (let wrong : true ≡ false = sym set ∙ ap (flag_of (slice_set loops i true)) (sym e) ∙ h in cc)
    unset j h (inr ne) = sym (flag_of-set_other loops i j ne) ∙ h

pub grouping_taken : (needs : List (List ℕ)) (marks : List Mark) (taken positions path stack starts : List ℕ) (loops : List Bool) (top child : ℕ)
    → IsGrouping needs marks taken positions path stack starts loops → top < length needs
    → slice_get (needs_of needs top) (taken_of taken top) ≡ Some child
    → ((mark_of marks child ≡ Done) ⊎ IsOpenAbove marks positions starts top child) → (child ≡ top → flag_of loops top ≡ true)
    → IsGrouping needs marks (slice_set taken top (taken_of taken top + 1)) positions path stack starts loops
grouping_taken needs marks taken positions path stack starts loops top child g inside next stands noted = record {
  marks_size = g.marks_size;
  taken_size = length-set taken top (taken_of taken top + 1) ∙ g.taken_size;
  positions_size = g.positions_size;
  loops_size = g.loops_size;
  open_on = g.open_on;
  on_open = g.on_open;
  placed = g.placed;
  path_open = g.path_open;
  path_rises = g.path_rises;
  starts_rise = g.starts_rise;
  begins = g.begins;
  grouped = g.grouped;
  down = g.down;
  up = g.up;
  settled = λ i k j below h. settled i k j h (which i k below (cases_eq i top));
  finished = λ i h none. let old = g.finished i h none in let more = no_less i (cases_eq i top) in omega (arith, old, more);
  sound = g.sound;
  noticed = λ i k below h. noticed i k h (which i k below (cases_eq i top));
  free = g.free;
}
  where
    set : taken_of (slice_set taken top (taken_of taken top + 1)) top ≡ taken_of taken top + 1
    set = taken_of-set taken top (taken_of taken top + 1) (rw g.taken_size inside)

    kept : (i : ℕ) → i ≢ top → taken_of (slice_set taken top (taken_of taken top + 1)) i ≡ taken_of taken i
    kept i ne = taken_of-set_other taken top i (taken_of taken top + 1) ne

    at_top : (i : ℕ) → i ≡ top → taken_of (slice_set taken top (taken_of taken top + 1)) i ≡ taken_of taken i + 1
    at_top i e = subst (λ t. taken_of (slice_set taken top (taken_of taken top + 1)) t ≡ taken_of taken t + 1) (sym e) set

    no_less : (i : ℕ) → (i ≡ top) ⊎ (i ≢ top) → taken_of taken i ≤ taken_of (slice_set taken top (taken_of taken top + 1)) i
    no_less i (inl e) = let x = at_top i e in omega (arith, x)
    no_less i (inr ne) = let x = kept i ne in omega (arith, x)

    -- a need that was taken before, or this one
    which : (i k : ℕ) → k < taken_of (slice_set taken top (taken_of taken top + 1)) i → (i ≡ top) ⊎ (i ≢ top) → (k < taken_of taken i) ⊎ ((i ≡ top) × (k ≡ taken_of taken top))
    which i k below (inr ne) = let x = kept i ne in inl (omega (arith, x, below))
    which i k below (inl e) = split (cases_eq k (taken_of taken i))
      where
        split : (k ≡ taken_of taken i) ⊎ (k ≢ taken_of taken i) → (k < taken_of taken i) ⊎ ((i ≡ top) × (k ≡ taken_of taken top))
        split (inl same) = inr (e, same ∙ ap (taken_of taken) e)
        split (inr ne) = let x = at_top i e in inl (omega (arith, x, below, ne))

    is_child : (i k j : ℕ) → i ≡ top → k ≡ taken_of taken top → slice_get (needs_of needs i) k ≡ Some j → child ≡ j
    is_child i k j e same h =
        let both : Some child ≡ Some j = sym next ∙ ap (slice_get (needs_of needs top)) (sym same) ∙ ap (λ t. slice_get (needs_of needs t) k) (sym e) ∙ h in
        cc

    settled : (i k j : ℕ) → slice_get (needs_of needs i) k ≡ Some j → (k < taken_of taken i) ⊎ ((i ≡ top) × (k ≡ taken_of taken top)) → (mark_of marks j ≡ Done) ⊎ IsOpenAbove marks positions starts i j
    settled i k j h (inl below) = g.settled i k j below h
    settled i k j h (inr (e, same)) =
        subst (λ t. (mark_of marks j ≡ Done) ⊎ IsOpenAbove marks positions starts t j) (sym e)
        (subst (λ c. (mark_of marks c ≡ Done) ⊎ IsOpenAbove marks positions starts top c) (is_child i k j e same h) stands)

    noticed : (i k : ℕ) → slice_get (needs_of needs i) k ≡ Some i → (k < taken_of taken i) ⊎ ((i ≡ top) × (k ≡ taken_of taken top)) → flag_of loops i ≡ true
    noticed i k h (inl below) = g.noticed i k below h
    noticed i k h (inr (e, same)) = ap (flag_of loops) e ∙ noted (is_child i k i e same h ∙ e)

-- ---- groups are joined

-- thing `top`, of the last group, needs the thing at this place
pub record ReachesBack (needs : List (List ℕ)) (stack starts : List ℕ) (at : ℕ) : Type 0 where
  pub top : ℕ
  pub child : ℕ
  pub top_place : ℕ
  pub top_at : slice_get stack top_place ≡ Some top
  pub last : (q b : ℕ) → slice_get starts q ≡ Some b → b ≤ top_place
  pub child_at : slice_get stack at ≡ Some child
  pub need : Needs needs top child

pub order_of : (a b : ℕ) → (a < b) ⊎ ((a ≡ b) ⊎ (b < a))
order_of zero zero = inr (inl refl)
order_of zero (suc b) = inl (omega arith)
order_of (suc a) zero = inr (inr (omega arith))
order_of (suc a) (suc b) = elim (order_of a b) [ inl h ↦ inl (omega (arith, h)) | inr (inl h) ↦ inr (inl (ap suc h)) | inr (inr h) ↦ inr (inr (omega (arith, h))) ]

pub stands_once : (stack : List ℕ) (p q i j : ℕ) → p ≡ q → slice_get stack p ≡ Some i → slice_get stack q ≡ Some j → i ≡ j
stands_once stack p q i j e a b = let both : Some i ≡ Some j = sym a ∙ ap (slice_get stack) e ∙ b in cc

pub grouping_joined : (needs : List (List ℕ)) (marks : List Mark) (taken positions path stack starts starts' : List ℕ) (loops : List Bool) (at : ℕ)
    → IsGrouping needs marks taken positions path stack starts loops → ReachesBack needs stack starts at → AreJoined starts starts' at
    → IsGrouping needs marks taken positions path stack starts' loops
grouping_joined needs marks taken positions path stack starts starts' loops at g back are = record {
  marks_size = g.marks_size;
  taken_size = g.taken_size;
  positions_size = g.positions_size;
  loops_size = g.loops_size;
  open_on = g.open_on;
  on_open = g.on_open;
  placed = g.placed;
  path_open = g.path_open;
  path_rises = g.path_rises;
  starts_rise = λ q r b c h x y. g.starts_rise q r b c h (are.only q b x).0 (are.only r c y).0;
  begins = λ q b h. g.begins q b (are.only q b h).0;
  grouped = λ p i h. grouped p (g.grouped p i h);
  down = g.down;
  up = λ p r i j h a b n. up p r i j h a b n (order_of at r);
  settled = λ i k j below h. settled i j (g.settled i k j below h);
  finished = g.finished;
  sound = g.sound;
  noticed = g.noticed;
  free = g.free;
}
  where
    grouped : (p : ℕ) → ((q : ℕ) × (b : ℕ) × (slice_get starts q ≡ Some b) × (b ≤ p)) → (q : ℕ) × (b : ℕ) × (slice_get starts' q ≡ Some b) × (b ≤ p)
    grouped p (q, b, is, low) = split (order_of at b)
      where
        split : (at < b) ⊎ ((at ≡ b) ⊎ (b < at)) → (q : ℕ) × (b : ℕ) × (slice_get starts' q ≡ Some b) × (b ≤ p)
        split (inl far) = let (r, c, there, less) = g.grouped at back.child back.child_at in (r, c, are.kept r c there less, omega (arith, less, far, low))
        split (inr (inl same)) = (q, b, are.kept q b is (omega (arith, same)), low)
        split (inr (inr near)) = (q, b, are.kept q b is (omega (arith, near)), low)

    -- up to that place groups are as they were
    as_before : (r p : ℕ) → r ≤ at → IsNotBelow starts' r p → IsNotBelow starts r p
    as_before r p h n q b is low = n q b (are.kept q b is (omega (arith, low, h))) low

    to_top : (r j : ℕ) → slice_get stack r ≡ Some j → (j ≡ back.top) ⊎ Reaches needs j back.top
    to_top r j b = split (order_of r back.top_place)
      where
        split : (r < back.top_place) ⊎ ((r ≡ back.top_place) ⊎ (back.top_place < r)) → (j ≡ back.top) ⊎ Reaches needs j back.top
        split (inl low) = inr (g.down r back.top_place j back.top low b back.top_at)
        split (inr (inl same)) = inl (stands_once stack r back.top_place j back.top same b back.top_at)
        split (inr (inr high)) = inr (g.up back.top_place r back.top j high back.top_at b (λ q c is low. back.last q c is))

    to_child : (r j : ℕ) → slice_get stack r ≡ Some j → Reaches needs j back.child
    to_child r j b = split (to_top r j b)
      where
        split : (j ≡ back.top) ⊎ Reaches needs j back.top → Reaches needs j back.child
        split (inl same) = subst (λ k. Reaches needs k back.child) (sym same) (itself back.top back.child back.need)
        split (inr far) = joined needs j back.top back.child far (itself back.top back.child back.need)

    up : (p r i j : ℕ) → p < r → slice_get stack p ≡ Some i → slice_get stack r ≡ Some j → IsNotBelow starts' r p → (at < r) ⊎ ((at ≡ r) ⊎ (r < at)) → Reaches needs j i
    up p r i j h a b n (inr (inl same)) = g.up p r i j h a b (as_before r p (omega (arith, same)) n)
    up p r i j h a b n (inr (inr low)) = g.up p r i j h a b (as_before r p (omega (arith, low)) n)
    up p r i j h a b n (inl far) = split (order_of at p)
      where
        near : IsNotBelow starts at p
        near q c is low = n q c (are.kept q c is low) (omega (arith, low, far))

        split : (at < p) ⊎ ((at ≡ p) ⊎ (p < at)) → Reaches needs j i
        split (inl low) = joined needs j back.child i (to_child r j b) (g.down at p back.child i low back.child_at a)
        split (inr (inl same)) = subst (Reaches needs j) (stands_once stack at p back.child i same back.child_at a) (to_child r j b)
        split (inr (inr high)) = joined needs j back.child i (to_child r j b) (g.up p at i back.child high a back.child_at near)

    settled : (i j : ℕ) → (mark_of marks j ≡ Done) ⊎ IsOpenAbove marks positions starts i j → (mark_of marks j ≡ Done) ⊎ IsOpenAbove marks positions starts' i j
    settled i j (inl done) = inl done
    settled i j (inr w) = inr (record { first = w.first; second = w.second; above = λ q b h low. w.above q b (are.only q b h).0 low })

-- ---- the last thing on the path is left, which begins no group

pub grouping_left : (needs : List (List ℕ)) (marks : List Mark) (taken positions path front stack starts : List ℕ) (loops : List Bool) (top : ℕ)
    → IsGrouping needs marks taken positions path stack starts loops → path ≡ front ++ top ∷ [] → length (needs_of needs top) ≤ taken_of taken top
    → ((q b : ℕ) → slice_get starts q ≡ Some b → b ≢ position_of positions top)
    → IsGrouping needs marks taken positions front stack starts loops
grouping_left needs marks taken positions path front stack starts loops top g is all no_start = record {
  marks_size = g.marks_size;
  taken_size = g.taken_size;
  positions_size = g.positions_size;
  loops_size = g.loops_size;
  open_on = g.open_on;
  on_open = g.on_open;
  placed = g.placed;
  path_open = λ k i h. g.path_open k i (on_path k i h);
  path_rises = λ k l i j h a b. g.path_rises k l i j h (on_path k i a) (on_path l j b);
  starts_rise = g.starts_rise;
  begins = λ q b h. begins q b h (g.begins q b h);
  grouped = g.grouped;
  down = g.down;
  up = g.up;
  settled = g.settled;
  finished = λ i h none. finished i h none (cases_eq top i);
  sound = g.sound;
  noticed = g.noticed;
  free = g.free;
}
  where
    on_path : (k i : ℕ) → slice_get front k ≡ Some i → slice_get path k ≡ Some i
    on_path k i h = ap (λ xs. slice_get xs k) is ∙ get_start front top i k h

    begins : (q b : ℕ) → slice_get starts q ≡ Some b → ((k : ℕ) × (i : ℕ) × (slice_get path k ≡ Some i) × (position_of positions i ≡ b))
        → (k : ℕ) × (i : ℕ) × (slice_get front k ≡ Some i) × (position_of positions i ≡ b)
    begins q b h (k, i, at, place) = split (get_pushed front top i k (ap (λ xs. slice_get xs k) (sym is) ∙ at))
      where
        split : (slice_get front k ≡ Some i) ⊎ ((k ≡ length front) × (top ≡ i)) → (k : ℕ) × (i : ℕ) × (slice_get front k ≡ Some i) × (position_of positions i ≡ b)
        split (inl old) = (k, i, old, place)
        split (inr (_, e)) = absurd (no_start q b h (sym (ap (position_of positions) e ∙ place)))

    finished : (i : ℕ) → mark_of marks i ≢ New → ((k : ℕ) → slice_get front k ≢ Some i) → (top ≡ i) ⊎ (top ≢ i) → length (needs_of needs i) ≤ taken_of taken i
    finished i h none (inl e) = subst (λ t. length (needs_of needs t) ≤ taken_of taken t) e all
    finished i h none (inr ne) = g.finished i h (λ k at. split k (get_pushed front top i k (ap (λ xs. slice_get xs k) (sym is) ∙ at)))
      where
        split : (k : ℕ) → (slice_get front k ≡ Some i) ⊎ ((k ≡ length front) × (top ≡ i)) → ⊥
        split k (inl old) = none k old
        split k (inr (_, e)) = ne e

pub inside_places : (needs : List (List ℕ)) (positions : List ℕ) → length positions ≡ length needs → (i : ℕ) → i < length needs → i < length positions
inside_places needs positions size i inside = omega (arith, size, inside)
