-- Each step of the walk keeps it a walk.
use Rattle.std.proofs.Common.{◌≡◌, ◌≢◌, ℕ, zero, suc, ◌+◌, ◌<◌, ◌≤◌, List, [], ◌∷◌, ◌++◌, length, length-set, length-append, add-one, refl, sym, ap, ◌∙◌, subst, ◌⊎◌, inl, inr, Some, get_or, ◌-◌, arith}
use Rattle.std.proofs.lemmas.Bool.{cases_eq}
use Rattle.std.specs.Prelude.{slice_get, slice_set, unwrap_or}
use Rattle.std.proofs.lemmas.Option.{slice_get_within, slice_get_past, slice_get-get_or}
use Rattle.base.proofs.Lemmas.Lists.Indices.{slice_get-set_other, slice_get-append_left}
use Rattle.base.specs.declared.topo_order.walk.Mark.{Mark}
use Rattle.base.specs.declared.topo_order.walk.Mark.TheVariants.{New, Open, Done}
use Rattle.base.specs.TopoOrder.Needs.{needs_of, Needs, Reaches, itself, by_way}
use Rattle.base.specs.TopoOrder.Inner.Walk.{mark_of, taken_of, IsStep, IsWalk}

-- a mark that is set, and the others
pub mark_of-set : (marks : List Mark) (i : ℕ) (m : Mark) → i < length marks → mark_of (slice_set marks i m) i ≡ m
mark_of-set [] i m h = absurd (omega arith)
mark_of-set (x ∷ xs) zero m h = refl
mark_of-set (x ∷ xs) (suc i) m h = mark_of-set xs i m (omega arith)

pub mark_of-set_other : (marks : List Mark) (i j : ℕ) (m : Mark) → j ≢ i → mark_of (slice_set marks i m) j ≡ mark_of marks j
mark_of-set_other marks i j m h = ap (λ o. unwrap_or o New) (slice_get-set_other marks i j m h)

-- what stands in a list with one more at its end
pub get_pushed : {A : Type 0} (xs : List A) (x y : A) (p : ℕ) → slice_get (xs ++ x ∷ []) p ≡ Some y → (slice_get xs p ≡ Some y) ⊎ ((p ≡ length xs) × (x ≡ y))
get_pushed [] x y zero h = inr (refl, cc)
get_pushed [] x y (suc p) h = cc
get_pushed (z ∷ xs) x y zero h = inl h
get_pushed (z ∷ xs) x y (suc p) h = elim (get_pushed xs x y p h) [ inl e ↦ inl e | inr e ↦ inr (ap suc e.0, e.1) ]

pub get_start : {A : Type 0} (xs : List A) (x y : A) (p : ℕ) → slice_get xs p ≡ Some y → slice_get (xs ++ x ∷ []) p ≡ Some y
get_start xs x y p h = slice_get-append_left xs (x ∷ []) p (slice_get_within xs p y h) ∙ h

pub get_last : {A : Type 0} (xs : List A) (x : A) → slice_get (xs ++ x ∷ []) (length xs) ≡ Some x
get_last [] x = refl
get_last (z ∷ xs) x = get_last xs x

pub taken_of-set : (taken : List ℕ) (i n : ℕ) → i < length taken → taken_of (slice_set taken i n) i ≡ n
taken_of-set [] i n h = absurd (omega arith)
taken_of-set (x ∷ xs) zero n h = refl
taken_of-set (x ∷ xs) (suc i) n h = taken_of-set xs i n (omega arith)

pub taken_of-set_other : (taken : List ℕ) (i j n : ℕ) → j ≢ i → taken_of (slice_set taken i n) j ≡ taken_of taken j
taken_of-set_other taken i j n h = ap (λ o. unwrap_or o 0) (slice_get-set_other taken i j n h)

-- a step of the path is one of a longer path
pub step_front : (path : List ℕ) (x i j : ℕ) → IsStep path i j → IsStep (path ++ x ∷ []) i j
step_front path x i j (p, here, next) = (p, get_start path x i p here, get_start path x j (p + 1) next)

-- things of another mark are other things
pub other_mark : (marks : List Mark) (i j : ℕ) (m n : Mark) → mark_of marks i ≡ m → mark_of marks j ≡ n → m ≢ n → i ≢ j
other_mark marks i j m n hi hj ne e = ne (sym hi ∙ ap (mark_of marks) e ∙ hj)

pub new_done : New ≢ Done
new_done e = cc

pub new_open : New ≢ Open
new_open e = cc

pub open_done : Open ≢ Done
open_done e = cc

pub done_open : Done ≢ Open
done_open e = cc

-- the marks once a new thing is open
pub record IsOpened (needs : List (List ℕ)) (marks : List Mark) (path order : List ℕ) (child : ℕ) : Type 0 where
  pub marks_size : length (slice_set marks child Open) ≡ length needs
  pub done_in : (i : ℕ) → mark_of (slice_set marks child Open) i ≡ Done → (p : ℕ) × (slice_get order p ≡ Some i)
  pub in_done : (p i : ℕ) → slice_get order p ≡ Some i → mark_of (slice_set marks child Open) i ≡ Done
  pub open_on : (i : ℕ) → mark_of (slice_set marks child Open) i ≡ Open → (p : ℕ) × (slice_get (path ++ child ∷ []) p ≡ Some i)
  pub on_open : (p i : ℕ) → slice_get (path ++ child ∷ []) p ≡ Some i → mark_of (slice_set marks child Open) i ≡ Open
  pub path_once : (p q i : ℕ) → slice_get (path ++ child ∷ []) p ≡ Some i → slice_get (path ++ child ∷ []) q ≡ Some i → p ≡ q
  pub still_done : (i : ℕ) → mark_of marks i ≡ Done → mark_of (slice_set marks child Open) i ≡ Done

pub opening : (needs : List (List ℕ)) (marks : List Mark) (taken path order : List ℕ) (child : ℕ) → IsWalk needs marks taken path order
    → child < length needs → mark_of marks child ≡ New → IsOpened needs marks path order child
opening needs marks taken path order child walk inside new = record {
  marks_size = length-set marks child Open ∙ walk.marks_size;
  done_in = done_in;
  in_done = λ p i h. still_done i (walk.in_done p i h);
  open_on = open_on;
  on_open = on_open;
  path_once = path_once;
  still_done = still_done;
}
  where
    inside_marks : child < length marks
    inside_marks = rw walk.marks_size inside

    opened : mark_of (slice_set marks child Open) child ≡ Open
    opened = mark_of-set marks child Open inside_marks

    kept : (i : ℕ) → i ≢ child → mark_of (slice_set marks child Open) i ≡ mark_of marks i
    kept i h = mark_of-set_other marks child i Open h

    still_done : (i : ℕ) → mark_of marks i ≡ Done → mark_of (slice_set marks child Open) i ≡ Done
    still_done i h = kept i (λ e. new_done (sym new ∙ ap (mark_of marks) (sym e) ∙ h)) ∙ h

    done_in : (i : ℕ) → mark_of (slice_set marks child Open) i ≡ Done → (p : ℕ) × (slice_get order p ≡ Some i)
    done_in i h = go (cases_eq i child)
      where
        go : (i ≡ child) ⊎ (i ≢ child) → (p : ℕ) × (slice_get order p ≡ Some i)
        go (inl e) = absurd (open_done (sym opened ∙ ap (mark_of (slice_set marks child Open)) (sym e) ∙ h))
        go (inr ne) = walk.done_in i (sym (kept i ne) ∙ h)

    open_on : (i : ℕ) → mark_of (slice_set marks child Open) i ≡ Open → (p : ℕ) × (slice_get (path ++ child ∷ []) p ≡ Some i)
    open_on i h = go (cases_eq child i)
      where
        go : (child ≡ i) ⊎ (child ≢ i) → (p : ℕ) × (slice_get (path ++ child ∷ []) p ≡ Some i)
        go (inl e) = (length path, get_last path child ∙ ap Some e)
        go (inr ne) = let old = walk.open_on i (sym (kept i (λ e. ne (sym e))) ∙ h) in (old.0, get_start path child i old.0 old.1)

    not_on : (p : ℕ) → slice_get path p ≢ Some child
    not_on p h = new_open (sym new ∙ walk.on_open p child h)

    on_open : (p i : ℕ) → slice_get (path ++ child ∷ []) p ≡ Some i → mark_of (slice_set marks child Open) i ≡ Open
    on_open p i h = go (get_pushed path child i p h)
      where
        go : (slice_get path p ≡ Some i) ⊎ ((p ≡ length path) × (child ≡ i)) → mark_of (slice_set marks child Open) i ≡ Open
        go (inl old) = kept i (λ e. not_on p (old ∙ ap Some e)) ∙ walk.on_open p i old
        go (inr (_place, e)) = subst (λ k. mark_of (slice_set marks child Open) k ≡ Open) e opened

    path_once : (p q i : ℕ) → slice_get (path ++ child ∷ []) p ≡ Some i → slice_get (path ++ child ∷ []) q ≡ Some i → p ≡ q
    path_once p q i hp hq = go (get_pushed path child i p hp) (get_pushed path child i q hq)
      where
        go : (slice_get path p ≡ Some i) ⊎ ((p ≡ length path) × (child ≡ i)) → (slice_get path q ≡ Some i) ⊎ ((q ≡ length path) × (child ≡ i)) → p ≡ q
        go (inl a) (inl b) = walk.path_once p q i a b
        go (inl a) (inr (place, e)) = absurd (not_on p (a ∙ ap Some (sym e)))
        go (inr (place, e)) (inl b) = absurd (not_on q (b ∙ ap Some (sym e)))
        go (inr (a, _)) (inr (b, _)) = a ∙ sym b

-- beginning at a thing that is new, where nothing is open
pub begun : (needs : List (List ℕ)) (marks : List Mark) (taken order : List ℕ) (root : ℕ) → IsWalk needs marks taken [] order
    → root < length needs → mark_of marks root ≡ New → IsWalk needs (slice_set marks root Open) taken (root ∷ []) order
begun needs marks taken order root walk inside new =
    let opened = opening needs marks taken [] order root walk inside new in
    record {
      marks_size = opened.marks_size;
      taken_size = walk.taken_size;
      done_in = opened.done_in;
      in_done = opened.in_done;
      once = walk.once;
      behind = walk.behind;
      open_on = opened.open_on;
      on_open = opened.on_open;
      path_once = opened.path_once;
      steps = λ i j (p, here, next). no_step p j next;
      settled = λ i k j below h. settle i j (walk.settled i k j below h);
    }
  where
    no_step : {X : Type 0} → (p j : ℕ) → slice_get (root ∷ []) (p + 1) ≡ Some j → X
    no_step p j h = let far = slice_get_past (root ∷ []) (p + 1) (omega arith) in absurd (cc)

    settle : (i j : ℕ) → (mark_of marks j ≡ Done) ⊎ IsStep [] i j → (mark_of (slice_set marks root Open) j ≡ Done) ⊎ IsStep (root ∷ []) i j
    settle i j (inl done) = inl ((opening needs marks taken [] order root walk inside new).still_done j done)
    settle i j (inr (p, here, next)) = absurd (cc)

-- entering a new thing that the last one on the path needs next
pub entered : (needs : List (List ℕ)) (marks : List Mark) (taken path order : List ℕ) (last top child : ℕ) → IsWalk needs marks taken path order
    → suc last ≡ length path → slice_get path last ≡ Some top → slice_get (needs_of needs top) (taken_of taken top) ≡ Some child
    → top < length needs → child < length needs → mark_of marks child ≡ New
    → IsWalk needs (slice_set marks child Open) (slice_set taken top (taken_of taken top + 1)) (path ++ child ∷ []) order
entered needs marks taken path order last top child walk end at_top next top_inside inside new =
    record {
      marks_size = opened.marks_size;
      taken_size = length-set taken top (taken_of taken top + 1) ∙ walk.taken_size;
      done_in = opened.done_in;
      in_done = opened.in_done;
      once = walk.once;
      behind = walk.behind;
      open_on = opened.open_on;
      on_open = opened.on_open;
      path_once = opened.path_once;
      steps = steps;
      settled = settled;
    }
  where
    opened : IsOpened needs marks path order child
    opened = opening needs marks taken path order child walk inside new

    new_step : IsStep (path ++ child ∷ []) top child
    new_step = (last, get_start path child top last at_top, subst (λ p. slice_get (path ++ child ∷ []) p ≡ Some child) (sym end ∙ sym (add-one last)) (get_last path child))

    steps : (i j : ℕ) → IsStep (path ++ child ∷ []) i j → Needs needs i j
    steps i j (p, here, there) = go (get_pushed path child j (p + 1) there)
      where
        go : (slice_get path (p + 1) ≡ Some j) ⊎ ((p + 1 ≡ length path) × (child ≡ j)) → Needs needs i j
        go (inl old) = old_here (get_pushed path child i p here)
          where
            old_here : (slice_get path p ≡ Some i) ⊎ ((p ≡ length path) × (child ≡ i)) → Needs needs i j
            old_here (inl h) = walk.steps i j (p, h, old)
            old_here (inr (place, _)) = let far = slice_get_past path (p + 1) (omega (arith, place)) in absurd (cc)
        go (inr (place, e)) = at_end (get_pushed path child i p here)
          where
            same : p ≡ last
            same = omega (arith, place, end)

            at_end : (slice_get path p ≡ Some i) ⊎ ((p ≡ length path) × (child ≡ i)) → Needs needs i j
            at_end (inl h) =
                let top_is : Some top ≡ Some i = sym at_top ∙ ap (slice_get path) (sym same) ∙ h in
                let is : top ≡ i = cc in
                (taken_of taken top, subst (λ k. slice_get (needs_of needs k) (taken_of taken top) ≡ Some j) is (next ∙ ap Some e))
            at_end (inr (far, _)) = absurd (omega (arith, far, place))

    settled : (i k j : ℕ) → k < taken_of (slice_set taken top (taken_of taken top + 1)) i → slice_get (needs_of needs i) k ≡ Some j
        → (mark_of (slice_set marks child Open) j ≡ Done) ⊎ IsStep (path ++ child ∷ []) i j
    settled i k j below h = go (cases_eq i top)
      where
        old : k < taken_of taken i → (mark_of (slice_set marks child Open) j ≡ Done) ⊎ IsStep (path ++ child ∷ []) i j
        old small = elim (walk.settled i k j small h) [ inl done ↦ inl (opened.still_done j done) | inr step ↦ inr (step_front path child i j step) ]

        go : (i ≡ top) ⊎ (i ≢ top) → (mark_of (slice_set marks child Open) j ≡ Done) ⊎ IsStep (path ++ child ∷ []) i j
        go (inr ne) = old (rw (← taken_of-set_other taken top i (taken_of taken top + 1) ne) below)
        go (inl e) = by_place (cases_eq k (taken_of taken top))
          where
            most : k < taken_of taken top + 1
            most = rw (← taken_of-set taken top (taken_of taken top + 1) (rw walk.taken_size top_inside)) (subst (λ t. k < taken_of (slice_set taken top (taken_of taken top + 1)) t) e below)

            by_place : (k ≡ taken_of taken top) ⊎ (k ≢ taken_of taken top) → (mark_of (slice_set marks child Open) j ≡ Done) ⊎ IsStep (path ++ child ∷ []) i j
            by_place (inl same) =
                let there : slice_get (needs_of needs top) (taken_of taken top) ≡ Some j = subst (λ t. slice_get (needs_of needs t) (taken_of taken top) ≡ Some j) e (subst (λ n. slice_get (needs_of needs i) n ≡ Some j) same h) in
                let both : Some child ≡ Some j = sym next ∙ there in
                let is : child ≡ j = cc in
                inr (subst (λ t. IsStep (path ++ child ∷ []) t j) (sym e) (subst (IsStep (path ++ child ∷ []) top) is new_step))
            by_place (inr ne) = old (subst (λ t. k < taken_of taken t) (sym e) (omega (arith, most, ne)))

-- passing over a need of the last thing on the path that is done
pub skipped : (needs : List (List ℕ)) (marks : List Mark) (taken path order : List ℕ) (top child : ℕ) → IsWalk needs marks taken path order
    → slice_get (needs_of needs top) (taken_of taken top) ≡ Some child → top < length needs → mark_of marks child ≡ Done
    → IsWalk needs marks (slice_set taken top (taken_of taken top + 1)) path order
skipped needs marks taken path order top child walk next top_inside done =
    record {
      marks_size = walk.marks_size;
      taken_size = length-set taken top (taken_of taken top + 1) ∙ walk.taken_size;
      done_in = walk.done_in;
      in_done = walk.in_done;
      once = walk.once;
      behind = walk.behind;
      open_on = walk.open_on;
      on_open = walk.on_open;
      path_once = walk.path_once;
      steps = walk.steps;
      settled = settled;
    }
  where
    settled : (i k j : ℕ) → k < taken_of (slice_set taken top (taken_of taken top + 1)) i → slice_get (needs_of needs i) k ≡ Some j
        → (mark_of marks j ≡ Done) ⊎ IsStep path i j
    settled i k j below h = go (cases_eq i top)
      where
        go : (i ≡ top) ⊎ (i ≢ top) → (mark_of marks j ≡ Done) ⊎ IsStep path i j
        go (inr ne) = walk.settled i k j (rw (← taken_of-set_other taken top i (taken_of taken top + 1) ne) below) h
        go (inl e) = by_place (cases_eq k (taken_of taken top))
          where
            most : k < taken_of taken top + 1
            most = rw (← taken_of-set taken top (taken_of taken top + 1) (rw walk.taken_size top_inside)) (subst (λ t. k < taken_of (slice_set taken top (taken_of taken top + 1)) t) e below)

            by_place : (k ≡ taken_of taken top) ⊎ (k ≢ taken_of taken top) → (mark_of marks j ≡ Done) ⊎ IsStep path i j
            by_place (inl same) =
                let there : slice_get (needs_of needs top) (taken_of taken top) ≡ Some j = subst (λ t. slice_get (needs_of needs t) (taken_of taken top) ≡ Some j) e (subst (λ n. slice_get (needs_of needs i) n ≡ Some j) same h) in
                let both : Some child ≡ Some j = sym next ∙ there in
                let is : child ≡ j = cc in
                inl (ap (mark_of marks) (sym is) ∙ done)
            by_place (inr ne) = walk.settled i k j (subst (λ t. k < taken_of taken t) (sym e) (omega (arith, most, ne))) h

-- leaving the last thing on the path, all whose needs were taken: it goes to the end of the order
pub left : (needs : List (List ℕ)) (marks : List Mark) (taken front order : List ℕ) (top : ℕ) → IsWalk needs marks taken (front ++ top ∷ []) order
    → length (needs_of needs top) ≤ taken_of taken top → top < length needs
    → IsWalk needs (slice_set marks top Done) taken front (order ++ top ∷ [])
left needs marks taken front order top walk all_taken inside =
    record {
      marks_size = length-set marks top Done ∙ walk.marks_size;
      taken_size = walk.taken_size;
      done_in = done_in;
      in_done = in_done;
      once = once;
      behind = behind;
      open_on = open_on;
      on_open = on_open;
      path_once = λ p q i a b. walk.path_once p q i (get_start front top i p a) (get_start front top i q b);
      steps = λ i j step. walk.steps i j (step_front front top i j step);
      settled = settled;
    }
  where
    at_end : slice_get (front ++ top ∷ []) (length front) ≡ Some top
    at_end = get_last front top

    was_open : mark_of marks top ≡ Open
    was_open = walk.on_open (length front) top at_end

    now_done : mark_of (slice_set marks top Done) top ≡ Done
    now_done = mark_of-set marks top Done (rw walk.marks_size inside)

    kept : (i : ℕ) → i ≢ top → mark_of (slice_set marks top Done) i ≡ mark_of marks i
    kept i ne = mark_of-set_other marks top i Done ne

    still_done : (i : ℕ) → mark_of marks i ≡ Done → mark_of (slice_set marks top Done) i ≡ Done
    still_done i h = kept i (λ e. open_done (sym was_open ∙ ap (mark_of marks) (sym e) ∙ h)) ∙ h

    not_in : (p : ℕ) → slice_get order p ≢ Some top
    not_in p h = open_done (sym was_open ∙ walk.in_done p top h)

    done_in : (i : ℕ) → mark_of (slice_set marks top Done) i ≡ Done → (p : ℕ) × (slice_get (order ++ top ∷ []) p ≡ Some i)
    done_in i h = go (cases_eq top i)
      where
        go : (top ≡ i) ⊎ (top ≢ i) → (p : ℕ) × (slice_get (order ++ top ∷ []) p ≡ Some i)
        go (inl e) = (length order, get_last order top ∙ ap Some e)
        go (inr ne) = let old = walk.done_in i (sym (kept i (λ e. ne (sym e))) ∙ h) in (old.0, get_start order top i old.0 old.1)

    in_done : (p i : ℕ) → slice_get (order ++ top ∷ []) p ≡ Some i → mark_of (slice_set marks top Done) i ≡ Done
    in_done p i h = go (get_pushed order top i p h)
      where
        go : (slice_get order p ≡ Some i) ⊎ ((p ≡ length order) × (top ≡ i)) → mark_of (slice_set marks top Done) i ≡ Done
        go (inl old) = still_done i (walk.in_done p i old)
        go (inr (_, e)) = subst (λ k. mark_of (slice_set marks top Done) k ≡ Done) e now_done

    once : (p q i : ℕ) → slice_get (order ++ top ∷ []) p ≡ Some i → slice_get (order ++ top ∷ []) q ≡ Some i → p ≡ q
    once p q i hp hq = go (get_pushed order top i p hp) (get_pushed order top i q hq)
      where
        go : (slice_get order p ≡ Some i) ⊎ ((p ≡ length order) × (top ≡ i)) → (slice_get order q ≡ Some i) ⊎ ((q ≡ length order) × (top ≡ i)) → p ≡ q
        go (inl a) (inl b) = walk.once p q i a b
        go (inl a) (inr (_, e)) = absurd (not_in p (a ∙ ap Some (sym e)))
        go (inr (_, e)) (inl b) = absurd (not_in q (b ∙ ap Some (sym e)))
        go (inr (a, _)) (inr (b, _)) = a ∙ sym b

    -- what the last thing needs is done
    need_done : (j : ℕ) → Needs needs top j → mark_of marks j ≡ Done
    need_done j (k, h) = go (walk.settled top k j (omega (arith, all_taken, slice_get_within (needs_of needs top) k j h)) h)
      where
        go : (mark_of marks j ≡ Done) ⊎ IsStep (front ++ top ∷ []) top j → mark_of marks j ≡ Done
        go (inl done) = done
        go (inr (p, here, there)) =
            let same = walk.path_once p (length front) top here at_end in
            let far = slice_get_past (front ++ top ∷ []) (p + 1) (omega (arith, same, length-append front (top ∷ []))) in
            absurd (cc)

    behind : (p i j : ℕ) → slice_get (order ++ top ∷ []) p ≡ Some i → Needs needs i j → (q : ℕ) × (q < p) × (slice_get (order ++ top ∷ []) q ≡ Some j)
    behind p i j h need = go (get_pushed order top i p h)
      where
        go : (slice_get order p ≡ Some i) ⊎ ((p ≡ length order) × (top ≡ i)) → (q : ℕ) × (q < p) × (slice_get (order ++ top ∷ []) q ≡ Some j)
        go (inl old) = let before = walk.behind p i j old need in (before.0, before.1, get_start order top j before.0 before.2)
        go (inr (place, e)) =
            let there = walk.done_in j (need_done j (subst (λ t. Needs needs t j) (sym e) need)) in
            (there.0, rw place (slice_get_within order there.0 j there.1), get_start order top j there.0 there.1)

    open_on : (i : ℕ) → mark_of (slice_set marks top Done) i ≡ Open → (p : ℕ) × (slice_get front p ≡ Some i)
    open_on i h = go (cases_eq i top)
      where
        go : (i ≡ top) ⊎ (i ≢ top) → (p : ℕ) × (slice_get front p ≡ Some i)
        go (inl e) = absurd (done_open (sym now_done ∙ ap (mark_of (slice_set marks top Done)) (sym e) ∙ h))
        go (inr ne) = let old = walk.open_on i (sym (kept i ne) ∙ h) in by_place old.0 (get_pushed front top i old.0 old.1)
          where
            by_place : (p : ℕ) → (slice_get front p ≡ Some i) ⊎ ((p ≡ length front) × (top ≡ i)) → (q : ℕ) × (slice_get front q ≡ Some i)
            by_place p (inl there) = (p, there)
            by_place p (inr (_, e)) = absurd (ne (sym e))

    on_open : (p i : ℕ) → slice_get front p ≡ Some i → mark_of (slice_set marks top Done) i ≡ Open
    on_open p i h = kept i (λ e. clash (walk.path_once p (length front) top (get_start front top top p (h ∙ ap Some e)) at_end)) ∙ walk.on_open p i (get_start front top i p h)
      where
        clash : p ≡ length front → ⊥
        clash e = let inside_front = slice_get_within front p i h in omega (arith, e, inside_front)

    settled : (i k j : ℕ) → k < taken_of taken i → slice_get (needs_of needs i) k ≡ Some j → (mark_of (slice_set marks top Done) j ≡ Done) ⊎ IsStep front i j
    settled i k j below h = go (walk.settled i k j below h)
      where
        go : (mark_of marks j ≡ Done) ⊎ IsStep (front ++ top ∷ []) i j → (mark_of (slice_set marks top Done) j ≡ Done) ⊎ IsStep front i j
        go (inl done) = inl (still_done j done)
        go (inr (p, here, there)) = by_place (get_pushed front top j (p + 1) there) (get_pushed front top i p here)
          where
            by_place : (slice_get front (p + 1) ≡ Some j) ⊎ ((p + 1 ≡ length front) × (top ≡ j)) → (slice_get front p ≡ Some i) ⊎ ((p ≡ length front) × (top ≡ i)) → (mark_of (slice_set marks top Done) j ≡ Done) ⊎ IsStep front i j
            by_place (inl b) (inl a) = inr (p, a, b)
            by_place (inl b) (inr (place, _)) = let far = slice_get_past front (p + 1) (omega (arith, place)) in absurd (cc)
            by_place (inr (_, e)) a = inl (subst (λ t. mark_of (slice_set marks top Done) t ≡ Done) e now_done)

-- from a thing on the path the last one is reached
pub path_reaches : (needs : List (List ℕ)) (path : List ℕ) (i last p n : ℕ) → ((a b : ℕ) → IsStep path a b → Needs needs a b)
    → slice_get path p ≡ Some i → slice_get path (p + n + 1) ≡ Some last → Reaches needs i last
path_reaches needs path i last p zero steps here there =
    let place : p + 0 + 1 ≡ p + 1 = omega arith in
    itself i last (steps i last (p, here, rw (← place) there))
path_reaches needs path i last p (suc n) steps here there =
    let inside : p + 1 < length path = omega (arith, slice_get_within path (p + suc n + 1) last there) in
    let next = slice_get-get_or path (p + 1) 0 inside in
    let place : p + suc n + 1 ≡ p + 1 + n + 1 = omega arith in
    by_way i (get_or path (p + 1) 0) last (steps i (get_or path (p + 1) 0) (p, here, next))
    (path_reaches needs path (get_or path (p + 1) 0) last (p + 1) n steps next (rw (← place) there))

-- a thing that reaches another reaches what that one needs
pub reaches_further : (needs : List (List ℕ)) (a b c : ℕ) → Reaches needs a b → Needs needs b c → Reaches needs a c
reaches_further needs a b c (itself _ _ h) more = by_way a b c h (itself b c more)
reaches_further needs a b c (by_way _ j _ h rest) more = by_way a j c h (reaches_further needs j b c rest more)

-- an open thing that the last one on the path needs needs itself
pub cycle_found : (needs : List (List ℕ)) (marks : List Mark) (taken front order : List ℕ) (top child : ℕ) → IsWalk needs marks taken (front ++ top ∷ []) order
    → Needs needs top child → mark_of marks child ≡ Open → Reaches needs child child
cycle_found needs marks taken front order top child walk need is_open =
    let there = walk.open_on child is_open in
    by_place there.0 there.1 (get_pushed front top child there.0 there.1)
  where
    by_place : (p : ℕ) → slice_get (front ++ top ∷ []) p ≡ Some child → (slice_get front p ≡ Some child) ⊎ ((p ≡ length front) × (top ≡ child)) → Reaches needs child child
    by_place p h (inr (_, e)) = itself child child (subst (λ t. Needs needs t child) e need)
    by_place p h (inl a) =
        let inside = slice_get_within front p child a in
        let place : p + (length front - p - 1) + 1 ≡ length front = omega (arith, inside) in
        let reach = path_reaches needs (front ++ top ∷ []) child top p (length front - p - 1) walk.steps h (rw place (get_last front top)) in
        reaches_further needs child top child reach need
