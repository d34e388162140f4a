-- The work that is left gets less with each step.
use Rattle.std.proofs.Common.{◌≡◌, ◌≢◌, ℕ, zero, suc, ◌+◌, ◌<◌, ◌≤◌, List, [], ◌∷◌, ◌++◌, length, length-append, refl, sym, ap, ◌∙◌, subst, ◌⊎◌, inl, inr, arith}
use Rattle.std.proofs.lemmas.Bool.{cases_eq}
use Rattle.std.specs.Prelude.{slice_get, slice_set, Some, None}
use Rattle.std.proofs.lemmas.Option.{slice_get_within}
use Rattle.base.specs.declared.topo_order.walk.Mark.{Mark}
use Rattle.base.specs.declared.topo_order.walk.Mark.TheVariants.{New, Open, Done}
use Rattle.base.specs.TopoOrder.Needs.{needs_of}
use Rattle.base.specs.TopoOrder.Inner.Walk.{mark_of, taken_of, IsWalk, GoOn}
use Rattle.base.proofs.OnTopoOrder.Steps.{get_last, mark_of-set, mark_of-set_other}
use Rattle.base.specs.TopoOrder.Inner.Work.{needs_left, things_left}

-- taking a need leaves one less
pub one_taken : (needs : List (List ℕ)) (taken : List ℕ) (i child : ℕ) → length taken ≡ length needs → slice_get (needs_of needs i) (taken_of taken i) ≡ Some child
    → needs_left needs (slice_set taken i (taken_of taken i + 1)) < needs_left needs taken
one_taken [] taken i child same h = cc
one_taken (ns ∷ needs) [] i child same h = absurd (omega arith)
one_taken (ns ∷ needs) (t ∷ taken) zero child same h = let inside = slice_get_within ns t child h in omega arith
one_taken (ns ∷ needs) (t ∷ taken) (suc i) child same h = let rest = one_taken needs taken i child (omega arith) h in omega arith

-- opening a new thing leaves as many that aren't done
pub as_many : (marks : List Mark) (i : ℕ) → mark_of marks i ≡ New → things_left (slice_set marks i Open) ≡ things_left marks
as_many [] i h = refl
as_many (New ∷ marks) zero h = refl
as_many (Open ∷ marks) zero h = cc
as_many (Done ∷ marks) zero h = cc
as_many (m ∷ marks) (suc i) h = let rest = as_many marks i h in omega arith

-- having done with an open thing leaves one less
pub one_done : (marks : List Mark) (i : ℕ) → mark_of marks i ≡ Open → things_left (slice_set marks i Done) < things_left marks
one_done [] i h = cc
one_done (New ∷ marks) zero h = cc
one_done (Open ∷ marks) zero h = omega arith
one_done (Done ∷ marks) zero h = cc
one_done (m ∷ marks) (suc i) h = let rest = one_done marks i h in omega arith

-- a thing that isn't new is among the things
pub known_inside : (marks : List Mark) (i : ℕ) → mark_of marks i ≢ New → i < length marks
known_inside [] i h = absurd (h refl)
known_inside (m ∷ marks) zero h = omega arith
known_inside (m ∷ marks) (suc i) h = let rest = known_inside marks i h in omega arith

-- what is known of the last thing on the path
pub record IsLast (needs : List (List ℕ)) (marks : List Mark) (taken path : List ℕ) (front : List ℕ) (top : ℕ) : Type 0 where
  pub place : slice_get path (length front) ≡ Some top
  pub end : suc (length front) ≡ length path
  pub opened : mark_of marks top ≡ Open
  pub in_marks : top < length marks
  pub in_taken : top < length taken
  pub in_needs : top < length needs

pub last_known : (needs : List (List ℕ)) (marks : List Mark) (taken path order front : List ℕ) (top : ℕ) → IsWalk needs marks taken path order
    → path ≡ front ++ top ∷ [] → IsLast needs marks taken path front top
last_known needs marks taken path order front top walk is =
    let place : slice_get path (length front) ≡ Some top = rw is (get_last front top) in
    let opened = walk.on_open (length front) top place in
    let inside = known_inside marks top (λ e. let wrong : Open ≡ New = sym opened ∙ e in cc) in
    record {
      place = place;
      end = rw (is, length-append front (top ∷ [])) (omega arith);
      opened = opened;
      in_marks = inside;
      in_taken = rw (walk.taken_size, ← walk.marks_size) inside;
      in_needs = rw (← walk.marks_size) inside;
    }

-- opening a new thing makes nothing new, and leaves what is done
pub goes_on_open : (marks : List Mark) (i : ℕ) → i < length marks → mark_of marks i ≡ New → GoOn marks (slice_set marks i Open)
goes_on_open marks i inside new = record { done = λ j done. kept j (λ e. let wrong : New ≡ Done = sym new ∙ ap (mark_of marks) (sym e) ∙ done in cc) ∙ done; begun = begun }
  where
    kept : (j : ℕ) → j ≢ i → mark_of (slice_set marks i Open) j ≡ mark_of marks j
    kept j ne = mark_of-set_other marks i j Open ne

    begun : (j : ℕ) → mark_of marks j ≢ New → mark_of (slice_set marks i Open) j ≢ New
    begun j old = go (cases_eq i j)
      where
        go : (i ≡ j) ⊎ (i ≢ j) → mark_of (slice_set marks i Open) j ≢ New
        go (inl e) = λ h. let wrong : Open ≡ New = sym (mark_of-set marks i Open inside) ∙ ap (mark_of (slice_set marks i Open)) e ∙ h in cc
        go (inr ne) = λ h. old (sym (kept j (λ e. ne (sym e))) ∙ h)

pub goes_on_done : (marks : List Mark) (i : ℕ) → i < length marks → GoOn marks (slice_set marks i Done)
goes_on_done marks i inside = record { done = done; begun = begun }
  where
    kept : (j : ℕ) → j ≢ i → mark_of (slice_set marks i Done) j ≡ mark_of marks j
    kept j ne = mark_of-set_other marks i j Done ne

    done : (j : ℕ) → mark_of marks j ≡ Done → mark_of (slice_set marks i Done) j ≡ Done
    done j old = go (cases_eq i j)
      where
        go : (i ≡ j) ⊎ (i ≢ j) → mark_of (slice_set marks i Done) j ≡ Done
        go (inl e) = subst (λ k. mark_of (slice_set marks i Done) k ≡ Done) e (mark_of-set marks i Done inside)
        go (inr ne) = kept j (λ e. ne (sym e)) ∙ old

    begun : (j : ℕ) → mark_of marks j ≢ New → mark_of (slice_set marks i Done) j ≢ New
    begun j old = go (cases_eq i j)
      where
        go : (i ≡ j) ⊎ (i ≢ j) → mark_of (slice_set marks i Done) j ≢ New
        go (inl e) = λ h. let wrong : Done ≡ New = sym (mark_of-set marks i Done inside) ∙ ap (mark_of (slice_set marks i Done)) e ∙ h in cc
        go (inr ne) = λ h. old (sym (kept j (λ e. ne (sym e))) ∙ h)

pub goes_on_same : (marks : List Mark) → GoOn marks marks
goes_on_same marks = record { done = λ i h. h; begun = λ i h. h }

-- a thing is among the marks
pub inside_marks : (needs : List (List ℕ)) (marks : List Mark) (taken path order : List ℕ) (i : ℕ) → IsWalk needs marks taken path order → i < length needs → i < length marks
inside_marks needs marks taken path order i walk inside = rw walk.marks_size inside

-- where there is no next need, all were taken
pub all_taken : (needs : List (List ℕ)) (taken : List ℕ) (i : ℕ) → slice_get (needs_of needs i) (taken_of taken i) ≡ None → length (needs_of needs i) ≤ taken_of taken i
all_taken needs taken i none = past (needs_of needs i) (taken_of taken i) none
  where
    past : (xs : List ℕ) (k : ℕ) → slice_get xs k ≡ None → length xs ≤ k
    past [] k h = omega arith
    past (x ∷ xs) zero h = cc
    past (x ∷ xs) (suc k) h = let rest = past xs k h in omega arith
