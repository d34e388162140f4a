-- The three kinds of step, as the code makes them.
use Rattle.std.proofs.Common.{◌≡◌, ◌≢◌, ℕ, zero, suc, ◌+◌, ◌<◌, List, [], ◌∷◌, ◌++◌, length, sym, ap, ◌∙◌, subst, arith}
use Rattle.std.specs.Prelude.{slice_get, slice_set, replicate, Some, None}
use Rattle.base.specs.declared.topo_order.walk.Mark.{Mark}
use Rattle.base.specs.declared.topo_order.walk.Mark.TheVariants.{New, Open, Done}
use Rattle.std.proofs.lemmas.List.{length-replicate}
use Rattle.base.specs.TopoOrder.Needs.{needs_of, IsOrderOf}
use Rattle.base.specs.TopoOrder.Inner.Walk.{mark_of, taken_of, IsWalk, GoOn}
use Rattle.base.specs.TopoOrder.Inner.Work.{needs_left, things_left}
use Rattle.base.proofs.OnTopoOrder.Steps.{mark_of-set, begun, entered, skipped, left}
use Rattle.base.proofs.OnTopoOrder.Work.{known_inside, last_known, inside_marks, all_taken, one_taken, as_many, one_done, goes_on_open, goes_on_done, goes_on_same}

-- a walk that has gone on, with less left to do
pub record HasStepped (needs : List (List ℕ)) (marks : List Mark) (taken : List ℕ) (marks' : List Mark) (taken' path' order' : List ℕ) : Type 0 where
  pub walk : IsWalk needs marks' taken' path' order'
  pub on : GoOn marks marks'
  pub less : needs_left needs taken' + things_left marks' < needs_left needs taken + things_left marks

pub step_enter : (needs : List (List ℕ)) (marks : List Mark) (taken path order front : List ℕ) (top child : ℕ) (marks' : List Mark) (taken' path' order' : List ℕ)
    → IsWalk needs marks taken path order → path ≡ front ++ top ∷ [] → child < length needs
    → slice_get (needs_of needs top) (taken_of taken top) ≡ Some child → mark_of marks child ≡ New
    → marks' ≡ slice_set marks child Open → taken' ≡ slice_set taken top (taken_of taken top + 1) → path' ≡ path ++ child ∷ [] → order' ≡ order
    → HasStepped needs marks taken marks' taken' path' order'
step_enter needs marks taken path order front top child marks' taken' path' order' walk is inside next new em et ep eo =
    let last = last_known needs marks taken path order front top walk is in
    let done = entered needs marks taken path order (length front) top child walk last.end last.place next last.in_needs inside new in
    let within = inside_marks needs marks taken path order child walk inside in
    let fewer = one_taken needs taken top child walk.taken_size next in
    let same = as_many marks child new in
    record {
      walk = rw (em, et, ep, eo) done;
      on = rw em (goes_on_open marks child within new);
      less = rw (em, et, same) (omega (arith, fewer));
    }

pub step_skip : (needs : List (List ℕ)) (marks : List Mark) (taken path order front : List ℕ) (top child : ℕ) (marks' : List Mark) (taken' path' order' : List ℕ)
    → IsWalk needs marks taken path order → path ≡ front ++ top ∷ []
    → slice_get (needs_of needs top) (taken_of taken top) ≡ Some child → mark_of marks child ≡ Done
    → marks' ≡ marks → taken' ≡ slice_set taken top (taken_of taken top + 1) → path' ≡ path → order' ≡ order
    → HasStepped needs marks taken marks' taken' path' order'
step_skip needs marks taken path order front top child marks' taken' path' order' walk is next done em et ep eo =
    let last = last_known needs marks taken path order front top walk is in
    let fewer = one_taken needs taken top child walk.taken_size next in
    record {
      walk = rw (em, et, ep, eo) (skipped needs marks taken path order top child walk next last.in_needs done);
      on = rw em (goes_on_same marks);
      less = rw (em, et) (omega (arith, fewer));
    }

pub step_leave : (needs : List (List ℕ)) (marks : List Mark) (taken path order front front' : List ℕ) (top : ℕ) (marks' : List Mark) (taken' path' order' : List ℕ)
    → IsWalk needs marks taken path order → path ≡ front ++ top ∷ [] → path ≡ front' ++ top ∷ []
    → slice_get (needs_of needs top) (taken_of taken top) ≡ None
    → marks' ≡ slice_set marks top Done → taken' ≡ taken → path' ≡ front' → order' ≡ order ++ top ∷ []
    → HasStepped needs marks taken marks' taken' path' order'
step_leave needs marks taken path order front front' top marks' taken' path' order' walk is is' none em et ep eo =
    let last = last_known needs marks taken path order front top walk is in
    let walk_at : IsWalk needs marks taken (front' ++ top ∷ []) order = rw (← is') walk in
    let fewer = one_done marks top last.opened in
    record {
      walk = rw (em, et, ep, eo) (left needs marks taken front' order top walk_at (all_taken needs taken top none) last.in_needs);
      on = rw em (goes_on_done marks top last.in_marks);
      less = rw (em, et) (omega (arith, fewer));
    }

-- a walk that has begun at a thing
pub record HasBegun (needs : List (List ℕ)) (marks : List Mark) (root : ℕ) (marks' : List Mark) (taken' path' order' : List ℕ) : Type 0 where
  pub walk : IsWalk needs marks' taken' path' order'
  pub on : GoOn marks marks'
  pub begun : mark_of marks' root ≢ New

pub step_begin : (needs : List (List ℕ)) (marks : List Mark) (taken path order : List ℕ) (root : ℕ) (marks' : List Mark) (taken' path' order' : List ℕ)
    → IsWalk needs marks taken path order → path ≡ [] → root < length needs → mark_of marks root ≡ New
    → marks' ≡ slice_set marks root Open → taken' ≡ taken → path' ≡ path ++ root ∷ [] → order' ≡ order
    → HasBegun needs marks root marks' taken' path' order'
step_begin needs marks taken path order root marks' taken' path' order' walk empty inside new em et ep eo =
    let walk_at : IsWalk needs marks taken [] order = subst (λ p. IsWalk needs marks taken p order) empty walk in
    let within = inside_marks needs marks taken path order root walk inside in
    let here : path' ≡ root ∷ [] = ep ∙ ap (λ p. p ++ root ∷ []) empty in
    record {
      walk = rw (em, et, here, eo) (begun needs marks taken order root walk_at inside new);
      on = rw em (goes_on_open marks root within new);
      begun = rw em (λ h. let wrong : Open ≡ New = sym (mark_of-set marks root Open within) ∙ h in cc);
    }

-- before its first step a walk is one
pub started : (needs : List (List ℕ)) (marks : List Mark) (taken path order : List ℕ) → marks ≡ replicate (length needs) New → taken ≡ replicate (length needs) 0
    → path ≡ [] → order ≡ [] → IsWalk needs marks taken path order
started needs marks taken path order em et ep eo = rw (em, et, ep, eo) (record {
  marks_size = length-replicate (length needs) New;
  taken_size = length-replicate (length needs) 0;
  done_in = λ i h. absurd (fresh (length needs) i Done h (λ e. cc));
  in_done = λ p i h. cc;
  once = λ p q i h g. cc;
  behind = λ p i j h n. cc;
  open_on = λ i h. absurd (fresh (length needs) i Open h (λ e. cc));
  on_open = λ p i h. cc;
  path_once = λ p q i h g. cc;
  steps = λ i j (p, h, g). cc;
  settled = λ i k j below h. absurd (none_taken (length needs) i k below);
})
  where
    fresh : (n i : ℕ) (m : Mark) → mark_of (replicate n New) i ≡ m → m ≢ New → ⊥
    fresh zero i m h ne = ne (sym h)
    fresh (suc n) zero m h ne = ne (sym h)
    fresh (suc n) (suc i) m h ne = fresh n i m h ne

    none_taken : (n i k : ℕ) → k < taken_of (replicate n 0) i → ⊥
    none_taken zero i k h = omega (arith, h)
    none_taken (suc n) zero k h = omega (arith, h)
    none_taken (suc n) (suc i) k h = none_taken n i k h

-- where all things are done, the order is one of all things
pub order_of_all : (needs : List (List ℕ)) (marks : List Mark) (taken path order : List ℕ) → IsWalk needs marks taken path order
    → ((i : ℕ) → i < length needs → mark_of marks i ≡ Done) → IsOrderOf needs order
order_of_all needs marks taken path order walk done = record {
  all = λ i inside. walk.done_in i (done i inside);
  within = λ p i h. rw (← walk.marks_size) (known_inside marks i (λ e. let wrong : Done ≡ New = sym (walk.in_done p i h) ∙ e in cc));
  once = walk.once;
  behind = walk.behind;
}
