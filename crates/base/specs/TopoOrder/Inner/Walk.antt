-- A walk over needs, in the middle of it: a path of things each of which needs the next, and an order of those that the
-- walk has done with.
use Rattle.std.specs.Prelude.{◌≡◌, ◌≢◌, ℕ, ◌+◌, ◌<◌, ◌⊎◌, List, length, slice_get, Some, unwrap_or}
use Rattle.base.specs.declared.topo_order.walk.Mark.{Mark}
use Rattle.base.specs.declared.topo_order.walk.Mark.TheVariants.{New, Open, Done}
use Rattle.base.specs.TopoOrder.Needs.{needs_of, Needs}

abbrev pub mark_of : List Mark → ℕ → Mark
mark_of marks i = unwrap_or (slice_get marks i) New

abbrev pub taken_of : List ℕ → ℕ → ℕ
taken_of taken i = unwrap_or (slice_get taken i) 0

-- what is done stays so
abbrev pub StayDone : List Mark → List Mark → Type 0
StayDone old new = (i : ℕ) → mark_of old i ≡ Done → mark_of new i ≡ Done

-- what is done stays so, and nothing gets new
pub record GoOn (old new : List Mark) : Type 0 where
  pub done : StayDone old new
  pub begun : (i : ℕ) → mark_of old i ≢ New → mark_of new i ≢ New

-- thing i stands on the path right before thing j
abbrev pub IsStep : List ℕ → ℕ → ℕ → Type 0
IsStep path i j = (p : ℕ) × (slice_get path p ≡ Some i) × (slice_get path (p + 1) ≡ Some j)

-- a walk that has taken so many needs of each thing
pub record IsWalk (needs : List (List ℕ)) (marks : List Mark) (taken path order : List ℕ) : Type 0 where
  pub marks_size : length marks ≡ length needs
  pub taken_size : length taken ≡ length needs
  -- the order is of things that are done, each once, behind all that it needs
  pub done_in : (i : ℕ) → mark_of marks i ≡ Done → (p : ℕ) × (slice_get order p ≡ Some i)
  pub in_done : (p i : ℕ) → slice_get order p ≡ Some i → mark_of marks i ≡ Done
  pub once : (p q i : ℕ) → slice_get order p ≡ Some i → slice_get order q ≡ Some i → p ≡ q
  pub behind : (p i j : ℕ) → slice_get order p ≡ Some i → Needs needs i j → (q : ℕ) × (q < p) × (slice_get order q ≡ Some j)
  -- the path is of things that are open, each once, each needing the next
  pub open_on : (i : ℕ) → mark_of marks i ≡ Open → (p : ℕ) × (slice_get path p ≡ Some i)
  pub on_open : (p i : ℕ) → slice_get path p ≡ Some i → mark_of marks i ≡ Open
  pub path_once : (p q i : ℕ) → slice_get path p ≡ Some i → slice_get path q ≡ Some i → p ≡ q
  pub steps : (i j : ℕ) → IsStep path i j → Needs needs i j
  -- a need that was taken is done, or the next thing on the path
  pub settled : (i k j : ℕ) → k < taken_of taken i → slice_get (needs_of needs i) k ≡ Some j → (mark_of marks j ≡ Done) ⊎ IsStep path i j
