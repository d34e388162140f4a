-- A walk that gathers what it meets into groups of things each of which needs each other, in the middle of it. Things that
-- are open stand on a stack, as they were met; those whose needs are still taken stand on the path too; a group is the part of
-- the stack from one start to the next.
use Rattle.std.specs.Prelude.{◌≡◌, ◌≢◌, ℕ, ◌<◌, ◌≤◌, ◌⊎◌, Bool, true, false, List, [], ◌∷◌, ◌++◌, length, slice_get, slice_set, Some, unwrap_or}
use Rattle.base.specs.declared.topo_order.walk.Mark.{Mark}
use Rattle.base.specs.declared.topo_order.walk.Mark.TheVariants.{New, Open, Done}
use Rattle.base.specs.declared.topo_order.groups.Groups.{Groups}
use Rattle.base.specs.TopoOrder.Needs.{needs_of, Reaches}
use Rattle.base.specs.TopoOrder.Inner.Walk.{mark_of, taken_of}

-- where an open thing stands on the stack
abbrev pub position_of : List ℕ → ℕ → ℕ
position_of positions i = unwrap_or (slice_get positions i) 0

-- a thing is known to need itself
abbrev pub flag_of : List Bool → ℕ → Bool
flag_of loops i = unwrap_or (slice_get loops i) false

-- no group begins behind position p and up to position o
abbrev pub IsNotBelow : List ℕ → ℕ → ℕ → Type 0
IsNotBelow starts o p = (q b : ℕ) → slice_get starts q ≡ Some b → b ≤ o → b ≤ p

-- both things are open, and thing j stands in the group of thing i or in a later one
pub record IsOpenAbove (marks : List Mark) (positions starts : List ℕ) (i j : ℕ) : Type 0 where
  pub first : mark_of marks i ≡ Open
  pub second : mark_of marks j ≡ Open
  pub above : IsNotBelow starts (position_of positions i) (position_of positions j)

pub record IsGrouping (needs : List (List ℕ)) (marks : List Mark) (taken positions path stack starts : List ℕ) (loops : List Bool) : Type 0 where
  pub marks_size : length marks ≡ length needs
  pub taken_size : length taken ≡ length needs
  pub positions_size : length positions ≡ length needs
  pub loops_size : length loops ≡ length needs
  -- the stack has the open things, each at its position
  pub open_on : (i : ℕ) → mark_of marks i ≡ Open → slice_get stack (position_of positions i) ≡ Some i
  pub on_open : (p i : ℕ) → slice_get stack p ≡ Some i → mark_of marks i ≡ Open
  pub placed : (p i : ℕ) → slice_get stack p ≡ Some i → position_of positions i ≡ p
  -- the path has some of them, in the same order
  pub path_open : (k i : ℕ) → slice_get path k ≡ Some i → mark_of marks i ≡ Open
  pub path_rises : (k l i j : ℕ) → k < l → slice_get path k ≡ Some i → slice_get path l ≡ Some j → position_of positions i < position_of positions j
  -- each group begins at a thing of the path, and each open thing stands in one
  pub starts_rise : (q r b c : ℕ) → q < r → slice_get starts q ≡ Some b → slice_get starts r ≡ Some c → b < c
  pub begins : (q b : ℕ) → slice_get starts q ≡ Some b → (k : ℕ) × (i : ℕ) × (slice_get path k ≡ Some i) × (position_of positions i ≡ b)
  pub grouped : (p i : ℕ) → slice_get stack p ≡ Some i → (q : ℕ) × (b : ℕ) × (slice_get starts q ≡ Some b) × (b ≤ p)
  -- a thing reaches all above it, and those of its group below it
  pub down : (p q i j : ℕ) → p < q → slice_get stack p ≡ Some i → slice_get stack q ≡ Some j → Reaches needs i j
  pub up : (p q i j : ℕ) → p < q → slice_get stack p ≡ Some i → slice_get stack q ≡ Some j → IsNotBelow starts q p → Reaches needs j i
  -- needs that were taken, and things that have no more
  pub settled : (i k j : ℕ) → k < taken_of taken i → slice_get (needs_of needs i) k ≡ Some j → (mark_of marks j ≡ Done) ⊎ IsOpenAbove marks positions starts i j
  pub finished : (i : ℕ) → mark_of marks i ≢ New → ((k : ℕ) → slice_get path k ≢ Some i) → length (needs_of needs i) ≤ taken_of taken i
  -- what is known to need itself, and what doesn't
  pub sound : (i : ℕ) → flag_of loops i ≡ true → Reaches needs i i
  pub noticed : (i k : ℕ) → k < taken_of taken i → slice_get (needs_of needs i) k ≡ Some i → flag_of loops i ≡ true
  pub free : (i : ℕ) → mark_of marks i ≡ Done → flag_of loops i ≡ false → ¬ (Reaches needs i i)

-- each start stands behind those before it
abbrev pub Rises : List ℕ → Type 0
Rises starts = (q r b c : ℕ) → q < r → slice_get starts q ≡ Some b → slice_get starts r ≡ Some c → b < c

-- the last start, if there is one, isn't at this position
abbrev pub IsNoLast : List ℕ → ℕ → Type 0
IsNoLast starts at = (front : List ℕ) (b : ℕ) → starts ≡ front ++ b ∷ [] → b ≢ at

-- the groups that begin behind position `at` have become one with the last one before
pub record AreJoined (starts joined : List ℕ) (at : ℕ) : Type 0 where
  pub kept : (q b : ℕ) → slice_get starts q ≡ Some b → b ≤ at → slice_get joined q ≡ Some b
  pub only : (q b : ℕ) → slice_get joined q ≡ Some b → (slice_get starts q ≡ Some b) × (b ≤ at)

-- the marks once these things are done
abbrev pub all_done : List ℕ → List Mark → List Mark
all_done [] marks = marks
all_done (i ∷ things) marks = all_done things (slice_set marks i Done)

-- what is known once these things are known to need themselves
abbrev pub all_flagged : List ℕ → List Bool → List Bool
all_flagged [] loops = loops
all_flagged (i ∷ things) loops = all_flagged things (slice_set loops i true)

-- where the walk stands
abbrev pub IsGroups : List (List ℕ) → Groups → Type 0
IsGroups needs g = IsGrouping needs g.marks.items g.taken.items g.positions.items g.path.items g.stack.items g.starts.items g.loops.items
