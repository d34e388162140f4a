-- What the groups that a walk has done with are called: each by the thing at which it began.
use Rattle.std.specs.Prelude.{◌≡◌, ℕ, List, [], ◌∷◌, length, slice_get, slice_set, unwrap_or}
use Rattle.base.specs.declared.topo_order.walk.Mark.{Mark}
use Rattle.base.specs.declared.topo_order.walk.Mark.TheVariants.{Done}
use Rattle.base.specs.declared.topo_order.groups.Groups.{Groups}
use Rattle.base.specs.TopoOrder.Needs.{AreMutual}
use Rattle.base.specs.TopoOrder.Inner.Walk.{mark_of}

-- the thing at which the group of a thing began
abbrev pub number_of : List ℕ → ℕ → ℕ
number_of numbers i = unwrap_or (slice_get numbers i) 0

pub record IsNumbering (needs : List (List ℕ)) (marks : List Mark) (numbers : List ℕ) : Type 0 where
  pub size : length numbers ≡ length needs
  pub done : (i : ℕ) → mark_of marks i ≡ Done → mark_of marks (number_of numbers i) ≡ Done
  pub inside : (i : ℕ) → mark_of marks i ≡ Done → AreMutual needs i (number_of numbers i)
  pub one : (i j : ℕ) → mark_of marks i ≡ Done → mark_of marks j ≡ Done → AreMutual needs i j → number_of numbers i ≡ number_of numbers j

-- the numbers once these things are a group that began at this one
abbrev pub all_numbered : List ℕ → ℕ → List ℕ → List ℕ
all_numbered [] first numbers = numbers
all_numbered (i ∷ things) first numbers = all_numbered things first (slice_set numbers i first)

-- what is done has the number of its group
abbrev pub AreNumbered : List (List ℕ) → Groups → Type 0
AreNumbered needs g = IsNumbering needs g.marks.items g.numbers.items
