-- The work that a walk has left: needs that weren't taken, and things that aren't done.
use Rattle.std.specs.Prelude.{ℕ, ◌+◌, ◌-◌, List, [], ◌∷◌, length}
use Rattle.base.specs.declared.topo_order.walk.Mark.{Mark}
use Rattle.base.specs.declared.topo_order.walk.Mark.TheVariants.{Done}

abbrev pub needs_left : List (List ℕ) → List ℕ → ℕ
needs_left (needs ∷ others) (taken ∷ more) = (length needs - taken) + needs_left others more
needs_left _ _ = 0

abbrev pub undone : Mark → ℕ
undone Done = 0
undone _ = 1

abbrev pub things_left : List Mark → ℕ
things_left [] = 0
things_left (mark ∷ marks) = undone mark + things_left marks
