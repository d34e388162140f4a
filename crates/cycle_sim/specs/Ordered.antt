-- The assignments of a module in the order in which a simulator takes them.
use Rattle.std.specs.Prelude.{◌≡◌, ℕ, ◌<◌, List, [], ◌∷◌, length, slice_get, filter_map}
use Rattle.std.specs.List.{AllByRecursion}
use Rattle.vlog_tree.specs.declared.module.Assignment.{Assignment}

-- the assignments at these indices, in this order
abbrev pub taken : List Assignment → List ℕ → List Assignment
taken assignments indices = filter_map (slice_get assignments) indices
