-- What sorting answers.
use Rattle.std.specs.Prelude.{ℕ, List}
use Rattle.base.specs.declared.topo_order.sorting.Sorted.{Sorted}
use Rattle.base.specs.declared.topo_order.sorting.Sorted.TheVariants.{Order, Cycle}
use Rattle.base.specs.TopoOrder.Needs.{IsOrderOf, Reaches}

-- an order of all things, each behind what it needs, or a thing that needs itself
abbrev pub IsSorting : List (List ℕ) → Sorted → Type 0
IsSorting needs (Order order) = IsOrderOf needs order.items
IsSorting needs (Cycle thing) = Reaches needs thing thing
