use Rattle.std.proofs.Common.{◌≡◌, ℕ, List, take}
use Rattle.base.specs.NameTable.Found.{found}
use Rattle.dslx_check_items.specs.Items.{item_number}
use Rattle.dslx_check_items.proofs.table.first_of_each.Given as goal

abbrev pub invariant-items : goal.invariant-items
invariant-items l = (name : List ℕ) → found l.firsts name ≡ item_number name (take l.i l.items)
