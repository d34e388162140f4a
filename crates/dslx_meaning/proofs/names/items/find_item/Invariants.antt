use Rattle.std.proofs.Common.{◌≡◌, drop}
use Rattle.dslx_meaning.specs.Items.{item_named}
use Rattle.dslx_meaning.proofs.names.items.find_item.Given as goal

abbrev pub invariant-items : goal.invariant-items
invariant-items l = item_named l.name (drop l.item-index l.items) ≡ item_named l.name l.items
