-- What items are called, where those of one name are told apart.
use Rattle.std.proofs.Common.{◌≡◌, ℕ, Some, ap}
use Rattle.dslx_tree.specs.declared.item.Definition.{Definition}
use Rattle.dslx_meaning.specs.Items.{name_of_definition}
use Rattle.dslx_check_facts.specs.declared.facts.Facts.{Facts}
use Rattle.dslx_check_facts.specs.Known.{item_at, item_names}
use Rattle.dslx_check_facts.specs.Names.{name_or}

pub called : (f : Facts) (item : ℕ) (x : Definition) → item_at f item ≡ Some x → (item_names f).item item ≡ name_of_definition x
called f item x at = ap (name_or item) at
