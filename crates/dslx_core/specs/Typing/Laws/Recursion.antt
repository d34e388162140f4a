-- Texts in which recursion ends.
use Rattle.std.specs.Prelude.{◌≡◌, ℕ, List, false}
use Rattle.std.specs.List.{list_any}
use Rattle.dslx_tree.specs.declared.item.Module.{Module}
use Rattle.dslx_meaning.specs.Items.{item_named}
use Rattle.dslx_meaning.specs.Rules.Mentions.{mentions_of, is_cyclic}

-- no item mentions one that is the same or reaches it, which is what rule 3 refuses
abbrev pub HasNoCycle : Module → Type 0
HasNoCycle m = (owner : List ℕ) → list_any (is_cyclic m owner) (mentions_of m (item_named owner m.items)) ≡ false
