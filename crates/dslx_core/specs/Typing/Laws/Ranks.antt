-- Items by what lies below them, where items that reach one another stand beside one another.
use Rattle.std.specs.Prelude.{◌≡◌, ◌&&◌, ℕ, zero, suc, List, Bool, true, not}
use Rattle.dslx_tree.specs.declared.item.Module.{Module}
use Rattle.dslx_meaning.specs.Rules.Mentions.{item_reaches}

-- the first item reaches the second one, which doesn't reach it
abbrev pub is_above : Module → List ℕ → List ℕ → Bool
is_above m name below = item_reaches m name below && not (item_reaches m below name)

-- no chain of items from this one, each of which is above the next, has more than so many
abbrev pub Ranked : Module → ℕ → List ℕ → Type 0
Ranked m zero name = ⊥
Ranked m (suc k) name = (below : List ℕ) → is_above m name below ≡ true → Ranked m k below
