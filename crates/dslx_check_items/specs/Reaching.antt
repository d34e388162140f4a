-- Which items reach which, by number.
use Rattle.std.specs.Prelude.{◌≡◌, ℕ, List, [], ◌∷◌, map, length, slice_get, Bool, Option, Some, None, MatchBool}
use Rattle.base.specs.TopoOrder.Needs.{AreGroups, Reaches}
use Rattle.dslx_tree.specs.declared.item.Definition.{Definition}
use Rattle.dslx_tree.specs.declared.item.Item.{Item}
use Rattle.dslx_tree.specs.declared.item.Module.{Module}
use Rattle.dslx_meaning.specs.Rules.Mentions.{mentions_of}
use Rattle.dslx_check_items.specs.Items.{definition_of, item_number}
use Rattle.dslx_check_items.specs.declared.reaching.Reaching.{Reaching}

-- a number, if there is one, and others
abbrev pub number_and : Option ℕ → List ℕ → List ℕ
number_and None numbers = numbers
number_and (Some n) numbers = n ∷ numbers

-- the numbers of the items of these names
abbrev pub numbers_named : List Item → List (List ℕ) → List ℕ
numbers_named items [] = []
numbers_named items (name ∷ names) = number_and (item_number name items) (numbers_named items names)

-- the items that the text of an item mentions
abbrev pub definition_needs : Module → Definition → List ℕ
definition_needs m x = numbers_named m.items (mentions_of m (Some x))

-- of each item the items that its text mentions
abbrev pub item_needs : Module → List (List ℕ)
item_needs m = map (definition_needs m) (map definition_of m.items)

pub record AreReached (needs : List (List ℕ)) (reached : Reaching) : Type 0 where
  pub kept : reached.needs.items ≡ needs
  pub groups : AreGroups needs reached.groups.items
  pub size : length reached.loops.items ≡ length needs
  pub loops : (i : ℕ) (does : Bool) → slice_get reached.loops.items i ≡ Some does → MatchBool does (Reaches needs i i) (¬ (Reaches needs i i))
