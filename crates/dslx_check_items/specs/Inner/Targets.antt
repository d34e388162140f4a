-- The items that are mentioned, by number.
use Rattle.std.specs.Prelude.{ℕ, List, [], Option, None, if◌then◌else◌}
use Rattle.dslx_tree.specs.declared.item.Module.{Module}
use Rattle.dslx_meaning.specs.Items.{item_named}
use Rattle.dslx_meaning.specs.Rules.Mentions.{Mention, is_of_use}
use Rattle.dslx_check_items.specs.Items.{item_number}
use Rattle.dslx_check_items.specs.Reaching.{number_and}

-- the item that is mentioned, if it is of the kind that the use is of
abbrev pub target_of : Module → Mention → Option ℕ
target_of m n = if is_of_use n.use_as (item_named n.name m.items) then item_number n.name m.items else None

abbrev pub targets_of : Module → Mention → List ℕ
targets_of m n = number_and (target_of m n) []
