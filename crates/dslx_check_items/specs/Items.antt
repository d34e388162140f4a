-- The items of a text by number.
use Rattle.std.specs.Prelude.{ℕ, suc, List, [], ◌∷◌, Option, Some, None, if◌then◌else◌}
use Rattle.std.specs.Option.{option_map}
use Rattle.std.specs.Str.{bytes_eq}
use Rattle.dslx_tree.specs.declared.item.Item.{Item}
use Rattle.dslx_tree.specs.declared.item.Definition.{Definition}
use Rattle.dslx_tree.specs.declared.item.Definition.TheVariants as d
use Rattle.dslx_tree.specs.declared.process.Proc.{Proc}
use Rattle.dslx_meaning.specs.Items.{name_of_definition}

abbrev pub definition_of : Item → Definition
definition_of i = i.definition

-- the number of the first item of a name, which every use of the name means
abbrev pub item_number : List ℕ → List Item → Option ℕ
item_number name [] = None
item_number name (i ∷ is) = if bytes_eq name (name_of_definition i.definition) then Some 0 else option_map suc (item_number name is)

abbrev pub as_proc : Option Definition → Option Proc
as_proc (Some (d.Proc p)) = Some p
as_proc _ = None
