-- The first item of a name, which every use of the name means.
use Rattle.std.specs.Prelude.{ℕ, List, ◌≡◌, Option, Some}
use Rattle.dslx_tree.specs.declared.item.Definition.{Definition}
use Rattle.dslx_meaning.specs.Items.{item_named}
use Rattle.dslx_meaning.specs.Rules.Namesakes.{told_apart}
use Rattle.dslx_check_facts.specs.declared.facts.Facts.{Facts}
use Rattle.dslx_check_facts.specs.Known.{item_at, item_names, text_of}

-- what the name means in the text, where items of one name are told apart
abbrev pub meant_by : Facts → List ℕ → Option Definition
meant_by f name = item_named name (told_apart (text_of f)).items

-- it is this item, of this number
pub record IsMeant (f : Facts) (name : List ℕ) (i : ℕ) (definition : Definition) : Type 0 where
  pub meant : meant_by f name ≡ Some definition
  pub at : item_at f i ≡ Some definition
  pub called : (item_names f).item i ≡ name
