-- What the items of a text are called where those of one name are told apart. Code has items by their numbers.
use Rattle.std.specs.Prelude.{ℕ, suc, List, [], ◌∷◌, ◌+◌, ◌<◌, ◌≡◌, map, Option, Some, None, slice_get}
use Rattle.std.specs.List.{AllByRecursion}
use Rattle.dslx_tree.specs.declared.item.Definition.{Definition}
use Rattle.dslx_tree.specs.declared.item.Item.{Item}
use Rattle.dslx_tree.specs.declared.item.Module.{Module}
use Rattle.dslx_tree.specs.declared.item.Struct.{Struct}
use Rattle.dslx_meaning.specs.Lists.{and_then}
use Rattle.dslx_meaning.specs.Items.{name_of_definition, name_of_field, as_struct}
use Rattle.dslx_meaning.specs.Rules.Mentions.{Mention, definition_mentions}
use Rattle.dslx_meaning.specs.Rules.Namesakes.{mark, told_apart}
use Rattle.dslx_check_rules.specs.Interned.{ItemNames}

-- the item of a number
abbrev pub definition_at : List Item → ℕ → Option Definition
definition_at items i = and_then (slice_get items i) (λ (item : Item). Some item.definition)

-- a number past the items has a name that no item has
abbrev pub name_or : ℕ → Option Definition → List ℕ
name_or i None = (mark + suc i) ∷ []
name_or i (Some d) = name_of_definition d

abbrev pub name_at : List Item → ℕ → List ℕ
name_at items i = name_or i (definition_at items i)

abbrev pub field_names : Option Struct → List (List ℕ)
field_names None = []
field_names (Some s) = map name_of_field s.fields

-- items of one name are told apart
abbrev pub names_of : Module → ItemNames
names_of text = record {
  item = name_at (told_apart text).items;
  fields = λ i. field_names (as_struct (definition_at (told_apart text).items i));
}

-- the name has no mark, as none that stands in a text has
abbrev pub IsUnmarked : List ℕ → Type 0
IsUnmarked name = AllByRecursion (λ b. b < mark) name

-- no name that is mentioned has a mark
abbrev pub MentionNoMark : List Mention → Type 0
MentionNoMark mentions = AllByRecursion (λ (m : Mention). IsUnmarked m.name) mentions

-- neither the name of the item has a mark nor one that its text mentions
pub record IsPlainItem (definition : Definition) : Type 0 where
  pub named : IsUnmarked (name_of_definition definition)
  pub mentions : MentionNoMark (definition_mentions definition)

-- so it is of each item, as it is of all that is read from a text
abbrev pub HasNoMarks : Module → Type 0
HasNoMarks text = AllByRecursion (λ (i : Item). IsPlainItem i.definition) text.items
