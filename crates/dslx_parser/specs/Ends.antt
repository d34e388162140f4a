-- Texts in which the names of ends are words.
use Rattle.std.specs.Prelude.{Bool, true, List}
use Rattle.std.specs.List.{list_all}
use Rattle.base.specs.Texts.Words.{is_word}
use Rattle.dslx_tree.specs.declared.item.Definition.{Definition}
use Rattle.dslx_tree.specs.declared.item.Definition.TheVariants as d
use Rattle.dslx_tree.specs.declared.item.Item.{Item}
use Rattle.dslx_tree.specs.declared.item.Module.{Module}
use Rattle.dslx_tree.specs.declared.process.End.{End}

-- letters, digits and `_`
abbrev pub named_by_words : List End → Bool
named_by_words ends = list_all (λ (e : End). is_word e.name.name) ends

-- the ends that the `config` of a proc declares
abbrev pub declares_words : Definition → Bool
declares_words (d.Proc p) = named_by_words p.config.ends
declares_words _ = true

abbrev pub each_declares_words : List Item → Bool
each_declares_words items = list_all (λ (i : Item). declares_words i.definition) items

abbrev pub ends_are_words : Module → Bool
ends_are_words m = each_declares_words m.items
