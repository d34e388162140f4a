-- Items of one name. Every use of the name means the first of them, but each is checked as itself. So the others get names of
-- their own here, by marks that no name of a text has, and nothing names them.
use Rattle.std.specs.Prelude.{ℕ, zero, suc, List, [], ◌∷◌, ◌++◌}
use Rattle.dslx_tree.specs.declared.ident.Ident.{Ident}
use Rattle.dslx_tree.specs.declared.item.Module.{Module}
use Rattle.dslx_tree.specs.declared.item.Item.{Item}
use Rattle.dslx_tree.specs.declared.item.Definition.{Definition}
use Rattle.dslx_tree.specs.declared.item.Definition.TheVariants as d
use Rattle.dslx_meaning.specs.Lists.{times_in}
use Rattle.dslx_meaning.specs.Items.{name_of_definition}

-- no byte
abbrev pub mark : ℕ
mark = 256

abbrev pub marked : ℕ → List ℕ → List ℕ
marked zero name = name
marked (suc n) name = marked n name ++ mark ∷ []

abbrev pub marked_ident : ℕ → Ident → Ident
marked_ident n i = record i { name = marked n i.name }

abbrev pub marked_definition : ℕ → Definition → Definition
marked_definition n (d.Function f) = d.Function (record f { name = marked_ident n f.name })
marked_definition n (d.Proc p) = d.Proc (record p { name = marked_ident n p.name })
marked_definition n (d.Constant c) = d.Constant (record c { name = marked_ident n c.name })
marked_definition n (d.Alias a) = d.Alias (record a { name = marked_ident n a.name })
marked_definition n (d.Struct s) = d.Struct (record s { name = marked_ident n s.name })
marked_definition n (d.Enum e) = d.Enum (record e { name = marked_ident n e.name })

-- each item with as many marks as items of its name stand before it
abbrev pub told_apart_behind : List (List ℕ) → List Item → List Item
told_apart_behind before [] = []
told_apart_behind before (i ∷ is) =
    let name = name_of_definition i.definition in
    record i { definition = marked_definition (times_in name before) i.definition } ∷ told_apart_behind (name ∷ before) is

-- the module, in which no two items have one name
abbrev pub told_apart : Module → Module
told_apart m = record { items = told_apart_behind [] m.items }
