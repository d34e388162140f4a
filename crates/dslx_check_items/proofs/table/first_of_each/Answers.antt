use Rattle.std.proofs.Common.{ℕ, List, Some, None, if◌then◌else◌, sym, ap, ◌∙◌, arith}
use Rattle.std.specs.Str.{bytes_eq}
use Rattle.base.specs.NameTable.Found.{found, or_else}
use Rattle.dslx_tree.specs.declared.item.Item.{Item}
use Rattle.dslx_meaning.specs.Items.{name_of_definition}
use Rattle.dslx_check_items.proofs.OnItems.Numbered.{placed_on}
use Rattle.dslx_check_items.proofs.table.first_of_each.Goals as goal

pub items-preserved : goal.items-preserved
items-preserved c =
    placed_on c.args.items.now c.items.i c.index-items-i.result (found c.items.firsts) (found c.put_new.new.self) (omega arith) c.index-items-i.is c.items.invariant
    (λ name.
    c.in_ok-put_new.ensures name
    ∙ ap (λ (n : List ℕ). or_else (found c.items.firsts name) (if bytes_eq name n then Some c.items.i else None)) (c.as_str.ensures ∙ c.ident_of-ident.ensures.name ∙ ap (λ (x : Item). name_of_definition x.definition) (sym c.index-items-i.is)))
