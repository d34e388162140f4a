use Rattle.std.proofs.Common.{drop}
use Rattle.std.specs.List.{AllByRecursion}
use Rattle.dslx_tree.specs.declared.item.Item.{Item}
use Rattle.dslx_check_facts.specs.Names.{IsPlainItem}
use Rattle.dslx_check_facts.proofs.marks.text_is_plain.Given as goal

abbrev pub invariant-items : goal.invariant-items
invariant-items l = AllByRecursion (λ (i : Item). IsPlainItem i.definition) (drop l.i l.text.items) → AllByRecursion (λ (i : Item). IsPlainItem i.definition) l.text.items
