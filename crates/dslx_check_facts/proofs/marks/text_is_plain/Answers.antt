use Rattle.std.proofs.Common.{◌∙◌, ◌<◌, ◌≤◌, ap, get_or, length, subst, sym}
use Rattle.dslx_tree.specs.declared.item.Item.{Item}
use Rattle.dslx_check_facts.specs.Names.{IsPlainItem}
use Rattle.dslx_check_facts.proofs.OnMarks.{all_seen, one_more}
use Rattle.dslx_check_facts.proofs.marks.text_is_plain.Goals as goal

pub items-init : goal.items-init
items-init c h = h

pub items-preserved : goal.items-preserved
items-preserved c = one_more (λ (i : Item). IsPlainItem i.definition) c.args.text.now.items c.items.i c.index-items-i.result
    (subst (λ l. c.items.i < length l) c.as_slice-items.ensures c.items-test.true)
    (c.index-items-i.is ∙ ap (λ l. get_or l c.items.i c.index-items-i.result) c.as_slice-items.ensures)
    (subst (λ (i : Item). IsPlainItem i.definition) (sym c.index-items-i.is) c.in_ok-item_is_plain.ensures) c.items.invariant

pub returns : goal.returns
returns c = all_seen (λ (i : Item). IsPlainItem i.definition) c.args.text.now.items c.items.i (subst (λ l. length l ≤ c.items.i) c.as_slice-items.ensures c.items-test.false) c.items.invariant
