use Rattle.std.proofs.Common.{◌≡◌, ◌<◌, ◌≤◌, length, subst, sym, ap, ◌∙◌, arith}
use Rattle.vlog_tree.specs.declared.module.Direction.TheVariants.{Input}
use Rattle.cycle_sim.specs.Rows.Said.{SaysItem, SaysValue, junk, ready, offer, offer_said, ready_said, width_at}
use Rattle.cycle_sim.proofs.OnRows.Forms.{text_short}
use Rattle.cycle_sim.proofs.rows.item.read_item.Goals as goal

pub value_of-requires-clause-short : goal.value_of-requires-clause-short
value_of-requires-clause-short c = omega (arith, text_short c.args.piece.now c.in-Offer.name.now c.in-Offer.text.now (sym c.in-Offer.ensures), c.requires)

pub returns-in-None : goal.returns-in-None
returns-in-None c = λ channels known. junk (sym c.in-None.ensures)

pub returns-in-Ready : goal.returns-in-Ready
returns-in-Ready c = λ channels known.
    subst (SaysItem channels c.args.draft.now.named c.args.piece.now) (sym (c.ready_said.ensures ∙ ap (ready_said c.args.draft.now.named) (c.number.ensures channels known)))
    (ready c.in-Ready.name.now (sym c.in-Ready.ensures))

pub returns-in_ok-valued-in-Offer : goal.returns-in_ok-valued-in-Offer
returns-in_ok-valued-in-Offer c = λ channels known.
    let v = c.in_ok-valued-in-Offer.valued in
    let number = c.number-number.ensures channels known in
    let width = c.width.ensures.is channels known ∙ ap (width_at channels) number in
    let says = subst (λ w. SaysValue w c.in-Offer.text.now v) width c.in_ok-valued-in-Offer.ensures in
    subst (SaysItem channels c.args.draft.now.named c.args.piece.now) (sym (c.offer_said.ensures ∙ ap (λ o. offer_said c.args.draft.now.named o v) number))
    (offer c.in-Offer.name.now c.in-Offer.text.now v (sym c.in-Offer.ensures) says)
