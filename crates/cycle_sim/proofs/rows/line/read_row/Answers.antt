use Rattle.std.proofs.Common.{rules, ◌≡◌, ◌<◌, ◌∷◌, ◌∙◌, [], Bool, true, false, length, List, ap, sym, subst}
use Rattle.std.specs.List.{AllByRecursion}
use Rattle.vlog_tree.specs.declared.row.Drive.TheVariants.{Offer}
use Rattle.vlog_tree.specs.Signals.{Channel}
use Rattle.cycle_sim.specs.declared.rows.item.Said.TheVariants.{Drives}
use Rattle.cycle_sim.specs.Rows.Inner.Known.{AreKnown}
use Rattle.cycle_sim.specs.Rows.Forms.{is_repeat, without_repeat}
use Rattle.cycle_sim.specs.Rows.RowFile.{row_by}
use Rattle.cycle_sim.specs.Rows.Said.{SaysItem, SaysItems, noted}
use Rattle.cycle_sim.proofs.OnRows.Items.{AreItemsSoFar, at_end, at_repeat, no_items, once, one_item, times_there}
use Rattle.cycle_sim.proofs.rows.line.read_row.Goals as goal
use Rattle.cycle_sim.proofs.rows.line.read_row.Goals.{else-is_done-via-then-is_done+else-is_repeat, else-is_done-via-else-is_done, in_default-2-via-in-Drives+in-Ready-1, in_default-2-via-in-Misfit-1}

clash : (b : Bool) → b ≡ true → b ≡ false → ⊥
clash b e f = let no : true ≡ false = sym e ∙ f in cc

pub returns-then-is_repeat : goal.returns-then-is_repeat
returns-then-is_repeat c = λ channels known.
    let Known = λ (channels : List Channel). AreKnown channels c.args.known.now in
    let left = c.in-Some.ensures ∙ ap (λ ps. c.in-Some.piece.now ∷ ps) (c.is_done.ensures.0 c.if-is_done.true) in
    let is = sym c.is_repeat.ensures ∙ c.if-is_repeat.true in
    record {
      draft = c.items.draft;
      says = subst (λ d. SaysItems channels (without_repeat c.args.items) d c.items.draft) (c.in_ok-draft.ensures channels (c.deref.ensures.value ∙ known.shapes))
          (at_repeat Known c.args.items c.items.items c.in-Some.piece.now c.in_ok-draft.draft c.items.draft c.items.invariant.so_far left is channels known);
      is = c.row_by.ensures
          ∙ ap (λ t. row_by c.args.reset t c.items.draft) (c.repeats_of.ensures ∙ times_there Known c.args.items c.items.items c.in-Some.piece.now c.in_ok-draft.draft c.items.draft c.items.invariant.so_far left is);
    }

pub items-preserved-in-Offer-1 : goal.items-preserved-in-Offer-1
items-preserved-in-Offer-1 c =
    let Known = λ (channels : List Channel). AreKnown channels c.args.known.now in
    let said = Drives c.in-Drives-default-Offer.channel (Offer c.in-Drives-default-Offer.word) in
    let is : c.in_ok-said.said ≡ said = c.in-Drives-default-Offer.is ∙ ap (Drives c.in-Drives-default-Offer.channel) c.in-Drives-default-Offer.field-1-is in
    let kept : c.next.new.self ≡ [] → is_repeat c.in-Some.piece.now ≡ false =
    elim c.else-is_done.branch [
      | else-is_done-via-then-is_done+else-is_repeat w ↦ λ e. sym w.is_repeat.ensures ∙ w.if-is_repeat.false
      | else-is_done-via-else-is_done w ↦ λ e. absurd (clash c.is_done.result (c.is_done.ensures.1 e) w.if-is_done.false)
    ] in
    record {
      so_far = subst (AreItemsSoFar Known c.args.items c.next.new.self c.in_ok-draft.draft) (sym c.note.ensures)
          (one_item Known c.args.items c.items.items c.next.new.self c.in-Some.piece.now c.in_ok-draft.draft c.items.draft said c.items.invariant.so_far c.in-Some.ensures kept
          (λ channels known. subst (SaysItem channels c.items.draft.named c.in-Some.piece.now) is (c.in_ok-said.ensures channels known)));
      short = (subst (AllByRecursion (λ piece. length piece < 4294967296)) c.in-Some.ensures c.items.invariant.short).1;
    }

pub items-preserved : goal.items-preserved
items-preserved c =
    let Known = λ (channels : List Channel). AreKnown channels c.args.known.now in
    let is : c.in_default-2-1.said ≡ c.in_ok-said.said =
    elim c.in_default-2-1.branch [
      | in_default-2-via-in-Drives+in-Ready-1 w ↦ search rules
      | in_default-2-via-in-Misfit-1 w ↦ w.said-is
    ] in
    let kept : c.next.new.self ≡ [] → is_repeat c.in-Some.piece.now ≡ false =
    elim c.else-is_done.branch [
      | else-is_done-via-then-is_done+else-is_repeat w ↦ λ e. sym w.is_repeat.ensures ∙ w.if-is_repeat.false
      | else-is_done-via-else-is_done w ↦ λ e. absurd (clash c.is_done.result (c.is_done.ensures.1 e) w.if-is_done.false)
    ] in
    record {
      so_far = subst (AreItemsSoFar Known c.args.items c.next.new.self c.in_ok-draft.draft) (sym (c.note-in_default-2.ensures ∙ ap (λ said. noted said c.items.draft) is))
          (one_item Known c.args.items c.items.items c.next.new.self c.in-Some.piece.now c.in_ok-draft.draft c.items.draft c.in_ok-said.said c.items.invariant.so_far c.in-Some.ensures kept c.in_ok-said.ensures);
      short = (subst (AllByRecursion (λ piece. length piece < 4294967296)) c.in-Some.ensures c.items.invariant.short).1;
    }

pub returns : goal.returns
returns c = λ channels known.
    let Known = λ (channels : List Channel). AreKnown channels c.args.known.now in
    record {
      draft = c.items.draft;
      says = subst (λ d. SaysItems channels (without_repeat c.args.items) d c.items.draft) (c.in_ok-draft.ensures channels (c.deref.ensures.value ∙ known.shapes))
          (at_end Known c.args.items c.items.items c.in_ok-draft.draft c.items.draft c.items.invariant.so_far c.in_default.ensures.0 channels known);
      is = c.row_by-2.ensures ∙ ap (λ t. row_by c.args.reset t c.items.draft) (once Known c.args.items c.items.items c.in_ok-draft.draft c.items.draft c.items.invariant.so_far c.in_default.ensures.0);
    }
