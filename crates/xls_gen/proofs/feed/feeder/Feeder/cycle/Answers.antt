use Rattle.std.proofs.Common.{◌<◌, ◌+◌, ◌∙◌, [], length, true, ap, subst, sym}
use Rattle.std.specs.Prelude.{slice_get}
use Rattle.std.proofs.lemmas.Option.{slice_get_within}
use Rattle.vlog_tree.specs.declared.row.Drive.TheVariants.{Offer, Ready}
use Rattle.vlog_tree.specs.Rows.{transferred}
use Rattle.vlog_tree.specs.Signals.{channels_of}
use Rattle.cycle_sim.specs.Cycles.CycleText.{one_more}
use Rattle.xls_gen.proofs.OnFeed.Channels.{and_both, gives, takes}
use Rattle.xls_gen.proofs.OnFeed.Standing.{fed_again, fed_next, feedable_at}
use Rattle.xls_gen.proofs.feed.feeder.Feeder.cycle.Goals as goal

pub drive-still-requires-clause-fits : goal.drive-still-requires-clause-fits
drive-still-requires-clause-fits c = (and_both _ _ c.requires.fits).0

pub drive-still-requires-clause-drives : goal.drive-still-requires-clause-drives
drive-still-requires-clause-drives c = (c.requires.fed.1.offered, c.requires.fed.1.row_is)

pub shown-requires : goal.shown-requires
shown-requires c =
    let m = c.args.self.now.sim.design in
    let source = takes (channels_of m) c.args.input c.args.words.now (and_both _ _ c.requires.fits).0 in
    subst (λ d. c.args.input < length (channels_of d)) (sym c.drive-still.ensures.design) (slice_get_within (channels_of m) c.args.input source.channel source.there)

pub shown-requires-2 : goal.shown-requires-2
shown-requires-2 c =
    let m = c.args.self.now.sim.design in
    let sink = gives (channels_of m) c.args.output (and_both _ _ c.requires.fits).1 in
    subst (λ d. c.args.output < length (channels_of d)) (sym c.drive-still.ensures.design) (slice_get_within (channels_of m) c.args.output sink.0 sink.1)

pub returns-then-still-clause-fed : goal.returns-then-still-clause-fed
returns-then-still-clause-fed c = λ m n h.
    fed_next m c.args.input c.args.output c.args.words.now c.args.self.now _ n h _ c.shown.result c.shown-2.result
    (feedable_at c.args.self.now.sim.design m c.args.input c.args.output c.args.words.now (sym h.design_is) c.requires.fits)
    c.drive-still.ensures.design c.drive-still.ensures.row (c.drive-still.ensures.stands h.rows h.outs h.stands) c.shown.ensures c.shown-2.ensures
    (c.taken_behind-self.ensures ∙ ap (λ t. t + length (one_more (transferred (Offer (slice_get c.args.words.now t)) c.shown.result) [])) c.drive-still.ensures.taken)
    (c.in_ok-push_given.ensures ∙ ap (one_more (transferred (Ready true) c.shown-2.result)) c.drive-still.ensures.given)

pub returns-else-still-clause-fed : goal.returns-else-still-clause-fed
returns-else-still-clause-fed c = λ m n h.
    fed_next m c.args.input c.args.output c.args.words.now c.args.self.now _ n h _ c.shown.result c.shown-2.result
    (feedable_at c.args.self.now.sim.design m c.args.input c.args.output c.args.words.now (sym h.design_is) c.requires.fits)
    c.drive-still.ensures.design c.drive-still.ensures.row (c.drive-still.ensures.stands h.rows h.outs h.stands) c.shown.ensures c.shown-2.ensures
    (c.taken_behind-self.ensures ∙ ap (λ t. t + length (one_more (transferred (Offer (slice_get c.args.words.now t)) c.shown.result) [])) c.drive-still.ensures.taken)
    (c.in_ok-push_given.ensures ∙ ap (one_more (transferred (Ready true) c.shown-2.result)) c.drive-still.ensures.given)

pub returns-then-still-clause-rests : goal.returns-then-still-clause-rests
returns-then-still-clause-rests c = λ rests.
    let here = c.has_counts.ensures.0 rests in
    fed_again c.args.input c.args.output c.args.words.now c.args.self.now _ c.shown.result c.shown-2.result
    (feedable_at c.args.self.now.sim.design _ c.args.input c.args.output c.args.words.now c.drive-still.ensures.design c.requires.fits)
    c.drive-still.ensures.design c.drive-still.ensures.row (c.drive-still.ensures.still c.if-still.true) c.shown.ensures c.shown-2.ensures
    (c.taken_behind-self.ensures ∙ ap (λ t. t + length (one_more (transferred (Offer (slice_get c.args.words.now t)) c.shown.result) [])) c.drive-still.ensures.taken)
    (c.in_ok-push_given.ensures ∙ ap (one_more (transferred (Ready true) c.shown-2.result)) c.drive-still.ensures.given)
    here.0 (here.1 ∙ c.len-given.ensures)
