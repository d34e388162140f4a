use Rattle.std.proofs.Common.{Some, ◌∙◌, arith, sym, ap}
use Rattle.std.specs.Option.{option_copied}
use Rattle.std.proofs.lemmas.Result.{IfOk-weaker}
use Rattle.dslx_tree.specs.declared.pattern.Shape as shape
use Rattle.dslx_tree.specs.declared.pattern.Shape.TheVariants as on_shape
use Rattle.dslx_check_facts.proofs.Lemmas.Walks.{misses_refl, misses_trans}
use Rattle.dslx_check_facts.specs.Walks.{OnlyMisses, shown}
use Rattle.dslx_check_leaves.proofs.fits.fits.+fits.Goals as goal
use Rattle.dslx_check_leaves.proofs.OnFits.OnFits.Asked.{always}
use Rattle.dslx_check_leaves.proofs.OnFits.OnFits.Parts.{no_tuple, parts_all, parts_begin, parts_more, parts_next, parts_over, parts_uneven, tuple_of_parts}
use Rattle.dslx_check_leaves.proofs.OnFits.OnFits.Shapes.{bool_fits, member_fits, name_fits, number_fits, tuple_fits, wild_fits}

pub fits-returns-in-Wild-clause-misses : goal.fits-returns-in-Wild-clause-misses
fits-returns-in-Wild-clause-misses t c = misses_refl (shown c.args.w.now)

pub fits-returns-in-Wild-clause-is : goal.fits-returns-in-Wild-clause-is
fits-returns-in-Wild-clause-is t c = wild_fits c.args.p.now c.args.value.now (c.in-Wild.is ∙ sym on_shape.rolls-Wild)

pub fits-returns-in-Bool-clause-misses : goal.fits-returns-in-Bool-clause-misses
fits-returns-in-Bool-clause-misses t c = misses_refl (shown c.args.w.now)

pub fits-returns-in-Bool-clause-is : goal.fits-returns-in-Bool-clause-is
fits-returns-in-Bool-clause-is t c = bool_fits c.args.p.now c.args.value.now c.in-Bool.holds (c.in-Bool.is ∙ sym (on_shape.rolls-Bool c.in-Bool.holds)) c.bool_fits.ensures

pub fits-returns-in-Number-clause-misses : goal.fits-returns-in-Number-clause-misses
fits-returns-in-Number-clause-misses t c = always (OnlyMisses (shown c.args.w.now) (shown c.args.w.now)) c.number_fits.result (misses_refl (shown c.args.w.now))

pub fits-returns-in-Number-clause-is : goal.fits-returns-in-Number-clause-is
fits-returns-in-Number-clause-is t c = IfOk-weaker c.number_fits.result _ _ (λ b h. number_fits c.args.p.now c.args.value.now c.in-Number.number (c.in-Number.is ∙ sym (on_shape.rolls-Number c.in-Number.number)) h) c.number_fits.ensures

pub fits-returns-in-Name-clause-is : goal.fits-returns-in-Name-clause-is
fits-returns-in-Name-clause-is t c = IfOk-weaker c.name_fits.result _ _ (λ b h. name_fits c.args.p.now c.args.value.now c.in-Name.name (c.in-Name.is ∙ sym (on_shape.rolls-Name c.in-Name.name)) h) c.name_fits.ensures.is

pub fits-returns-in-Member-clause-is : goal.fits-returns-in-Member-clause-is
fits-returns-in-Member-clause-is t c = IfOk-weaker c.member_fits.result _ _ (λ b h. member_fits c.args.p.now c.args.value.now c.in-Member.choice c.in-Member.member (c.in-Member.is ∙ sym (on_shape.rolls-Member c.in-Member.choice c.in-Member.member)) h) c.member_fits.ensures.is

pub fits-returns-in-Tuple-clause-is : goal.fits-returns-in-Tuple-clause-is
fits-returns-in-Tuple-clause-is t c = IfOk-weaker c.tuple_fits.result _ _ (λ b h. tuple_fits c.args.p.now c.args.value.now c.as_slice.result.now (c.in-Tuple.is ∙ ap (λ xs. shape.Tuple xs) (sym c.as_slice.ensures) ∙ sym (on_shape.rolls-Tuple c.as_slice.result.now)) h)
    c.tuple_fits.ensures.is

pub tuple_fits-returns-in-Some-clause-is : goal.tuple_fits-returns-in-Some-clause-is
tuple_fits-returns-in-Some-clause-is t c = IfOk-weaker c.all_fit.result _ _ (λ b h. tuple_of_parts c.args.value.now c.as_slice.result.now (sym c.elements_of.ensures ∙ ap option_copied c.in-Some.is ∙ ap Some (sym c.as_slice.ensures)) h) c.all_fit.ensures.is

pub tuple_fits-returns-in-None-clause-misses : goal.tuple_fits-returns-in-None-clause-misses
tuple_fits-returns-in-None-clause-misses t c = misses_refl (shown c.args.w.now)

pub tuple_fits-returns-in-None-clause-is : goal.tuple_fits-returns-in-None-clause-is
tuple_fits-returns-in-None-clause-is t c = no_tuple c.args.value.now (sym c.elements_of.ensures ∙ ap option_copied c.in-None.is)

pub all_fit-parts-init : goal.all_fit-parts-init
all_fit-parts-init t c = parts_begin (misses_refl (shown c.args.w.now))

pub all_fit-parts-preserved : goal.all_fit-parts-preserved
all_fit-parts-preserved t c = parts_more c.parts.i c.parts.invariant.misses c.in_ok-is_fit.ensures.misses c.if-not-is_fit.false
    (parts_next c.parts.i c.index-parts-i.result c.index-values-i.result c.parts.invariant (omega arith) c.index-parts-i.is (omega arith) c.index-values-i.is c.part_type_of-part.ensures.is c.part_type_of-part.ensures.there
    c.in_ok-is_fit.ensures.misses c.in_ok-is_fit.ensures.is)

pub all_fit-returns-then-not-is_fit-clause-misses : goal.all_fit-returns-then-not-is_fit-clause-misses
all_fit-returns-then-not-is_fit-clause-misses t c = misses_trans _ _ _ c.parts.invariant.misses c.in_ok-is_fit.ensures.misses

pub all_fit-returns-then-not-is_fit-clause-is : goal.all_fit-returns-then-not-is_fit-clause-is
all_fit-returns-then-not-is_fit-clause-is t c = parts_over c.parts.i c.if-not-is_fit.true
    (parts_next c.parts.i c.index-parts-i.result c.index-values-i.result c.parts.invariant (omega arith) c.index-parts-i.is (omega arith) c.index-values-i.is c.part_type_of-part.ensures.is c.part_type_of-part.ensures.there
    c.in_ok-is_fit.ensures.misses c.in_ok-is_fit.ensures.is)

pub all_fit-returns-clause-misses : goal.all_fit-returns-clause-misses
all_fit-returns-clause-misses t c = c.parts.invariant.misses

pub all_fit-returns-clause-is : goal.all_fit-returns-clause-is
all_fit-returns-clause-is t c = parts_all c.parts.i (omega arith) (omega arith) c.parts.invariant

pub all_fit-returns-then-parts-values-clause-misses : goal.all_fit-returns-then-parts-values-clause-misses
all_fit-returns-then-parts-values-clause-misses t c = misses_refl (shown c.args.w.now)

pub all_fit-returns-then-parts-values-clause-is : goal.all_fit-returns-then-parts-values-clause-is
all_fit-returns-then-parts-values-clause-is t c = parts_uneven c.if-parts-values.true
