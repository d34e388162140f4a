use Rattle.dslx_total.proofs.OnConfigs.There.{accepted}
use Rattle.dslx_total.proofs.OnOwn.OfTexts.{checked_are_own}
use Rattle.dslx_total.proofs.instances.checked_instances_are_own.Goals as goal

pub returns : goal.returns
returns c m top faults =
    let well_typed = c.items_of_accepted_texts_are_well_typed.ensures.well_typed m top faults in
    let s = accepted m top faults (c.instances_reach_one_another.ensures.text m top) (c.instances_reach_one_another.ensures.outside m top) in
    checked_are_own m top s (c.looping_items_mean_nothing.ensures.constant m) (c.all_items_are_known.ensures.complete m well_typed) (c.all_items_are_known.ensures.typed m well_typed) (c.what_is_checked_is_least.ensures.text m top)
