use Rattle.std.proofs.Common.{length}
use Rattle.dslx_total.specs.Instances.Checked.{is_checked_item}
use Rattle.dslx_total.proofs.OnClosed.Chains.{chains_end}
use Rattle.dslx_total.proofs.OnClosed.OfTexts.{checked_are_closed, never_loops}
use Rattle.dslx_total.proofs.OnConfigs.There.{accepted}
use Rattle.dslx_total.proofs.checked.checked_items_mention_such.Goals as goal

pub returns-clause-closed : goal.returns-clause-closed
returns-clause-closed c = λ m top faults.
    let well_typed = c.items_of_accepted_texts_are_well_typed.ensures.well_typed m top faults in
    let s = accepted m top faults (c.instances_reach_one_another.ensures.text m top) (c.instances_reach_one_another.ensures.outside m top) in
    checked_are_closed m top s (c.looping_items_mean_nothing.ensures.constant m) (c.all_items_are_known.ensures.complete m well_typed) (c.all_items_are_known.ensures.typed m well_typed) (c.checked_instances_are_own.ensures m top faults) well_typed
    c.what_is_sized_reaches_what_it_calls.ensures.function c.what_is_sized_reaches_what_it_calls.ensures.proc c.what_is_sized_reaches_what_it_calls.ensures.item

pub returns-clause-ends : goal.returns-clause-ends
returns-clause-ends c = λ m top faults name x e p.
    chains_end m (is_checked_item m top) (returns-clause-closed c m top faults) (c.reaching_takes_no_more_than_the_items.ensures.mentioned m) (c.reaching_takes_no_more_than_the_items.ensures.on m)
    (never_loops m top (c.accepted_texts_have_no_cycle.ensures.item m top faults) (c.accepted_texts_have_no_cycle.ensures.instance m top faults)) (length m.items) name (c.items_have_ranks.ensures m name x e) p

pub returns-clause-means : goal.returns-clause-means
returns-clause-means c = λ m top faults name x e p.
    c.global_env_is_sound.ensures.item m (c.items_of_accepted_texts_are_well_typed.ensures.well_typed m top faults) name (returns-clause-ends c m top faults name x e p)
