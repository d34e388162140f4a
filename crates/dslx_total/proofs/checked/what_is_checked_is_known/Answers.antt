use Rattle.std.proofs.Common.{sym}
use Rattle.dslx_tree.specs.declared.item.Definition.TheVariants as d
use Rattle.dslx_meaning.specs.Network.{top_parametric_args}
use Rattle.dslx_meaning.specs.Rules.ModuleRules.{globals_of, instances_of}
use Rattle.dslx_meaning.specs.Rules.TypeEnvs.{Instance}
use Rattle.dslx_core.proofs.Lemmas.Typing.Accepted.{one_of_these}
use Rattle.dslx_total.proofs.OnClosed.Denoted.{knows_checked}
use Rattle.dslx_total.proofs.OnClosed.OfTexts.{checked_named, never_loops}
use Rattle.dslx_total.proofs.OnClosed.Settled.{call_settles, items_own}
use Rattle.dslx_total.proofs.OnConfigs.There.{accepted}
use Rattle.dslx_total.proofs.OnFamilies.Knows.{knows_itself}
use Rattle.dslx_total.proofs.OnFamilies.Tops.{top_there}
use Rattle.dslx_total.proofs.checked.what_is_checked_is_known.Goals as goal

pub returns-clause-tops : goal.returns-clause-tops
returns-clause-tops c = λ m top faults p e.
    let well_typed = c.items_of_accepted_texts_are_well_typed.ensures.well_typed m top faults in
    let s = accepted m top faults (c.instances_reach_one_another.ensures.text m top) (c.instances_reach_one_another.ensures.outside m top) in
    let known = globals_of m in
    let complete = c.all_items_are_known.ensures.complete m well_typed in
    let typed = c.all_items_are_known.ensures.typed m well_typed in
    let t = top_there m top s known (knows_itself m top s (c.looping_items_mean_nothing.ensures.constant m) complete typed) complete typed p e in
    let i : Instance = record { name = p.name.name; parametric_args = top_parametric_args known.items p } in
    checked_named m top i (one_of_these i (instances_of m top) t.among)

pub returns-clause-known : goal.returns-clause-known
returns-clause-known c = λ m top faults.
    let well_typed = c.items_of_accepted_texts_are_well_typed.ensures.well_typed m top faults in
    let s = accepted m top faults (c.instances_reach_one_another.ensures.text m top) (c.instances_reach_one_another.ensures.outside m top) in
    knows_checked m top s (c.checked_items_mention_such.ensures.closed m top faults) (λ name f e h. (c.checked_items_mention_such.ensures.means m top faults name (d.Function f) e h).calls)
    c.a_judgement_depends_on_what_is_mentioned.ensures.block (c.looping_items_mean_nothing.ensures.constant m) (c.all_items_are_known.ensures.complete m well_typed) (c.all_items_are_known.ensures.typed m well_typed)
    (sym (c.meanings_differ_in_calls_alone.ensures m top faults)) (returns-clause-tops c m top faults)

pub returns-clause-settled : goal.returns-clause-settled
returns-clause-settled c = λ m top faults.
    let s = accepted m top faults (c.instances_reach_one_another.ensures.text m top) (c.instances_reach_one_another.ensures.outside m top) in
    call_settles m top s (c.checked_items_mention_such.ensures.closed m top faults) (λ name f e h. (c.checked_items_mention_such.ensures.means m top faults name (d.Function f) e h).calls)
    (never_loops m top (c.accepted_texts_have_no_cycle.ensures.item m top faults) (c.accepted_texts_have_no_cycle.ensures.instance m top faults)) (sym (c.meanings_differ_in_calls_alone.ensures m top faults))

pub returns-clause-own : goal.returns-clause-own
returns-clause-own c = λ m top faults.
    let well_typed = c.items_of_accepted_texts_are_well_typed.ensures.well_typed m top faults in
    let s = accepted m top faults (c.instances_reach_one_another.ensures.text m top) (c.instances_reach_one_another.ensures.outside m top) in
    items_own m top s (c.all_items_are_known.ensures.complete m well_typed) (c.all_items_are_known.ensures.typed m well_typed) (sym (c.meanings_differ_in_calls_alone.ensures m top faults))
