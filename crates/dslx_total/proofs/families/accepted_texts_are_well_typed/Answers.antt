use Rattle.std.proofs.Common.{◌*◌, length, subst}
use Rattle.dslx_meaning.specs.Environment.{Meanings}
use Rattle.dslx_meaning.specs.Network.{outer_ends, elaborate_within, top_parametric_args}
use Rattle.dslx_core.proofs.Lemmas.Typing.Accepted.{one_of_these}
use Rattle.dslx_total.specs.Instances.Denoted.{checked_globals}
use Rattle.dslx_total.specs.Texts.WellTypedTexts.{EachProcIsWellTyped, IsWellTypedProc}
use Rattle.dslx_total.proofs.Lemmas.Tables.{names_have_widths}
use Rattle.dslx_total.proofs.OnClosed.Knowing.{checked_knows}
use Rattle.dslx_total.proofs.OnClosed.Settled.{design_ends}
use Rattle.dslx_total.proofs.OnConfigs.There.{accepted}
use Rattle.dslx_total.proofs.OnFamilies.Families.{all_elaborated, each_well_typed, well_typed_proc}
use Rattle.dslx_total.proofs.OnFamilies.Reached.{all}
use Rattle.dslx_total.proofs.OnFamilies.Tops.{top_there}
use Rattle.dslx_total.proofs.families.accepted_texts_are_well_typed.Goals as goal

pub returns-clause-well_typed : goal.returns-clause-well_typed
returns-clause-well_typed c = λ m top faults.
    let w = c.what_is_checked_is_known.ensures.known m top faults in
    let known = checked_globals m top in
    let names = names_have_widths c.lower_total_expression.ensures.wide m (2 * length m.items) in
    let s = accepted m top faults (c.instances_reach_one_another.ensures.text m top) (c.instances_reach_one_another.ensures.outside m top) in
    let knows = checked_knows m top s w in
    record {
      known = known;
      denoted = w.denoted;
      complete = w.complete;
      typed = w.typed;
      own = c.what_is_checked_is_known.ensures.own m top faults;
      procs = λ p e.
          let t = top_there m top s known knows w.complete w.typed p e in
          let parametric_args = top_parametric_args known.items p in
          let words = c.words_of_ends_have_widths.ensures.values in
          subst (λ (x : Meanings). EachProcIsWellTyped known (elaborate_within m x (length m.items) p.name.name p (top_parametric_args x p) (outer_ends 0 p.config.ends) (length p.config.ends)).procs) w.denoted
          (each_well_typed known _
          (all_elaborated m top s known knows w.complete w.typed names words (IsWellTypedProc known) (well_typed_proc m top s known knows w.complete w.typed names words) (length m.items) p.name.name p parametric_args (outer_ends 0 p.config.ends) (length p.config.ends)
          (record { checked = record { named = t.named; among = one_of_these (record { name = p.name.name; parametric_args = parametric_args }) (all m top s) t.among }; own = t.own })));
    }

pub returns-clause-stands : goal.returns-clause-stands
returns-clause-stands c = λ m top design faults made checked.
    c.well_typed_texts_simulate.ensures m top design (returns-clause-well_typed c m top faults) made
    (design_ends m top design (c.what_is_checked_is_known.ensures.settled m top faults) (c.checked_items_mention_such.ensures.ends m top faults) made (c.what_is_checked_is_known.ensures.tops m top faults made.proc made.is_top) checked)
