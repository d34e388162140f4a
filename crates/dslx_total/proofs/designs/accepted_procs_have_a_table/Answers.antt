use Rattle.dslx_tree.specs.declared.item.Definition.TheVariants as d
use Rattle.dslx_meaning.specs.Items.{meanings_of}
use Rattle.dslx_meaning.specs.Network.{top_parametric_args}
use Rattle.dslx_meaning.specs.Rules.ModuleRules.{instances_of}
use Rattle.dslx_meaning.specs.Rules.TypeEnvs.{Instance}
use Rattle.dslx_core.proofs.Lemmas.Typing.Accepted.{one_of_these}
use Rattle.dslx_total.proofs.OnClosed.OfTexts.{checked_named}
use Rattle.dslx_total.proofs.OnDesigns.Tops.{procs_have_table}
use Rattle.dslx_total.proofs.designs.accepted_procs_have_a_table.Goals as goal

pub returns : goal.returns
returns c m top faults functions p e =
    let checked = (c.lower_total_configs.ensures.tops m top faults p e).checked in
    let i : Instance = record { name = p.name.name; parametric_args = top_parametric_args (meanings_of m) p } in
    let ends = c.checked_items_mention_such.ensures.ends m top faults p.name.name (d.Proc p) checked.named (checked_named m top i (one_of_these i (instances_of m top) checked.checked)) in
    procs_have_table m top functions.known.table (c.lower_total_reached_nexts.ensures m top faults functions) (c.lower_total_configs.ensures.configs m top faults) p ends checked
