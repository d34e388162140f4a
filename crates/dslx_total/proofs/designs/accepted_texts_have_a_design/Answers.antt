use Rattle.std.proofs.Common.{map, refl, ap}
use Rattle.dslx_meaning.specs.Network.{as_proc}
use Rattle.dslx_core.specs.declared.design.Design.{Design}
use Rattle.dslx_core.specs.Lowering.Functions.{core_function}
use Rattle.dslx_core.specs.Networks.Assembly.{IsDesignFrom, instances_alone}
use Rattle.dslx_total.proofs.OnDesigns.Tops.{top_there}
use Rattle.dslx_total.proofs.designs.accepted_texts_have_a_design.Goals as goal

pub returns : goal.returns
returns c m top faults =
    let p = top_there m top faults in
    let t = c.lower_total_configs.ensures.tops m top faults p.0 p.1 in
    let functions = c.accepted_functions_have_a_table.ensures m top faults in
    let table = c.accepted_procs_have_a_table.ensures m top faults functions p.0 p.1 in
    let design : Design = record { name = p.0.name.name; outer = t.outer; functions = map core_function functions.known.table; procs = instances_alone table.table } in
    let made : IsDesignFrom m top design = record {
      proc = p.0;
      is_top = p.1;
      is_item = ap as_proc t.checked.named;
      outer = t.outer;
      functions = functions.known.table;
      procs = table.table;
      last = table.last;
      named_functions = functions.instances;
      named_procs = table.instances;
      outers = t.outers;
      each_function = functions.lowered;
      each_proc = table.lowered;
      is_last = table.is_last;
      of_name = table.of_name;
      of_parametric_args = table.of_parametric_args;
      design_is = refl;
    } in
    record { design = design; made = made; checked = functions.checked; stands = c.accepted_texts_are_well_typed.ensures.stands m top design faults made functions.checked }
