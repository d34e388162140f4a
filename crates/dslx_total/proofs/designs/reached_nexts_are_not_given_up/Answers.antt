use Rattle.std.proofs.Common.{◌∙◌, arith, sym}
use Rattle.dslx_core.proofs.Lemmas.Typing.Typed.{none_some}
use Rattle.dslx_total.proofs.designs.reached_nexts_are_not_given_up.Goals as goal

pub returns : goal.returns
returns c m top faults p parametric_args checked limit enough never =
    let functions = c.accepted_functions_have_a_table.ensures m top faults in
    let becomes = c.lower_total_reached_nexts.ensures m top faults functions p parametric_args checked in
    let few = functions.few in
    none_some becomes.next (sym (never functions.known.table (functions.instances, functions.lowered) (omega (arith, few, enough))) ∙ becomes.is)
