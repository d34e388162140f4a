use Rattle.std.proofs.Common.{Ok, subst}
use Rattle.std.proofs.lemmas.Result.{IfErr-weaker, IfOk-weaker}
use Rattle.net_core.specs.WellFormed.{IsInputs}
use Rattle.xls_cmd.specs.Shared.Done.{StopsBy}
use Rattle.xls_cmd.specs.Design.Commands.{ReadsInputs}
use Rattle.xls_cmd.proofs.design.network.inputs_of_design.Goals as goal

pub inputs_of-requires-clause-net : goal.inputs_of-requires-clause-net
inputs_of-requires-clause-net c = c.in_ok-made.ensures.fits

pub returns-clause-says : goal.returns-clause-says
returns-clause-says c =
    IfOk-weaker c.inputs_of.result _ _ (λ inputs is. subst (λ n. ReadsInputs c.args.name.now c.args.file.now n (Ok inputs)) c.in_ok-made.ensures.network is) c.inputs_of.ensures.says

pub returns-clause-fits : goal.returns-clause-fits
returns-clause-fits c = IfOk-weaker c.inputs_of.result _ _ (λ inputs is. subst (λ n. IsInputs n inputs.words) c.in_ok-made.ensures.network is) c.inputs_of.ensures.fits

pub returns-clause-refused : goal.returns-clause-refused
returns-clause-refused c =
    IfErr-weaker c.inputs_of.result _ _ (λ e is. subst (λ n. StopsBy (ReadsInputs c.args.name.now c.args.file.now n) e) c.in_ok-made.ensures.network is) c.inputs_of.ensures.refused
