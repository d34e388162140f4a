use Rattle.std.proofs.Common.{Ok, ap, sym, subst}
use Rattle.xls_cmd.specs.Shared.Done.{StopsBy}
use Rattle.xls_cmd.specs.Shared.Step.{Gives, Then, goes_on}
use Rattle.xls_cmd.proofs.Lemmas.Shared.{stops_in_first, stops_in_next, err_handed}
use Rattle.cmd_line.specs.Named.{named_run}
use Rattle.net_core.specs.WellFormed.{IsNet}
use Rattle.ir_tree.specs.Networks.{network_of, behaviors_of}
use Rattle.ir_tree.proofs.Lemmas.Rules.Typed.{network_fits}
use Rattle.xls_cmd.specs.Design.Commands.{ReadsInputs}
use Rattle.xls_cmd.specs.Design.Written.{depths_by, run_text}
use Rattle.xls_cmd.specs.Ir.Commands.{ReadsPackage, run_texts}
use Rattle.xls_cmd.proofs.OnIr.Steps.{shown_by}
use Rattle.xls_cmd.proofs.ir.run.runnable_package.Goals as goal

pub returns-in_err-ir-clause-refused : goal.returns-in_err-ir-clause-refused
returns-in_err-ir-clause-refused c =
    err_handed c.from_residual.result c.in_err-ir.field-0.0 (StopsBy (run_texts (named_run c.args.arguments.now) c.args.bytes.now c.args.file.now)) c.from_residual.ensures.1
    (stops_in_first (ReadsPackage c.args.arguments.now.design.now c.args.bytes.now)
    (λ ir. Then (ReadsInputs c.args.arguments.now.inputs.now c.args.file.now (network_of ir)) (λ words. Gives (shown_by (named_run c.args.arguments.now) ir words)))
    c.in_err-ir.field-0.0 c.in_err-ir.ensures.refused)

pub inputs_of-requires-clause-net : goal.inputs_of-requires-clause-net
inputs_of-requires-clause-net c = subst IsNet (sym (c.in_ok-net.ensures {u = tt})) (network_fits c.in_ok-ir.ir c.in_ok-ir.ensures.verified)

pub returns-in_err-inputs-clause-refused : goal.returns-in_err-inputs-clause-refused
returns-in_err-inputs-clause-refused c =
    let ir = c.in_ok-ir.ir in
    err_handed c.from_residual-in_err-inputs.result c.in_err-inputs.field-0.0 (StopsBy (run_texts (named_run c.args.arguments.now) c.args.bytes.now c.args.file.now)) c.from_residual-in_err-inputs.ensures.1
    (stops_in_next (ReadsPackage c.args.arguments.now.design.now c.args.bytes.now)
    (λ ir. Then (ReadsInputs c.args.arguments.now.inputs.now c.args.file.now (network_of ir)) (λ words. Gives (shown_by (named_run c.args.arguments.now) ir words)))
    ir c.in_err-inputs.field-0.0 c.in_ok-ir.ensures.reads
    (stops_in_first (ReadsInputs c.args.arguments.now.inputs.now c.args.file.now (network_of ir)) (λ words. Gives (shown_by (named_run c.args.arguments.now) ir words))
    c.in_err-inputs.field-0.0 (subst (λ n. StopsBy (ReadsInputs c.args.arguments.now.inputs.now c.args.file.now n) c.in_err-inputs.field-0.0) (c.in_ok-net.ensures {u = tt}) c.in_err-inputs.ensures.refused)))

pub returns-clause-gives : goal.returns-clause-gives
returns-clause-gives c =
    let ir = c.in_ok-ir.ir in
    let net = c.in_ok-net.net in
    let how = c.args.arguments.now.how in
    let text = run_text net (behaviors_of ir) c.in_ok-inputs.inputs how.activations (depths_by how.depth net) in
    goes_on ir (Ok text) c.in_ok-ir.ensures.reads
    (goes_on c.in_ok-inputs.inputs (Ok text) (subst (λ n. ReadsInputs c.args.arguments.now.inputs.now c.args.file.now n (Ok c.in_ok-inputs.inputs)) (c.in_ok-net.ensures {u = tt}) c.in_ok-inputs.ensures.says)
    (ap Ok (ap (λ n. run_text n (behaviors_of ir) c.in_ok-inputs.inputs how.activations (depths_by how.depth n)) (c.in_ok-net.ensures {u = tt}))))

pub returns-clause-fits : goal.returns-clause-fits
returns-clause-fits c = record { verified = c.in_ok-ir.ensures.verified; network = c.in_ok-net.ensures {u = tt}; inputs = c.in_ok-inputs.ensures.fits }
