use Rattle.std.proofs.Common.{Ok, ap, sym, subst}
use Rattle.xls_cmd.specs.Shared.Done.{StopsBy}
use Rattle.xls_cmd.specs.Shared.Step.{Gives, goes_on}
use Rattle.xls_cmd.proofs.Lemmas.Shared.{stops_in_first, stops_in_next, err_handed}
use Rattle.cmd_line.specs.Named.{named_run}
use Rattle.dslx_meaning.specs.Network.{network_of}
use Rattle.dslx_core.specs.Designs.{core_behaviors, core_network}
use Rattle.xls_cmd.specs.Design.Commands.{ReadsInputs, ReadsModule, run_texts}
use Rattle.xls_cmd.proofs.OnDesign.Steps.{inputs_then, shown_by, shown_of, text_runs}
use Rattle.xls_cmd.proofs.design.run.runnable_design.Goals as goal

pub returns-in_err-design-clause-refused : goal.returns-in_err-design-clause-refused
returns-in_err-design-clause-refused c =
    let asked = named_run c.args.arguments.now in
    err_handed c.from_residual.result c.in_err-design.field-0.0 (StopsBy (run_texts asked c.args.bytes.now c.args.file.now)) c.from_residual.ensures.1
    (stops_in_first (ReadsModule asked.design asked.top c.args.bytes.now) (inputs_then asked c.args.file.now) c.in_err-design.field-0.0 c.in_err-design.ensures.refused)

pub inputs_of_design-requires-clause-design : goal.inputs_of_design-requires-clause-design
inputs_of_design-requires-clause-design c =
    let is = c.in_ok-design.ensures.reads in
    record { text = is.tree; top = (named_run c.args.arguments.now).top; accepted = is.accepted; made = is.is.made; checked = is.is.checked }

pub returns-in_err-inputs-clause-refused : goal.returns-in_err-inputs-clause-refused
returns-in_err-inputs-clause-refused c =
    let asked = named_run c.args.arguments.now in
    let is = c.in_ok-design.ensures.reads in
    let core = c.accepted_texts_run.ensures.runs is.tree asked.top c.in_ok-design.design is.accepted is.is.made is.is.checked in
    err_handed c.from_residual-in_err-inputs.result c.in_err-inputs.field-0.0 (StopsBy (run_texts asked c.args.bytes.now c.args.file.now)) c.from_residual-in_err-inputs.ensures.1
    (stops_in_next (ReadsModule asked.design asked.top c.args.bytes.now) (inputs_then asked c.args.file.now) is.tree c.in_err-inputs.field-0.0 is.reads
    (stops_in_first (ReadsInputs asked.inputs c.args.file.now (network_of is.tree asked.top)) (λ words. Gives (shown_by asked is.tree words))
    c.in_err-inputs.field-0.0 (subst (λ n. StopsBy (ReadsInputs asked.inputs c.args.file.now n) c.in_err-inputs.field-0.0) core.network c.in_err-inputs.ensures.refused)))

pub returns-clause-gives : goal.returns-clause-gives
returns-clause-gives c =
    let asked = named_run c.args.arguments.now in
    let is = c.in_ok-design.ensures.reads in
    let design = c.in_ok-design.design in
    let words = c.in_ok-inputs.inputs in
    let core = c.accepted_texts_run.ensures.runs is.tree asked.top design is.accepted is.is.made is.is.checked in
    let text = shown_of (core_network design) (core_behaviors design) words asked.how in
    goes_on is.tree (Ok text) is.reads
    (goes_on words (Ok text) (subst (λ n. ReadsInputs asked.inputs c.args.file.now n (Ok words)) core.network c.in_ok-inputs.ensures.says)
    (ap Ok (sym (text_runs is.tree asked.top (core_network design) (core_behaviors design) words asked.how core c.in_ok-inputs.ensures.fits c.is_number.ensures))))

pub returns-clause-fits : goal.returns-clause-fits
returns-clause-fits c =
    let is = c.in_ok-design.ensures.reads in
    record {
      design = record { text = is.tree; top = (named_run c.args.arguments.now).top; accepted = is.accepted; made = is.is.made; checked = is.is.checked };
      inputs = c.in_ok-inputs.ensures.fits;
    }
