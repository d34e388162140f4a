use Rattle.std.proofs.Common.{Ok, ap, ◌∙◌}
use Rattle.cmd_line.specs.Named.{named_check}
use Rattle.dslx_meaning.specs.Network.{network_of}
use Rattle.xls_cmd.specs.Shared.Done.{StopsBy}
use Rattle.xls_cmd.specs.Shared.Step.{Gives, goes_on}
use Rattle.xls_cmd.proofs.Lemmas.Shared.{stops_in_first, err_handed}
use Rattle.xls_cmd.specs.Design.Commands.{ReadsModule, check_text}
use Rattle.xls_cmd.specs.Design.Written.{accepted, accepted_size}
use Rattle.xls_cmd.proofs.design.check.check_loaded.Goals as goal

pub returns-in_err-size-clause-refused : goal.returns-in_err-size-clause-refused
returns-in_err-size-clause-refused c =
    let asked = named_check c.args.arguments.now in
    err_handed c.from_residual.result c.in_err-size.field-0.0 (StopsBy (check_text asked c.args.bytes.now)) c.from_residual.ensures.1
    (stops_in_first (ReadsModule asked.design asked.top c.args.bytes.now) (λ m. Gives (Ok (accepted (network_of m asked.top)))) c.in_err-size.field-0.0 c.in_err-size.ensures.refused)

pub returns-clause-gives : goal.returns-clause-gives
returns-clause-gives c =
    let is = c.in_ok-size.ensures.reads in
    goes_on is.tree (Ok c.in_ok-text.text.items) is.reads (ap Ok (c.in_ok-text.ensures ∙ (λ i. accepted_size (is.is.procs i) (is.is.channels i))))
