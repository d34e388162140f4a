use Rattle.std.proofs.Common.{Ok, subst}
use Rattle.xls_cmd.specs.Shared.Done.{StopsBy}
use Rattle.xls_cmd.specs.Shared.Step.{Then, goes_on}
use Rattle.xls_cmd.proofs.Lemmas.Shared.{stops_in_first, stops_in_next, err_handed}
use Rattle.cmd_line.specs.Named.{named_sim}
use Rattle.cycle_sim.specs.Rows.RowFile.{all_rows}
use Rattle.cycle_sim.specs.Cycles.Simulated.{IsSimulated}
use Rattle.xls_cmd.specs.Sim.Simulation.{ReadsModule, ReadsRows, Simulates, shows, sim_texts}
use Rattle.xls_cmd.proofs.sim.sim.sim_loaded.Goals as goal

pub returns-in_err-design-clause-refused : goal.returns-in_err-design-clause-refused
returns-in_err-design-clause-refused c =
    err_handed c.from_residual.result c.in_err-design.field-0.0 (StopsBy (sim_texts (named_sim c.args.arguments.now) c.args.bytes.now c.args.file.now)) c.from_residual.ensures.1
    (stops_in_first (ReadsModule c.args.arguments.now.design.now c.args.bytes.now)
    (λ m. Then (ReadsRows c.args.arguments.now.rows.now c.args.file.now m) (λ listed. Simulates m listed))
    c.in_err-design.field-0.0 c.in_err-design.ensures.refused)

pub returns-in_err-rows-clause-refused : goal.returns-in_err-rows-clause-refused
returns-in_err-rows-clause-refused c =
    err_handed c.from_residual-in_err-rows.result c.in_err-rows.field-0.0 (StopsBy (sim_texts (named_sim c.args.arguments.now) c.args.bytes.now c.args.file.now)) c.from_residual-in_err-rows.ensures.1
    (stops_in_next (ReadsModule c.args.arguments.now.design.now c.args.bytes.now)
    (λ m. Then (ReadsRows c.args.arguments.now.rows.now c.args.file.now m) (λ listed. Simulates m listed))
    c.in_ok-design.design c.in_err-rows.field-0.0 c.in_ok-design.ensures.reads
    (stops_in_first (ReadsRows c.args.arguments.now.rows.now c.args.file.now c.in_ok-design.design) (λ listed. Simulates c.in_ok-design.design listed)
    c.in_err-rows.field-0.0 c.in_err-rows.ensures.refused))

pub returns-clause-gives : goal.returns-clause-gives
returns-clause-gives c =
    goes_on c.in_ok-design.design (Ok c.in_ok-text.text.items) c.in_ok-design.ensures.reads
    (goes_on c.in_ok-rows.rows (Ok c.in_ok-text.text.items) c.in_ok-rows.ensures.says
    (shows c.in_ok-text.text.items (subst (λ rows. IsSimulated c.in_ok-design.design (all_rows rows) c.in_ok-text.text.items) c.as_slice.ensures c.in_ok-text.ensures)))
