use Rattle.xls_cmd.specs.Shared.Events.{file_events}
use Rattle.xls_cmd.specs.Shared.Step.{ExpectedBy}
use Rattle.cmd_line.specs.Named.{named_run}
use Rattle.xls_cmd.specs.Run.Commands.{run_by, run_files}
use Rattle.xls_cmd.specs.Run.Ready.{shown}
use Rattle.xls_cmd.proofs.Lemmas.Shared.{done_from, done_refused}
use Rattle.xls_cmd.proofs.run.command.run_file.Goals as goal

pub returns-in-Ok : goal.returns-in-Ok
returns-in-Ok g c =
    done_from (shown c.args.arguments.how) (λ text. text.items) (ExpectedBy (g.F.Files.told c.args.files.now) (λ holds. run_by c.args.arguments.how.source holds (named_run c.args.arguments))) (run_files (named_run c.args.arguments))
    (file_events g.F.Files.asked g.F.Files.faults g.F.Files.taken c.args.files.now c.prepare.new.files) c.in-Ok.ready c.run_ready.result c.or_no_memory.result c.in-Ok.ensures.done c.run_ready.ensures c.or_no_memory.ensures

pub returns-in-Err : goal.returns-in-Err
returns-in-Err g c =
    done_refused (shown c.args.arguments.how) (λ text. text.items) (ExpectedBy (g.F.Files.told c.args.files.now) (λ holds. run_by c.args.arguments.how.source holds (named_run c.args.arguments))) (run_files (named_run c.args.arguments))
    (file_events g.F.Files.asked g.F.Files.faults g.F.Files.taken c.args.files.now c.prepare.new.files) c.in-Err.refusal c.in-Err.ensures.done
