use Rattle.std.proofs.Common.{[], ◌∷◌, Err, subst}
use Rattle.xls_cmd.specs.Shared.Done.{IsDone, IsRefused}
use Rattle.xls_cmd.specs.Shared.Events.{file_events}
use Rattle.xls_cmd.specs.Shared.Loads.{Loads}
use Rattle.xls_cmd.specs.Shared.Step.{ExpectedBy, Then}
use Rattle.cmd_line.specs.Named.{named_run}
use Rattle.xls_cmd.proofs.Lemmas.Shared.{all_handed, done_at_load, done_after_load, done_behind_loads}
use Rattle.xls_cmd.specs.Run.Commands.{run_by, run_files, run_texts}
use Rattle.xls_cmd.specs.Run.Ready.{shown}
use Rattle.xls_cmd.proofs.run.command.prepare.Goals as goal

pub returns-in_err-design-clause-done : goal.returns-in_err-design-clause-done
returns-in_err-design-clause-done g c =
    all_handed c.from_residual.result c.in_err-design.field-0.0
    (λ given. IsDone (shown c.args.arguments.how) (ExpectedBy (g.F.Files.told c.args.files.now) (λ holds. run_by c.args.arguments.how.source holds (named_run c.args.arguments))) (run_files (named_run c.args.arguments))
    (file_events g.F.Files.asked g.F.Files.faults g.F.Files.taken c.args.files.now c.load.new.files) given)
    c.from_residual.ensures.1
    (done_at_load g.F.Files.asked g.F.Files.faults g.F.Files.taken (shown c.args.arguments.how) (g.F.Files.told c.args.files.now) c.args.arguments.design.now
    (λ holds design. Then (Loads holds c.args.arguments.inputs.now) (λ inputs. run_texts c.args.arguments.how.source (named_run c.args.arguments) design inputs)) (c.args.arguments.inputs.now ∷ [])
    c.args.files.now c.load.new.files c.in_err-design.field-0.0 c.load.ensures.asks c.in_err-design.ensures.refused)

pub returns-in_err-inputs-clause-done : goal.returns-in_err-inputs-clause-done
returns-in_err-inputs-clause-done g c =
    all_handed c.from_residual-in_err-inputs.result c.in_err-inputs.field-0.0
    (λ given. IsDone (shown c.args.arguments.how) (ExpectedBy (g.F.Files.told c.args.files.now) (λ holds. run_by c.args.arguments.how.source holds (named_run c.args.arguments))) (run_files (named_run c.args.arguments))
    (file_events g.F.Files.asked g.F.Files.faults g.F.Files.taken c.args.files.now c.load-2.new.files) given)
    c.from_residual-in_err-inputs.ensures.1
    (done_after_load g.F.Files.asked g.F.Files.faults g.F.Files.taken (shown c.args.arguments.how) (g.F.Files.told c.args.files.now) c.args.arguments.design.now c.in_ok-design.design.items
    (λ holds design. Then (Loads holds c.args.arguments.inputs.now) (λ inputs. run_texts c.args.arguments.how.source (named_run c.args.arguments) design inputs)) (c.args.arguments.inputs.now ∷ [])
    c.args.files.now c.load.new.files c.load-2.new.files (Err c.in_err-inputs.field-0.0) c.load.ensures.asks c.in_ok-design.ensures.sound c.load.ensures.taken_never_falls c.in_ok-design.ensures.loaded
    (done_at_load g.F.Files.asked g.F.Files.faults g.F.Files.taken (shown c.args.arguments.how) (g.F.Files.told c.args.files.now) c.args.arguments.inputs.now
    (λ holds inputs. run_texts c.args.arguments.how.source (named_run c.args.arguments) c.in_ok-design.design.items inputs) []
    c.load.new.files c.load-2.new.files c.in_err-inputs.field-0.0 c.load-2.ensures.asks
    (subst (λ known_contents. IsRefused (ExpectedBy known_contents (λ holds. Loads holds c.args.arguments.inputs.now)) (file_events g.F.Files.asked g.F.Files.faults g.F.Files.taken c.load.new.files c.load-2.new.files) (c.args.arguments.inputs.now ∷ []) c.in_err-inputs.field-0.0)
    c.load.ensures.told_stays c.in_err-inputs.ensures.refused)))

pub returns-clause-done : goal.returns-clause-done
returns-clause-done g c =
    done_after_load g.F.Files.asked g.F.Files.faults g.F.Files.taken (shown c.args.arguments.how) (g.F.Files.told c.args.files.now) c.args.arguments.design.now c.in_ok-design.design.items
    (λ holds design. Then (Loads holds c.args.arguments.inputs.now) (λ inputs. run_texts c.args.arguments.how.source (named_run c.args.arguments) design inputs)) (c.args.arguments.inputs.now ∷ [])
    c.args.files.now c.load.new.files c.load-2.new.files c.ready_of.result c.load.ensures.asks c.in_ok-design.ensures.sound c.load.ensures.taken_never_falls c.in_ok-design.ensures.loaded
    (done_after_load g.F.Files.asked g.F.Files.faults g.F.Files.taken (shown c.args.arguments.how) (g.F.Files.told c.args.files.now) c.args.arguments.inputs.now c.in_ok-inputs.inputs.items
    (λ holds inputs. run_texts c.args.arguments.how.source (named_run c.args.arguments) c.in_ok-design.design.items inputs) []
    c.load.new.files c.load-2.new.files c.load-2.new.files c.ready_of.result c.load-2.ensures.asks c.in_ok-inputs.ensures.sound c.load-2.ensures.taken_never_falls
    (subst (λ known_contents. ExpectedBy known_contents (λ holds. Loads holds c.args.arguments.inputs.now) (Rattle.std.proofs.Common.Ok c.in_ok-inputs.inputs.items)) c.load.ensures.told_stays c.in_ok-inputs.ensures.loaded)
    (done_behind_loads g.F.Files.asked g.F.Files.faults g.F.Files.taken (shown c.args.arguments.how) (g.F.Files.told c.args.files.now) (run_texts c.args.arguments.how.source (named_run c.args.arguments) c.in_ok-design.design.items c.in_ok-inputs.inputs.items) []
    c.load-2.new.files c.ready_of.result (rw (c.deref.ensures.value, c.deref-2.ensures.value) at c.ready_of.ensures.gives) (rw (c.deref.ensures.value, c.deref-2.ensures.value) at c.ready_of.ensures.refused)))
