use Rattle.std.proofs.Common.{[]}
use Rattle.xls_cmd.specs.Shared.Done.{IsDone}
use Rattle.xls_cmd.specs.Shared.Events.{file_events}
use Rattle.xls_cmd.specs.Shared.Step.{ExpectedBy}
use Rattle.cmd_line.specs.Named.{named_verilog}
use Rattle.xls_cmd.proofs.Lemmas.Shared.{all_handed, done_at_load, done_after_load, done_behind_loads}
use Rattle.xls_cmd.specs.Verilog.Commands.{verilog, verilog_files, verilog_loaded}
use Rattle.xls_cmd.proofs.verilog.command.verilog_file.Goals as goal

pub returns-in_err-design : goal.returns-in_err-design
returns-in_err-design g c =
    all_handed c.from_residual.result c.in_err-design.field-0.0
    (λ given. IsDone (λ text. text.items) (ExpectedBy (g.F.Files.told c.args.files.now) (λ holds. verilog holds (named_verilog c.args.arguments))) (verilog_files (named_verilog c.args.arguments))
    (file_events g.F.Files.asked g.F.Files.faults g.F.Files.taken c.args.files.now c.load.new.files) given)
    c.from_residual.ensures.1
    (done_at_load g.F.Files.asked g.F.Files.faults g.F.Files.taken (λ text. text.items) (g.F.Files.told c.args.files.now) c.args.arguments.design.now (λ holds bytes. verilog_loaded (named_verilog c.args.arguments) bytes) []
    c.args.files.now c.load.new.files c.in_err-design.field-0.0 c.load.ensures.asks c.in_err-design.ensures.refused)

pub returns : goal.returns
returns g c =
    done_after_load g.F.Files.asked g.F.Files.faults g.F.Files.taken (λ text. text.items) (g.F.Files.told c.args.files.now) c.args.arguments.design.now c.in_ok-design.design.items (λ holds bytes. verilog_loaded (named_verilog c.args.arguments) bytes) []
    c.args.files.now c.load.new.files c.load.new.files c.verilog_loaded.result c.load.ensures.asks c.in_ok-design.ensures.sound c.load.ensures.taken_never_falls c.in_ok-design.ensures.loaded
    (done_behind_loads g.F.Files.asked g.F.Files.faults g.F.Files.taken (λ text. text.items) (g.F.Files.told c.args.files.now) (verilog_loaded (named_verilog c.args.arguments) c.in_ok-design.design.items) [] c.load.new.files
    c.verilog_loaded.result (rw c.deref.ensures.value at c.verilog_loaded.ensures.gives) (rw c.deref.ensures.value at c.verilog_loaded.ensures.refused))
