use Rattle.std.proofs.Common.{[], None, Some, subst, sym}
use Rattle.cmd_line.specs.Named.{named}
use Rattle.xls_cmd.specs.Answer.{expected_of, files_of}
use Rattle.xls_cmd.specs.Gen.Commands.{gen}
use Rattle.xls_cmd.specs.Shared.Done.{IsDone}
use Rattle.xls_cmd.specs.Shared.Events.{file_events}
use Rattle.xls_cmd.proofs.Lemmas.Shared.{done_behind_loads}
use Rattle.xls_cmd.proofs.top.requested.Goals as goal

pub returns-in-Gen : goal.returns-in-Gen
returns-in-Gen g c =
    subst (λ a. IsDone (λ text. text.items) (expected_of (named a) (g.F.Files.told c.args.files.now)) (files_of (named a))
    (file_events g.F.Files.asked g.F.Files.faults g.F.Files.taken c.args.files.now c.args.files.now) c.gen_levels.result) (sym c.in-Gen.is)
    (done_behind_loads g.F.Files.asked g.F.Files.faults g.F.Files.taken (λ text. text.items) (Some (λ name. None)) (gen c.in-Gen.arguments) [] c.args.files.now c.gen_levels.result
    c.gen_levels.ensures.gives c.gen_levels.ensures.refused)
