use Rattle.std.proofs.Common.{map, string_bytes}
use Rattle.xls_cmd.specs.Shared.Events.{file_events}
use Rattle.cmd_line.specs.Named.{named}
use Rattle.xls_cmd.proofs.Answering.{done_by_command}
use Rattle.xls_cmd.proofs.top.execute.Goals as goal

pub returns-in-Ok-Some : goal.returns-in-Ok-Some
returns-in-Ok-Some g c =
    done_by_command (λ text. text.items) (map string_bytes c.args.words.now) (g.F.Files.told c.args.files.now)
    (file_events g.F.Files.asked g.F.Files.faults g.F.Files.taken c.args.files.now c.requested.new.files) c.requested.result (named c.in-Ok-Some.arguments)
    (rw c.in-Ok-Some.field-0-is at c.in-Ok-Some.ensures.said) c.requested.ensures

pub requested-requires-clause-bounds : goal.requested-requires-clause-bounds
requested-requires-clause-bounds g c κs within = rw c.in-Ok-Some.field-0-is at c.in-Ok-Some.ensures.bounds
