use Rattle.std.proofs.Common.{◌∙◌, map, string_bytes}
use Rattle.clap.specs.Words.{app_of}
use Rattle.cmd_line.proofs.Said.{arguments_of_matches, said_nothing}
use Rattle.cmd_line.proofs.words.read_words.Goals as goal

pub returns-in-Ok-clause-said : goal.returns-in-Ok-clause-said
returns-in-Ok-clause-said c = c.request.ensures.said
    ∙ arguments_of_matches (app_of c.in_ok-command.field-0) (map string_bytes c.args.words.now) c.in-Ok.matches c.in_ok-command.ensures c.in-Ok.ensures.kinds c.in-Ok.ensures.matches

pub returns-clause-said : goal.returns-clause-said
returns-clause-said c = said_nothing (app_of c.in_ok-command.field-0) (map string_bytes c.args.words.now) c.in-Err.error c.in_ok-command.ensures c.in-Err.ensures.kinds
    (λ is. c.in_default.not-OutOfMemory (c.kind.ensures ∙ is))
