use Rattle.std.specs.Prelude.{codes}
use Rattle.cmd_line.specs.CommandLine.{activations, file}
use Rattle.cmd_line.proofs.command.plain_run.Goals as goal

pub returns-clause-app : goal.returns-clause-app
returns-clause-app c =
    let first = c.with_arg-built.ensures.app _ (file (codes "inputs")) c.of_design-built.ensures.app c.file.ensures.rule c.file.ensures.local in
    c.with_arg.ensures.app _ activations first c.activations.ensures.rule c.activations.ensures.local
