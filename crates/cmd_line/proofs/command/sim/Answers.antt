use Rattle.std.specs.Prelude.{codes}
use Rattle.cmd_line.specs.CommandLine.{file}
use Rattle.cmd_line.proofs.command.sim.Goals as goal

pub returns-clause-app : goal.returns-clause-app
returns-clause-app c =
    c.with_arg.ensures.app _ (file (codes "rows")) c.of_design-built.ensures.app c.file.ensures.rule c.file.ensures.local
