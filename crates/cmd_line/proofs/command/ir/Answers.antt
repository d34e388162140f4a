use Rattle.cmd_line.specs.CommandLine.{top}
use Rattle.cmd_line.proofs.command.ir.Goals as goal

pub returns-clause-app : goal.returns-clause-app
returns-clause-app c =
    c.with_arg.ensures.app _ top c.of_design-built.ensures.app c.top.ensures.rule c.top.ensures.local
