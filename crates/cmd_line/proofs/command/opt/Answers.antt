use Rattle.cmd_line.specs.CommandLine.{from, top}
use Rattle.cmd_line.proofs.command.opt.Goals as goal

pub returns-clause-app : goal.returns-clause-app
returns-clause-app c =
    let first = c.with_arg-built.ensures.app _ from c.of_design-built.ensures.app c.from.ensures.rule c.from.ensures.local in
    c.with_arg.ensures.app _ top first c.top.ensures.rule c.top.ensures.local
