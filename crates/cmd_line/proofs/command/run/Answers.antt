use Rattle.cmd_line.specs.CommandLine.{depth, from, plain_run, top, workers}
use Rattle.cmd_line.proofs.command.run.Goals as goal

pub returns-clause-app : goal.returns-clause-app
returns-clause-app c =
    let first = c.with_arg-built.ensures.app plain_run workers c.plain_run-built.ensures.app c.workers.ensures.rule c.workers.ensures.local in
    let second = c.with_arg-built-2.ensures.app _ depth first c.depth.ensures.rule c.depth.ensures.local in
    let third = c.with_arg-built-3.ensures.app _ from second c.from.ensures.rule c.from.ensures.local in
    c.with_arg.ensures.app _ top third c.top.ensures.rule c.top.ensures.local
