use Rattle.cmd_line.specs.CommandLine.{clock, interval, stages}
use Rattle.cmd_line.proofs.command.scheduling.Goals as goal

pub returns-clause-app : goal.returns-clause-app
returns-clause-app c =
    let first = c.with_arg-built.ensures.app _ clock c.of_design-built.ensures.app c.clock.ensures.rule c.clock.ensures.local in
    let second = c.with_arg-built-2.ensures.app _ stages first c.stages.ensures.rule c.stages.ensures.local in
    c.with_arg.ensures.app _ interval second c.interval.ensures.rule c.interval.ensures.local
