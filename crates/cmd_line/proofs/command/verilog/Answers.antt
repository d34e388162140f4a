use Rattle.std.specs.Prelude.{codes}
use Rattle.cmd_line.specs.CommandLine.{depth, from, scheduling, top}
use Rattle.cmd_line.proofs.command.verilog.Goals as goal

pub returns-clause-app : goal.returns-clause-app
returns-clause-app c =
    let first = c.with_arg-built.ensures.app (scheduling (codes "verilog")) depth c.scheduling-built.ensures.app c.depth.ensures.rule c.depth.ensures.local in
    let second = c.with_arg-built-2.ensures.app _ from first c.from.ensures.rule c.from.ensures.local in
    c.with_arg.ensures.app _ top second c.top.ensures.rule c.top.ensures.local
