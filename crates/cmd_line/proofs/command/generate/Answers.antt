use Rattle.std.specs.Prelude.{codes}
use Rattle.clap.specs.Words.{new_app}
use Rattle.cmd_line.specs.CommandLine.{procs, seed}
use Rattle.cmd_line.proofs.command.generate.Goals as goal

pub returns-clause-app : goal.returns-clause-app
returns-clause-app c =
    let first = c.with_arg-built.ensures.app (new_app (codes "gen")) seed c.new.ensures.app c.seed.ensures.rule c.seed.ensures.local in
    c.with_arg.ensures.app _ procs first c.procs.ensures.rule c.procs.ensures.local
