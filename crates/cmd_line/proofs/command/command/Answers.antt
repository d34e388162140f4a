use Rattle.std.proofs.Common.{◌∙◌, ◌≡◌, ap}
use Rattle.std.specs.Prelude.{codes}
use Rattle.clap.specs.Words.{app_of, new_app, with_subcommand}
use Rattle.clap.specs.Simple.{app_of_fields}
use Rattle.cmd_line.proofs.command.command.Goals as goal
use Rattle.cmd_line.specs.CommandLine.{xls, check, run, sim, schedule, opt, verilog, ir, generate, bare}

pub returns : goal.returns
unfolding xls
returns c =
    let bare_is : app_of c.no_binary_name.result ≡ bare (new_app (codes "xls")) = ap app_of_fields c.no_binary_name.ensures ∙ ap bare c.new.ensures.app in
    let first = c.with_subcommand-xls.ensures (bare (new_app (codes "xls"))) check bare_is c.check.ensures.app c.check.ensures.local in
    let second = c.with_subcommand-xls-2.ensures _ run first c.run.ensures.app c.run.ensures.local in
    let third = c.with_subcommand-xls-3.ensures _ sim second c.sim.ensures.app c.sim.ensures.local in
    let fourth = c.with_subcommand-xls-4.ensures _ schedule third c.schedule.ensures.app c.schedule.ensures.local in
    let fifth = c.with_subcommand-xls-5.ensures _ opt fourth c.opt.ensures.app c.opt.ensures.local in
    let sixth = c.with_subcommand-xls-6.ensures _ verilog fifth c.verilog.ensures.app c.verilog.ensures.local in
    let seventh = c.with_subcommand-xls-7.ensures _ ir sixth c.ir.ensures.app c.ir.ensures.local in
    c.with_subcommand.ensures _ generate seventh c.generate.ensures.app c.generate.ensures.local
