use Rattle.std.proofs.Common.{Ok, subst, sym}
use Rattle.cmd_line.specs.Named.{named_run}
use Rattle.cmd_line.specs.declared.request.Source.{Source}
use Rattle.xls_cmd.specs.Run.Commands.{run_texts}
use Rattle.xls_cmd.specs.Run.Ready.{shown}
use Rattle.xls_cmd.specs.declared.run.ready.Ready.TheVariants.{Design, Package}
use Rattle.xls_cmd.proofs.run.ready.ready_of.Goals as goal

pub returns-in-Ok-clause-gives : goal.returns-in-Ok-clause-gives
returns-in-Ok-clause-gives c =
    subst (λ (s : Source). run_texts s (named_run c.args.arguments.now) c.args.bytes.now c.args.file.now (Ok (shown c.args.arguments.now.how (Design c.in-Ok.ready)))) (sym c.in-Dslx.is) c.in-Ok.ensures.gives

pub returns-in-Ok-runnable_package-clause-gives : goal.returns-in-Ok-runnable_package-clause-gives
returns-in-Ok-runnable_package-clause-gives c =
    subst (λ (s : Source). run_texts s (named_run c.args.arguments.now) c.args.bytes.now c.args.file.now (Ok (shown c.args.arguments.now.how (Package c.in-Ok-runnable_package.ready)))) (sym c.in-Ir.is) c.in-Ok-runnable_package.ensures.gives
