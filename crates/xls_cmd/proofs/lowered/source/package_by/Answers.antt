use Rattle.std.proofs.Common.{IfOk, Ok, subst, sym}
use Rattle.std.specs.Option.{option_copied}
use Rattle.cmd_line.specs.declared.request.Source.{Source}
use Rattle.xls_cmd.specs.Lowered.Commands.{GivesPackageBy}
use Rattle.xls_cmd.proofs.lowered.source.package_by.Goals as goal

pub returns-in-Dslx-clause-gives : goal.returns-in-Dslx-clause-gives
returns-in-Dslx-clause-gives c =
    subst (λ (s : Source). IfOk c.lower_text.result (λ ir. GivesPackageBy s c.args.name.now (option_copied c.args.top) c.args.bytes.now (Ok ir))) (sym c.in-Dslx.is) c.lower_text.ensures.gives

pub returns-in-Ir-clause-gives : goal.returns-in-Ir-clause-gives
returns-in-Ir-clause-gives c =
    subst (λ (s : Source). IfOk c.read_package.result (λ ir. GivesPackageBy s c.args.name.now (option_copied c.args.top) c.args.bytes.now (Ok ir))) (sym c.in-Ir.is) c.read_package.ensures.reads
