use Rattle.std.proofs.Common.{subst, sym}
use Rattle.xls_cmd.specs.Shared.Done.{StopsBy}
use Rattle.xls_cmd.specs.Verilog.Commands.{PrintsModule, prints}
use Rattle.xls_cmd.proofs.OnVerilog.Steps.{refuses_depth}
use Rattle.xls_cmd.proofs.verilog.printing.printed.Goals as goal

pub returns-in-Ok-clause-gives : goal.returns-in-Ok-clause-gives
returns-in-Ok-clause-gives c = λ demands scheduled. rw c.into_bytes.ensures.value (prints _ c.in-Ok.ensures.shallow (c.in-Ok.ensures.verilog demands scheduled))

pub returns-in-Err-Over-clause-refused : goal.returns-in-Err-Over-clause-refused
returns-in-Err-Over-clause-refused c =
    subst (StopsBy (PrintsModule c.args.name.now c.args.ir.now c.args.depths.now c.args.schedules.now)) (sym c.of_text.ensures)
    (refuses_depth c.args.name c.args.ir.now c.args.depths.now c.args.schedules.now c.in-Err-Over.limit (rw c.in-Err-Over.field-0-is at c.in-Err-Over.ensures.refused))
