use Rattle.std.proofs.Common.{string_bytes}
use Rattle.std.proofs.lemmas.Result.{IfOk-weaker}
use Rattle.block_verilog.proofs.OnSchedules.{are_scheduled}
use Rattle.block_verilog.proofs.OnPrinted.{is_verilog}
use Rattle.block_verilog.proofs.printing.print_package.Goals as goal

pub returns-in-Ok-clause-verilog : goal.returns-in-Ok-clause-verilog
returns-in-Ok-clause-verilog c =
    IfOk-weaker c.printed.result _ _
    (λ text is demands scheduled. is_verilog c.printed_modules_read_back.ensures c.args.ir.now c.args.schedules.now c.args.depths.now c.in-Ok.design (string_bytes text) c.requires.verified c.in-Ok.ensures.verified
    (c.in-Ok.ensures.module demands.clock (are_scheduled c.args.ir.now.procs demands c.args.schedules.now scheduled)) is)
    c.printed.ensures.text
