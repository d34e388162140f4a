-- The arguments of a request, without where the names of files lie in memory.
use Rattle.std.specs.Prelude.{ℕ, List}
use Rattle.std.specs.Borrow.{Bor}
use Rattle.std.specs.Option.{option_copied}
use Rattle.cmd_line.specs.declared.request.Request.{Request}
use Rattle.cmd_line.specs.declared.request.Request.TheVariants as request
use Rattle.cmd_line.specs.declared.request.Check.{Check}
use Rattle.cmd_line.specs.declared.request.Run.{Run}
use Rattle.cmd_line.specs.declared.request.Sim.{Sim}
use Rattle.cmd_line.specs.declared.request.Schedule.{Schedule}
use Rattle.cmd_line.specs.declared.request.Opt.{Opt}
use Rattle.cmd_line.specs.declared.request.Ir.{Ir}
use Rattle.cmd_line.specs.declared.request.Verilog.{Verilog}

abbrev pub named_check : Check (Bor (List ℕ)) → Check (List ℕ)
named_check said = record { design = said.design.now; top = option_copied said.top }

abbrev pub named_run : Run (Bor (List ℕ)) → Run (List ℕ)
named_run said = record { design = said.design.now; inputs = said.inputs.now; top = option_copied said.top; how = said.how }

abbrev pub named_sim : Sim (Bor (List ℕ)) → Sim (List ℕ)
named_sim said = record { design = said.design.now; rows = said.rows.now }

abbrev pub named_schedule : Schedule (Bor (List ℕ)) → Schedule (List ℕ)
named_schedule said = record { design = said.design.now; top = option_copied said.top; timing = said.timing; source = said.source }

abbrev pub named_opt : Opt (Bor (List ℕ)) → Opt (List ℕ)
named_opt said = record { design = said.design.now; top = option_copied said.top; source = said.source }

abbrev pub named_ir : Ir (Bor (List ℕ)) → Ir (List ℕ)
named_ir said = record { design = said.design.now; top = option_copied said.top }

abbrev pub named_verilog : Verilog (Bor (List ℕ)) → Verilog (List ℕ)
named_verilog said = record { design = said.design.now; top = option_copied said.top; timing = said.timing; depth = said.depth; source = said.source }

abbrev pub named : Request (Bor (List ℕ)) → Request (List ℕ)
named (request.Check said) = request.Check (named_check said)
named (request.Run said) = request.Run (named_run said)
named (request.Sim said) = request.Sim (named_sim said)
named (request.Schedule said) = request.Schedule (named_schedule said)
named (request.Opt said) = request.Opt (named_opt said)
named (request.Verilog said) = request.Verilog (named_verilog said)
named (request.Ir said) = request.Ir (named_ir said)
named (request.Gen said) = request.Gen said
