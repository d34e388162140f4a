-- What a run is made of, and what it shows.
use Rattle.std.specs.Prelude.{ℕ, List}
use Rattle.cmd_line.specs.declared.request.How.{How}
use Rattle.xls_cmd.specs.declared.run.ready.Ready.{Ready}
use Rattle.xls_cmd.specs.declared.run.ready.Ready.TheVariants.{Design, Package}
use Rattle.xls_cmd.specs.Design.Ready as design
use Rattle.xls_cmd.specs.Ir.Ready as ir

-- It can run.
abbrev pub IsReady : Ready → Type 0
IsReady (Design ready) = design.IsReady ready
IsReady (Package ready) = ir.IsReady ready

-- what the run shows
abbrev pub shown : How → Ready → List ℕ
shown how (Design ready) = design.shown how ready
shown how (Package ready) = ir.shown how ready
