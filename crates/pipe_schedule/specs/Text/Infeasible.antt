-- The line that says why there is no schedule.
use Rattle.std.specs.Prelude.{ℕ, List, [], ◌++◌, codes, decimal, slice_get, Option, Some, None}
use Rattle.ir_tree.specs.declared.package.Proc.{Proc}
use Rattle.ir_tree.specs.declared.package.Package.{Package}
use Rattle.ir_text.specs.Printer.Parts.{name_there}
use Rattle.pipe_schedule.specs.declared.schedule.Demands.{Demands}
use Rattle.pipe_schedule.specs.declared.schedule.NoSchedule.{NoSchedule}
use Rattle.pipe_schedule.specs.declared.schedule.NoSchedule.TheVariants.{TooSlow, Stages, Interval, OutOfMemory}
use Rattle.pipe_schedule.specs.declared.package.Infeasible.{Infeasible}

-- `NODE takes D ps, clock C`
unfoldable pub slow_text : List ℕ → ℕ → ℕ → List ℕ
slow_text name delay clock = name ++ ((codes " takes " ++ decimal delay) ++ (codes " ps, clock " ++ decimal clock))

-- `NODE needs N stages, given S`
unfoldable pub few_text : List ℕ → ℕ → ℕ → List ℕ
few_text name need stages = name ++ ((codes " needs " ++ decimal need) ++ (codes " stages, given " ++ decimal stages))

-- `interval N, given I`
unfoldable pub rare_text : ℕ → ℕ → List ℕ
rare_text need interval = (codes "interval " ++ decimal need) ++ (codes ", given " ++ decimal interval)

-- want of memory has no text
abbrev pub cause_text : Proc → Demands → NoSchedule → List ℕ
cause_text p demands (TooSlow node delay) = slow_text (name_there (slice_get p.nodes node)) delay demands.clock
cause_text p demands (Stages node need) = few_text (name_there (slice_get p.nodes node)) need demands.stages
cause_text p demands (Interval need) = rare_text need demands.interval
cause_text p demands OutOfMemory = []

-- `infeasible: PROC: `
unfoldable pub head_text : Proc → List ℕ
head_text p = codes "infeasible: " ++ (p.name ++ codes ": ")

abbrev pub proc_text : Option Proc → Demands → NoSchedule → List ℕ
proc_text None demands cause = []
proc_text (Some p) demands cause = head_text p ++ (cause_text p demands cause ++ codes "\n")

-- `infeasible: PROC: CAUSE`
abbrev pub infeasible_text : Package → Demands → Infeasible → List ℕ
infeasible_text ir demands e = proc_text (slice_get ir.procs e.proc) demands e.cause
