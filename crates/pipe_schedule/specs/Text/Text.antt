-- The text of schedules.
use Rattle.std.specs.Prelude.{ℕ, List, [], ◌∷◌, ◌++◌, codes, decimal}
use Rattle.ir_tree.specs.declared.node.Node.{Node}
use Rattle.ir_tree.specs.declared.package.Proc.{Proc}
use Rattle.ir_tree.specs.declared.package.Package.{Package}
use Rattle.ir_text.specs.Printer.Parts.{node_name}
use Rattle.pipe_schedule.specs.declared.schedule.Schedule.{Schedule}

-- `  OP.ID STAGE`
unfoldable pub node_line : Node → ℕ → List ℕ
node_line n stage = codes "  " ++ (node_name n ++ ((codes " " ++ decimal stage) ++ codes "\n"))

-- a line for each node and its stage
abbrev pub node_lines : List Node → List ℕ → List ℕ
node_lines [] stages = []
node_lines (n ∷ nodes) [] = []
node_lines (n ∷ nodes) (k ∷ stages) = node_line n k ++ node_lines nodes stages

-- `proc PATH stages D interval I`
unfoldable pub proc_line : Proc → Schedule → List ℕ
proc_line p s = codes "proc " ++ (p.name ++ ((codes " stages " ++ decimal s.stages) ++ ((codes " interval " ++ decimal s.interval) ++ codes "\n")))

-- the lines of each proc and its schedule
abbrev pub proc_lines : List Proc → List Schedule → List ℕ
proc_lines [] schedules = []
proc_lines (p ∷ procs) [] = []
proc_lines (p ∷ procs) (s ∷ schedules) = (proc_line p s ++ node_lines p.nodes s.stage) ++ proc_lines procs schedules

abbrev pub schedule_text : Package → List Schedule → List ℕ
schedule_text ir schedules = proc_lines ir.procs schedules
