-- Where the walks over two lists end.
use Rattle.std.proofs.Common.{◌≡◌, ℕ, zero, suc, ◌≤◌, min, List, [], ◌∷◌, drop, length, refl, arith}
use Rattle.ir_tree.specs.declared.node.Node.{Node}
use Rattle.ir_tree.specs.declared.package.Proc.{Proc}
use Rattle.pipe_schedule.specs.declared.schedule.Schedule.{Schedule}
use Rattle.pipe_schedule.specs.Text.Text.{node_lines, proc_lines}

no_stages : (nodes : List Node) → node_lines nodes [] ≡ []
no_stages [] = refl
no_stages (n ∷ nodes) = refl

no_schedules : (procs : List Proc) → proc_lines procs [] ≡ []
no_schedules [] = refl
no_schedules (p ∷ procs) = refl

pub nodes_ended : (nodes : List Node) (stages : List ℕ) (i : ℕ) → min (length nodes) (length stages) ≤ i → node_lines (drop i nodes) (drop i stages) ≡ []
nodes_ended [] stages zero h = refl
nodes_ended [] stages (suc i) h = refl
nodes_ended (n ∷ nodes) [] zero h = refl
nodes_ended (n ∷ nodes) (k ∷ stages) zero h = absurd (omega arith)
nodes_ended (n ∷ nodes) [] (suc i) h = no_stages (drop i nodes)
nodes_ended (n ∷ nodes) (k ∷ stages) (suc i) h = nodes_ended nodes stages i (omega arith)

pub procs_ended : (procs : List Proc) (schedules : List Schedule) (i : ℕ) → min (length procs) (length schedules) ≤ i → proc_lines (drop i procs) (drop i schedules) ≡ []
procs_ended [] schedules zero h = refl
procs_ended [] schedules (suc i) h = refl
procs_ended (p ∷ procs) [] zero h = refl
procs_ended (p ∷ procs) (s ∷ schedules) zero h = absurd (omega arith)
procs_ended (p ∷ procs) [] (suc i) h = no_schedules (drop i procs)
procs_ended (p ∷ procs) (s ∷ schedules) (suc i) h = procs_ended procs schedules i (omega arith)
