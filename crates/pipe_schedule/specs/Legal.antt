-- Legal schedules. A schedule gives each node of a proc a stage, by a list of stages in the order of the nodes.
use Rattle.std.specs.Prelude.{◌≡◌, ℕ, suc, ◌+◌, ◌<◌, ◌≤◌, max, List, [], ◌∷◌, length, get_or, if◌then◌else◌}
use Rattle.ir_tree.specs.declared.node.Operand.{Operand}
use Rattle.ir_tree.specs.declared.node.Operand.TheVariants as operand
use Rattle.pipe_schedule.specs.declared.schedule.Demands.{Demands}
use Rattle.pipe_schedule.specs.Timed.{TimedNode, TimedProc, node_at, IsSource, IsSite, IsReceive, IsSend, is_receive}

-- the stage of node i
abbrev pub stage_of : List ℕ → ℕ → ℕ
stage_of stages i = get_or stages i 0

-- ---- paths

-- a path of nodes, the last one first: each takes a value from the one behind it in the list
abbrev pub IsPath : List TimedNode → List ℕ → Type 0
IsPath nodes [] = Unit {0}
IsPath nodes (i ∷ []) = i < length nodes
IsPath nodes (i ∷ j ∷ path) = IsSource nodes i j × IsPath nodes (j ∷ path)

-- all nodes of the path stand in stage k
abbrev pub AreInStage : List ℕ → ℕ → List ℕ → Type 0
AreInStage stages k [] = Unit {0}
AreInStage stages k (i ∷ path) = (stage_of stages i ≡ k) × AreInStage stages k path

-- how long the nodes of a path take, one after the other
abbrev pub path_delay : List TimedNode → List ℕ → ℕ
path_delay nodes [] = 0
path_delay nodes (i ∷ path) = (node_at nodes i).delay + path_delay nodes path

-- ---- what a schedule must keep, whatever its number of stages and its interval

pub record IsLegalAt (nodes : List TimedNode) (clock : ℕ) (stages : List ℕ) : Type 0 where
  -- each node has a stage
  pub count : length stages ≡ length nodes
  -- no operand is later
  pub operands : (i j : ℕ) → IsSource nodes i j → stage_of stages j ≤ stage_of stages i
  -- no path inside a stage takes longer than the clock
  pub paths : (k : ℕ) (path : List ℕ) → IsPath nodes path → AreInStage stages k path → path_delay nodes path ≤ clock
  -- sites go in their order
  pub chain : (i j : ℕ) → i < j → IsSite nodes i → IsSite nodes j → stage_of stages i ≤ stage_of stages j
  -- a receive behind a send is strictly later
  pub answers : (i j : ℕ) → i < j → IsSend nodes i → IsReceive nodes j → stage_of stages i < stage_of stages j

-- each node has its least stage among all schedules of these
pub record IsLeastAt (nodes : List TimedNode) (clock : ℕ) (stages : List ℕ) : Type 0 where
  pub legal : IsLegalAt nodes clock stages
  pub least : (other : List ℕ) → IsLegalAt nodes clock other → (i : ℕ) → stage_of stages i ≤ stage_of other i

-- ---- the number of stages and the interval

abbrev pub greatest : List ℕ → ℕ
greatest [] = 0
greatest (k ∷ ks) = max k (greatest ks)

-- the number of stages: 1 where there is no node
abbrev pub depth_of : List ℕ → ℕ
depth_of stages = suc (greatest stages)

-- the stage of the last receive, and where there is none the stage found before
abbrev pub last_receive : ℕ → List TimedNode → List ℕ → ℕ
last_receive found [] stages = found
last_receive found (n ∷ nodes) [] = found
last_receive found (n ∷ nodes) (k ∷ stages) = last_receive (if is_receive n.role then k else found) nodes stages

-- the state stands in stage 0
abbrev pub operand_stage : List ℕ → Operand → ℕ
operand_stage stages operand.State = 0
operand_stage stages (operand.Node i) = stage_of stages i

-- the stage behind which the next activation may begin: that of the last receive, or that of the next state, if it is later
abbrev pub turn_stage : TimedProc → List ℕ → ℕ
turn_stage p stages = max (last_receive 0 p.nodes stages) (operand_stage stages p.next)

-- how many cycles after one activation the next may begin
abbrev pub interval_of : TimedProc → List ℕ → ℕ
interval_of p stages = suc (turn_stage p stages)

-- ---- legal schedules

pub record IsLegal (p : TimedProc) (demands : Demands) (stages : List ℕ) : Type 0 where
  pub at : IsLegalAt p.nodes demands.clock stages
  pub depth : depth_of stages ≤ demands.stages
  pub interval : interval_of p stages ≤ demands.interval

-- it is legal, and each node has its least stage among all legal schedules
pub record IsLeastLegal (p : TimedProc) (demands : Demands) (stages : List ℕ) : Type 0 where
  pub legal : IsLegal p demands stages
  pub least : (other : List ℕ) → IsLegal p demands other → (i : ℕ) → stage_of stages i ≤ stage_of other i
