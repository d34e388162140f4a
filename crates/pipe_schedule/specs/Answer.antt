-- What is answered for a proc: its schedule, or the cause for which it has none.
use Rattle.std.specs.Prelude.{◌≡◌, ℕ, ◌<◌, ◌≤◌, List, length}
use Rattle.pipe_schedule.specs.declared.schedule.Demands.{Demands}
use Rattle.pipe_schedule.specs.declared.schedule.Schedule.{Schedule}
use Rattle.pipe_schedule.specs.declared.schedule.NoSchedule.{NoSchedule}
use Rattle.pipe_schedule.specs.declared.schedule.NoSchedule.TheVariants.{TooSlow, Stages, Interval, OutOfMemory}
use Rattle.pipe_schedule.specs.Timed.{TimedNode, TimedProc, node_at}
use Rattle.pipe_schedule.specs.Legal.{stage_of, depth_of, interval_of, IsLegal, IsLeastAt, IsLeastLegal}

-- the schedule of a proc: each node in its least stage, and what that makes of the number of stages and the interval
pub record IsSchedule (p : TimedProc) (demands : Demands) (s : Schedule) : Type 0 where
  pub least : IsLeastLegal p demands s.stage
  pub stages : s.stages ≡ depth_of s.stage
  pub interval : s.interval ≡ interval_of p s.stage

-- no node takes longer than the clock
abbrev pub AreInTime : List TimedNode → ℕ → Type 0
AreInTime nodes clock = (i : ℕ) → (node_at nodes i).delay ≤ clock

-- the first node that takes longer than the clock, and how long it takes
pub record IsTooSlow (nodes : List TimedNode) (clock node delay : ℕ) : Type 0 where
  pub there : node < length nodes
  pub exact : delay ≡ (node_at nodes node).delay
  pub slow : clock < delay
  pub first : (i : ℕ) → i < node → (node_at nodes i).delay ≤ clock

-- No node is too slow, but the least stages are too many: how many there must be, and the first node whose least stage is
-- not among those that there may be.
pub record IsTooManyStages (p : TimedProc) (demands : Demands) (node need : ℕ) : Type 0 where
  pub in_time : AreInTime p.nodes demands.clock
  pub stages : List ℕ
  pub least : IsLeastAt p.nodes demands.clock stages
  pub exact : need ≡ depth_of stages
  pub more : demands.stages < need
  pub there : node < length p.nodes
  pub late : demands.stages ≤ stage_of stages node
  pub first : (i : ℕ) → i < node → stage_of stages i < demands.stages

-- the stages are few enough, but the least interval is too long
pub record IsTooRare (p : TimedProc) (demands : Demands) (need : ℕ) : Type 0 where
  pub in_time : AreInTime p.nodes demands.clock
  pub stages : List ℕ
  pub least : IsLeastAt p.nodes demands.clock stages
  pub fits : depth_of stages ≤ demands.stages
  pub exact : need ≡ interval_of p stages
  pub more : demands.interval < need

-- the cause
abbrev pub IsCause : TimedProc → Demands → NoSchedule → Type 0
IsCause p demands (TooSlow node delay) = IsTooSlow p.nodes demands.clock node delay
IsCause p demands (Stages node need) = IsTooManyStages p demands node need
IsCause p demands (Interval need) = IsTooRare p demands need
IsCause p demands OutOfMemory = Unit {0}

-- no schedule is legal
abbrev pub NoneIsLegal : TimedProc → Demands → Type 0
NoneIsLegal p demands = (stages : List ℕ) → IsLegal p demands stages → ⊥

-- want of memory says nothing of the proc
abbrev pub HasNone : TimedProc → Demands → NoSchedule → Type 0
HasNone p demands (TooSlow node delay) = NoneIsLegal p demands
HasNone p demands (Stages node need) = NoneIsLegal p demands
HasNone p demands (Interval need) = NoneIsLegal p demands
HasNone p demands OutOfMemory = Unit {0}
