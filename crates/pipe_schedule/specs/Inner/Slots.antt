-- Nodes put one after the other into the earliest stage that they may have, and how far into its cycle their values are ready.
use Rattle.std.specs.Prelude.{All, ◌≡◌, ℕ, zero, suc, get_or, ◌+◌, ◌*◌, ◌<◌, ◌≤◌, max, length, nat_lt, nat_le, List, [], ◌∷◌, ◌++◌, map, slice_get, Option, Some, None, if◌then◌else◌}
use Rattle.ir_tree.specs.declared.node.Node.{Node}
use Rattle.ir_tree.specs.declared.package.Proc.{Proc}
use Rattle.ir_tree.specs.NodeValues.{role_of}
use Rattle.ir_tree.specs.declared.node.Role.{Role}
use Rattle.ir_tree.specs.declared.node.Role.TheVariants as role
use Rattle.pipe_schedule.specs.declared.slot.Slot.{Slot}
use Rattle.pipe_schedule.specs.declared.slot.Floor.{Floor}
use Rattle.pipe_schedule.specs.declared.schedule.NoSchedule.{NoSchedule}
use Rattle.pipe_schedule.specs.declared.schedule.NoSchedule.TheVariants.{TooSlow, Stages, Interval, OutOfMemory}
use Rattle.pipe_schedule.specs.Timed.{TimedNode, node_at, IsSource, is_receive}
use Rattle.pipe_schedule.specs.Legal.{operand_stage}
use Rattle.pipe_schedule.specs.Answer.{IsTooSlow}

-- the later of the two: in a later stage, or later in one stage
abbrev pub later : Slot → Slot → Slot
later a b = if nat_lt a.stage b.stage then b else (if nat_lt b.stage a.stage then a else record { stage = a.stage; time = max a.time b.time })

abbrev pub later_if : Slot → Option Slot → Slot
later_if at None = at
later_if at (Some s) = later at s

-- the latest of a slot and those of nodes
abbrev pub latest : List Slot → Slot → List ℕ → Slot
latest slots at [] = at
latest slots at (j ∷ js) = latest slots (later_if at (slice_get slots j)) js

-- the slot of a node that may start at one and takes so long: in its stage if there is time left, else in the next
abbrev pub slotted : ℕ → ℕ → Slot → Slot
slotted clock delay at =
    if nat_le (at.time + delay) clock then record { stage = at.stage; time = at.time + delay } else record { stage = suc at.stage; time = delay }

-- the earliest stage of a node, by the sites before it
abbrev pub lowest : Floor → Role → ℕ
lowest floor role.Pure = 0
lowest floor (role.Receive predicate c) = floor.receive
lowest floor (role.Send predicate c) = floor.send

-- what a node of a stage leaves to the sites behind it
abbrev pub raised : Floor → Role → ℕ → Floor
raised floor role.Pure k = floor
raised floor (role.Receive predicate c) k = record { send = k; receive = k }
raised floor (role.Send predicate c) k = record { send = k; receive = suc k }

abbrev pub no_floor : Floor
no_floor = record { send = 0; receive = 0 }

abbrev pub slot_of : ℕ → List Slot → Floor → TimedNode → Slot
slot_of clock slots floor n = slotted clock n.delay (latest slots (record { stage = lowest floor n.role; time = 0 }) n.sources)

-- the slots of all nodes, where those before have these
unfoldable pub slots_from : ℕ → List Slot → Floor → List TimedNode → List Slot
slots_from clock slots floor [] = slots
slots_from clock slots floor (n ∷ nodes) =
    slots_from clock (slots ++ slot_of clock slots floor n ∷ []) (raised floor n.role (slot_of clock slots floor n).stage) nodes

abbrev pub slots_of : ℕ → List TimedNode → List Slot
slots_of clock nodes = slots_from clock [] no_floor nodes

abbrev pub stages_of : List Slot → List ℕ
stages_of slots = map (λ (s : Slot). s.stage) slots

-- ---- what is promised of slots

-- no stage is past m
abbrev pub AreUpTo : List Slot → ℕ → Type 0
AreUpTo slots m = All (λ (s : Slot). s.stage ≤ m) slots

-- the slots of nodes none of which is slower than the clock
pub record AreSlotsInTime (nodes : List TimedNode) (clock : ℕ) (slots : List Slot) : Type 0 where
  pub exact : slots ≡ slots_of clock nodes
  pub count : length slots ≡ length nodes
  pub up_to : AreUpTo slots (2 * length nodes)
  pub in_time : (i : ℕ) → i < length nodes → (node_at nodes i).delay ≤ clock

-- the first node that is slower than the clock, or want of memory
abbrev pub IsFirstSlow : List TimedNode → ℕ → NoSchedule → Type 0
IsFirstSlow nodes clock (TooSlow node delay) = IsTooSlow nodes clock node delay
IsFirstSlow nodes clock (Stages node need) = ⊥
IsFirstSlow nodes clock (Interval need) = ⊥
IsFirstSlow nodes clock OutOfMemory = Unit {0}

-- what stands for the slot of a node that isn't there
abbrev pub no_slot : Slot
no_slot = record { stage = 0; time = 0 }

abbrev pub slot_at : List Slot → ℕ → Slot
slot_at slots i = get_or slots i no_slot

-- what the nodes before the one of index i leave to its sites
abbrev pub floor_at : List TimedNode → List Slot → ℕ → Floor
floor_at nodes slots zero = no_floor
floor_at nodes slots (suc i) = raised (floor_at nodes slots i) (node_at nodes i).role (slot_at slots i).stage

abbrev pub start_at : List TimedNode → List Slot → ℕ → Slot
start_at nodes slots i = latest slots (record { stage = lowest (floor_at nodes slots i) (node_at nodes i).role; time = 0 }) (node_at nodes i).sources

-- each node takes values of earlier ones alone
abbrev pub AreSourcesEarlier : List TimedNode → Type 0
AreSourcesEarlier nodes = (i j : ℕ) → IsSource nodes i j → j < i

-- nodes that take no longer than the clock, each in the slot that those before leave to it
pub record AreSlotted (nodes : List TimedNode) (clock : ℕ) (slots : List Slot) : Type 0 where
  pub count : length slots ≡ length nodes
  pub order : AreSourcesEarlier nodes
  pub in_time : (i : ℕ) → (node_at nodes i).delay ≤ clock
  pub slotted : (i : ℕ) → i < length nodes → slot_at slots i ≡ slotted clock (node_at nodes i).delay (start_at nodes slots i)

-- ---- what a schedule comes to

-- the stage of the last receive, and where there is none the stage found before
abbrev pub receive_within : ℕ → List Node → List ℕ → ℕ
receive_within found [] stages = found
receive_within found (n ∷ nodes) [] = found
receive_within found (n ∷ nodes) (k ∷ stages) = receive_within (if is_receive (role_of n) then k else found) nodes stages

abbrev pub turn_within : Proc → List ℕ → ℕ
turn_within p stages = max (receive_within 0 p.nodes stages) (operand_stage stages p.next)
