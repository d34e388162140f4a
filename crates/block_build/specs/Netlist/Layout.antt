-- Which values a pipeline's registers carry from stage to stage: of what a node gives, one copy for each stage behind its own up
-- to the last that reads it. The state that an activation began with stands in stage 0 and is carried on like any other.
use Rattle.std.specs.Prelude.{◌≡◌, ℕ, zero, suc, ◌<◌, Bool, true, false, ◌&&◌, max, List, [], ◌∷◌, slice_get, nat_lt, nat_le, if◌then◌else◌, ◌==◌, Some}
use Rattle.std.specs.List.{list_any}
use Rattle.ir_tree.specs.declared.node.Operand.{Operand}
use Rattle.ir_tree.specs.declared.node.Operand.TheVariants as operand
use Rattle.ir_tree.specs.declared.node.Node.{Node}
use Rattle.ir_tree.specs.declared.package.Proc.{Proc}
use Rattle.block_build.specs.Netlist.Nodes.{operands_read}

-- who reads operands in a stage: a node, with its predicate and the parts of its attributes that are read; and in the stage in
-- which an activation gives the turn back, the next state
pub record StageReader : Type 0 where
  pub stage : ℕ
  pub operands : List Operand

abbrev pub same_operand : Operand → Operand → Bool
same_operand operand.State operand.State = true
same_operand operand.State (operand.Node k) = false
same_operand (operand.Node i) operand.State = false
same_operand (operand.Node i) (operand.Node k) = i == k

abbrev pub reads_operand : Operand → StageReader → Bool
reads_operand o reader = list_any (same_operand o) reader.operands

-- the last stage in which it is read, or 0
abbrev pub last_read : List StageReader → Operand → ℕ
last_read [] o = 0
last_read (reader ∷ readers) o = if reads_operand o reader then max reader.stage (last_read readers o) else last_read readers o

-- a copy of it stands in stage j
abbrev pub is_carried : (Operand → ℕ) → List StageReader → Operand → ℕ → Bool
is_carried stage readers o j = nat_lt (stage o) j && nat_le j (last_read readers o)

-- in how many of so many stages a copy of it stands
abbrev pub count_copies : (Operand → ℕ → Bool) → Operand → ℕ → ℕ
count_copies carried o zero = 0
count_copies carried o (suc j) = if carried o j then suc (count_copies carried o j) else count_copies carried o j

-- copies from which each stage can be served: what is read of an earlier stage stands there, and a copy comes of the copy in the
-- stage before, if that isn't where the value is made
pub record ServesAll (stage : Operand → ℕ) (readers : List StageReader) (carried : Operand → ℕ → Bool) : Type 0 where
  pub read : (i : ℕ) (reader : StageReader) (o : Operand) → slice_get readers i ≡ Some reader → reads_operand o reader ≡ true → stage o < reader.stage → carried o reader.stage ≡ true
  pub passed_on : (o : Operand) (j : ℕ) → stage o < j → carried o (suc j) ≡ true → carried o j ≡ true

-- the readers of a proc: each node in its stage, and the next state in the stage in which an activation gives the turn back
abbrev pub node_readers : (Operand → ℕ) → ℕ → List Node → List StageReader
node_readers stage k [] = []
node_readers stage k (n ∷ nodes) = record { stage = stage (operand.Node k); operands = operands_read n } ∷ node_readers stage (suc k) nodes

abbrev pub proc_readers : (Operand → ℕ) → Proc → ℕ → List StageReader
proc_readers stage proc last = record { stage = last; operands = proc.next ∷ [] } ∷ node_readers stage 0 proc.nodes
