-- The last stage in which each value of a proc is read, as far as some readers go.
use Rattle.std.specs.Prelude.{◌≡◌, ℕ, max, nat_lt, length, get_or, set, if◌then◌else◌, List}
use Rattle.std.specs.List.{list_any}
use Rattle.ir_tree.specs.declared.node.Operand.{Operand}
use Rattle.ir_tree.specs.declared.node.Operand.TheVariants as operand
use Rattle.block_build.specs.declared.netlist.last_reads.LastReads.{LastReads}
use Rattle.block_build.specs.Netlist.Layout.{same_operand}
use Rattle.block_build.specs.Netlist.Nodes.{IsEarlier}

-- the stage of an operand where those of nodes are these
abbrev pub stage_by : List ℕ → Operand → ℕ
stage_by stages operand.State = 0
stage_by stages (operand.Node k) = get_or stages k 0

-- the last stage in which it is read
abbrev pub read_at : LastReads → Operand → ℕ
read_at reads operand.State = reads.state
read_at reads (operand.Node k) = get_or reads.nodes.items k 0

-- the number of an index is at least this, if it is there
abbrev pub raised : List ℕ → ℕ → ℕ → List ℕ
raised numbers index least = if nat_lt index (length numbers) then set numbers index (max (get_or numbers index 0) least) else numbers

-- these are read in a stage, too
pub record ReadsNoted (old new : LastReads) (stage : ℕ) (operands : List Operand) : Type 0 where
  pub count : length new.nodes.items ≡ length old.nodes.items
  pub read : (o : Operand) → IsEarlier (length old.nodes.items) o
      → read_at new o ≡ (if list_any (same_operand o) operands then max (read_at old o) stage else read_at old o)
