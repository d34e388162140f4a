use Rattle.std.proofs.Common.{◌≡◌, ◌++◌, drop}
use Rattle.std.specs.Prelude.{string_bytes}
use Rattle.pipe_schedule.specs.Text.Text.{node_lines}
use Rattle.pipe_schedule.proofs.text.text.push_nodes.Given as goal

abbrev pub invariant-nodes : goal.invariant-nodes
invariant-nodes l = string_bytes l.text ++ node_lines (drop l.i l.nodes) (drop l.i l.stages) ≡ string_bytes l.fn.text ++ node_lines l.nodes l.stages
