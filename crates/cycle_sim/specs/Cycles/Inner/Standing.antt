-- Where a bench stands.
use Rattle.std.specs.Prelude.{◌≡◌, List, length}
use Rattle.vlog_tree.specs.declared.row.Row.{Row}
use Rattle.vlog_tree.specs.declared.row.Outs.{Outs}
use Rattle.cycle_sim.specs.Sim.{StandsAfter}
use Rattle.cycle_sim.specs.declared.cycles.bench.Bench.{Bench}
use Rattle.cycle_sim.specs.Cycles.CycleText.{moved_over, names_of, none_moved, rows_text}

-- the bench has written what its module shows over these rows
pub record HasWritten (b : Bench) (rows : List Row) : Type 0 where
  pub outs : List Outs
  pub stands : StandsAfter b.sim rows outs
  pub names_are : b.names ≡ names_of b.sim.design
  pub text_is : b.text.items ≡ rows_text b.names 0 outs
  pub count_is : b.count ≡ length outs
  pub moved_is : b.moved.items ≡ moved_over rows outs (none_moved b.sim.design)
  pub sizes : length b.moved.items ≡ length b.names
  pub rows_are : length outs ≡ length rows
