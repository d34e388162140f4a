-- What a module does over rows, as a text.
use Rattle.std.specs.Prelude.{◌≡◌, ℕ, List}
use Rattle.vlog_tree.specs.declared.module.VModule.{VModule}
use Rattle.vlog_tree.specs.declared.row.Row.{Row}
use Rattle.vlog_tree.specs.declared.row.Outs.{Outs}
use Rattle.vlog_tree.specs.Value.{Values}
use Rattle.vlog_tree.specs.Rows.{Runs}
use Rattle.cycle_sim.specs.Cycles.CycleText.{cycle_text}

-- over these rows the module shows this and nothing else, and this is its text
pub record IsSimulated (m : VModule) (rows : List Row) (text : List ℕ) : Type 0 where
  pub outs : List Outs
  pub held : Values
  pub runs : Runs m rows outs held
  pub only : (shown : List Outs) (other : Values) → Runs m rows shown other → shown ≡ outs
  pub text_is : text ≡ cycle_text m rows outs
