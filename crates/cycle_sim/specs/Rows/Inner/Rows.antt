-- What items of a row say.
use Rattle.std.specs.Prelude.{◌≡◌, ℕ, Bool, List}
use Rattle.vlog_tree.specs.Signals.{Channel}
use Rattle.cycle_sim.specs.declared.rows.draft.Draft.{Draft}
use Rattle.cycle_sim.specs.declared.rows.line.LineSaid.{LineSaid}
use Rattle.cycle_sim.specs.Rows.Forms.{times_of, without_repeat}
use Rattle.cycle_sim.specs.Rows.RowFile.{row_by}
use Rattle.cycle_sim.specs.Rows.Said.{SaysItems, blank_draft}

-- a row of these items
pub record RowSays (channels : List Channel) (reset : Bool) (items : List (List ℕ)) (said : LineSaid) : Type 0 where
  pub draft : Draft
  pub says : SaysItems channels (without_repeat items) (blank_draft channels) draft
  pub is : said ≡ row_by reset (times_of items) draft
