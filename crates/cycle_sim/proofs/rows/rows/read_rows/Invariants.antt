use Rattle.std.proofs.Common.{length}
use Rattle.base.specs.Texts.Lines.{lines_of, positioned}
use Rattle.vlog_tree.specs.Signals.{channels_of}
use Rattle.cycle_sim.proofs.OnRows.Lines.{AreRead}
use Rattle.cycle_sim.proofs.rows.rows.read_rows.Given as goal

abbrev pub invariant-lines : goal.invariant-lines
invariant-lines l = record {
  so_far : AreRead (channels_of l.design) (positioned 0 (lines_of l.text)) l.lines (length l.text) l.rows.items l.count;
}

abbrev pub decreases-lines : goal.decreases-lines
decreases-lines l = length l.lines
