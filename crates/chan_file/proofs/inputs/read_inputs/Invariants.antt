use Rattle.std.proofs.Common.{length}
use Rattle.base.specs.Texts.Lines.{lines_of, positioned}
use Rattle.chan_file.proofs.Lines.{IsSoFar}
use Rattle.chan_file.proofs.inputs.read_inputs.Given as goal

abbrev pub invariant-lines : goal.invariant-lines
invariant-lines l = record {
  so_far : IsSoFar l.net (positioned 0 (lines_of l.text)) l.lines (length l.text) l.named l.words.items;
}

abbrev pub decreases-lines : goal.decreases-lines
decreases-lines l = length l.lines
