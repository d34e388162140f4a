use Rattle.std.proofs.Common.{◌≡◌, take, true}
use Rattle.base.proofs.OnTexts.Cuts.{is_one_line}
use Rattle.base.proofs.texts.lines.split_line.Given as goal

abbrev pub invariant-loop-at : goal.invariant-loop-at
invariant-loop-at l = is_one_line (take l.at l.text) ≡ true
