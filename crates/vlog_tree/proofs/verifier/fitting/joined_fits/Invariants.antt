-- the widths of the atoms so far and what is left of the target's make that width
use Rattle.std.proofs.Common.{◌≡◌, ◌+◌, ◌≤◌, drop}
use Rattle.vlog_tree.specs.Signals.{declared_widths}
use Rattle.vlog_tree.specs.Forms.{joined_width}
use Rattle.vlog_tree.proofs.verifier.fitting.joined_fits.Given as goal

abbrev pub invariant-loop-atom : goal.invariant-loop-atom
invariant-loop-atom l = record {
  within : l.left ≤ l.width;
  sum : joined_width (declared_widths l.design) (drop l.atom-index l.atoms) + l.width ≡ joined_width (declared_widths l.design) l.atoms + l.left;
}
