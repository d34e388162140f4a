-- what is found and the literals of the atoms that are left are all literals
use Rattle.std.proofs.Common.{◌≡◌, ◌++◌, drop}
use Rattle.std.specs.Prelude.{flat_map}
use Rattle.vlog_tree.specs.Forms.{atom_literals}
use Rattle.vlog_tree.proofs.literals.push_all.Given as goal

abbrev pub invariant-loop-atom : goal.invariant-loop-atom
invariant-loop-atom l = l.found ++ flat_map atom_literals (drop l.atom-index l.atoms) ≡ l.initial.found ++ flat_map atom_literals l.atoms
