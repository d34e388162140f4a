-- what is found and the reads of the atoms that are left are all reads
use Rattle.std.proofs.Common.{◌≡◌, ◌++◌, drop}
use Rattle.std.specs.Prelude.{flat_map}
use Rattle.vlog_tree.specs.Forms.{atom_reads}
use Rattle.vlog_tree.proofs.reads.push_all.Given as goal

abbrev pub invariant-loop-atom : goal.invariant-loop-atom
invariant-loop-atom l = l.found ++ flat_map atom_reads (drop l.atom-index l.atoms) ≡ l.initial.found ++ flat_map atom_reads l.atoms
