use Rattle.std.proofs.Common.{◌≡◌, [], ℕ, List}
use Rattle.std.specs.Prelude.{replicate}
use Rattle.vlog_tree.proofs.verifier.loops.no_needs.Given as goal

abbrev pub invariant-loop-made : goal.invariant-loop-made
invariant-loop-made l = l.needs.items ≡ replicate l.made []
