use Rattle.std.proofs.Common.{◌≡◌, reverse}
use Rattle.dslx_tree.specs.Operators.Levels.{merged_to}
use Rattle.dslx_tree.proofs.operators.chain.tree.Given as goal

abbrev pub invariant-loop-level : goal.invariant-loop-level
invariant-loop-level l =
    let all = merged_to l.level l.initial.chain.first (reverse l.initial.chain.links.items) in
    (l.chain.first ≡ all.first) × (reverse l.chain.links.items ≡ all.links)
