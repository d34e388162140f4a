use Rattle.std.proofs.Common.{◌≡◌, ◌++◌, length, reverse}
use Rattle.dslx_token.specs.BracketClasses.Takers.{behind_nonterminal, prefix_takers}
use Rattle.dslx_token.proofs.bracket_classes.owners.take_prefix.Given as goal

abbrev pub invariant-loop-owned : goal.invariant-loop-owned
invariant-loop-owned l = record {
  takers : l.takers.items ++ prefix_takers (reverse l.ahead.items) ≡ l.initial.takers.items ++ prefix_takers (reverse l.initial.ahead.items);
  ahead : behind_nonterminal (reverse l.ahead.items) ≡ behind_nonterminal (reverse l.initial.ahead.items);
}

abbrev pub decreases-loop-owned : goal.decreases-loop-owned
decreases-loop-owned l = length l.ahead.items
