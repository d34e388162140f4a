use Rattle.std.proofs.Common.{◌≡◌, ◌++◌, map}
use Rattle.base.proofs.grammar.parser.push_reversed.Given as goal

abbrev pub invariant-loop-symbol : goal.invariant-loop-symbol
invariant-loop-symbol l = l.stack.items ≡ l.initial.stack.items ++ map (λ x. x.now) l.yielded
