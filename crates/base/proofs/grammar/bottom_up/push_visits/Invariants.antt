use Rattle.std.proofs.Common.{◌≡◌, ◌++◌, map}
use Rattle.base.specs.Grammar.Inner.Tasks.{reads}
use Rattle.base.proofs.grammar.bottom_up.push_visits.Given as goal

abbrev pub invariant-loop-symbol : goal.invariant-loop-symbol
invariant-loop-symbol l = l.tasks.items ≡ l.initial.tasks.items ++ reads (map (λ x. x.now) l.yielded)
