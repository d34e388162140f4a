use Rattle.std.proofs.Common.{◌≡◌, ◌++◌, map}
use Rattle.dslx_token.specs.BracketClasses.Takers.{owned_by}
use Rattle.dslx_token.proofs.bracket_classes.owners.push_body.Given as goal

abbrev pub invariant-loop-symbol : goal.invariant-loop-symbol
invariant-loop-symbol l = l.ahead.items ≡ l.initial.ahead.items ++ owned_by l.rule (map (λ x. x.now) l.yielded)
