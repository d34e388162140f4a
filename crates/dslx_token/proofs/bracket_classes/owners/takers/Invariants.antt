use Rattle.std.proofs.Common.{◌≡◌, ◌++◌, drop, reverse}
use Rattle.dslx_token.specs.Rules.Dslx.{dslx}
use Rattle.dslx_token.specs.BracketClasses.Takers.{takers_from, takers_of}
use Rattle.dslx_token.proofs.bracket_classes.owners.takers.Given as goal

abbrev pub invariant-loop-number : goal.invariant-loop-number
invariant-loop-number l = l.takers.items ++ takers_from dslx.rules (drop l.number-index l.productions) (reverse l.ahead.items) ≡ takers_of l.productions
