use Rattle.std.proofs.Common.{◌≡◌, ◌++◌, drop}
use Rattle.dslx_token.specs.BracketClasses.BracketClasses.{bracket_classes_by}
use Rattle.dslx_token.proofs.bracket_classes.by_rule.bracket_classes_by.Given as goal

abbrev pub invariant-tokens : goal.invariant-tokens
invariant-tokens l = l.bracket_classes.items ++ bracket_classes_by (drop l.place l.rules) (drop l.place l.kinds) ≡ bracket_classes_by l.rules l.kinds
