use Rattle.std.proofs.Common.{arith, length}
use Rattle.dslx_token.specs.BracketClasses.BracketClasses.{bracket_classes_by}
use Rattle.dslx_token.proofs.OnBracketClasses.Taking.{min_past, bracket_classes_done}
use Rattle.dslx_token.proofs.bracket_classes.by_rule.bracket_classes_by.Goals as goal

pub returns : goal.returns
returns c =
    bracket_classes_done c.args.rules.now c.args.kinds.now c.tokens.place c.tokens.bracket_classes.items (bracket_classes_by c.args.rules.now c.args.kinds.now)
    (min_past (length c.args.rules.now) (length c.args.kinds.now) c.tokens.place (omega arith)) c.tokens.invariant
