use Rattle.std.proofs.Common.{refl}
use Rattle.dslx_parser.proofs.OnDepths.Whole.{text_is_up}
use Rattle.dslx_parser.proofs.depths.trees_are_shallow.Goals as goal

pub returns-clause-high : goal.returns-clause-high
returns-clause-high c = text_is_up (record { derives = c.one_tree.ensures.derives; same = c.all_rules_make.ensures })

pub returns-clause-number : goal.returns-clause-number
returns-clause-number c = refl
