use Rattle.dslx_parser.proofs.OnBuilt.Whole.{text_is_made, text_is_built}
use Rattle.dslx_parser.proofs.built.built_is_made.Goals as goal

pub returns-clause-made : goal.returns-clause-made
returns-clause-made c = text_is_made c.all_rules_make.ensures

pub returns-clause-built : goal.returns-clause-built
returns-clause-built c = text_is_built c.all_rules_make.ensures
