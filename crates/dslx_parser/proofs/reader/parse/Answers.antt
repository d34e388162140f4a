use Rattle.dslx_parser.proofs.OneTree.{only_answer}
use Rattle.dslx_parser.proofs.reader.parse.Goals as goal

pub returns-clause-only : goal.returns-clause-only
returns-clause-only c = only_answer (record { one_derivation = c.one_derivation.ensures; derives = c.one_tree.ensures.derives; one_forest = c.one_tree.ensures.one; made = c.built_is_made.ensures.made; are_built = c.built_is_made.ensures.built }) c.args.tokens.now c.read_tokens.result c.read_tokens.ensures.reads c.read_tokens.ensures.refused
