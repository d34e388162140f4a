use Rattle.vlog_text.proofs.OnParser.OneTree.{only_answer}
use Rattle.vlog_text.proofs.parser.reader.parse.Goals as goal

pub returns-clause-only : goal.returns-clause-only
returns-clause-only c = only_answer (record { one_derivation = c.one_derivation.ensures; derives = c.one_tree.ensures.derives; one_forest = c.one_tree.ensures.one }) c.args.tokens.now c.read.result c.read.ensures.reads c.read.ensures.refused
