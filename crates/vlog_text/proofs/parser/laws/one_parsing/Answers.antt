use Rattle.vlog_text.proofs.OnParser.OneTree.{one_answer}
use Rattle.vlog_text.proofs.parser.laws.one_parsing.Goals as goal

pub returns : goal.returns
returns c = one_answer (record { one_derivation = c.one_derivation.ensures; derives = c.one_tree.ensures.derives; one_forest = c.one_tree.ensures.one })
