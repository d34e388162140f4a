use Rattle.ir_text.proofs.OnParser.OnePackage.{one_answer}
use Rattle.ir_text.proofs.parser.laws.one_package.Goals as goal

pub returns : goal.returns
returns c = λ text a b. one_answer (record {
  grammar = record { one_derivation = c.one_derivation.ensures; derives = c.one_tree.ensures.derives; one_forest = c.one_tree.ensures.one };
  one = c.one_list_of_tokens.ensures.one;
  place = c.one_list_of_tokens.ensures.place;
  either = c.one_list_of_tokens.ensures.either;
}) text a b
