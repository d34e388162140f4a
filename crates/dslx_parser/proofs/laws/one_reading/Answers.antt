use Rattle.dslx_parser.proofs.OneReading.{one_answer, one_text_answer}
use Rattle.dslx_parser.proofs.laws.one_reading.Goals as goal

pub returns-clause-of_tokens : goal.returns-clause-of_tokens
returns-clause-of_tokens c = one_answer (record { one_derivation = c.one_derivation.ensures; derives = c.one_tree.ensures.derives; one_forest = c.one_tree.ensures.one; made = c.built_is_made.ensures.made; are_built = c.built_is_made.ensures.built })

pub returns-clause-of_texts : goal.returns-clause-of_texts
returns-clause-of_texts c = one_text_answer (record { one_derivation = c.one_derivation.ensures; derives = c.one_tree.ensures.derives; one_forest = c.one_tree.ensures.one; made = c.built_is_made.ensures.made; are_built = c.built_is_made.ensures.built }) (record { one = c.one_reading.ensures.one; place = c.one_reading.ensures.place; either = c.one_reading.ensures.either })
