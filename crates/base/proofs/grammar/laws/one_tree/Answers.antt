use Rattle.base.proofs.OnGrammar.Trees.{parse-tree, Grows-derives, same-forest}
use Rattle.base.proofs.grammar.laws.one_tree.Goals as goal

pub returns-clause-tree : goal.returns-clause-tree
returns-clause-tree c = parse-tree

pub returns-clause-derives : goal.returns-clause-derives
returns-clause-derives c = λ rules s f g. Grows-derives g

pub returns-clause-one : goal.returns-clause-one
returns-clause-one c = λ rules s f g xs ys a b e. same-forest a b xs ys e
