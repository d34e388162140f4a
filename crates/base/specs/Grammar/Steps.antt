-- How a tree is built from the bottom up, with a stack.
use Rattle.std.specs.Prelude.{List, [], ◌∷◌, ◌++◌}
use Rattle.base.specs.declared.grammar.bottom_up.Step.{Step}
use Rattle.base.specs.declared.grammar.bottom_up.Step.TheVariants.{Shift, Reduce}
use Rattle.base.specs.Grammar.Tree.{Forest, nothing, token, node}

-- Trees from the left: a token is shifted, and a node is reduced once what is below it is built.
abbrev pub steps_of : Forest → List Step
steps_of nothing = []
steps_of (token t right) = Shift ∷ steps_of right
steps_of (node p below right) = steps_of below ++ Reduce p ∷ steps_of right
