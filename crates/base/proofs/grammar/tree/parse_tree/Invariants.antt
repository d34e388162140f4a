use Rattle.base.specs.Grammar.Syntax.{rules_of}
use Rattle.base.specs.Grammar.Inner.Nodes.{AreNodesFrom}
use Rattle.base.proofs.grammar.tree.parse_tree.Given as goal

abbrev pub invariant-loop-place : goal.invariant-loop-place
invariant-loop-place l = AreNodesFrom (rules_of l.grammar) l.productions l.nodes.items l.place
