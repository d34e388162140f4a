use Rattle.std.proofs.Common.{subst, arith}
use Rattle.base.proofs.OnGrammar.Trees.{has-tree, nodes-more}
use Rattle.base.specs.Grammar.Syntax.{rules_of}
use Rattle.base.specs.Grammar.Inner.Nodes.{AreNodesFrom}
use Rattle.base.proofs.grammar.tree.parse_tree.Goals as goal

pub node_at-node-requires-clause-tree : goal.node_at-node-requires-clause-tree
node_at-node-requires-clause-tree c =
    has-tree c.requires.derivation _ (omega arith) (omega arith)

pub loop-place-preserved : goal.loop-place-preserved
loop-place-preserved c =
    nodes-more _ _ c.loop-place.nodes.items _ c.node_at-node.result
    (subst (AreNodesFrom (rules_of c.args.grammar.now) c.args.productions.now c.loop-place.nodes.items) (omega arith) c.loop-place.invariant) c.node_at-node.ensures
