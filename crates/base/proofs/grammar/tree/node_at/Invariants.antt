use Rattle.std.proofs.Common.{drop}
use Rattle.base.specs.Grammar.Syntax.{rules_of}
use Rattle.base.proofs.OnGrammar.Trees.{Walk}
use Rattle.base.proofs.grammar.tree.node_at.Given as goal

abbrev pub invariant-loop-symbol : goal.invariant-loop-symbol
invariant-loop-symbol l = Walk (rules_of l.grammar) l.productions l.place (drop l.symbol-index l.symbol-items) l.node
