use Rattle.std.proofs.Common.{length, reverse}
use Rattle.base.specs.Grammar.Syntax.{rules_of}
use Rattle.base.specs.Grammar.Ll1.{prefix_cost}
use Rattle.base.proofs.OnGrammar.Tested.{facts}
use Rattle.base.proofs.OnGrammar.Reading.{Leads}
use Rattle.base.proofs.grammar.parser.read.Given as goal

abbrev pub invariant-loop-symbol : goal.invariant-loop-symbol
invariant-loop-symbol l =
    Leads (rules_of l.grammar) (facts l.grammar) (length l.grammar.spans.now) l.kind (reverse l.initial.stack.items) (reverse l.stack.items) l.initial.productions.items l.productions.items

abbrev pub decreases-loop-symbol : goal.decreases-loop-symbol
decreases-loop-symbol l = prefix_cost (facts l.grammar).nullable (facts l.grammar).cost (reverse l.stack.items)
