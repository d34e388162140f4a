use Rattle.std.proofs.Common.{reverse, take}
use Rattle.base.specs.Grammar.Syntax.{rules_of, syntax_of}
use Rattle.base.specs.Grammar.Derivation.{ReadsTo, start_of}
use Rattle.base.proofs.grammar.parser.parse.Given as goal

abbrev pub invariant-loop-place : goal.invariant-loop-place
invariant-loop-place l = ReadsTo (rules_of l.grammar) (start_of (syntax_of l.grammar)) l.productions.items (take l.place l.kinds) (reverse l.stack.items)
