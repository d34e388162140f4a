use Rattle.base.proofs.OnGrammar.Choosing.{NoneBelow}
use Rattle.base.proofs.grammar.table.Grammar.choose.Given as goal

abbrev pub invariant-loop-number : goal.invariant-loop-number
invariant-loop-number l = NoneBelow l.self l.nonterminal l.kind l.number
