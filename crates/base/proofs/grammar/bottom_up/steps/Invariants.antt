use Rattle.std.proofs.Common.{◌+◌, drop, length, reverse}
use Rattle.base.specs.Grammar.Syntax.{rules_of, syntax_of}
use Rattle.base.specs.Grammar.Inner.Tasks.{tasks_of}
use Rattle.base.proofs.OnGrammar.Building.{Goes}
use Rattle.base.proofs.grammar.bottom_up.steps.Given as goal

abbrev pub invariant-loop-task : goal.invariant-loop-task
invariant-loop-task l = Goes (syntax_of l.grammar) l.productions l.tasks.items l.next l.steps.items

abbrev pub decreases-loop-task : goal.decreases-loop-task
decreases-loop-task l = length (reverse l.tasks.items) + tasks_of (rules_of l.grammar) (drop l.next l.productions)
