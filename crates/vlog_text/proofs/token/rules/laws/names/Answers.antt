use Rattle.std.proofs.Common.{refl}
use Rattle.vlog_text.specs.Token.Rules.Rules.{kinds, named_rules, nonterminals}
use Rattle.vlog_text.proofs.token.rules.laws.names.Goals as goal

pub returns-clause-kinds : goal.returns-clause-kinds
unfolding kinds
returns-clause-kinds c = refl

pub returns-clause-nonterminals : goal.returns-clause-nonterminals
unfolding nonterminals
returns-clause-nonterminals c = refl

pub returns-clause-productions : goal.returns-clause-productions
unfolding named_rules
returns-clause-productions c = refl
