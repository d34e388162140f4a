use Rattle.base.proofs.OnGrammar.Trees.{stands-whole, stands-within, stands-extent, laid-below}
use Rattle.base.proofs.grammar.laws.children.Goals as goal

pub returns-clause-whole : goal.returns-clause-whole
returns-clause-whole c = stands-whole

pub returns-clause-below : goal.returns-clause-below
returns-clause-below c = laid-below

pub returns-clause-first : goal.returns-clause-first
returns-clause-first c = stands-within

pub returns-clause-extent : goal.returns-clause-extent
returns-clause-extent c = stands-extent
