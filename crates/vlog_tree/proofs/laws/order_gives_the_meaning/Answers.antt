use Rattle.vlog_tree.proofs.Lemmas.Settling.{order_means, order_only}
use Rattle.vlog_tree.proofs.laws.order_gives_the_meaning.Goals as goal

pub returns-clause-meaning : goal.returns-clause-meaning
returns-clause-meaning c = λ m held given words ordered wires ready. order_means m held given words m.assignments ordered wires (λ h. h) ready

pub returns-clause-only : goal.returns-clause-only
returns-clause-only c = order_only
