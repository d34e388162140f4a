use Rattle.ir_tree.proofs.OnRules.OnSame.Same.{itself, either_way, through}
use Rattle.ir_tree.proofs.rules.same.laws.same_behavior_is_an_equivalence.Goals as goal

pub returns : goal.returns
returns c = record { itself = itself; either_way = either_way; through = through }
