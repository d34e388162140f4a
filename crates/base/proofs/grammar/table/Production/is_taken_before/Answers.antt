use Rattle.std.proofs.Common.{◌<◌, ◌^◌, arith, rules}
use Rattle.std.proofs.lemmas.Bool.{lt-ltb, ltb-true}
use Rattle.base.proofs.OnGrammar.Sets.{has-below}
use Rattle.base.proofs.grammar.table.Production.is_taken_before.Goals as goal

pub returns-else-kind-lt128 : goal.returns-else-kind-lt128
returns-else-kind-lt128 c =
    let fits : c.args.self.now.chosen < 2 ^ 128 = search rules in
    (λ t. absurd (omega (arith, ltb-true _ _ t)), λ h. lt-ltb _ _ (has-below _ 128 _ fits h))
