use Rattle.std.proofs.Common.{◌≡◌, ◌∙◌, ap, slice_get}
use Rattle.std.proofs.lemmas.Result.{IfOk-weaker}
use Rattle.dslx_check_facts.proofs.OnKeys.Numbers.{instance_stored}
use Rattle.dslx_check_facts.proofs.instances.Instances.number_of.Goals as goal

pub returns-clause-number : goal.returns-clause-number
returns-clause-number c =
    IfOk-weaker c.number.result _ _ (λ n e. ap (slice_get c.insert_full.new.self.keys) e ∙ instance_stored c.insert_full.new.self.keys c.in_ok-at.at c.args.key c.in_ok-at.ensures.stored)
    c.number.ensures
