use Rattle.std.proofs.lemmas.Result.{IfOk-weaker}
use Rattle.dslx_check_declarations.proofs.work.learn.learn_item.Goals as goal

pub returns : goal.returns
returns c = IfOk-weaker c.note_settled.result _ _ (λ u n. record { put = c.put_item.new.f; puts = c.in_ok-put_item.ensures; notes = n }) c.note_settled.ensures
