use Rattle.std.proofs.Common.{◌≡◌, ◌∙◌, ap}
use Rattle.std.proofs.lemmas.Result.{IfOk-weaker}
use Rattle.dslx_instance.specs.Tasks.Shown.{machine_shown}
use Rattle.dslx_param.specs.Run.Inner.Opened.{opened_within}
use Rattle.dslx_param.proofs.run.machine.open_needed.Goals as goal

pub returns : goal.returns
returns c = IfOk-weaker c.push_opened.result _ _ (λ is h. h ∙ ap (λ o. opened_within o (machine_shown c.args.machine.now)) (c.in_ok-opened.ensures c.args.machine.now.table)) c.push_opened.ensures
