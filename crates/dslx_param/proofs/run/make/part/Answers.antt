use Rattle.std.proofs.Common.{◌≡◌, ◌∙◌, ap, Some}
use Rattle.std.proofs.lemmas.Result.{IfOk-weaker}
use Rattle.dslx_core.specs.Lowering.Lowering.{lower_part}
use Rattle.dslx_core.specs.Machines.Machine.Steps.{of_last_two}
use Rattle.dslx_instance.specs.Tasks.Shown.{body_shown}
use Rattle.dslx_param.proofs.OnRun.Made.{made_is}
use Rattle.dslx_param.proofs.run.make.part.Goals as goal

pub returns : goal.returns
returns c = IfOk-weaker c.make_part.result _ _
    (λ is h table. made_is is c.make_part.new.made _ (body_shown c.args.body.now) (h ∙ ap (λ t. of_last_two c.args.body.now.made (λ e i. lower_part (Some e) (Some i) t)) (c.in_ok-ty.ensures table))) c.make_part.ensures
