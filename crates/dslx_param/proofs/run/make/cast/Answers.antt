use Rattle.std.proofs.Common.{◌≡◌, ◌∙◌, ap, Some}
use Rattle.std.proofs.lemmas.Result.{IfOk-weaker}
use Rattle.dslx_core.specs.Lowering.Lowering.{lower_cast}
use Rattle.dslx_core.specs.Machines.Machine.Steps.{of_last}
use Rattle.dslx_instance.specs.Tasks.Shown.{body_shown}
use Rattle.dslx_param.proofs.OnRun.Made.{made_is}
use Rattle.dslx_param.proofs.run.make.cast.Goals as goal

pub returns : goal.returns
returns c = IfOk-weaker c.make_cast.result _ _
    (λ is h table. made_is is c.make_cast.new.made _ (body_shown c.args.body.now) (h ∙ ap (λ t. of_last c.args.body.now.made (λ e. lower_cast (Some e) t)) (c.in_ok-ty.ensures table))) c.make_cast.ensures
