use Rattle.std.proofs.Common.{◌≡◌, ◌∙◌, ap, Some}
use Rattle.std.proofs.lemmas.Result.{IfOk-weaker}
use Rattle.dslx_core.specs.Lowering.Lowering.{lower_slice}
use Rattle.dslx_core.specs.Machines.Machine.Steps.{of_last}
use Rattle.dslx_core.specs.Lowering.CoreScopes.{bound_at}
use Rattle.dslx_core.specs.Machines.Machine.Bodies.{scope_in}
use Rattle.dslx_instance.specs.Tasks.Shown.{body_shown, instance_env_of}
use Rattle.dslx_param.proofs.OnRun.Made.{made_is}
use Rattle.dslx_param.proofs.run.make.slice.Goals as goal

pub returns : goal.returns
returns c = IfOk-weaker c.make_slice.result _ _
    (λ is h table. made_is is c.make_slice.new.made _ (body_shown c.args.body.now)
    (h ∙ ap (λ m. of_last c.args.body.now.made (λ e. lower_slice (Some e) m c.in_ok-to.to)) (c.in_ok-from.ensures table)
    ∙ ap (λ n. of_last c.args.body.now.made (λ e. lower_slice (Some e) (bound_at (scope_in (instance_env_of c.args.text.now table) (body_shown c.args.body.now)) c.args.from.now) n)) (c.in_ok-to.ensures table))) c.make_slice.ensures
