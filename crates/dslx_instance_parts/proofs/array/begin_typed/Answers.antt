use Rattle.std.proofs.Common.{◌≡◌, ◌∙◌, List, ap}
use Rattle.std.proofs.lemmas.Result.{IfOk-weaker}
use Rattle.dslx_instance.specs.Tasks.Shown.{body_shown, instance_env_of}
use Rattle.dslx_instance_parts.specs.Inner.Arrays.{fills_type}
use Rattle.dslx_instance_parts.proofs.array.begin_typed.Goals as goal

pub returns : goal.returns
returns c = IfOk-weaker c.begin_filled.result _ _
    (λ is h table. h table ∙ ap (λ t. fills_type t (instance_env_of c.args.text.now table) c.args.elements.now c.args.dots (body_shown c.args.body.now)) (c.in_ok-ty.ensures table)) c.begin_filled.ensures
