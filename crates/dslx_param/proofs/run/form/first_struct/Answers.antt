use Rattle.std.proofs.Common.{◌≡◌, ◌∙◌, ap}
use Rattle.std.proofs.lemmas.Result.{IfOk-weaker}
use Rattle.dslx_meaning.specs.Lists.{and_then}
use Rattle.dslx_meaning.specs.declared.ty.DslxType.{out-DslxType}
use Rattle.dslx_core.specs.Machines.Machine.Parts.{struct_begins}
use Rattle.dslx_instance.specs.Tasks.Shown.{body_shown, instance_env_of}
use Rattle.dslx_param.proofs.run.form.first_struct.Goals as goal

pub returns : goal.returns
returns c = IfOk-weaker c.begin_struct.result _ _
    (λ is h table. h table ∙ ap (λ o. and_then o (λ t. struct_begins (instance_env_of c.args.text.now table) c.args.fields.now c.args.rest.now (out-DslxType t) (body_shown c.args.body.now))) c.in_ok-ty.ensures) c.begin_struct.ensures
