use Rattle.std.proofs.Common.{◌≡◌, ◌∙◌, List, [], ap}
use Rattle.std.proofs.lemmas.Result.{IfOk-weaker}
use Rattle.dslx_core.specs.declared.expr.CoreExpr as core
use Rattle.dslx_core.specs.Lowering.Lowering.{LoweredExpr, lowered}
use Rattle.dslx_meaning.specs.declared.ty.DslxType.{DslxType}
use Rattle.dslx_core.specs.Machines.Machine.Parts.{fields_on}
use Rattle.dslx_core.specs.Machines.Machine.Tasks.{OpenBody, StructWork}
use Rattle.dslx_instance.specs.Tasks.Shown.{body_shown, instance_env_of}
use Rattle.dslx_instance_parts.proofs.fields.bind_others.Goals as goal

pub returns : goal.returns
returns c = IfOk-weaker c.next_field.result _ _ (λ is h table.
    h table
    ∙ ap (λ (es : List LoweredExpr). fields_on (instance_env_of c.args.text.now table) (work c.in_ok-copy_type.field-0) es c.args.names c.args.types (body_shown c.bind_unnamed.new.body)) c.new.ensures.items
    ∙ ap (λ (t : DslxType). fields_on (instance_env_of c.args.text.now table) (work t) [] c.args.names c.args.types (body_shown c.bind_unnamed.new.body)) c.in_ok-copy_type.ensures
    ∙ ap (λ (b : OpenBody). fields_on (instance_env_of c.args.text.now table) (work c.args.value.ty) [] c.args.names c.args.types b) c.in_ok-bind_unnamed.ensures) c.next_field.ensures
  where
    -- the struct, where what has the other fields is of this type
    work : DslxType → StructWork
    work t = record { ty = c.args.ty; written = c.args.written.now; others = lowered (core.Slot c.args.body.now.count) t }
