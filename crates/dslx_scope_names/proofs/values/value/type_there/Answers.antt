use Rattle.std.proofs.Common.{◌≡◌, ℕ, ◌∙◌}
use Rattle.std.proofs.lemmas.Result.{IfOk-weaker}
use Rattle.dslx_meaning.specs.Items.{meanings_of}
use Rattle.dslx_meaning.specs.Meaning.{written_type}
use Rattle.dslx_core.specs.Lowering.Trees.{lower_type_of_text}
use Rattle.dslx_core.specs.Machines.Machine.Callees.{CalleesByName}
use Rattle.dslx_scope_names.specs.Values.Seen.{scope_with}
use Rattle.dslx_scope_names.proofs.OnValues.Types.{means_the_same}
use Rattle.dslx_scope_names.proofs.values.value.type_there.Goals as goal

pub returns : goal.returns
returns c =
    IfOk-weaker c.type_eval.result (λ t. t ≡ written_type c.args.ty.now (record { items = meanings_of c.args.context.text.now; bound = c.in_ok-bind_parametric_args.field-0 }))
    (λ t. (callee : CalleesByName) (count : ℕ) → t ≡ lower_type_of_text c.args.ty.now (scope_with callee count c.args.context))
    (λ t is callee count. is
    ∙ means_the_same c.args.ty.now c.args.context c.in_ok-bind_parametric_args.field-0 c.in_ok-type_sees_local.field-0 c.lower_total_written_types.ensures c.in_ok-bind_parametric_args.ensures
    c.in_ok-type_sees_local.ensures c.if-branch.false callee count)
    c.type_eval.ensures
