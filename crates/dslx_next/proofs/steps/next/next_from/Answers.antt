use Rattle.std.proofs.Common.{◌∙◌, List, Some, refl, subst, sym}
use Rattle.dslx_core.specs.declared.expr.CoreExpr.{CoreExpr}
use Rattle.dslx_core.specs.Lowering.Functions.{CoreInstance}
use Rattle.dslx_core.specs.Lowering.Steps.{steps_from}
use Rattle.dslx_param.specs.Needed.{TableMakes}
use Rattle.dslx_next.specs.Opening.Works.{outer_at}
use Rattle.dslx_next.specs.Steps.Passing.{HasOneState, body_at}
use Rattle.dslx_next.proofs.OnSteps.Ends.{with_body, with_other, without_body}
use Rattle.dslx_next.proofs.steps.next.next_from.Goals as goal

pub returns-then-equal_type : goal.returns-then-equal_type
returns-then-equal_type c =
    subst (λ (next : CoreExpr). TableMakes c.args.text.now c.args.limit c.args.table
    (λ (t : List CoreInstance). steps_from (outer_at (record { text = c.args.text; limit = c.args.limit; ends = c.as_slice.result }) (record { table = c.args.table; given = c.args.parametric_args; locals = c.in_ok-state_alone.field-0; count = 1 }) t) c.args.proc.now c.args.state)
    (Some (record { state = c.args.state; steps = c.in-Some.lowered.steps; next = next }, c.in-Some.table))) (sym c.into_inner.ensures)
    (with_body (record { text = c.args.text; limit = c.args.limit; ends = c.as_slice.result })
    (record { table = c.args.table; given = c.args.parametric_args; locals = c.in_ok-state_alone.field-0; count = 1 })
    c.args.proc.now c.args.state c.as_slice.ensures c.in_ok-state_alone.ensures refl c.args.limit c.in-Some.lowered c.in-Some.table
    (subst (TableMakes c.args.text.now c.args.limit c.args.table (body_at (record { text = c.args.text; limit = c.args.limit; ends = c.as_slice.result }) (record { table = c.args.table; given = c.args.parametric_args; locals = c.in_ok-state_alone.field-0; count = 1 }) c.args.proc.now.next.body)) c.in-Some.is c.in_ok-lowered.ensures.comes)
    (sym c.equal_type.ensures ∙ c.if-equal_type.true))

pub returns-else-equal_type : goal.returns-else-equal_type
returns-else-equal_type c =
    with_other (record { text = c.args.text; limit = c.args.limit; ends = c.as_slice.result })
    (record { table = c.args.table; given = c.args.parametric_args; locals = c.in_ok-state_alone.field-0; count = 1 })
    c.args.proc.now c.args.state c.as_slice.ensures c.in_ok-state_alone.ensures refl c.args.limit c.in-Some.lowered c.in-Some.table
    (subst (HasOneState (record { text = c.args.text; limit = c.args.limit; ends = c.as_slice.result }) (record { table = c.args.table; given = c.args.parametric_args; locals = c.in_ok-state_alone.field-0; count = 1 }) c.args.proc.now.next.body) c.in-Some.is c.in_ok-lowered.ensures.one_state)
    (sym c.equal_type.ensures ∙ c.if-equal_type.false)

pub returns-in-None : goal.returns-in-None
returns-in-None c =
    without_body (record { text = c.args.text; limit = c.args.limit; ends = c.as_slice.result })
    (record { table = c.args.table; given = c.args.parametric_args; locals = c.in_ok-state_alone.field-0; count = 1 })
    c.args.proc.now c.args.state c.as_slice.ensures c.in_ok-state_alone.ensures refl c.args.limit
    (subst (TableMakes c.args.text.now c.args.limit c.args.table (body_at (record { text = c.args.text; limit = c.args.limit; ends = c.as_slice.result }) (record { table = c.args.table; given = c.args.parametric_args; locals = c.in_ok-state_alone.field-0; count = 1 }) c.args.proc.now.next.body)) c.in-None.is c.in_ok-lowered.ensures.comes)
