use Rattle.std.proofs.Common.{◌∙◌, ◌&&◌, List, Some, ap, map, not, reverse, sym}
use Rattle.std.proofs.lemmas.Result.{IfOk-weaker}
use Rattle.dslx_meaning.specs.Names.Bound.{given}
use Rattle.dslx_meaning.specs.declared.names.scope.Binding.{Binding}
use Rattle.dslx_core.specs.Lowering.Functions.{callee_in, parametric_args_are_well_typed, outer_scope}
use Rattle.dslx_core.specs.Lowering.Steps.{is_sized, lower_next, steps_from}
use Rattle.dslx_core.specs.Lowering.Trees.{lower_type_of_text}
use Rattle.dslx_meaning.specs.Items.{meanings_of}
use Rattle.dslx_meaning.specs.Lists.{and_then, where_true}
use Rattle.dslx_param.specs.Needed.{TableMakes}
use Rattle.dslx_next.specs.Opening.Works.{parametric_args_known}
use Rattle.dslx_next.proofs.OnSteps.Ends.{with_state, without_names, without_state}
use Rattle.dslx_next.proofs.steps.next.next_there.Goals as goal

pub returns-in-Some : goal.returns-in-Some
returns-in-Some c =
    IfOk-weaker c.next_from.result
    (TableMakes c.args.text.now c.args.limit c.args.table (λ t. steps_from (outer_scope (parametric_args_known c.args.text.now c.args.parametric_args.items t)) c.args.proc.now c.in-Some.state))
    (TableMakes c.args.text.now c.args.limit c.args.table (λ t. lower_next (parametric_args_known c.args.text.now c.args.parametric_args.items t) c.args.proc.now))
    (λ o comes. with_state c.args.text.now c.args.limit c.args.table c.args.parametric_args.items c.args.proc.now c.in-Some.state o
    (sym (c.in_ok-names_are_well_typed.ensures ∙ ap (λ (l : List Binding). parametric_args_are_well_typed (meanings_of c.args.text.now) (reverse (map given l)) && not ((meanings_of c.args.text.now).is_constant c.args.proc.now.next.state.name)) c.as_slice.ensures.value)
    ∙ c.if-not-branch.false)
    (λ t. sym c.in-Some.is ∙ c.in_ok-state.ensures (callee_in c.args.text.now (meanings_of c.args.text.now) t)
    ∙ ap (λ (l : List Binding). and_then (lower_type_of_text c.args.proc.now.next.ty (outer_scope (parametric_args_known c.args.text.now l t))) (λ ty. where_true (is_sized ty) (Some ty))) c.as_slice-2.ensures.value) comes)
    c.next_from.ensures

pub returns-in-None : goal.returns-in-None
returns-in-None c =
    without_state c.args.text.now c.args.limit c.args.table c.args.parametric_args.items c.args.proc.now
    (sym (c.in_ok-names_are_well_typed.ensures ∙ ap (λ (l : List Binding). parametric_args_are_well_typed (meanings_of c.args.text.now) (reverse (map given l)) && not ((meanings_of c.args.text.now).is_constant c.args.proc.now.next.state.name)) c.as_slice.ensures.value)
    ∙ c.if-not-branch.false)
    (λ t. sym c.in-None.is ∙ c.in_ok-state.ensures (callee_in c.args.text.now (meanings_of c.args.text.now) t)
    ∙ ap (λ (l : List Binding). and_then (lower_type_of_text c.args.proc.now.next.ty (outer_scope (parametric_args_known c.args.text.now l t))) (λ ty. where_true (is_sized ty) (Some ty))) c.as_slice-2.ensures.value)

pub returns-then-not-branch : goal.returns-then-not-branch
returns-then-not-branch c =
    without_names c.args.text.now c.args.limit c.args.table c.args.parametric_args.items c.args.proc.now
    (sym (c.in_ok-names_are_well_typed.ensures ∙ ap (λ (l : List Binding). parametric_args_are_well_typed (meanings_of c.args.text.now) (reverse (map given l)) && not ((meanings_of c.args.text.now).is_constant c.args.proc.now.next.state.name)) c.as_slice.ensures.value)
    ∙ c.if-not-branch.true)
