use Rattle.std.proofs.Common.{◌∙◌, [], List, ap, subst, sym}
use Rattle.dslx_tree.specs.declared.item.Parametric.{Parametric}
use Rattle.dslx_meaning.specs.Items.{parametric_args_bound}
use Rattle.dslx_core.specs.Lowering.Steps.{LoweredNext, lower_next}
use Rattle.dslx_param.specs.Needed.{TableMakes}
use Rattle.dslx_next.specs.Steps.BodyEnvs.{parametric_args_known}
use Rattle.dslx_elab.specs.Behind.{behind_next}
use Rattle.dslx_elab.proofs.Whole.{nothing_behind, nothing_of_next, whole_comes}
use Rattle.dslx_elab.proofs.instance.proc_there.Goals as goal

pub returns-in-Some-2 : goal.returns-in-Some-2
returns-in-Some-2 c =
    whole_comes c.args.text.now c.args.limit c.args.table c.args.procs.now c.args.process.now c.args.parametric_args.now c.in_ok-bound.bound.items
    (c.in_ok-bound.ensures ∙ ap (λ (l : List Parametric). parametric_args_bound [] l c.args.parametric_args.now) c.as_slice.ensures) c.in-Some.next c.in-Some.table c.in-Some-2.instance
    (subst (TableMakes c.args.text.now c.args.limit c.args.table (λ t. lower_next (parametric_args_known c.args.text.now c.in_ok-bound.bound.items t) c.args.process.now)) c.in-Some.is c.in_ok-next.ensures)
    (sym c.in-Some-2.is ∙ c.in_ok-instance-in-Some.ensures ∙ ap (λ (n : LoweredNext). behind_next c.args.text.now c.args.procs.now c.args.process.now c.args.parametric_args.now n) c.in_ok-next-in-Some.ensures)

pub returns-in-None-2 : goal.returns-in-None-2
returns-in-None-2 c =
    nothing_behind c.args.text.now c.args.limit c.args.table c.args.procs.now c.args.process.now c.args.parametric_args.now c.in_ok-bound.bound.items
    (c.in_ok-bound.ensures ∙ ap (λ (l : List Parametric). parametric_args_bound [] l c.args.parametric_args.now) c.as_slice.ensures) c.in-Some.next c.in-Some.table
    (subst (TableMakes c.args.text.now c.args.limit c.args.table (λ t. lower_next (parametric_args_known c.args.text.now c.in_ok-bound.bound.items t) c.args.process.now)) c.in-Some.is c.in_ok-next.ensures)
    (sym c.in-None-2.is ∙ c.in_ok-instance-in-Some.ensures ∙ ap (λ (n : LoweredNext). behind_next c.args.text.now c.args.procs.now c.args.process.now c.args.parametric_args.now n) c.in_ok-next-in-Some.ensures)

pub returns-in-None : goal.returns-in-None
returns-in-None c =
    nothing_of_next c.args.text.now c.args.limit c.args.table c.args.procs.now c.args.process.now c.args.parametric_args.now c.in_ok-bound.bound.items
    (c.in_ok-bound.ensures ∙ ap (λ (l : List Parametric). parametric_args_bound [] l c.args.parametric_args.now) c.as_slice.ensures)
    (subst (TableMakes c.args.text.now c.args.limit c.args.table (λ t. lower_next (parametric_args_known c.args.text.now c.in_ok-bound.bound.items t) c.args.process.now)) c.in-None.is c.in_ok-next.ensures)
