use Rattle.std.proofs.Common.{[], List, Some, subst, sym}
use Rattle.dslx_tree.specs.declared.block.Block.{out-Block}
use Rattle.dslx_core.specs.declared.step.Step.{Step}
use Rattle.dslx_param.specs.Needed.{TableMakes}
use Rattle.dslx_next.specs.Opening.Works.{BodyMakes}
use Rattle.dslx_next.specs.Steps.Passing.{BodyPasses, body_at, last_at, statements_at}
use Rattle.dslx_next.proofs.OnSteps.Ends.{body_ended, body_endless, body_of_one_type, body_stopped, passes_all}
use Rattle.dslx_next.proofs.steps.body.lower_body.Goals as goal

pub returns-in_default-clause-comes : goal.returns-in_default-clause-comes
returns-in_default-clause-comes c =
    body_stopped c.args.known c.args.work c.args.body.now c.pass_statements.new.steps.items
    (subst (BodyPasses c.args.known (statements_at c.args.known c.args.work (out-Block c.args.body.now).statements) [] c.args.work c.pass_statements.new.steps.items) c.in_default.is
    (passes_all c.args.known c.args.work c.as_slice.result.now (out-Block c.args.body.now).statements c.new-steps.result.items c.pass_statements.new.steps.items c.in_ok-work.field-0 c.as_slice.ensures c.new-steps.ensures.items c.in_ok-work.ensures))

pub returns-in-Some-2-clause-comes : goal.returns-in-Some-2-clause-comes
returns-in-Some-2-clause-comes c =
    subst (λ (l : List Step). TableMakes c.args.known.text.now c.args.known.limit c.args.work.table (body_at c.args.known c.args.work c.args.body.now) (Some (record { steps = l; next = c.in-Some-2.next }, c.in-Some-2.work.table)))
    (sym c.from_vec.ensures)
    (body_ended c.args.known c.args.work c.in-Some.work c.in-Some-2.work c.args.body.now c.pass_statements.new.steps.items c.in-Some-2.next
    (subst (BodyPasses c.args.known (statements_at c.args.known c.args.work (out-Block c.args.body.now).statements) [] c.args.work c.pass_statements.new.steps.items) c.in-Some.is
    (passes_all c.args.known c.args.work c.as_slice.result.now (out-Block c.args.body.now).statements c.new-steps.result.items c.pass_statements.new.steps.items c.in_ok-work.field-0 c.as_slice.ensures c.new-steps.ensures.items c.in_ok-work.ensures))
    (subst (BodyMakes c.args.known c.in-Some.work (last_at c.args.known c.in-Some.work (out-Block c.args.body.now).value)) c.in-Some-2.is c.in_ok-next.ensures))

pub returns-in-Some-2-clause-one_state : goal.returns-in-Some-2-clause-one_state
returns-in-Some-2-clause-one_state c =
    body_of_one_type c.args.known c.args.work c.in-Some.work c.in-Some-2.work c.args.body.now c.pass_statements.new.steps.items c.in-Some-2.next
    (subst (BodyPasses c.args.known (statements_at c.args.known c.args.work (out-Block c.args.body.now).statements) [] c.args.work c.pass_statements.new.steps.items) c.in-Some.is
    (passes_all c.args.known c.args.work c.as_slice.result.now (out-Block c.args.body.now).statements c.new-steps.result.items c.pass_statements.new.steps.items c.in_ok-work.field-0 c.as_slice.ensures c.new-steps.ensures.items c.in_ok-work.ensures))
    (subst (BodyMakes c.args.known c.in-Some.work (last_at c.args.known c.in-Some.work (out-Block c.args.body.now).value)) c.in-Some-2.is c.in_ok-next.ensures)

pub returns-in-None-clause-comes : goal.returns-in-None-clause-comes
returns-in-None-clause-comes c =
    body_endless c.args.known c.args.work c.in-Some.work c.args.body.now c.pass_statements.new.steps.items
    (subst (BodyPasses c.args.known (statements_at c.args.known c.args.work (out-Block c.args.body.now).statements) [] c.args.work c.pass_statements.new.steps.items) c.in-Some.is
    (passes_all c.args.known c.args.work c.as_slice.result.now (out-Block c.args.body.now).statements c.new-steps.result.items c.pass_statements.new.steps.items c.in_ok-work.field-0 c.as_slice.ensures c.new-steps.ensures.items c.in_ok-work.ensures))
    (subst (BodyMakes c.args.known c.in-Some.work (last_at c.args.known c.in-Some.work (out-Block c.args.body.now).value)) c.in-None.is c.in_ok-next.ensures)
