use Rattle.std.proofs.Common.{◌+◌, List, drop, subst, arith}
use Rattle.dslx_tree.specs.declared.block.Stmt.{Stmt}
use Rattle.dslx_next.specs.Steps.Passing.{BodyPasses, statement_at}
use Rattle.dslx_next.proofs.OnSteps.Passed.{IsPassedTo, advanced, all_passed, begun, left_from, none_left, stopped}
use Rattle.dslx_next.proofs.steps.body.pass_statements.Goals as goal

pub statements-init : goal.statements-init
statements-init c = begun c.args.known c.args.work c.args.statements.now c.args.steps.now.items c.requires.has_table

pub statements-preserved : goal.statements-preserved
statements-preserved c =
    advanced c.args.known c.args.work c.args.statements.now c.args.steps.now.items c.statement-item.result (drop (c.statements.statement-index + 1) c.args.statements.now) c.statements.steps.items c.statements.work
    (subst (λ (l : List Stmt). IsPassedTo c.args.known c.args.work c.args.statements.now c.args.steps.now.items l c.statements.steps.items c.statements.work)
    (left_from c.args.statements.now c.statements.statement-index c.statement-item.result (omega arith) c.statement-item.is) c.statements.invariant)
    c.pass_statement.new.steps.items c.in-Some.behind
    (subst (BodyPasses c.args.known (statement_at c.args.known c.statements.work c.statement-item.result) c.statements.steps.items c.statements.work c.pass_statement.new.steps.items) c.in-Some.is c.in_ok-behind.ensures)

pub returns-in-None : goal.returns-in-None
returns-in-None c =
    stopped c.args.known c.args.work c.args.statements.now c.args.steps.now.items c.statement-item.result (drop (c.statements.statement-index + 1) c.args.statements.now) c.statements.steps.items c.statements.work
    (subst (λ (l : List Stmt). IsPassedTo c.args.known c.args.work c.args.statements.now c.args.steps.now.items l c.statements.steps.items c.statements.work)
    (left_from c.args.statements.now c.statements.statement-index c.statement-item.result (omega arith) c.statement-item.is) c.statements.invariant)
    c.pass_statement.new.steps.items c.pass_statement.new.steps.items
    (subst (BodyPasses c.args.known (statement_at c.args.known c.statements.work c.statement-item.result) c.statements.steps.items c.statements.work c.pass_statement.new.steps.items) c.in-None.is c.in_ok-behind.ensures)

pub returns : goal.returns
returns c =
    all_passed c.args.known c.args.work c.args.statements.now c.args.steps.now.items c.statements.steps.items c.statements.work
    (subst (λ (l : List Stmt). IsPassedTo c.args.known c.args.work c.args.statements.now c.args.steps.now.items l c.statements.steps.items c.statements.work)
    (none_left c.args.statements.now c.statements.statement-index (omega arith)) c.statements.invariant)
