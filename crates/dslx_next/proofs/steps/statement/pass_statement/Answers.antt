use Rattle.std.proofs.Common.{ap}
use Rattle.std.proofs.lemmas.Result.{IfOk-weaker}
use Rattle.dslx_tree.specs.declared.block.Let.{out-Let}
use Rattle.dslx_tree.specs.declared.block.Stmt.{out-Stmt}
use Rattle.dslx_core.specs.Lowering.Steps.{binds_nothing}
use Rattle.dslx_core.specs.Machines.Machine.Arms.{shaped_at}
use Rattle.dslx_next.specs.Steps.Passing.{BodyPasses, act_at, statement_at}
use Rattle.dslx_next.proofs.OnSteps.Passed.{bare_passed, let_passed}
use Rattle.dslx_next.proofs.steps.statement.pass_statement.Goals as goal

pub returns-in-Let : goal.returns-in-Let
unfolding out-Stmt denote.Hole.Carrier.out
returns-in-Let c =
    IfOk-weaker c.pass_let.result
    (BodyPasses c.args.known (act_at c.args.known c.args.work (out-Let c.in-Let.bind).value (shaped_at (out-Let c.in-Let.bind).pattern)) c.args.steps.now.items c.args.work c.pass_let.new.steps.items)
    (BodyPasses c.args.known (statement_at c.args.known c.args.work c.args.statement.now) c.args.steps.now.items c.args.work c.pass_let.new.steps.items)
    (λ r passed. let_passed c.args.known c.args.work c.args.statement.now c.in-Let.bind c.args.steps.now.items c.pass_let.new.steps.items r (ap out-Stmt c.in-Let.is) passed) c.pass_let.ensures

pub returns-in-Bare : goal.returns-in-Bare
unfolding out-Stmt denote.Hole.Carrier.out
returns-in-Bare c =
    IfOk-weaker c.pass_bare.result
    (BodyPasses c.args.known (act_at c.args.known c.args.work c.in-Bare.value binds_nothing) c.args.steps.now.items c.args.work c.pass_bare.new.steps.items)
    (BodyPasses c.args.known (statement_at c.args.known c.args.work c.args.statement.now) c.args.steps.now.items c.args.work c.pass_bare.new.steps.items)
    (λ r passed. bare_passed c.args.known c.args.work c.args.statement.now c.in-Bare.value c.args.steps.now.items c.pass_bare.new.steps.items r (ap out-Stmt c.in-Bare.is) passed) c.pass_bare.ensures
