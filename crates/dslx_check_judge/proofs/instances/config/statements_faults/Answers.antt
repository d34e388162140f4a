use Rattle.std.proofs.Common.{take, arith, sym, subst}
use Rattle.dslx_check_facts.specs.Walks.{shown}
use Rattle.dslx_check_declarations.proofs.Lemmas.Listed.{take_all, take_next}
use Rattle.dslx_check_judge.specs.Instances.Inner.Config.{StepsStatements}
use Rattle.dslx_check_judge.proofs.OnInstances.OnConfig.{no_statements, one_statement}
use Rattle.dslx_check_judge.proofs.instances.config.statements_faults.Goals as goal

pub statements-init : goal.statements-init
statements-init c = no_statements c.none-faults.ensures

pub statements-preserved : goal.statements-preserved
statements-preserved c =
    let ss = c.args.statements.now in
    let i = c.statements.statement-index in
    let x = c.statement-item.result in
    subst (StepsStatements c.args.f.now c.args.s.now c.statement_faults.new.s (shown c.args.w.now) (shown c.statement_faults.new.w) c.args.made.now c.statement_faults.new.made c.and-faults.result)
    (sym (take_next ss i x (omega arith) c.statement-item.is)) (one_statement (take i ss) x c.statements.invariant c.in_ok-own.ensures c.and-faults.ensures)

pub returns : goal.returns
returns c = subst (StepsStatements c.args.f.now c.args.s.now c.statements.s (shown c.args.w.now) (shown c.statements.w) c.args.made.now c.statements.made c.statements.faults)
    (take_all c.args.statements.now c.statements.statement-index (omega arith)) c.statements.invariant
