use Rattle.std.proofs.Common.{◌∙◌, ◌+◌, Bool, List, min, take, arith, sym, ap, if◌then◌else◌}
use Rattle.dslx_tree.specs.declared.block.Stmt.{Stmt, out-Stmt}
use Rattle.dslx_meaning.specs.Rules.ProcRules.{count_sites}
use Rattle.dslx_check_declarations.proofs.Lemmas.Listed.{take_all, take_next}
use Rattle.dslx_check_judge.proofs.OnInstances.OnInstances.{counts_one, sites_next}
use Rattle.dslx_check_judge.proofs.instances.procs.count_sites.Goals as goal

pub statements-preserved : goal.statements-preserved
statements-preserved c =
    let ss = c.args.statements.now in
    let i = c.statements.statement-index in
    let x = c.statement-item.result in
    let n = count_sites (take i ss) in
    c.and_site-sites.ensures n c.statements.invariant ∙ ap (λ (b : Bool). min 33 (n + (if b then 1 else 0))) c.is_site-is_one.ensures ∙ ap (λ k. min 33 (n + k)) (sym (counts_one (out-Stmt x)))
    ∙ ap (min 33) (sites_next (take i ss) x) ∙ ap (λ (l : List Stmt). min 33 (count_sites l)) (sym (take_next ss i x (omega arith) c.statement-item.is))

pub returns : goal.returns
returns c = c.statements.invariant ∙ ap (λ (l : List Stmt). min 33 (count_sites l)) (take_all c.args.statements.now c.statements.statement-index (omega arith))
