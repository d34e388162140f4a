use Rattle.dslx_check_tasks.proofs.OnDeclarations.OnTops.{top_judged}
use Rattle.dslx_check_tasks.proofs.declarations.tops.top_seen.Goals as goal

pub returns : goal.returns
returns c = top_judged c.args.process.now c.in_ok-args.ensures c.declared_faults-declared.ensures c.in_ok-reach_proc.ensures c.and.ensures
