use Rattle.std.proofs.Common.{◌≡◌, take}
use Rattle.std.specs.Prelude.{sum_by}
use Rattle.net_core.specs.declared.outcome.ProcEnd.{ProcEnd}
use Rattle.xls_gen.proofs.events.counting.count_ended.Given as goal

abbrev pub invariant-procs : goal.invariant-procs
invariant-procs l = l.count ≡ sum_by (λ (stand : ProcEnd). stand.ends) (take l.stand-index l.procs)
