use Rattle.std.proofs.Common.{◌≡◌, min, take}
use Rattle.dslx_meaning.specs.Rules.ProcRules.{count_sites}
use Rattle.dslx_check_judge.proofs.instances.procs.count_sites.Given as goal

abbrev pub invariant-statements : goal.invariant-statements
invariant-statements l = l.sites ≡ min 33 (count_sites (take l.statement-index l.statements))
