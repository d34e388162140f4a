-- the first instances are judged, and those that they reach are found
use Rattle.std.proofs.Common.{List}
use Rattle.dslx_meaning.specs.Rules.TypeEnvs.{Instance}
use Rattle.dslx_check_facts.specs.Walks.{shown}
use Rattle.dslx_check.specs.Finds.{AreNumbersOf, ReachesSoFar}
use Rattle.dslx_check_tasks.specs.Standing.{WorkGoesOn, IsRight, text_in}
use Rattle.dslx_check.proofs.found.judge_instances.Given as goal

abbrev pub invariant-instances : goal.invariant-instances
invariant-instances l = record {
  goes : WorkGoesOn l.fn.work l.work;
  found : (starts : List Instance) → IsRight l.fn.work → AreNumbersOf (text_in l.fn.work) (shown l.fn.work.walk) l.start starts → ReachesSoFar (text_in l.fn.work) (shown l.work.walk) starts l.all.keys l.next l.faults;
}
