use Rattle.std.proofs.Common.{[], take}
use Rattle.dslx_check_facts.specs.Walks.{shown}
use Rattle.dslx_check_declarations.specs.Names.{AreBefore}
use Rattle.dslx_check_declarations.proofs.Lemmas.Listed.{names_behind}
use Rattle.dslx_check_judge.specs.Instances.Inner.Bodies.{JudgesEnds}
use Rattle.dslx_check_judge.proofs.OnInstances.OnChannels.{end_name}
use Rattle.dslx_check_judge.proofs.instances.channels.ends_seen.Given as goal

abbrev pub invariant-ends : goal.invariant-ends
invariant-ends l = record {
  walked : JudgesEnds l.f l.fn.s l.s (shown l.fn.w) (shown l.w) (record { faults = l.faults; ends = l.all }) (take l.end-index l.ends);
  names : AreBefore l.before (names_behind end_name [] (take l.end-index l.ends));
}
