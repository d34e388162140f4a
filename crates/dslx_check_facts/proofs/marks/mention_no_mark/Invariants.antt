use Rattle.std.proofs.Common.{drop}
use Rattle.std.specs.List.{AllByRecursion}
use Rattle.dslx_check_facts.proofs.OnMarks.{NamesNoMark}
use Rattle.dslx_check_facts.proofs.marks.mention_no_mark.Given as goal

abbrev pub invariant-mentions : goal.invariant-mentions
invariant-mentions l = AllByRecursion NamesNoMark (drop l.i l.mentions) → AllByRecursion NamesNoMark l.mentions
