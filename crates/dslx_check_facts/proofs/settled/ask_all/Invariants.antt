use Rattle.std.proofs.Common.{◌≡◌, [], true, drop}
use Rattle.std.specs.List.{AllByRecursion}
use Rattle.dslx_check_facts.specs.Walks.{OnlyMisses, shown}
use Rattle.dslx_check_facts.proofs.OnSettled.{MentionSettles}
use Rattle.dslx_check_facts.proofs.settled.ask_all.Given as goal

abbrev pub invariant-mentions : goal.invariant-mentions
invariant-mentions l =
    OnlyMisses (shown l.fn.w) (shown l.w)
    × ((shown l.w).missing ≡ [] → AllByRecursion (MentionSettles l.f) (drop l.i l.mentions) → AllByRecursion (MentionSettles l.f) l.mentions)
