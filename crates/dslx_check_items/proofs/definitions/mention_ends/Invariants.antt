use Rattle.std.proofs.Common.{◌≡◌, drop, map}
use Rattle.dslx_check_items.specs.Inner.Walks.{mentioning_all}
use Rattle.dslx_check_items.specs.Inner.Definitions.{in_end}
use Rattle.dslx_check_items.specs.Inner.Plain.{walk_shown}
use Rattle.dslx_check_items.proofs.definitions.mention_ends.Given as goal

abbrev pub invariant-ends : goal.invariant-ends
invariant-ends l = mentioning_all (map in_end (drop l.end-index l.ends)) (walk_shown l.w) ≡ mentioning_all (map in_end l.ends) (walk_shown l.initial.w)
