use Rattle.std.proofs.Common.{◌≡◌, drop, map}
use Rattle.dslx_check_items.specs.Inner.Walks.{mentioning_all}
use Rattle.dslx_check_items.specs.Inner.Definitions.{in_member}
use Rattle.dslx_check_items.specs.Inner.Plain.{walk_shown}
use Rattle.dslx_check_items.proofs.definitions.mention_members.Given as goal

abbrev pub invariant-members : goal.invariant-members
invariant-members l = mentioning_all (map in_member (drop l.member-index l.members)) (walk_shown l.w) ≡ mentioning_all (map in_member l.members) (walk_shown l.initial.w)
