use Rattle.std.proofs.Common.{◌≡◌, drop}
use Rattle.dslx_const_tasks.specs.Values.{member_from}
use Rattle.dslx_const_tasks.proofs.kept.member_place.Given as goal

abbrev pub invariant-members : goal.invariant-members
invariant-members l = member_from l.i l.name (drop l.i l.members) ≡ member_from 0 l.name l.members
