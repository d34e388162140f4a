use Rattle.std.proofs.Common.{◌≡◌, drop}
use Rattle.dslx_check_facts.specs.Known.{member_from}
use Rattle.dslx_check_facts.proofs.lookups.member_number.Given as goal

abbrev pub invariant-members : goal.invariant-members
invariant-members l = member_from l.i l.name (drop l.i l.choice.members) ≡ member_from 0 l.name l.choice.members
