use Rattle.std.proofs.Common.{◌≡◌, drop}
use Rattle.dslx_meaning.specs.Items.{member_named}
use Rattle.dslx_meaning.proofs.names.items.find_member.Given as goal

abbrev pub invariant-members : goal.invariant-members
invariant-members l = member_named l.name (drop l.member-index l.members) ≡ member_named l.name l.members
