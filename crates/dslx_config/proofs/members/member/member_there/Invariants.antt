use Rattle.std.proofs.Common.{◌≡◌, [], drop}
use Rattle.dslx_core.specs.Machines.Machine.Callees.{CalleesByName}
use Rattle.dslx_core.specs.Lowering.Steps.{member_in}
use Rattle.dslx_scope_names.specs.Patterns.Behind.{body_scope}
use Rattle.dslx_config.proofs.OnMembers.Numbered.{member_from}
use Rattle.dslx_config.proofs.members.member.member_there.Given as goal

-- the first one is among those that are left
abbrev pub invariant-ends : goal.invariant-ends
invariant-ends l = (callee : CalleesByName) → member_from (body_scope callee l.known [] 0) l.name l.i (drop l.i l.ends) ≡ member_in (body_scope callee l.known [] 0) l.ends l.name
