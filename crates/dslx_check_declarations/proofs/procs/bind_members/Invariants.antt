use Rattle.std.proofs.Common.{◌≡◌, ◌++◌, ◌-◌, map, drop}
use Rattle.dslx_check_declarations.specs.Procs.{member_bound}
use Rattle.dslx_check_declarations.proofs.procs.bind_members.Given as goal

abbrev pub invariant-members : goal.invariant-members
invariant-members l = l.s ≡ record l.fn.s { members = map member_bound (drop (l.count - l.i) l.members) ++ l.fn.s.members }
