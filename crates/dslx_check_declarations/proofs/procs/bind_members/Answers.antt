use Rattle.std.proofs.Common.{◌≡◌, ◌++◌, ◌-◌, List, map, drop, arith, refl, sym, subst, length}
use Rattle.std.proofs.lemmas.List.{drop_all}
use Rattle.dslx_check_declarations.specs.declared.ends.NamedEnd.{NamedEnd}
use Rattle.dslx_check_declarations.specs.Procs.{member_bound}
use Rattle.dslx_check_declarations.proofs.OnProcs.{all_from_end, from_end, member_before}
use Rattle.dslx_check_declarations.proofs.procs.bind_members.Goals as goal

pub members-init : goal.members-init
members-init c = subst (λ (l : List NamedEnd). c.args.s.now ≡ record c.args.s.now { members = map member_bound l ++ c.args.s.now.members }) (sym (drop_all ((length c.args.members.now) - 0) c.args.members.now (omega arith))) refl

pub members-preserved : goal.members-preserved
members-preserved c =
    let e = c.index-members-count.result in
    subst (λ (l : List NamedEnd). c.bind_member.new.s ≡ record c.args.s.now { members = map member_bound l ++ c.args.s.now.members })
    (sym (from_end c.args.members.now (length c.args.members.now) c.members.i _ e refl (omega arith) (omega arith) c.index-members-count.is))
    (member_before c.args.s.now c.members.s c.bind_member.new.s e (drop ((length c.args.members.now) - c.members.i) c.args.members.now) c.members.invariant c.in_ok-bind_member.ensures)

pub returns : goal.returns
returns c = subst (λ (l : List NamedEnd). c.members.s ≡ record c.args.s.now { members = map member_bound l ++ c.args.s.now.members }) (all_from_end c.args.members.now (length c.args.members.now) c.members.i (omega arith)) c.members.invariant
