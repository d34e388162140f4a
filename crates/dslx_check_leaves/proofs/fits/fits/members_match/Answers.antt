use Rattle.std.proofs.Common.{List, arith, subst}
use Rattle.dslx_tree.specs.declared.item.Member.{Member}
use Rattle.dslx_check_facts.proofs.Lemmas.Walks.{misses_refl, misses_trans}
use Rattle.dslx_check_facts.specs.Walks.{shown}
use Rattle.dslx_check_leaves.proofs.fits.fits.members_match.Goals as goal
use Rattle.dslx_check_leaves.specs.Fits.Fits.{MatchesEach}
use Rattle.dslx_check_leaves.proofs.OnFits.OnFits.Members.{members_all, members_begin, members_more, members_not}

pub members-init : goal.members-init
members-init c = members_begin (misses_refl (shown c.args.w.now))

pub members-preserved : goal.members-preserved
members-preserved c = members_more c.members.member-index c.member-item.result c.members.invariant (omega arith) c.member-item.is c.in_ok-is_matched.ensures.misses c.in_ok-is_matched.ensures.is c.if-not-is_matched.false

pub returns-then-not-is_matched-clause-misses : goal.returns-then-not-is_matched-clause-misses
returns-then-not-is_matched-clause-misses c = misses_trans _ _ _ c.members.invariant.misses c.in_ok-is_matched.ensures.misses

pub returns-then-not-is_matched-clause-is : goal.returns-then-not-is_matched-clause-is
returns-then-not-is_matched-clause-is c = subst (λ (ms : List Member). MatchesEach c.args.f.now (shown c.args.w.now) (shown c.member_matches.new.w) c.args.ty c.args.item c.args.choice.now ms c.args.arms.now _) c.as_slice-members.ensures
    (members_not c.members.member-index c.member-item.result c.members.invariant (omega arith) c.member-item.is c.in_ok-is_matched.ensures.misses c.in_ok-is_matched.ensures.is c.if-not-is_matched.true)

pub returns-clause-misses : goal.returns-clause-misses
returns-clause-misses c = c.members.invariant.misses

pub returns-clause-is : goal.returns-clause-is
returns-clause-is c = subst (λ (ms : List Member). MatchesEach c.args.f.now (shown c.args.w.now) (shown c.members.w) c.args.ty c.args.item c.args.choice.now ms c.args.arms.now _) c.as_slice-members.ensures (members_all c.members.member-index (omega arith) c.members.invariant)
