use Rattle.std.proofs.Common.{Option, sym, subst, true}
use Rattle.dslx_check_rules.specs.declared.table.row.TypeId.{TypeId}
use Rattle.dslx_check_facts.proofs.Lemmas.Walks.{misses_refl}
use Rattle.dslx_check_facts.specs.Walks.{OnlyMisses, shown}
use Rattle.dslx_check_leaves.proofs.fits.matches.exhausts.Goals as goal
use Rattle.dslx_check_leaves.specs.Fits.Matched.{Exhausted}
use Rattle.dslx_check_leaves.proofs.OnFits.OnFits.Asked.{on_ok}
use Rattle.dslx_check_leaves.proofs.OnFits.OnMatches.{exhausted, not_asked, not_fine}
use Rattle.dslx_check_leaves.proofs.OnFits.OnWords.{both_ok}

pub returns-then-are_fine-clause-is : goal.returns-then-are_fine-clause-is
returns-then-are_fine-clause-is c = both_ok c.is_exhaustive.result (on_ok (OnlyMisses (shown c.args.w.now) (shown c.is_exhaustive.new.w)) c.is_exhaustive.result c.is_exhaustive.ensures.misses) c.is_exhaustive.ensures.is (λ b m h.
    subst (λ (o : Option TypeId). Exhausted c.args.f.now c.args.s.now (shown c.args.w.now) (shown c.is_exhaustive.new.w) o c.args.all.now c.args.arms.now b) (sym c.in-Some.is)
    (exhausted m c.are_fine.ensures c.if-are_fine.true c.last_is_sure.ensures h))

pub returns-else-are_fine-clause-misses : goal.returns-else-are_fine-clause-misses
returns-else-are_fine-clause-misses c = misses_refl (shown c.args.w.now)

pub returns-else-are_fine-clause-is : goal.returns-else-are_fine-clause-is
returns-else-are_fine-clause-is c = not_fine c.are_fine.ensures c.if-are_fine.false

pub returns-in-None-clause-misses : goal.returns-in-None-clause-misses
returns-in-None-clause-misses c = misses_refl (shown c.args.w.now)

pub returns-in-None-clause-is : goal.returns-in-None-clause-is
returns-in-None-clause-is c =
    subst (λ (o : Option TypeId). Exhausted c.args.f.now c.args.s.now (shown c.args.w.now) (shown c.args.w.now) o c.args.all.now c.args.arms.now true) (sym c.in-None.is) not_asked
