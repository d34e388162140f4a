use Rattle.std.proofs.Common.{arith, subst, List}
use Rattle.dslx_tree.specs.declared.expr.Arm.{Arm, out-Arm}
use Rattle.dslx_tree.specs.declared.pattern.Pattern.{Pattern}
use Rattle.dslx_meaning.specs.Rules.TypeEnvs.{TypeEnv}
use Rattle.dslx_meaning.specs.declared.ty.DslxType.{DslxType}
use Rattle.dslx_check_facts.proofs.Lemmas.Walks.{misses_refl, misses_trans}
use Rattle.dslx_check_facts.specs.Walks.{shown}
use Rattle.dslx_check_leaves.proofs.fits.fits.some_arm_fits.Goals as goal
use Rattle.dslx_check_leaves.specs.Fits.Fits.{AllFine, PatternsFit}
use Rattle.dslx_check_leaves.proofs.OnFits.Among.{each_at}
use Rattle.dslx_check_leaves.proofs.OnFits.OnFits.Several.{some_begin, some_end, some_more, some_so}

abbrev ArmFine : TypeEnv → DslxType → Arm → Type 0
ArmFine context t a = AllFine context t (out-Arm a).patterns

pub arms-init : goal.arms-init
arms-init c = some_begin (misses_refl (shown c.args.w.now))

pub arms-preserved : goal.arms-preserved
arms-preserved c = some_more ArmFine c.arms.arm-index c.arm-item.result c.arms.invariant (omega arith) c.arm-item.is
    (λ context t all. each_at (ArmFine context t) c.args.arms.now c.arms.arm-index c.arm-item.result all (omega arith) c.arm-item.is)
    c.in_ok-is_fit.ensures.misses
    (subst (λ (ps : List Pattern). PatternsFit c.args.f.now (shown c.arms.w) (shown c.some_fits.new.w) c.args.ty ps c.args.value.now c.in_ok-is_fit.is_fit) c.as_slice.ensures c.in_ok-is_fit.ensures.is).fit c.if-is_fit.false

pub returns-then-is_fit-clause-misses : goal.returns-then-is_fit-clause-misses
returns-then-is_fit-clause-misses c = misses_trans _ _ _ c.arms.invariant.misses c.in_ok-is_fit.ensures.misses

pub returns-then-is_fit-clause-is : goal.returns-then-is_fit-clause-is
returns-then-is_fit-clause-is c = record {
  fit = some_so ArmFine c.arms.arm-index c.arm-item.result c.arms.invariant (omega arith) c.arm-item.is
      (λ context t all. each_at (ArmFine context t) c.args.arms.now c.arms.arm-index c.arm-item.result all (omega arith) c.arm-item.is)
      c.in_ok-is_fit.ensures.misses
      (subst (λ (ps : List Pattern). PatternsFit c.args.f.now (shown c.arms.w) (shown c.some_fits.new.w) c.args.ty ps c.args.value.now c.in_ok-is_fit.is_fit) c.as_slice.ensures c.in_ok-is_fit.ensures.is).fit c.if-is_fit.true;
}

pub returns-clause-misses : goal.returns-clause-misses
returns-clause-misses c = c.arms.invariant.misses

pub returns-clause-is : goal.returns-clause-is
returns-clause-is c = record { fit = some_end c.arms.arm-index (omega arith) c.arms.invariant }
