use Rattle.std.proofs.Common.{None, ◌∙◌}
use Rattle.ir_lower.specs.Types.Signatures.{call_types}
use Rattle.ir_lower.proofs.OnTypes.OnKinds.{same_bound}
use Rattle.ir_lower.proofs.OnTypes.OnSteps.{on_ok, other_so}
use Rattle.ir_lower.proofs.types.steps.type_other.Goals as goal

pub returns-clause-ty : goal.returns-clause-ty
returns-clause-ty c =
    on_ok c.is_same.result _ _
    (λ same. other_so (call_types c.args.signatures.now) (λ k. None) c.args.condition.now c.args.other.now c.args.bound.now.items c.args.word.now c.in_ok-own.own c.in_ok-type_condition.ensures.ty
    (same_bound (call_types c.args.signatures.now) c.args.other.now c.args.bound.now.items c.type_condition.new.bound.items c.in_ok-own.own c.in_ok-type_condition.ensures.kept c.in_ok-own.ensures.ty) same)
    c.is_same.ensures

pub returns-clause-kept : goal.returns-clause-kept
returns-clause-kept c = on_ok c.is_same.result _ _ (λ same. c.in_ok-own.ensures.kept ∙ c.in_ok-type_condition.ensures.kept) c.is_same.ensures
