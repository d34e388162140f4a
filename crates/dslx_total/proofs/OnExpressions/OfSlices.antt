-- Slices become something.
use Rattle.std.proofs.Common.{◌≡◌, ◌&&◌, ◌||◌, ◌++◌, ◌-◌, ◌≤◌, ℕ, true, Some, sym, ◌∙◌, arith}
use Rattle.std.specs.Prelude.{nat_le, nat_lt}
use Rattle.std.proofs.lemmas.Bool.{le-leb, leb-true}
use Rattle.xb_span.specs.declared.span.Span.{Span}
use Rattle.dslx_meaning.specs.Lists.{and_then, where_true, with_both}
use Rattle.dslx_meaning.specs.Types.{unsigned}
use Rattle.dslx_meaning.specs.Rules.ConstantRules.{constant_or_untyped}
use Rattle.dslx_meaning.specs.Rules.TypeEnvs.{ExprPair, alone, breaks_if, one_and, plus_size}
use Rattle.dslx_meaning.specs.Rules.OperatorRules.{bound_number, bounds_fall, is_bits, is_negative_bound, is_past, is_wrong_bound, slice_faults, slice_typing, unless_type, width_of_type}
use Rattle.dslx_core.proofs.Lemmas.Typing.Laws.{and_true}
use Rattle.dslx_core.specs.Typing.Typed.Complete.{IsWellTypedPart}
use Rattle.dslx_core.proofs.Lemmas.Typing.Typed.{bounds_within, or_false}
use Rattle.dslx_core.proofs.Lemmas.Typing.Sound.{all_in_three, bound_has, none_in, none_in_three, not_broken, settled_well_typed}
use Rattle.dslx_core.specs.declared.expr.CoreExpr as core
use Rattle.dslx_core.specs.Lowering.CoreScopes.{bound_at}
use Rattle.dslx_core.specs.Lowering.Lowering.{lowered, lower_slice}
use Rattle.dslx_core.specs.Lowering.Patterns.{ExprLowering}
use Rattle.dslx_total.specs.Expressions.ExprLowering.{ExprLowers, PartLowers, reaching, type_of_lowered}
use Rattle.dslx_total.proofs.OnExpressions.Constants.{bound_there}
use Rattle.dslx_total.proofs.OnExpressions.Parts.{alone_lowers_to, well_typed_there}

within_both : (n w most : ℕ) → nat_le n w ≡ true → nat_le w most ≡ true → nat_le n most ≡ true
within_both n w most p q =
    let a : n ≤ w = leb-true n w p in
    let b : w ≤ most = leb-true w most q in
    let c : n ≤ most = omega arith in
    le-leb n most c

pub lower_total_slice : (span : Span) (e a c : ExprPair) (x y z : ExprLowering) → ExprLowers e x → ExprLowers a y → ExprLowers c z
    → PartLowers (λ context. slice_typing span context e a c) (λ scope. lower_slice (x scope) (bound_at scope a.0) (bound_at scope c.0))
lower_total_slice span e a c x y z se sa sc here context env scope h at well_typed =
    let whole = alone context e in
    let from = constant_or_untyped context a in
    let to = constant_or_untyped context c in
    let own = and_then whole.ty (λ t. with_both (bound_number from) (bound_number to) (λ i j. Some (unsigned (j - i)))) in
    let three = (whole.faults ++ from.judgement.faults) ++ to.judgement.faults in
    let wrong = slice_faults span whole.ty from to in
    let s = settled_well_typed (reaching context.known here) span own (three ++ wrong) ((whole.reached ++ from.judgement.reached) ++ to.judgement.reached) (one_and (plus_size whole.size (plus_size from.judgement.size to.judgement.size))) well_typed in
    let p = none_in three wrong s.faults in
    let q = none_in_three whole.faults from.judgement.faults to.judgement.faults p.0 in
    let k = all_in_three here whole.reached from.judgement.reached to.judgement.reached s.reached in
    let types = (unless_type is_bits 18 span whole.ty ++ unless_type is_bits 18 span from.judgement.ty) ++ unless_type is_bits 18 span to.judgement.ty in
    let some = is_wrong_bound whole.ty from || is_wrong_bound whole.ty to in
    let fall = bounds_fall (bound_number from) (bound_number to) in
    let r = or_false some fall (not_broken (some || fall) 18 span (none_in types (breaks_if (some || fall) 18 span) p.1).1) in
    let right = or_false (is_wrong_bound whole.ty from) (is_wrong_bound whole.ty to) r.0 in
    let first = or_false (is_negative_bound from) (is_past whole.ty (bound_number from)) right.0 in
    let last = or_false (is_negative_bound to) (is_past whole.ty (bound_number to)) right.1 in
    let g = alone_lowers_to here context env scope e x se h at q.0 k.0 in
    let fa : IsWellTypedPart (reaching context.known here) from.judgement = record { faults = q.1; reached = k.1 } in
    let fc : IsWellTypedPart (reaching context.known here) to.judgement = record { faults = q.2; reached = k.2 } in
    let m = bound_has context env a sa.meaning sa.gives h (well_typed_there here context scope from.judgement at fa) first.0 in
    let n = bound_has context env c sc.meaning sc.gives h (well_typed_there here context scope to.judgement at fc) last.0 in
    let low = bound_there here context env scope a sa.meaning sa.gives h at fa first.0 ∙ m.1 in
    let high = bound_there here context env scope c sc.meaning sc.gives h at fc last.0 ∙ n.1 in
    let inside = bounds_within g.expr.ty m.0 n.0 ((λ i. is_past (sym g.typed i) (sym n.1 i)) ∙ last.1) ((λ i. bounds_fall (sym m.1 i) (sym n.1 i)) ∙ r.1) in
    let two = and_true (nat_lt m.0 n.0) (nat_le n.0 (width_of_type g.expr.ty)) inside in
    (λ i. type_of_lowered (lower_slice (g.is i) (low i) (high i)))
    ∙ (λ i. type_of_lowered (where_true (two.0 i && within_both n.0 (width_of_type g.expr.ty) 128 two.1 g.narrow i) (lowered (core.Slice g.expr.core m.0 (n.0 - m.0)) (unsigned (n.0 - m.0)))))
    ∙ sym (λ i. and_then (g.typed i) (λ t. with_both (m.1 i) (n.1 i) (λ i j. Some (unsigned (j - i))))) ∙ sym s.ty
