-- Operators, casts, slices, indices, parts and fields have types.
use Rattle.std.proofs.Common.{◌||◌, ◌++◌, ◌-◌, Some, sym, ap, ◌∙◌}
use Rattle.std.specs.Prelude.{nat_le, nat_lt}
use Rattle.xb_span.specs.declared.span.Span.{Span}
use Rattle.dslx_tree.specs.declared.ident.Ident.{Ident}
use Rattle.dslx_tree.specs.declared.operator.Binary.{Binary}
use Rattle.dslx_tree.specs.declared.operator.Prefix.{Prefix}
use Rattle.dslx_meaning.specs.Lists.{and_then, with_both}
use Rattle.dslx_meaning.specs.Types.{same_type, unsigned}
use Rattle.dslx_meaning.specs.Rules.AggregateRules.{array_in, element_type, field_part_typing, field_type, index_typing, is_array}
use Rattle.dslx_meaning.specs.Rules.ConstantRules.{constant_or_untyped, is_unsigned}
use Rattle.dslx_meaning.specs.Rules.ControlRules.{block_alone, if_typing}
use Rattle.dslx_meaning.specs.Rules.OperatorRules.{binary_faults, binary_type, binary_typing, bound_number, bounds_fall, cast_typing, is_bits, is_bits_or_enum, is_bool, is_negative_bound, is_past, is_wrong_bound, part_typing, prefix_typing, slice_faults, slice_typing, unless_type, unless_types, width_of_type}
use Rattle.dslx_meaning.specs.Rules.PatternRules.{is_there}
use Rattle.dslx_meaning.specs.Rules.TypeEnvs.{ExprPair, alone, breaks_if, one_and, plus_size, span_of}
use Rattle.dslx_meaning.specs.Rules.Typings.{BlockPair, TypeExprTyping}
use Rattle.dslx_core.proofs.Lemmas.Typing.Laws.{and_true}
use Rattle.dslx_core.proofs.Lemmas.Typing.Sound.{all_in, all_in_three, bound_has, none_in, none_in_three, not_broken, settled_well_typed}
use Rattle.dslx_core.proofs.Lemmas.Typing.Typed.{bounds_within, or_false}
use Rattle.dslx_core.specs.Typing.Typed.Complete.{IsWellTypedPart}
use Rattle.dslx_core.specs.Typing.Typed.WellTyped.{types_at}
use Rattle.dslx_core.specs.Lowering.CoreScopes.{bound_at}
use Rattle.dslx_core.specs.Lowering.Lowering.{lower_binary, lower_cast, lower_choice, lower_field, lower_index, lower_part, lower_prefix, lower_slice}
use Rattle.dslx_core.specs.Lowering.Patterns.{ExprLowering}
use Rattle.dslx_core.specs.Lowering.Trees.{TypeLowering}
use Rattle.dslx_total.proofs.Lemmas.Expressions.{bound_there, well_typed_there}
use Rattle.dslx_total.specs.Expressions.ExprLowering.{reaching}
use Rattle.dslx_total.specs.Typed.Claims.{PartIsTyped}
use Rattle.dslx_total.proofs.OnTyped.OnConstructs.{cast_typed, choice_typed, field_typed, index_typed, part_typed, slice_typed}
use Rattle.dslx_total.proofs.OnTyped.OnOperators.{based_are_wide, bits_are_wide, bool_is_wide, operands, operator_typed, prefix_typed, unless_passed, unsigned_are_bits, width_is}
use Rattle.dslx_total.proofs.OnTyped.OnOptions.{typed_as}
use Rattle.dslx_total.proofs.OnTyped.OnParts.{BlockTyped, ExprTyped, alone_typed_to, block_typed_to}

pub typed_binary : (span : Span) (o : Binary) (l r : ExprPair) (x y : ExprLowering) → ExprTyped l x → ExprTyped r y → PartIsTyped (λ context. binary_typing span context o l r) (λ scope. lower_binary o (x scope) (y scope))
typed_binary span o l r x y sl sr here context env scope fs ts h at scoped well_typed =
    let a = alone context l in
    let c = alone context r in
    let wrong = binary_faults o span (span_of l) a.ty (span_of r) c.ty in
    let s = settled_well_typed (reaching context.known here) span (binary_type o a.ty c.ty) ((a.faults ++ c.faults) ++ wrong) (a.reached ++ c.reached) (one_and (plus_size a.size c.size)) well_typed in
    let f = none_in_three a.faults c.faults wrong s.faults in
    let k = all_in here a.reached c.reached s.reached in
    let p = alone_typed_to here context env scope fs ts h at scoped l x sl f.0 k.0 in
    let q = alone_typed_to here context env scope fs ts h at scoped r y sr f.1 k.1 in
    let widths = operands (types_at context) o span (span_of l) (span_of r) p.expr.ty q.expr.ty p.declared q.declared p.core.sound q.core.sound ((λ i. binary_faults o span (span_of l) (sym p.typed i) (span_of r) (sym q.typed i)) ∙ f.2) in
    typed_as fs ts (lower_binary o (x scope) (y scope)) (lower_binary o (Some p.expr) (Some q.expr)) (λ i. lower_binary o (p.is i) (q.is i)) (operator_typed fs ts o p.expr q.expr p.core q.core widths)

pub typed_prefix : (span : Span) (o : Prefix) (e : ExprPair) (x : ExprLowering) → ExprTyped e x → PartIsTyped (λ context. prefix_typing span context e) (λ scope. lower_prefix o (x scope))
typed_prefix span o e x se here context env scope fs ts h at scoped well_typed =
    let a = alone context e in
    let wrong = unless_type is_bits 11 span a.ty in
    let s = settled_well_typed (reaching context.known here) span a.ty (a.faults ++ wrong) a.reached (one_and a.size) well_typed in
    let f = none_in a.faults wrong s.faults in
    let p = alone_typed_to here context env scope fs ts h at scoped e x se f.0 s.reached in
    let w = bits_are_wide p.expr.ty p.core.sound (unless_passed is_bits 11 span a.ty p.expr.ty p.typed f.1) in
    typed_as fs ts (lower_prefix o (x scope)) (lower_prefix o (Some p.expr)) (ap (lower_prefix o) p.is) (prefix_typed fs ts o p.expr w.0.width p.core w.2)

pub typed_cast : (span : Span) (e : ExprPair) (j : TypeExprTyping) (x : ExprLowering) (l : TypeLowering) → ExprTyped e x → PartIsTyped (λ context. cast_typing span context e (j context)) (λ scope. lower_cast (x scope) (l scope))
typed_cast span e j x l se here context env scope fs ts h at scoped well_typed =
    let a = alone context e in
    let target = j context in
    let from = unless_type is_bits_or_enum 20 span a.ty in
    let to = unless_type is_bits 20 span target.ty in
    let s = settled_well_typed (reaching context.known here) span (and_then a.ty (λ t. target.ty)) (((a.faults ++ target.faults) ++ from) ++ to) (a.reached ++ target.reached) (one_and a.size) well_typed in
    let p = none_in_three (a.faults ++ target.faults) from to s.faults in
    let q = none_in a.faults target.faults p.0 in
    let k = all_in here a.reached target.reached s.reached in
    let g = alone_typed_to here context env scope fs ts h at scoped e x se q.0 k.0 in
    let w = based_are_wide g.expr.ty g.core.sound (unless_passed is_bits_or_enum 20 span a.ty g.expr.ty g.typed p.1) in
    typed_as fs ts (lower_cast (x scope) (l scope)) (lower_cast (Some g.expr) (l scope)) (ap (λ o. lower_cast o (l scope)) g.is) (cast_typed fs ts g.expr w.0 (l scope) g.core w.1)

pub typed_index : (span : Span) (e i : ExprPair) (x y : ExprLowering) → ExprTyped e x → ExprTyped i y → PartIsTyped (λ context. index_typing span context e i) (λ scope. lower_index (x scope) (y scope))
typed_index span e i x y se si here context env scope fs ts h at scoped well_typed =
    let a = alone context e in
    let c = alone context i in
    let array = unless_type is_array 19 span a.ty in
    let start = unless_type is_unsigned 19 span c.ty in
    let s = settled_well_typed (reaching context.known here) span (and_then c.ty (λ k. element_type (and_then a.ty array_in))) (((a.faults ++ c.faults) ++ array) ++ start) (a.reached ++ c.reached) (one_and (plus_size a.size c.size)) well_typed in
    let p = none_in_three (a.faults ++ c.faults) array start s.faults in
    let q = none_in a.faults c.faults p.0 in
    let k = all_in here a.reached c.reached s.reached in
    let ga = alone_typed_to here context env scope fs ts h at scoped e x se q.0 k.0 in
    let gc = alone_typed_to here context env scope fs ts h at scoped i y si q.1 k.1 in
    let w = bits_are_wide gc.expr.ty gc.core.sound (unsigned_are_bits gc.expr.ty (unless_passed is_unsigned 19 span c.ty gc.expr.ty gc.typed p.2)) in
    typed_as fs ts (lower_index (x scope) (y scope)) (lower_index (Some ga.expr) (Some gc.expr)) (λ d. lower_index (ga.is d) (gc.is d)) (index_typed fs ts ga.expr gc.expr w.0.width ga.core gc.core w.2)

pub typed_part : (span : Span) (e i : ExprPair) (j : TypeExprTyping) (x y : ExprLowering) (l : TypeLowering) → ExprTyped e x → ExprTyped i y → PartIsTyped (λ context. part_typing span context e i (j context)) (λ scope. lower_part (x scope) (y scope) (l scope))
typed_part span e i j x y l se si here context env scope fs ts h at scoped well_typed =
    let a = alone context e in
    let c = alone context i in
    let target = j context in
    let bits = unless_type is_bits 18 span a.ty in
    let start = unless_type is_unsigned 18 span c.ty in
    let width = unless_type is_unsigned 18 span target.ty in
    let three = (a.faults ++ c.faults) ++ target.faults in
    let reached = (a.reached ++ c.reached) ++ target.reached in
    let s = settled_well_typed (reaching context.known here) span (and_then a.ty (λ t. and_then c.ty (λ u. target.ty))) (((three ++ bits) ++ start) ++ width) reached (one_and (plus_size a.size c.size)) well_typed in
    let p = none_in_three (three ++ bits) start width s.faults in
    let q = none_in three bits p.0 in
    let r = none_in_three a.faults c.faults target.faults q.0 in
    let k = all_in_three here a.reached c.reached target.reached s.reached in
    let ga = alone_typed_to here context env scope fs ts h at scoped e x se r.0 k.0 in
    let gc = alone_typed_to here context env scope fs ts h at scoped i y si r.1 k.1 in
    let v = bits_are_wide ga.expr.ty ga.core.sound (unless_passed is_bits 18 span a.ty ga.expr.ty ga.typed q.1) in
    let w = bits_are_wide gc.expr.ty gc.core.sound (unsigned_are_bits gc.expr.ty (unless_passed is_unsigned 18 span c.ty gc.expr.ty gc.typed p.1)) in
    typed_as fs ts (lower_part (x scope) (y scope) (l scope)) (lower_part (Some ga.expr) (Some gc.expr) (l scope)) (λ d. lower_part (ga.is d) (gc.is d) (l scope))
    (part_typed fs ts ga.expr gc.expr v.0.width w.0.width (l scope) ga.core gc.core v.2 w.2)

pub typed_field : (span : Span) (e : ExprPair) (name : Ident) (x : ExprLowering) → ExprTyped e x → PartIsTyped (λ context. field_part_typing span context e name) (λ scope. lower_field (x scope) name.name)
typed_field span e name x se here context env scope fs ts h at scoped well_typed =
    let a = alone context e in
    let wrong = unless_type (λ t. is_there (field_type (Some t) name.name)) 19 span a.ty in
    let s = settled_well_typed (reaching context.known here) span (field_type a.ty name.name) (a.faults ++ wrong) a.reached (one_and a.size) well_typed in
    let f = none_in a.faults wrong s.faults in
    let g = alone_typed_to here context env scope fs ts h at scoped e x se f.0 s.reached in
    typed_as fs ts (lower_field (x scope) name.name) (lower_field (Some g.expr) name.name) (ap (λ o. lower_field o name.name) g.is) (field_typed fs ts g.expr name.name g.core)

pub typed_slice : (span : Span) (e a c : ExprPair) (x y z : ExprLowering) → ExprTyped e x → ExprTyped a y → ExprTyped c z
    → PartIsTyped (λ context. slice_typing span context e a c) (λ scope. lower_slice (x scope) (bound_at scope a.0) (bound_at scope c.0))
typed_slice span e a c x y z se sa sc here context env scope fs ts h at scoped well_typed =
    let whole = alone context e in
    let from = constant_or_untyped context a in
    let to = constant_or_untyped context c in
    let own = and_then whole.ty (λ t. with_both (bound_number from) (bound_number to) (λ i j. Some (unsigned (j - i)))) in
    let three = (whole.faults ++ from.judgement.faults) ++ to.judgement.faults in
    let wrong = slice_faults span whole.ty from to in
    let s = settled_well_typed (reaching context.known here) span own (three ++ wrong) ((whole.reached ++ from.judgement.reached) ++ to.judgement.reached) (one_and (plus_size whole.size (plus_size from.judgement.size to.judgement.size))) well_typed in
    let p = none_in three wrong s.faults in
    let q = none_in_three whole.faults from.judgement.faults to.judgement.faults p.0 in
    let k = all_in_three here whole.reached from.judgement.reached to.judgement.reached s.reached in
    let whole_bits = unless_type is_bits 18 span whole.ty in
    let from_bits = unless_type is_bits 18 span from.judgement.ty in
    let to_bits = unless_type is_bits 18 span to.judgement.ty in
    let types = (whole_bits ++ from_bits) ++ to_bits in
    let some = is_wrong_bound whole.ty from || is_wrong_bound whole.ty to in
    let fall = bounds_fall (bound_number from) (bound_number to) in
    let both = none_in types (breaks_if (some || fall) 18 span) p.1 in
    let r = or_false some fall (not_broken (some || fall) 18 span both.1) in
    let right = or_false (is_wrong_bound whole.ty from) (is_wrong_bound whole.ty to) r.0 in
    let first = or_false (is_negative_bound from) (is_past whole.ty (bound_number from)) right.0 in
    let last = or_false (is_negative_bound to) (is_past whole.ty (bound_number to)) right.1 in
    let g = alone_typed_to here context env scope fs ts h at scoped e x se q.0 k.0 in
    let fa : IsWellTypedPart (reaching context.known here) from.judgement = record { faults = q.1; reached = k.1 } in
    let fc : IsWellTypedPart (reaching context.known here) to.judgement = record { faults = q.2; reached = k.2 } in
    let m = bound_has context env a sa.lowers.meaning sa.lowers.gives h (well_typed_there here context scope from.judgement at fa) first.0 in
    let n = bound_has context env c sc.lowers.meaning sc.lowers.gives h (well_typed_there here context scope to.judgement at fc) last.0 in
    let low = bound_there here context env scope a sa.lowers.meaning sa.lowers.gives h at fa first.0 ∙ m.1 in
    let high = bound_there here context env scope c sc.lowers.meaning sc.lowers.gives h at fc last.0 ∙ n.1 in
    let inside = bounds_within g.expr.ty m.0 n.0 ((λ i. is_past (sym g.typed i) (sym n.1 i)) ∙ last.1) ((λ i. bounds_fall (sym m.1 i) (sym n.1 i)) ∙ r.1) in
    let two = and_true (nat_lt m.0 n.0) (nat_le n.0 (width_of_type g.expr.ty)) inside in
    let w = bits_are_wide g.expr.ty g.core.sound (unless_passed is_bits 18 span whole.ty g.expr.ty g.typed (none_in_three whole_bits from_bits to_bits both.0).0) in
    typed_as fs ts (lower_slice (x scope) (bound_at scope a.0) (bound_at scope c.0)) (lower_slice (Some g.expr) (Some m.0) (Some n.0)) (λ i. lower_slice (g.is i) (low i) (high i))
    (slice_typed fs ts g.expr w.0.width m.0 n.0 g.core w.2 (ap (nat_le n.0) (sym (width_is g.expr.ty w.0 w.1)) ∙ two.1))

pub typed_if : (span : Span) (c : ExprPair) (a : BlockPair) (b : ExprPair) (x y z : ExprLowering) → ExprTyped c x → BlockTyped a y → ExprTyped b z
    → PartIsTyped (λ context. if_typing span context c a b) (λ scope. lower_choice (x scope) (y scope) (z scope))
typed_if span c a b x y z sc sa sb here context env scope fs ts h at scoped well_typed =
    let condition = alone context c in
    let first = block_alone context a in
    let second = alone context b in
    let bool = unless_type is_bool 15 (span_of c) condition.ty in
    let same = unless_types same_type 25 span first.ty second.ty in
    let own = and_then condition.ty (λ t. with_both first.ty second.ty (λ u v. Some u)) in
    let three = (condition.faults ++ first.faults) ++ second.faults in
    let s = settled_well_typed (reaching context.known here) span own ((three ++ bool) ++ same) ((condition.reached ++ first.reached) ++ second.reached) (one_and (plus_size condition.size (plus_size first.size second.size))) well_typed in
    let p = none_in_three three bool same s.faults in
    let q = none_in_three condition.faults first.faults second.faults p.0 in
    let k = all_in_three here condition.reached first.reached second.reached s.reached in
    let gc = alone_typed_to here context env scope fs ts h at scoped c x sc q.0 k.0 in
    let ga = block_typed_to here context env scope fs ts h at scoped a y sa (record { faults = q.1; reached = k.1 }) in
    let gb = alone_typed_to here context env scope fs ts h at scoped b z sb q.2 k.2 in
    typed_as fs ts (lower_choice (x scope) (y scope) (z scope)) (lower_choice (Some gc.expr) (Some ga.expr) (Some gb.expr)) (λ i. lower_choice (gc.is i) (ga.is i) (gb.is i))
    (choice_typed fs ts gc.expr ga.expr gb.expr gc.core ga.core gb.core (bool_is_wide (types_at context) gc.expr.ty gc.declared (unless_passed is_bool 15 (span_of c) condition.ty gc.expr.ty gc.typed p.1)))
