-- Loops have types.
use Rattle.std.proofs.Common.{◌≡◌, ◌&&◌, ◌++◌, ◌^◌, ℕ, true, false, if◌then◌else◌, List, [], Option, Some, None, refl, sym, ap, subst, ◌∙◌}
use Rattle.std.specs.Prelude.{nat_lt}
use Rattle.std.specs.List.{list_all}
use Rattle.xb_span.specs.declared.span.Span.{Span}
use Rattle.xb_value.specs.declared.ty.Ty.{Ty}
use Rattle.xb_value.specs.declared.ty.Ty as plain
use Rattle.dslx_meaning.specs.Lists.{and_then, where_true}
use Rattle.dslx_meaning.specs.Meaning.{PatternDen, turn_count}
use Rattle.dslx_meaning.specs.Types.{plain_type, same_type}
use Rattle.dslx_meaning.specs.Values.{bits_of}
use Rattle.dslx_meaning.specs.declared.ty.DslxType as ty
use Rattle.dslx_meaning.specs.declared.ty.DslxType.{DslxType}
use Rattle.dslx_meaning.specs.declared.value.DslxValue.{DslxValue}
use Rattle.dslx_meaning.specs.declared.value.DslxValue.TheOpen.{DslxValue-F}
use Rattle.dslx_meaning.specs.declared.value.SignedWord.{SignedWord}
use Rattle.dslx_meaning.specs.Rules.AggregateRules.{wanted_faults}
use Rattle.dslx_meaning.specs.Rules.ConstantRules.{constant_of, names_a_local, size_faults}
use Rattle.dslx_meaning.specs.Rules.ControlRules.{annotation_reached, loop_annotation, loop_faults, loop_parts_faults, loop_reached, loop_size, loop_type, loop_with, same_ends, turn_limit, turns_of, written_typing}
use Rattle.dslx_meaning.specs.Rules.OperatorRules.{is_bits, one_bit_type, unless_types}
use Rattle.dslx_meaning.specs.Rules.TypeEnvs.{ExprPair, Judgement, alone, breaks_if, has_broken, span_of, with_typed}
use Rattle.dslx_meaning.specs.Rules.Typings.{BlockPair, PatternPair, PatternSeen, TypePair}
use Rattle.dslx_core.proofs.Lemmas.Lowering.{from_then}
use Rattle.dslx_core.proofs.Lemmas.Typing.Laws.{and_true}
use Rattle.dslx_core.proofs.Lemmas.Typing.Sound.{all_in, all_in_three, constant_has, none_in, none_in_three, passed, settled_well_typed}
use Rattle.dslx_core.proofs.Lemmas.Typing.Typed.{bits_level, bits_lie, one_type, same_some, typed_level}
use Rattle.dslx_core.specs.CoreValues.{is_width}
use Rattle.dslx_core.specs.declared.expr.CoreExpr as core
use Rattle.dslx_core.specs.Lowering.CoreScopes.{CoreScope, constant_at}
use Rattle.dslx_core.specs.Lowering.EqualTypes.{equal_type}
use Rattle.dslx_core.specs.Lowering.Lowering.{LoweredExpr, lowered}
use Rattle.dslx_core.specs.Lowering.Patterns.{ExprLowering, LoweredShape, PatternLowering, lower_in_scope, lower_loop}
use Rattle.dslx_core.specs.Typing.Sound.Sound.{PatternGives, acc_seen, body_seen, index_seen, loop_at}
use Rattle.dslx_core.specs.Typing.Typed.Complete.{IsWellTypedPart}
use Rattle.dslx_core.specs.Typing.Typed.Given.{GivesOf}
use Rattle.dslx_core.specs.Typing.Typed.Kinds.{is_of}
use Rattle.dslx_core.specs.Typing.Typed.WellTyped.{types_at}
use Rattle.dslx_core.specs.Types.Typing.{FunctionTypes, Typing, binds_types, core_type, if_alike, is_sound_word}
use Rattle.dslx_core.proofs.Lemmas.Types.{alike_itself, type_loop, where_so}
use Rattle.dslx_total.proofs.Lemmas.Expressions.{constant_there, well_typed_there}
use Rattle.dslx_total.specs.Expressions.ExprLowering.{IsClean, PatternLowers, reaching}
use Rattle.dslx_total.specs.Typed.Scopes.{IsTypedExpr, is_sound_type}
use Rattle.dslx_total.specs.Typed.Claims.{PartIsTyped, PatternIsTyped}
use Rattle.dslx_total.proofs.OnTyped.OnOneType.{one_by_test}
use Rattle.dslx_total.proofs.OnTyped.OnOptions.{both_typed, then_typed, typed_as, typed_there, where_typed}
use Rattle.dslx_total.proofs.OnTyped.OnParts.{BlockTyped, ExprTyped, alone_typed_to}
use Rattle.dslx_total.proofs.OnTyped.OnTypes.{plain_bits, sound_bits}

-- ---- the first index

record IsFirst (t : DslxType) (a : SignedWord) : Type 0 where
  plain : plain_type t ≡ plain.Bits a.word.width
  sound : is_sound_word a.word ≡ true

first_is : (t : DslxType) (v : DslxValue) (a : SignedWord) → is_of t v ≡ true → bits_of v ≡ Some a → is_sound_type t ≡ true → IsFirst t a
first_is t v a of e sound =
    let is : ty.Bits a.signed a.word.width ≡ t = sym (typed_level v (DslxValue-F.Bits a.signed a.word) (bits_level v a e)) ∙ one_type t v of in
    let width : is_width a.word.width ≡ true = sym (sound_bits a.signed a.word.width) ∙ ap is_sound_type is ∙ sound in
    let lies = bits_lie t v a of e in
    record { plain = ap plain_type (sym is) ∙ plain_bits a.signed a.word.width; sound = λ i. width i && lies i }

-- ---- the loop over its parts

loop_core : (fs : FunctionTypes) (ts inner more : List Ty) (start index body : LoweredExpr) (a : SignedWord) (n : ℕ) (i acc : LoweredShape) → IsTypedExpr fs ts start → IsFirst index.ty a → binds_types true i.shape (plain_type index.ty) ts ≡ Some inner
    → binds_types true acc.shape (plain_type start.ty) inner ≡ Some more → IsTypedExpr fs more body → start.ty ≡ body.ty
    → IsTypedExpr fs ts (record { core = core.Loop n a.word i.shape acc.shape body.core start.core; ty = start.ty })
loop_core fs ts inner more start index body a n i acc hs f bi ba hb same = record {
  core = ap (λ (q : Typing). q fs ts) (type_loop n a.word i.shape acc.shape body.core start.core)
      ∙ where_so (is_sound_word a.word) (and_then (core_type start.core fs ts) (λ t. and_then (binds_types true i.shape (plain.Bits a.word.width) ts) (λ inner. and_then (binds_types true acc.shape t inner) (λ both. if_alike t (core_type body.core fs both))))) f.sound
      ∙ ap (λ o. and_then o (λ t. and_then (binds_types true i.shape (plain.Bits a.word.width) ts) (λ inner. and_then (binds_types true acc.shape t inner) (λ both. if_alike t (core_type body.core fs both))))) hs.core
      ∙ ap (λ o. and_then o (λ inner. and_then (binds_types true acc.shape (plain_type start.ty) inner) (λ both. if_alike (plain_type start.ty) (core_type body.core fs both)))) (ap (λ t. binds_types true i.shape t ts) (sym f.plain) ∙ bi)
      ∙ ap (λ o. and_then o (λ both. if_alike (plain_type start.ty) (core_type body.core fs both))) ba
      ∙ ap (if_alike (plain_type start.ty)) (hb.core ∙ ap (λ t. Some (plain_type t)) (sym same))
      ∙ alike_itself (plain_type start.ty);
  sound = hs.sound;
}

-- ---- loops

pub typed_loop : (span body_span : Span) (from to start : ExprPair) (x y z : ExprLowering) (u : CoreScope → Option SignedWord) (written : Option TypePair) (index acc : PatternPair) (il al : PatternLowering) (im am : PatternDen) (body : BlockPair) (bl : ExprLowering)
    → ExprTyped from x → ExprTyped to y → ExprTyped start z → PatternLowers index.1 il → PatternLowers acc.1 al → PatternIsTyped index.1 il → PatternIsTyped acc.1 al → PatternGives index.1 im → PatternGives acc.1 am → BlockTyped body bl
    → PartIsTyped
    (λ context. loop_with span body_span (loop_at context from to start written index acc body (same_ends (constant_of context from).judgement.ty (constant_of context to).judgement.ty)))
    (λ scope. lower_loop (z scope) (x scope) (and_then (constant_at scope from.0) bits_of) (u scope) il al bl scope)
typed_loop span body_span from to start x y z end written index acc il al im am body bl sx sy sz pi pa ti ta gi ga sb here context env scope fs ts h at scoped well_typed =
    let c = constant_of context from in
    let d = constant_of context to in
    let a = alone context start in
    let w = written_typing context written in
    let ends = same_ends c.judgement.ty d.judgement.ty in
    let seen = loop_at context from to start written index acc body ends in
    let i = index_seen context index ends in
    let p = acc_seen context index acc ends a.ty in
    let b = body_seen context index acc body ends a.ty in
    let three = (c.judgement.faults ++ d.judgement.faults) ++ a.faults in
    let six = ((three ++ i.faults) ++ p.faults) ++ b.faults in
    let range = unless_types one_bit_type 26 span c.judgement.ty d.judgement.ty in
    let annotation = loop_annotation span w ends a.ty in
    let wanted = wanted_faults body_span a.ty b.ty in
    let limit = turn_limit span.to (turns_of c.value d.value) in
    let ends_reached = (c.judgement.reached ++ d.judgement.reached) ++ a.reached in
    let s = settled_well_typed (reaching context.known here) span (loop_type seen) (loop_parts_faults seen ++ loop_faults span body_span seen) (loop_reached seen) (loop_size seen) well_typed in
    let both = none_in six (loop_faults span body_span seen) s.faults in
    let q = none_in_three (range ++ annotation) wanted limit both.1 in
    let r = none_in range annotation q.0 in
    let u = none_in ((three ++ i.faults) ++ p.faults) b.faults both.0 in
    let v = none_in_three three i.faults p.faults u.0 in
    let f = none_in_three c.judgement.faults d.judgement.faults a.faults v.0 in
    let k = all_in here (((ends_reached ++ annotation_reached w) ++ i.reached) ++ p.reached) b.reached s.reached in
    let l = all_in_three here (ends_reached ++ annotation_reached w) i.reached p.reached k.0 in
    let m = all_in here ends_reached (annotation_reached w) l.0 in
    let n = all_in_three here c.judgement.reached d.judgement.reached a.reached m.0 in
    let fc : IsWellTypedPart (reaching context.known here) c.judgement = record { faults = f.0; reached = n.0 } in
    let fd : IsWellTypedPart (reaching context.known here) d.judgement = record { faults = f.1; reached = n.1 } in
    let gc = constant_has context env from sx.lowers.meaning sx.lowers.gives h (well_typed_there here context scope c.judgement at fc) in
    let gd = constant_has context env to sy.lowers.meaning sy.lowers.gives h (well_typed_there here context scope d.judgement at fd) in
    let local = breaks_if (names_a_local context from) 5 (span_of from) in
    let first = alone context from in
    let alone_faults = (none_in_three first.faults local (size_faults context.known (span_of from).to (record first { faults = first.faults ++ local })) f.0).0 in
    let gx = alone_typed_to here context env scope fs ts h at scoped from x sx alone_faults n.0 in
    let gz = alone_typed_to here context env scope fs ts h at scoped start z sz f.2 n.2 in
    let index_type = gx.expr.ty in
    let acc_type = gz.expr.ty in
    let from_typed : c.judgement.ty ≡ Some index_type = ap (λ o. and_then o (λ v. first.ty)) gc.known ∙ gx.typed in
    let one = and_true (is_bits index_type) (same_type index_type gd.ty) (passed (one_bit_type index_type gd.ty) 26 span ((λ e. unless_types one_bit_type 26 span (sym from_typed e) (sym gd.typed e)) ∙ r.0)) in
    let alike : ends ≡ Some index_type = (λ e. same_ends (from_typed e) (gd.typed e)) ∙ (λ e. if (one.0 e && one.1 e) then Some index_type else None) in
    let first_value : GivesOf (types_at context) index_type (Some gc.gives.value) =
    subst (λ t. GivesOf (types_at context) t (Some gc.gives.value)) (same_some gc.ty index_type (sym gc.typed ∙ from_typed)) (record { value = gc.gives.value; is = refl; of = gc.gives.of; declared = gc.gives.declared }) in
    let first_of : is_of index_type gc.gives.value ≡ true = ap (λ t. is_of t gc.gives.value) (sym (same_some gc.ty index_type (sym gc.typed ∙ from_typed))) ∙ gc.gives.of in
    let seen_index = ap (index_seen context index) alike in
    let seen_acc : p ≡ acc_seen context index acc (Some index_type) (Some acc_type) = λ e. acc_seen context index acc (alike e) (gz.typed e) in
    let seen_body : b ≡ body_seen context index acc body (Some index_type) (Some acc_type) = λ e. body_seen context index acc body (alike e) (gz.typed e) in
    let ci : IsClean here (index_seen context index (Some index_type)).faults (index_seen context index (Some index_type)).reached =
    record { faults = ap (λ (s : PatternSeen). s.faults) (sym seen_index) ∙ v.1; reached = ap (λ (s : PatternSeen). list_all here s.reached) (sym seen_index) ∙ l.1 } in
    let cp : IsClean here (acc_seen context index acc (Some index_type) (Some acc_type)).faults (acc_seen context index acc (Some index_type) (Some acc_type)).reached =
    record { faults = ap (λ (s : PatternSeen). s.faults) (sym seen_acc) ∙ v.2; reached = ap (λ (s : PatternSeen). list_all here s.reached) (sym seen_acc) ∙ l.2 } in
    let inside = with_typed context (index_seen context index (Some index_type)).locals in
    let first_shape = pi.lowers here false context index_type [] context.locals env scope scope h at at gx.declared ci in
    let behind_index = gi.behind false context index_type [] context.locals env gc.gives.value h first_value (ap has_broken ci.faults) in
    let first_typed = ti.typed context fs ts ts scope scope index_type first_shape.shape at.items scoped scoped gx.core.sound first_shape.is in
    let second_shape = pa.lowers here false inside acc_type [] inside.locals behind_index.0 first_shape.shape.scope first_shape.shape.scope behind_index.1 first_shape.behind first_shape.behind gz.declared cp in
    let behind_acc = ga.behind false inside acc_type [] inside.locals behind_index.0 gz.value behind_index.1 gz.given (ap has_broken cp.faults) in
    let second_typed = ta.typed inside fs first_typed.more first_typed.more first_shape.shape.scope first_shape.shape.scope acc_type second_shape.shape first_shape.behind.items first_typed.behind first_typed.behind gz.core.sound second_shape.is in
    let turn = with_typed context (acc_seen context index acc (Some index_type) (Some acc_type)).locals in
    let body_typed = sb.typed here turn behind_acc.0 second_shape.shape.scope fs second_typed.more behind_acc.1 second_shape.behind second_typed.behind
    (record { faults = ap (λ (j : Judgement). j.faults) (sym seen_body) ∙ u.1; reached = ap (λ (j : Judgement). list_all here j.reached) (sym seen_body) ∙ k.1 }) in
    typed_as fs ts (lower_loop (z scope) (x scope) (and_then (constant_at scope from.0) bits_of) (end scope) il al bl scope) (lower_loop (Some gz.expr) (Some gx.expr) (and_then (constant_at scope from.0) bits_of) (end scope) il al bl scope)
    (λ e. lower_loop (gz.is e) (gx.is e) (and_then (constant_at scope from.0) bits_of) (end scope) il al bl scope)
    (both_typed fs ts (and_then (constant_at scope from.0) bits_of) (end scope)
    (λ a b. and_then (lower_in_scope il scope index_type) (λ i. and_then (lower_in_scope al i.scope acc_type) (λ acc. and_then (bl acc.scope) (λ body. where_true (equal_type acc_type body.ty && nat_lt (turn_count a b) (2 ^ 64))
    (lowered (core.Loop (turn_count a b) a.word i.shape acc.shape body.core gz.expr.core) acc_type)))))
    (λ a b q0 q1.
    let constant = from_then (constant_at scope from.0) bits_of a q0 in
    let same = same_some gc.gives.value constant.0 (sym (constant_there here context env scope from sx.lowers.meaning sx.lowers.gives h at fc gc.gives.value gc.known) ∙ constant.1) in
    let word = first_is index_type constant.0 a (ap (is_of index_type) (sym same) ∙ first_of) constant.2 gx.core.sound in
    typed_as fs ts
    (and_then (lower_in_scope il scope index_type) (λ i. and_then (lower_in_scope al i.scope acc_type) (λ acc. and_then (bl acc.scope) (λ body. where_true (equal_type acc_type body.ty && nat_lt (turn_count a b) (2 ^ 64))
    (lowered (core.Loop (turn_count a b) a.word i.shape acc.shape body.core gz.expr.core) acc_type)))))
    (and_then (bl second_shape.shape.scope) (λ body. where_true (equal_type acc_type body.ty && nat_lt (turn_count a b) (2 ^ 64))
    (lowered (core.Loop (turn_count a b) a.word first_shape.shape.shape second_shape.shape.shape body.core gz.expr.core) acc_type)))
    (ap (λ o. and_then o (λ i. and_then (lower_in_scope al i.scope acc_type) (λ acc. and_then (bl acc.scope) (λ body. where_true (equal_type acc_type body.ty && nat_lt (turn_count a b) (2 ^ 64))
    (lowered (core.Loop (turn_count a b) a.word i.shape acc.shape body.core gz.expr.core) acc_type))))) first_shape.is
    ∙ ap (λ o. and_then o (λ acc. and_then (bl acc.scope) (λ body. where_true (equal_type acc_type body.ty && nat_lt (turn_count a b) (2 ^ 64))
    (lowered (core.Loop (turn_count a b) a.word first_shape.shape.shape acc.shape body.core gz.expr.core) acc_type)))) second_shape.is)
    (then_typed fs ts (bl second_shape.shape.scope)
    (λ body. where_true (equal_type acc_type body.ty && nat_lt (turn_count a b) (2 ^ 64)) (lowered (core.Loop (turn_count a b) a.word first_shape.shape.shape second_shape.shape.shape body.core gz.expr.core) acc_type))
    (λ body there. where_typed fs ts (equal_type acc_type body.ty && nat_lt (turn_count a b) (2 ^ 64)) (lowered (core.Loop (turn_count a b) a.word first_shape.shape.shape second_shape.shape.shape body.core gz.expr.core) acc_type)
    (λ test. loop_core fs ts first_typed.more second_typed.more gz.expr gx.expr body a (turn_count a b) first_shape.shape second_shape.shape gz.core word
    (first_typed.must false ends [] context.locals v.1 refl)
    (second_typed.must false (Some acc_type) [] inside.locals cp.faults refl)
    (typed_there fs second_typed.more (bl second_shape.shape.scope) body body_typed there)
    (one_by_test acc_type body.ty (and_true (equal_type acc_type body.ty) (nat_lt (turn_count a b) (2 ^ 64)) test).0))))))
