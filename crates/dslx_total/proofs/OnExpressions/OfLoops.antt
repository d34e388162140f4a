-- Loops become something.
use Rattle.std.proofs.Common.{◌≡◌, ◌&&◌, ◌++◌, ◌==◌, ◌^◌, ◌<◌, ◌≤◌, ℕ, Bool, true, false, if◌then◌else◌, [], ◌∷◌, Option, Some, None, refl, sym, ap, subst, ◌∙◌, arith}
use Rattle.std.specs.Prelude.{nat_lt}
use Rattle.std.specs.List.{list_all}
use Rattle.std.proofs.lemmas.Bool.{ltb-false}
use Rattle.std.proofs.lemmas.Bool.Decides.{Decides-eqb, Decides-ltb}
use Rattle.xb_bits.specs.Word.{Word}
use Rattle.xb_span.specs.declared.span.Span.{Span}
use Rattle.xb_span.specs.declared.fault.Fault.TheVariants.{Passed}
use Rattle.xb_span.specs.declared.limit.What.TheVariants as what
use Rattle.dslx_meaning.specs.Lists.{and_then, where_true, with_both}
use Rattle.dslx_meaning.specs.Types.{bits_in, bits_step, same_bool, same_type}
use Rattle.dslx_meaning.specs.Values.{bits_of}
use Rattle.dslx_meaning.specs.Environment.{Env}
use Rattle.dslx_meaning.specs.Meaning.{PatternDen, TypeDen, turn_count}
use Rattle.dslx_meaning.specs.Operators.{of_one_type}
use Rattle.dslx_meaning.specs.declared.ty.BitKind.{BitKind}
use Rattle.dslx_meaning.specs.declared.ty.DslxType as ty
use Rattle.dslx_meaning.specs.declared.ty.DslxType.{DslxType}
use Rattle.dslx_meaning.specs.declared.ty.DslxType.TheViews as views
use Rattle.dslx_meaning.specs.declared.value.DslxValue.{DslxValue}
use Rattle.dslx_meaning.specs.declared.value.SignedWord.{SignedWord}
use Rattle.dslx_meaning.specs.Rules.AggregateRules.{wanted_faults}
use Rattle.dslx_meaning.specs.Rules.ConstantRules.{constant_of, names_a_local, size_faults}
use Rattle.dslx_meaning.specs.Rules.ControlRules.{annotated_type, annotation_reached, loop_annotation, loop_faults, loop_parts_faults, loop_reached, loop_size, loop_type, loop_with, same_ends, turn_limit, turns_of, written_typing}
use Rattle.dslx_meaning.specs.Rules.TypeEnvs.{ExprPair, Instance, Judgement, TypeEnv, alone, breaks_if, found_number, has_broken, passes, span_of, with_typed}
use Rattle.dslx_meaning.specs.Rules.Typings.{BlockPair, PatternPair, PatternSeen, TypePair}
use Rattle.dslx_meaning.specs.Rules.OperatorRules.{is_bits, one_bit_type, unless_types}
use Rattle.dslx_core.proofs.Lemmas.Typing.Laws.{and_true}
use Rattle.dslx_core.specs.Typing.Typed.Complete.{IsWellTypedPart}
use Rattle.dslx_core.specs.Typing.Typed.Declared.{Declarations, IsDeclared}
use Rattle.dslx_core.specs.Typing.Typed.Given.{GivesOf}
use Rattle.dslx_core.specs.Typing.Typed.WellTyped.{IsWellTypedEnv, types_at}
use Rattle.dslx_core.proofs.Lemmas.Typing.Typed.{bits_given, one_of_text, same_some}
use Rattle.dslx_core.specs.Typing.Sound.Sound.{PatternGives, TypeHasDenIf, acc_seen, body_seen, index_seen, loop_at}
use Rattle.dslx_core.proofs.Lemmas.Typing.Sound.{all_in, all_in_three, constant_has, none_in, none_in_three, passed, settled_well_typed, some_fault}
use Rattle.dslx_core.specs.declared.expr.CoreExpr as core
use Rattle.dslx_core.specs.Lowering.CoreScopes.{CoreScope, constant_at}
use Rattle.dslx_core.specs.Lowering.EqualTypes.{equal_type}
use Rattle.dslx_core.specs.Lowering.Lowering.{LoweredExpr, lowered}
use Rattle.dslx_core.specs.Lowering.Patterns.{LoweredShape, ExprLowering, PatternLowering, lower_loop, lower_in_scope}
use Rattle.dslx_total.specs.Expressions.Beside.{ScopeMatchesEnv}
use Rattle.dslx_total.specs.Expressions.ExprLowering.{ExprLowers, IsClean, PartLowers, PatternLowers, reaching, type_of_lowered}
use Rattle.dslx_total.proofs.OnExpressions.Constants.{constant_there}
use Rattle.dslx_total.proofs.OnExpressions.Equal.{equal_of_text}
use Rattle.dslx_total.proofs.OnExpressions.OfControl.{BlockLowers, block_lowers_to}
use Rattle.dslx_total.proofs.OnExpressions.Parts.{alone_lowers_to, well_typed_there}

-- ---- ends

-- the bits of a value, of its type
record BitsOf (t : DslxType) (v : DslxValue) : Type 0 where
  kind : BitKind
  word : Word
  typed : bits_in t ≡ Some kind
  is : bits_of v ≡ Some (record { signed = kind.signed; word = word })
  width : word.width ≡ kind.width

bits_there : (types : Declarations) (t : DslxType) (v : DslxValue) → GivesOf types t (Some v) → is_bits t ≡ true → BitsOf t v
bits_there types t v g e =
    let b = bits_given types t (Some v) g e in
    record { kind = b.0; word = b.1; typed = ap bits_in b.2 ∙ ap bits_step (views.outs-Bits b.0.signed b.0.width); is = b.3; width = b.4 }

sign_itself : (s : Bool) → same_bool s s ≡ true
sign_itself true = refl
sign_itself false = refl

-- bits of one type
one_type_of : (t : DslxType) (v w : DslxValue) (a : BitsOf t v) (b : BitsOf t w) → of_one_type (record { signed = a.kind.signed; word = a.word }) (record { signed = b.kind.signed; word = b.word }) ≡ true
one_type_of t v w a b =
    let same = same_some a.kind b.kind (sym a.typed ∙ b.typed) in
    let sign : same_bool a.kind.signed b.kind.signed ≡ true = sym (ap (λ (k : BitKind). same_bool a.kind.signed k.signed) same) ∙ sign_itself a.kind.signed in
    let width : (a.word.width == b.word.width) ≡ true = (Decides-eqb a.word.width b.word.width).1 (a.width ∙ ap (λ (k : BitKind). k.width) same ∙ sym b.width) in
    λ i. sign i && width i

few_turns : (at n : ℕ) → passes what.Turns 1024 at n ≡ [] → nat_lt n (2 ^ 64) ≡ true
few_turns at n e = by_test (nat_lt 1024 n) refl e
  where
    by_test : (b : Bool) → nat_lt 1024 n ≡ b → (if b then Passed at (record { what = what.Turns; found = found_number n; most = 1024 }) ∷ [] else []) ≡ [] → nat_lt n (2 ^ 64) ≡ true
    by_test true q f = some_fault (Passed at (record { what = what.Turns; found = found_number n; most = 1024 })) [] f
    by_test false q f =
        let few : n ≤ 1024 = ltb-false 1024 n q in
        let less : n < 2 ^ 64 = omega arith in
        (Decides-ltb n (2 ^ 64)).1 less

-- ---- turns

-- what the patterns of a loop become, and its body behind them
record TurnLowersTo (context : TypeEnv) (index acc : PatternPair) (block : BlockPair) (k t : DslxType) (il al : PatternLowering) (bl : ExprLowering) (scope : CoreScope) : Type 0 where
  first : LoweredShape
  first_is : lower_in_scope il scope k ≡ Some first
  second : LoweredShape
  second_is : lower_in_scope al first.scope t ≡ Some second
  body : LoweredExpr
  body_is : bl second.scope ≡ Some body
  typed : (body_seen context index acc block (Some k) (Some t)).ty ≡ Some body.ty
  declared : IsDeclared (types_at context) body.ty

turn_lowers_to : (here : Instance → Bool) (context : TypeEnv) (env : Env) (scope : CoreScope) → IsWellTypedEnv context env → ScopeMatchesEnv here context scope
    → (index acc : PatternPair) (il al : PatternLowering) (im am : PatternDen) (body : BlockPair) (bl : ExprLowering) → PatternLowers index.1 il → PatternLowers acc.1 al → PatternGives index.1 im → PatternGives acc.1 am → BlockLowers body.1 bl
    → (k t : DslxType) (v a : DslxValue) → GivesOf (types_at context) k (Some v) → GivesOf (types_at context) t (Some a)
    → IsClean here (index_seen context index (Some k)).faults (index_seen context index (Some k)).reached
    → IsClean here (acc_seen context index acc (Some k) (Some t)).faults (acc_seen context index acc (Some k) (Some t)).reached
    → IsClean here (body_seen context index acc body (Some k) (Some t)).faults (body_seen context index acc body (Some k) (Some t)).reached
    → TurnLowersTo context index acc body k t il al bl scope
turn_lowers_to here context env scope h at index acc il al im am body bl pi pa gi ga sb k t v a gk gt ci cp cb =
    let i = index_seen context index (Some k) in
    let inner = with_typed context i.locals in
    let first = pi.lowers here false context k [] context.locals env scope scope h at at gk.declared ci in
    let behind_index = gi.behind false context k [] context.locals env v h gk (ap has_broken ci.faults) in
    let second = pa.lowers here false inner t [] inner.locals behind_index.0 first.shape.scope first.shape.scope behind_index.1 first.behind first.behind gt.declared cp in
    let behind_acc = ga.behind false inner t [] inner.locals behind_index.0 a behind_index.1 gt (ap has_broken cp.faults) in
    let b = block_lowers_to here (with_typed context (acc_seen context index acc (Some k) (Some t)).locals) behind_acc.0 second.shape.scope body.1 bl sb behind_acc.1 second.behind (record { faults = cb.faults; reached = cb.reached }) in
    record {
      first = first.shape;
      first_is = first.is;
      second = second.shape;
      second_is = second.is;
      body = b.expr;
      body_is = b.is;
      typed = b.typed;
      declared = b.declared;
    }

-- ---- loops

loop_typed : (start index : LoweredExpr) (a b : SignedWord) (il al : PatternLowering) (bl : ExprLowering) (scope : CoreScope) (first second : LoweredShape) (body : LoweredExpr) → lower_in_scope il scope index.ty ≡ Some first
    → lower_in_scope al first.scope start.ty ≡ Some second → bl second.scope ≡ Some body → (equal_type start.ty body.ty && nat_lt (turn_count a b) (2 ^ 64)) ≡ true
    → type_of_lowered (lower_loop (Some start) (Some index) (Some a) (Some b) il al bl scope) ≡ Some start.ty
loop_typed start index a b il al bl scope first second body f g k e =
    ap (λ o. type_of_lowered (and_then o (λ i. and_then (lower_in_scope al i.scope start.ty) (λ acc. and_then (bl acc.scope) (λ body. where_true (equal_type start.ty body.ty && nat_lt (turn_count a b) (2 ^ 64))
    (lowered (core.Loop (turn_count a b) a.word i.shape acc.shape body.core start.core) start.ty)))))) f
    ∙ ap (λ o. type_of_lowered (and_then o (λ acc. and_then (bl acc.scope) (λ body. where_true (equal_type start.ty body.ty && nat_lt (turn_count a b) (2 ^ 64))
    (lowered (core.Loop (turn_count a b) a.word first.shape acc.shape body.core start.core) start.ty))))) g
    ∙ ap (λ o. type_of_lowered (and_then o (λ body. where_true (equal_type start.ty body.ty && nat_lt (turn_count a b) (2 ^ 64))
    (lowered (core.Loop (turn_count a b) a.word first.shape second.shape body.core start.core) start.ty)))) k
    ∙ ap (λ t. type_of_lowered (where_true t (lowered (core.Loop (turn_count a b) a.word first.shape second.shape body.core start.core) start.ty))) e

-- an annotation, if there is one, has a type
annotation_there : (here : Instance → Bool) (context : TypeEnv) (env : Env) (scope : CoreScope) → IsWellTypedEnv context env → ScopeMatchesEnv here context scope → (span : Span) (written : Option TypePair) (g : Option TypeDen) → TypeHasDenIf written g
    → (index acc : Option DslxType) (t : DslxType) → acc ≡ Some t → loop_annotation span (written_typing context written) index acc ≡ [] → list_all here (annotation_reached (written_typing context written)) ≡ true
    → (u : DslxType) × (annotated_type (written_typing context written) acc ≡ Some u)
annotation_there here context env scope h at span None None k index acc t own e r = (t, own)
annotation_there here context env scope h at span None (Some g) k index acc t own e r = absurd k
annotation_there here context env scope h at span (Some p) None k index acc t own e r = absurd k
annotation_there here context env scope h at span (Some p) (Some g) k index acc t own e r =
    let j = p.1 context in
    let faults = (none_in j.faults (wanted_faults span j.ty (with_both index acc (λ i a. Some (ty.Tuple (i ∷ a ∷ []))))) e).0 in
    k.known context env h (well_typed_there here context scope j at (record { faults = faults; reached = r }))

pub lower_total_loop : (span body_span : Span) (from to start : ExprPair) (x y z : ExprLowering) (written : Option TypePair) (g : Option TypeDen) (index acc : PatternPair) (il al : PatternLowering) (im am : PatternDen) (body : BlockPair) (bl : ExprLowering)
    → ExprLowers from x → ExprLowers to y → ExprLowers start z → TypeHasDenIf written g → PatternLowers index.1 il → PatternLowers acc.1 al → PatternGives index.1 im → PatternGives acc.1 am → BlockLowers body.1 bl
    → PartLowers
    (λ context. loop_with span body_span (loop_at context from to start written index acc body (same_ends (constant_of context from).judgement.ty (constant_of context to).judgement.ty)))
    (λ scope. lower_loop (z scope) (x scope) (and_then (constant_at scope from.0) bits_of) (and_then (constant_at scope to.0) bits_of) il al bl scope)
lower_total_loop span body_span from to start x y z written g index acc il al im am body bl sx sy sz st pi pa gi ga' sb here context env scope h at well_typed =
    let c = constant_of context from in
    let d = constant_of context to in
    let a = alone context start in
    let w = written_typing context written in
    let ends = same_ends c.judgement.ty d.judgement.ty in
    let seen = loop_at context from to start written index acc body ends in
    let i = index_seen context index ends in
    let p = acc_seen context index acc ends a.ty in
    let b = body_seen context index acc body ends a.ty in
    let three = (c.judgement.faults ++ d.judgement.faults) ++ a.faults in
    let six = ((three ++ i.faults) ++ p.faults) ++ b.faults in
    let range = unless_types one_bit_type 26 span c.judgement.ty d.judgement.ty in
    let annotation = loop_annotation span w ends a.ty in
    let wanted = wanted_faults body_span a.ty b.ty in
    let limit = turn_limit span.to (turns_of c.value d.value) in
    let ends_reached = (c.judgement.reached ++ d.judgement.reached) ++ a.reached in
    let s = settled_well_typed (reaching context.known here) span (loop_type seen) (loop_parts_faults seen ++ loop_faults span body_span seen) (loop_reached seen) (loop_size seen) well_typed in
    let both = none_in six (loop_faults span body_span seen) s.faults in
    let q = none_in_three (range ++ annotation) wanted limit both.1 in
    let r = none_in range annotation q.0 in
    let u = none_in ((three ++ i.faults) ++ p.faults) b.faults both.0 in
    let v = none_in_three three i.faults p.faults u.0 in
    let f = none_in_three c.judgement.faults d.judgement.faults a.faults v.0 in
    let k = all_in here (((ends_reached ++ annotation_reached w) ++ i.reached) ++ p.reached) b.reached s.reached in
    let l = all_in_three here (ends_reached ++ annotation_reached w) i.reached p.reached k.0 in
    let m = all_in here ends_reached (annotation_reached w) l.0 in
    let n = all_in_three here c.judgement.reached d.judgement.reached a.reached m.0 in
    let fc : IsWellTypedPart (reaching context.known here) c.judgement = record { faults = f.0; reached = n.0 } in
    let fd : IsWellTypedPart (reaching context.known here) d.judgement = record { faults = f.1; reached = n.1 } in
    let gc = constant_has context env from sx.meaning sx.gives h (well_typed_there here context scope c.judgement at fc) in
    let gd = constant_has context env to sy.meaning sy.gives h (well_typed_there here context scope d.judgement at fd) in
    let local = breaks_if (names_a_local context from) 5 (span_of from) in
    let first = alone context from in
    let alone_faults = (none_in_three first.faults local (size_faults context.known (span_of from).to (record first { faults = first.faults ++ local })) f.0).0 in
    let gx = alone_lowers_to here context env scope from x sx h at alone_faults n.0 in
    let gz = alone_lowers_to here context env scope start z sz h at f.2 n.2 in
    let annotated = annotation_there here context env scope h at span written g st ends a.ty gz.expr.ty gz.typed r.1 m.1 in
    let index_type = gx.expr.ty in
    let from_typed : c.judgement.ty ≡ Some index_type = ap (λ o. and_then o (λ v. first.ty)) gc.known ∙ gx.typed in
    let acc_type = gz.expr.ty in
    let one = and_true (is_bits index_type) (same_type index_type gd.ty) (passed (one_bit_type index_type gd.ty) 26 span ((λ e. unless_types one_bit_type 26 span (sym from_typed e) (sym gd.typed e)) ∙ r.0)) in
    let alike : ends ≡ Some index_type = (λ e. same_ends (from_typed e) (gd.typed e)) ∙ (λ e. if (one.0 e && one.1 e) then Some index_type else None) in
    let first_value : GivesOf (types_at context) index_type (Some gc.gives.value) =
    subst (λ t. GivesOf (types_at context) t (Some gc.gives.value)) (same_some gc.ty index_type (sym gc.typed ∙ from_typed)) (record { value = gc.gives.value; is = refl; of = gc.gives.of; declared = gc.gives.declared }) in
    let last_value : GivesOf (types_at context) index_type (Some gd.gives.value) =
    subst (λ t. GivesOf (types_at context) t (Some gd.gives.value)) (sym (one_of_text (types_at context) index_type gd.ty one.1 gx.declared gd.gives.declared)) (record { value = gd.gives.value; is = refl; of = gd.gives.of; declared = gd.gives.declared }) in
    let low = bits_there (types_at context) index_type gc.gives.value first_value one.0 in
    let high = bits_there (types_at context) index_type gd.gives.value last_value one.0 in
    let from_word : SignedWord = record { signed = low.kind.signed; word = low.word } in
    let to_word : SignedWord = record { signed = high.kind.signed; word = high.word } in
    let count = turn_count from_word to_word in
    let few = few_turns span.to count
    (sym (ap (turn_limit span.to) ((λ e. turns_of (gc.known e) (gd.known e)) ∙ (λ e. with_both (low.is e) (high.is e) (λ x y. if of_one_type x y then Some (turn_count x y) else None))
    ∙ ap (λ b. if b then Some count else None) (one_type_of index_type gc.gives.value gd.gives.value low high))) ∙ q.2) in
    let seen_index = ap (index_seen context index) alike in
    let seen_acc : p ≡ acc_seen context index acc (Some index_type) (Some acc_type) = λ e. acc_seen context index acc (alike e) (gz.typed e) in
    let seen_body : b ≡ body_seen context index acc body (Some index_type) (Some acc_type) = λ e. body_seen context index acc body (alike e) (gz.typed e) in
    let turn = turn_lowers_to here context env scope h at index acc il al im am body bl pi pa gi ga' sb index_type acc_type gc.gives.value gz.value first_value gz.given
    (record { faults = ap (λ (s : PatternSeen). s.faults) (sym seen_index) ∙ v.1; reached = ap (λ (s : PatternSeen). list_all here s.reached) (sym seen_index) ∙ l.1 })
    (record { faults = ap (λ (s : PatternSeen). s.faults) (sym seen_acc) ∙ v.2; reached = ap (λ (s : PatternSeen). list_all here s.reached) (sym seen_acc) ∙ l.2 })
    (record { faults = ap (λ (j : Judgement). j.faults) (sym seen_body) ∙ u.1; reached = ap (λ (j : Judgement). list_all here j.reached) (sym seen_body) ∙ k.1 }) in
    let body_typed : b.ty ≡ Some turn.body.ty = ap (λ (j : Judgement). j.ty) seen_body ∙ turn.typed in
    let like = passed (same_type acc_type turn.body.ty) 9 body_span ((λ e. wanted_faults body_span (sym gz.typed e) (sym body_typed e)) ∙ q.1) in
    let same = equal_of_text (types_at context) acc_type turn.body.ty like gz.declared turn.declared in
    let from_there = ap (λ o. and_then o bits_of) (constant_there here context env scope from sx.meaning sx.gives h at fc gc.gives.value gc.known) ∙ low.is in
    let to_there = ap (λ o. and_then o bits_of) (constant_there here context env scope to sy.meaning sy.gives h at fd gd.gives.value gd.known) ∙ high.is in
    (λ e. type_of_lowered (lower_loop (gz.is e) (gx.is e) (from_there e) (to_there e) il al bl scope))
    ∙ loop_typed gz.expr gx.expr from_word to_word il al bl scope turn.first turn.second turn.body turn.first_is turn.second_is turn.body_is (λ e. same e && few e)
    ∙ sym (λ e. and_then (alike e) (λ i. and_then (body_typed e) (λ t. and_then (annotated.1 e) (λ u. gz.typed e)))) ∙ sym s.ty
