-- Loops, where nothing is wrong with them.
use Rattle.std.proofs.Common.{◌≡◌, ◌++◌, true, false, if◌then◌else◌, [], ◌∷◌, Option, Some, None, refl, sym, ap, subst, ◌∙◌, ◌+◌, ◌*◌, ℕ, Bool}
use mathlib.Core.Bool.{true≢false}
use Rattle.std.specs.List.{list_all}
use Rattle.xb_span.specs.declared.span.Span.{Span}
use Rattle.dslx_meaning.specs.Lists.{and_then, where_true, with_both}
use Rattle.dslx_meaning.specs.Types.{same_type}
use Rattle.dslx_meaning.specs.Values.{bits_of}
use Rattle.dslx_meaning.specs.Environment.{Env}
use Rattle.dslx_meaning.specs.Meaning.{ValueDen, ExprDen, PatternDen, TypeDen, fits_in_scope, loop_over, turn_count, turns_from}
use Rattle.dslx_meaning.specs.declared.ty.DslxType as ty
use Rattle.dslx_meaning.specs.declared.ty.DslxType.{DslxType}
use Rattle.dslx_meaning.specs.declared.value.DslxValue.{DslxValue}
use Rattle.dslx_meaning.specs.Rules.AggregateRules.{wanted_faults}
use Rattle.dslx_meaning.specs.Rules.ConstantRules.{constant_of}
use Rattle.dslx_meaning.specs.Rules.ControlRules.{annotated_type, annotation_reached, loop_annotation, loop_faults, loop_parts_faults, loop_reached, loop_size, loop_type, loop_with, same_ends, turn_limit, turns_of, written_typing, times_size}
use Rattle.dslx_meaning.specs.Rules.TypeEnvs.{ExprPair, TypeEnv, alone, has_broken, with_typed, plus_size}
use Rattle.dslx_meaning.specs.Rules.Typings.{BlockPair, PatternPair, PatternSeen, TypePair}
use Rattle.dslx_meaning.specs.Rules.OperatorRules.{one_bit_type, unless_types}
use Rattle.dslx_core.specs.Typing.Typed.Complete.{IsWellTypedPart}
use Rattle.dslx_core.specs.Typing.Typed.Given.{GivesOf, IsSized, TurnGives}
use Rattle.dslx_core.specs.Typing.Typed.WellTyped.{Fails, Fits, FitsOrFails, IsWellTypedEnv, PatternKeeps, types_at}
use Rattle.dslx_core.proofs.Lemmas.Typing.Typed.{for_gives, same_some, turn_gives, none_some}
use Rattle.dslx_core.specs.Typing.Sound.Sound.{BlockGives, ExprGives, HasTypedValue, TypeHasDenIf, acc_seen, body_seen, index_seen, loop_at, turn_of}
use Rattle.dslx_core.proofs.OnTyping.OnSound.OfConstants.{constant_has}
use Rattle.dslx_core.proofs.OnTyping.OnSound.WellTypedParts.{all_in, all_in_three, alone_has, given, none_in, none_in_three, one_sized, passed, plus_sized, settled_well_typed, whole}
use Rattle.dslx_meaning.specs.Operators.{of_one_type}
use Rattle.dslx_meaning.specs.declared.value.SignedWord.{SignedWord}

-- a pattern that may not fail, against a value of its type
fits_surely : (context : TypeEnv) (seen : PatternSeen) (o : Option Env) → FitsOrFails false context seen o → (inner : Env) × IsWellTypedEnv (with_typed context seen.locals) inner
fits_surely context seen o (Fits inner is typed) = (inner, typed)
fits_surely context seen o (Fails is may sure) = absurd (true≢false (sym may))

-- a loop that gives a value has so many turns
turns_there : (turn : DslxValue → DslxValue → Option DslxValue) (start : Option DslxValue) (a b : Option SignedWord) (v : DslxValue) → and_then start (λ s. with_both a b (loop_over turn s)) ≡ Some v
    → IsSized (with_both a b (λ x y. if of_one_type x y then Some (turn_count x y) else None))
turns_there turn None a b v e = none_some v e
turns_there turn (Some s) None b v e = none_some v e
turns_there turn (Some s) (Some x) None v e = none_some v e
turns_there turn (Some s) (Some x) (Some y) v e = by_test (of_one_type x y) e
  where
    by_test : (c : Bool) → where_true c (turns_from turn x.signed (turn_count x y) x.word s) ≡ Some v → IsSized (if c then Some (turn_count x y) else None)
    by_test true q = (turn_count x y, refl)
    by_test false q = none_some v q

times_sized : (a b : Option ℕ) → IsSized a → IsSized b → IsSized (times_size a b)
times_sized a b s t = (s.0 * t.0, λ i. times_size (s.1 i) (t.1 i))

-- the body has a type and a size, and where the type is that of what is accumulated, turns give it again
abbrev TurnsTyped : TypeEnv → Env → PatternPair → PatternPair → PatternDen → PatternDen → BlockPair → ValueDen → DslxType → DslxType → Option DslxType → Option DslxType → Type 0
TurnsTyped context env index acc im am body f k t ok ot = (index_seen context index ok).faults ≡ [] → (acc_seen context index acc ok ot).faults ≡ [] → IsWellTypedPart context.known (body_seen context index acc body ok ot)
    → (u : DslxType) × ((body_seen context index acc body ok ot).ty ≡ Some u) × (same_type t u ≡ true → TurnGives k t (turn_of im am f env)) × IsSized (body_seen context index acc body ok ot).size

turns_typed : (context : TypeEnv) (env : Env) (index acc : PatternPair) (im am : PatternDen) (body : BlockPair) (f : ValueDen) (k t : DslxType) (v a : DslxValue) → PatternKeeps index.1 im.fits → PatternKeeps acc.1 am.fits
    → BlockGives body.1 f → IsWellTypedEnv context env → GivesOf (types_at context) k (Some v) → GivesOf (types_at context) t (Some a) → TurnsTyped context env index acc im am body f k t (Some k) (Some t)
turns_typed context env index acc im am body f k t v a ik ak sb h gk gt fi fa well_typed =
    let first = fits_surely context (index_seen context index (Some k)) (fits_in_scope im v env) (ik false context k [] context.locals env env v h h gk (ap has_broken fi)) in
    let inner = with_typed context (index_seen context index (Some k)).locals in
    let second = fits_surely inner (acc_seen context index acc (Some k) (Some t)) (fits_in_scope am a first.0) (ak false inner t [] inner.locals first.0 first.0 a first.1 first.1 gt (ap has_broken fa)) in
    let behind = with_typed context (acc_seen context index acc (Some k) (Some t)).locals in
    let g = sb behind second.0 second.1 well_typed in (
      g.0,
      g.1,
      (λ same. turn_gives context k t g.0 index acc im am (body_seen context index acc body (Some k) (Some t)) f env ik ak gk.declared gt.declared (ap has_broken fi) (ap has_broken fa) g.1 same
          (λ at typed. given (types_at context) (body_seen context index acc body (Some k) (Some t)) (f at) (sb behind at typed well_typed)) h),
      g.3,
    )

-- an annotation, if there is one, has a type
annotation_known : (context : TypeEnv) (env : Env) → IsWellTypedEnv context env → (span : Span) (written : Option TypePair) (g : Option TypeDen) → TypeHasDenIf written g → (index acc : Option DslxType) (t : DslxType) → acc ≡ Some t
    → loop_annotation span (written_typing context written) index acc ≡ [] → list_all context.known.is_sound (annotation_reached (written_typing context written)) ≡ true
    → (u : DslxType) × (annotated_type (written_typing context written) acc ≡ Some u)
annotation_known context env h span None None k index acc t own e r = (t, own)
annotation_known context env h span None (Some g) k index acc t own e r = absurd k
annotation_known context env h span (Some p) None k index acc t own e r = absurd k
annotation_known context env h span (Some p) (Some g) k index acc t own e r =
    let j = p.1 context in
    k.known context env h (record { faults = (none_in j.faults (wanted_faults span j.ty (with_both index acc (λ i a. Some (ty.Tuple (i ∷ a ∷ []))))) e).0; reached = r })

-- a loop, by what is known of its parts
pub loop_has : (span body_span : Span) (context : TypeEnv) (env : Env) (from to start : ExprPair) (x y z : ExprDen) (written : Option TypePair) (g : Option TypeDen) (index acc : PatternPair) (im am : PatternDen) (body : BlockPair) (f : ValueDen)
    → ExprGives from x → ExprGives to y → ExprGives start z → TypeHasDenIf written g → PatternKeeps index.1 im.fits → PatternKeeps acc.1 am.fits → BlockGives body.1 f → IsWellTypedEnv context env
    → (ends : Option DslxType) → same_ends (constant_of context from).judgement.ty (constant_of context to).judgement.ty ≡ ends
    → IsWellTypedPart context.known (loop_with span body_span (loop_at context from to start written index acc body ends))
    → HasTypedValue (types_at context) (loop_with span body_span (loop_at context from to start written index acc body ends))
    (and_then (z.value env) (λ s. with_both (and_then (x.value env) bits_of) (and_then (y.value env) bits_of) (loop_over (turn_of im am f env) s)))
loop_has span body_span context env from to start x y z written g index acc im am body f sx sy sz st ik ak sb h ends is well_typed =
    let seen = loop_at context from to start written index acc body ends in
    let w = written_typing context written in
    let c = constant_of context from in
    let d = constant_of context to in
    let a = alone context start in
    let i = index_seen context index ends in
    let p = acc_seen context index acc ends a.ty in
    let b = body_seen context index acc body ends a.ty in
    let three = (c.judgement.faults ++ d.judgement.faults) ++ a.faults in
    let six = ((three ++ i.faults) ++ p.faults) ++ b.faults in
    let range = unless_types one_bit_type 26 span c.judgement.ty d.judgement.ty in
    let annotation = loop_annotation span w (same_ends c.judgement.ty d.judgement.ty) a.ty in
    let wanted = wanted_faults body_span a.ty b.ty in
    let limit = turn_limit span.to (turns_of c.value d.value) in
    let ends_reached = (c.judgement.reached ++ d.judgement.reached) ++ a.reached in
    let s = settled_well_typed context.known span (loop_type seen) (loop_parts_faults seen ++ loop_faults span body_span seen) (loop_reached seen) (loop_size seen) well_typed in
    let both = none_in six (loop_faults span body_span seen) s.faults in
    let q = none_in_three (range ++ annotation) wanted limit both.1 in
    let r = none_in range annotation q.0 in
    let u = none_in ((three ++ i.faults) ++ p.faults) b.faults both.0 in
    let turns_size = times_size (turns_of c.value d.value) (plus_size (Some ((1 + i.size) + p.size)) b.size) in
    let v = none_in_three three i.faults p.faults u.0 in
    let f0 = none_in_three c.judgement.faults d.judgement.faults a.faults v.0 in
    let k = all_in context.known.is_sound (((ends_reached ++ annotation_reached w) ++ i.reached) ++ p.reached) b.reached s.reached in
    let l = all_in_three context.known.is_sound (ends_reached ++ annotation_reached w) i.reached p.reached k.0 in
    let m = all_in context.known.is_sound ends_reached (annotation_reached w) l.0 in
    let n = all_in_three context.known.is_sound c.judgement.reached d.judgement.reached a.reached m.0 in
    let gc = constant_has context env from x sx h (record { faults = f0.0; reached = n.0 }) in
    let gd = constant_has context env to y sy h (record { faults = f0.1; reached = n.1 }) in
    let ga = alone_has context env start z sz h f0.2 n.2 in
    let annotated = annotation_known context env h span written g st (same_ends c.judgement.ty d.judgement.ty) a.ty ga.0 ga.1 r.1 m.1 in
    let one = passed (one_bit_type gc.ty gd.ty) 26 span ((λ e. unless_types one_bit_type 26 span (sym gc.typed e) (sym gd.typed e)) ∙ r.0) in
    let alike : same_ends c.judgement.ty d.judgement.ty ≡ Some gc.ty = (λ e. same_ends (gc.typed e) (gd.typed e)) ∙ ap (λ t. if t then Some gc.ty else None) one in
    let vk : GivesOf (types_at context) gc.ty (Some gc.gives.value) = record { value = gc.gives.value; is = refl; of = gc.gives.of; declared = gc.gives.declared } in
    let va : GivesOf (types_at context) ga.0 (Some ga.2.value) = record { value = ga.2.value; is = refl; of = ga.2.of; declared = ga.2.declared } in
    let base = turns_typed context env index acc im am body f gc.ty ga.0 gc.gives.value ga.2.value ik ak sb h vk va in
    let turns = subst (λ o. TurnsTyped context env index acc im am body f gc.ty ga.0 o a.ty) (sym alike ∙ is) (subst (λ o. TurnsTyped context env index acc im am body f gc.ty ga.0 (Some gc.ty) o) (sym ga.1) base) v.1 v.2 (record { faults = u.1; reached = k.1 }) in
    let same = passed (same_type ga.0 turns.0) 9 body_span ((λ e. wanted_faults body_span (sym ga.1 e) (sym turns.1 e)) ∙ q.1) in
    let again = turns.2 same in
    let typed : loop_type seen ≡ Some ga.0 = λ e. and_then (alike e) (λ i. and_then (turns.1 e) (λ t. and_then (annotated.1 e) (λ u. ga.1 e))) in
    let law = for_gives (types_at context) span body_span seen (x.value env) (y.value env) (z.value env) (turn_of im am f env)
    (given (types_at context) c.judgement (x.value env) (gc.ty, gc.typed, gc.gives, gc.sized)) (given (types_at context) d.judgement (y.value env) (gd.ty, gd.typed, gd.gives, gd.sized)) (given (types_at context) a (z.value env) ga)
    (λ k' t' u' ek et eu same' fi fa dk dt.
    subst (λ o. TurnGives k' o (turn_of im am f env)) (same_some ga.0 t' (sym ga.1 ∙ et)) (subst (λ o. TurnGives o ga.0 (turn_of im am f env)) (same_some gc.ty k' (sym gc.typed ∙ ek)) again)) in
    let found = law ga.0 (s.ty ∙ typed) in
    let counted = turns_there (turn_of im am f env) (z.value env) (and_then (x.value env) bits_of) (and_then (y.value env) bits_of) found.value found.is in
    let count : IsSized (turns_of c.value d.value) = (counted.0, (λ e. turns_of ((gc.known ∙ sym gc.gives.is) e) ((gd.known ∙ sym gd.gives.is) e)) ∙ counted.1) in
    let turn_size = plus_size (Some ((1 + i.size) + p.size)) b.size in
    let each = times_sized (turns_of c.value d.value) turn_size count (plus_sized (Some ((1 + i.size) + p.size)) b.size ((1 + i.size) + p.size, refl) turns.3) in
    let ends_sized = plus_sized c.judgement.size d.judgement.size gc.sized gd.sized in
    let sized = one_sized (plus_size (plus_size c.judgement.size d.judgement.size) (plus_size a.size turns_size)) (plus_sized (plus_size c.judgement.size d.judgement.size) (plus_size a.size turns_size) ends_sized (plus_sized a.size turns_size ga.3 each)) in
    whole (types_at context) context.known span (loop_type seen) (loop_parts_faults seen ++ loop_faults span body_span seen) (loop_reached seen) (loop_size seen) ga.0 (and_then (z.value env) (λ s. with_both (and_then (x.value env) bits_of) (and_then (y.value env) bits_of) (loop_over (turn_of im am f env) s))) s
    typed sized law
