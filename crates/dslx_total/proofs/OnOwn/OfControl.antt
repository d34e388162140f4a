-- What `if`, blocks, `match` and loops reach with which nothing is wrong.
use Rattle.std.proofs.Common.{◌≡◌, ◌&&◌, ◌||◌, ◌++◌, Bool, true, false, not, if◌then◌else◌, List, [], ◌∷◌, map, Option, Some, None, refl, sym, ap, subst, ◌∙◌}
use Rattle.std.specs.List.{list_all}
use Rattle.xb_span.specs.declared.span.Span.{Span}
use Rattle.dslx_meaning.specs.Environment.{Env}
use Rattle.dslx_meaning.specs.Lists.{all_some}
use Rattle.dslx_meaning.specs.Meaning.{ExprDen, PatternDen, StmtDen}
use Rattle.dslx_meaning.specs.Types.{same_type}
use Rattle.dslx_meaning.specs.declared.ty.DslxType.{DslxType}
use Rattle.dslx_meaning.specs.declared.value.DslxValue.{DslxValue}
use Rattle.dslx_meaning.specs.Rules.AggregateRules.{wanted_faults}
use Rattle.dslx_meaning.specs.Rules.ConstantRules.{constant_of, is_empty}
use Rattle.dslx_meaning.specs.Rules.ControlRules.{ArmTyping, alternatives_seen, annotation_reached, arm_typing, arm_values, arms_faults, arms_reached, block_alone, differ, has_several, if_typing, last_typing, loop_annotation, loop_faults, loop_parts_faults, loop_with, match_faults, match_typing, not_exhaustive, one_alternative, same_ends, some_binds, statements_typing, turn_limit, turns_of, written_typing}
use Rattle.dslx_meaning.specs.Rules.OperatorRules.{is_bits, is_bool, one_bit_type, unless_type, unless_types}
use Rattle.dslx_meaning.specs.Rules.TypeEnvs.{ExprPair, Instance, TypeEnv, alone, has_broken, one_and, plus_size, settled, span_of, types_of, with_typed}
use Rattle.dslx_meaning.specs.Rules.Typings.{ArmSeen, BlockPair, PatternPair, PatternSeen, StatementTyping, TypePair}
use Rattle.dslx_core.proofs.Lemmas.Typing.Laws.{and_true}
use Rattle.dslx_core.proofs.Lemmas.Typing.Sound.{all_in, all_in_three, alone_has, constant_has, none_in, none_in_three, not_broken, passed}
use Rattle.dslx_core.proofs.Lemmas.Typing.Typed.{not_false, or_false}
use Rattle.dslx_core.specs.Typing.Sound.Sound.{EachPatternGives, ExprGives, PatternGives, StatementGives, acc_seen, body_seen, index_seen, loop_at}
use Rattle.dslx_core.specs.Typing.Typed.Complete.{IsWellTypedPart}
use Rattle.dslx_core.specs.Typing.Typed.Given.{GivesOf}
use Rattle.dslx_core.specs.Typing.Typed.WellTyped.{IsWellTypedEnv, types_at}
use Rattle.dslx_total.proofs.OnExpressions.Parts.{all_sound}
use Rattle.dslx_total.proofs.OnOwn.Passing.{AlonePasses, CalleesPass, ExprPasses, Passes, PatternPasses, StatementPasses, TypePasses, alone_passes, before_more, both_pass, constant_passes, join, join_three}

module _ (here test : Instance → Bool) where
  -- ---- if

  pub if_passes : (span : Span) (context : TypeEnv) (c : ExprPair) (a : BlockPair) (b : ExprPair) → AlonePasses here test context c → Passes here test (block_alone context a).faults (block_alone context a).reached → AlonePasses here test context b
      → Passes here test (if_typing span context c a b).faults (if_typing span context c a b).reached
  if_passes span context c a b pc pa pb =
      let condition = alone context c in
      let first = block_alone context a in
      let second = alone context b in
      let bool = unless_type is_bool 15 (span_of c) condition.ty in
      let same = unless_types same_type 25 span first.ty second.ty in
      let three = (condition.faults ++ first.faults) ++ second.faults in
      let reached = (condition.reached ++ first.reached) ++ second.reached in
      before_more here test ((three ++ bool) ++ same) _ reached
      (before_more here test (three ++ bool) same reached
      (before_more here test three bool reached
      (join_three here test condition.faults first.faults second.faults condition.reached first.reached second.reached pc pa pb)))

  -- ---- statements and blocks

  abbrev pub StatementGivesSome : StatementTyping → Type 0
  StatementGivesSome s = (d : StmtDen) × StatementGives s d

  abbrev pub EachStatementPasses : List StatementTyping → Type 0
  EachStatementPasses [] = Unit {0}
  EachStatementPasses (s ∷ ss) = (StatementPasses here test s × StatementGivesSome s) × EachStatementPasses ss

  -- all that statements reach passes, and behind them the type environment is well typed
  record StatementsDone (ss : List StatementTyping) (context : TypeEnv) : Type 0 where
    passes : list_all test (statements_typing ss false context).reached ≡ true
    inner : Env
    typed : IsWellTypedEnv (statements_typing ss false context).context inner
    callees : CalleesPass here test (statements_typing ss false context).context.known

  statements_pass : (ss : List StatementTyping) → EachStatementPasses ss → (context : TypeEnv) (env : Env) → IsWellTypedEnv context env → CalleesPass here test context.known
      → (statements_typing ss false context).faults ≡ [] → list_all here (statements_typing ss false context).reached ≡ true → StatementsDone ss context
  statements_pass [] k context env h callees f r = record { passes = refl; inner = env; typed = h; callees = callees }
  statements_pass (s ∷ ss) k context env h callees f r =
      let first = s false context in
      let rest = statements_typing ss false first.context in
      let p = none_in first.faults rest.faults f in
      let q = all_in here first.reached rest.reached r in
      let on = k.0.1.1.keeps context env h p.0 (all_sound here context.known.is_sound callees.sound first.reached q.0) in
      let more = statements_pass ss k.1 first.context on.inner on.typed (subst (CalleesPass here test) (sym (k.0.0.known false context)) callees) p.1 q.1 in
      record { passes = both_pass test first.reached rest.reached (k.0.0.passes false context env h callees p.0 q.0) more.passes; inner = more.inner; typed = more.typed; callees = more.callees }

  -- a block whose last expression, if there is one, passes behind them
  pub block_passes : (span : Span) (ss : List StatementTyping) (o : Option ExprPair) → EachStatementPasses ss
      → ((context : TypeEnv) (env : Env) → IsWellTypedEnv context env → CalleesPass here test context.known → Passes here test (last_typing context o).faults (last_typing context o).reached)
      → TypePasses here test (λ context. settled span (last_typing (statements_typing ss false context).context o).ty ((statements_typing ss false context).faults ++ (last_typing (statements_typing ss false context).context o).faults)
      ((statements_typing ss false context).reached ++ (last_typing (statements_typing ss false context).context o).reached)
      (one_and (plus_size (statements_typing ss false context).size (last_typing (statements_typing ss false context).context o).size)))
  block_passes span ss o k end context env h callees e r =
      let walked = statements_typing ss false context in
      let last = last_typing walked.context o in
      let p = none_in walked.faults last.faults (none_in (walked.faults ++ last.faults) _ e).0 in
      let q = all_in here walked.reached last.reached r in
      let done = statements_pass ss k context env h callees p.0 q.0 in
      both_pass test walked.reached last.reached done.passes (end walked.context done.inner done.typed done.callees p.1 q.1)

  -- ---- arms

  abbrev pub EachPatternPasses : List PatternPair → Type 0
  EachPatternPasses [] = Unit {0}
  EachPatternPasses (p ∷ ps) = PatternPasses here test p.1 × EachPatternPasses ps

  pub record ArmPasses (a : ArmSeen) : Type 0 where
    pub meanings : List PatternDen
    pub give : EachPatternGives a.patterns meanings
    pub patterns : EachPatternPasses a.patterns
    pub value : ExprPasses here test a.value.1

  abbrev pub EachArmPasses : List ArmSeen → Type 0
  EachArmPasses [] = Unit {0}
  EachArmPasses (a ∷ as') = ArmPasses a × EachArmPasses as'

  module _ (context : TypeEnv) (env : Env) (h : IsWellTypedEnv context env) (callees : CalleesPass here test context.known) where
    alternatives_pass : (t : Option DslxType) (ps : List PatternPair) → EachPatternPasses ps → Passes here test (alternatives_seen context t ps).faults (alternatives_seen context t ps).reached
    alternatives_pass t [] k = λ f r. refl
    alternatives_pass t (p ∷ ps) k =
        let rest = alternatives_seen context t ps in
        let first = one_alternative context t p rest in
        join here test first.faults rest.faults first.reached rest.reached (k.0 true context t [] rest.locals env h callees) (alternatives_pass t ps k.1)

    -- several alternatives bind nothing
    same_locals : (t : Option DslxType) (ps : List PatternPair) (ms : List PatternDen) → EachPatternGives ps ms → (alternatives_seen context t ps).binds ≡ false → (alternatives_seen context t ps).locals ≡ context.locals
    same_locals t [] ms k e = refl
    same_locals t (p ∷ ps) [] k e = absurd k
    same_locals t (p ∷ ps) (m ∷ ms) k e =
        let rest = alternatives_seen context t ps in
        let first = one_alternative context t p rest in
        let q = or_false (not (is_empty first.names)) rest.binds e in
        (k.0.unbound true context t [] rest.locals (not_false (is_empty first.names) q.0)).0 ∙ same_locals t ps ms k.1 q.1

    -- behind the patterns of an arm
    behind_arm : (t : DslxType) (v : DslxValue) → GivesOf (types_at context) t (Some v) → (ps : List PatternPair) (ms : List PatternDen) → EachPatternGives ps ms → (alternatives_seen context (Some t) ps).faults ≡ []
        → (has_several ps && (alternatives_seen context (Some t) ps).binds) ≡ false → (inner : Env) × IsWellTypedEnv (with_typed context (alternatives_seen context (Some t) ps).locals) inner
    behind_arm t v g [] ms k f b = (env, h)
    behind_arm t v g (p ∷ ps) [] k f b = absurd k
    behind_arm t v g (p ∷ []) (m ∷ ms) k f b =
        k.0.behind true context t [] context.locals env v h g (ap has_broken (none_in (one_alternative context (Some t) p (alternatives_seen context (Some t) [])).faults [] f).0)
    behind_arm t v g (p ∷ q ∷ ps) (m ∷ ms) k f b = (env, subst (λ ls. IsWellTypedEnv (with_typed context ls) env) (sym (same_locals (Some t) (p ∷ q ∷ ps) (m ∷ ms) k b)) h)

    arms_pass : (t : DslxType) (v : DslxValue) → GivesOf (types_at context) t (Some v) → (arms : List ArmSeen) → EachArmPasses arms → some_binds (map (arm_typing context (Some t)) arms) ≡ false
        → Passes here test (arms_faults (map (arm_typing context (Some t)) arms)) (arms_reached (map (arm_typing context (Some t)) arms))
    arms_pass t v g [] k b = λ f r. refl
    arms_pass t v g (a ∷ arms) k b = λ f r.
        let j = arm_typing context (Some t) a in
        let js = map (arm_typing context (Some t)) arms in
        let p = none_in_three j.seen.faults j.value.faults (arms_faults js) f in
        let q = all_in_three here j.seen.reached j.value.reached (arms_reached js) r in
        let s = or_false (has_several a.patterns && j.seen.binds) (some_binds js) b in
        let inner = behind_arm t v g a.patterns k.0.meanings k.0.give p.0 s.0 in
        let place = with_typed context j.seen.locals in
        both_pass test (j.seen.reached ++ j.value.reached) (arms_reached js)
        (both_pass test j.seen.reached j.value.reached (alternatives_pass (Some t) a.patterns k.0.patterns p.0 q.0) (alone_passes here test place a.value (k.0.value false place inner.0 inner.1 callees) p.1 q.1))
        (arms_pass t v g arms k.1 s.1 p.2 q.2)

    pub match_passes : (span : Span) (e : ExprPair) (x : ExprDen) (arms : List ArmSeen) → ExprGives e x → AlonePasses here test context e → EachArmPasses arms
        → Passes here test (match_typing span context e arms).faults (match_typing span context e arms).reached
    match_passes span e x arms se pe k f r =
        let value = alone context e in
        let p = none_in_three value.faults (arms_faults (typing value.ty)) (match_faults span context value.ty (typing value.ty)) (none_in ((value.faults ++ arms_faults (typing value.ty)) ++ match_faults span context value.ty (typing value.ty)) _ f).0 in
        let q = all_in here value.reached (arms_reached (typing value.ty)) r in
        let g = alone_has context env e x se h p.0 (all_sound here context.known.is_sound callees.sound value.reached q.0) in
        let given : GivesOf (types_at context) g.0 (Some g.2.value) = record { value = g.2.value; is = refl; of = g.2.of; declared = g.2.declared } in
        let none = not_broken (wrong span (Some g.0)) 24 span (ap (λ o. match_faults span context o (typing o)) (sym g.1) ∙ p.2) in
        let at_type = typing (Some g.0) in
        let a = or_false ((is_empty at_type || some_binds at_type) || differ (all_some (types_of (arm_values at_type)))) (not_exhaustive context at_type (Some g.0)) none in
        let b = or_false (is_empty at_type || some_binds at_type) (differ (all_some (types_of (arm_values at_type)))) a.0 in
        let binds = (or_false (is_empty at_type) (some_binds at_type) b.0).1 in
        let all = arms_pass g.0 g.2.value given arms k binds (ap (λ o. arms_faults (typing o)) (sym g.1) ∙ p.1) (ap (λ o. list_all here (arms_reached (typing o))) (sym g.1) ∙ q.1) in
        both_pass test value.reached (arms_reached (typing value.ty)) (pe p.0 q.0) (ap (λ o. list_all test (arms_reached (typing o))) g.1 ∙ all)
      where
        typing : Option DslxType → List ArmTyping
        typing o = map (arm_typing context o) arms

        wrong : Span → Option DslxType → Bool
        wrong span o = ((is_empty (typing o) || some_binds (typing o)) || differ (all_some (types_of (arm_values (typing o))))) || not_exhaustive context (typing o) o

    -- ---- loops

    abbrev pub WrittenPasses : Option TypePair → Type 0
    WrittenPasses None = Unit {0}
    WrittenPasses (Some t) = Passes here test (t.1 context).faults (t.1 context).reached

    annotation_passes : (span : Span) (written : Option TypePair) (index acc : Option DslxType) → WrittenPasses written → Passes here test (loop_annotation span (written_typing context written) index acc) (annotation_reached (written_typing context written))
    annotation_passes span None index acc k = λ f r. refl
    annotation_passes span (Some t) index acc k = before_more here test (t.1 context).faults _ (t.1 context).reached k

    pub loop_passes : (span body_span : Span) (from to start : ExprPair) (x y z : ExprDen) (written : Option TypePair) (index acc : PatternPair) (im am : PatternDen) (body : BlockPair) → ExprGives from x → ExprGives to y → ExprGives start z
        → AlonePasses here test context from → AlonePasses here test context to → AlonePasses here test context start → WrittenPasses written → PatternGives index.1 im → PatternGives acc.1 am → PatternPasses here test index.1 → PatternPasses here test acc.1
        → TypePasses here test (body.1 false)
        → Passes here test (loop_with span body_span (loop_at context from to start written index acc body (same_ends (constant_of context from).judgement.ty (constant_of context to).judgement.ty))).faults
        (loop_with span body_span (loop_at context from to start written index acc body (same_ends (constant_of context from).judgement.ty (constant_of context to).judgement.ty))).reached
    loop_passes span body_span from to start x y z written index acc im am body sx sy sz px py pz pw gi ga pi pa pb e0 r0 =
        let c = constant_of context from in
        let d = constant_of context to in
        let a = alone context start in
        let w = written_typing context written in
        let ends = same_ends c.judgement.ty d.judgement.ty in
        let seen = loop_at context from to start written index acc body ends in
        let i = index_seen context index ends in
        let p = acc_seen context index acc ends a.ty in
        let b = body_seen context index acc body ends a.ty in
        let three = (c.judgement.faults ++ d.judgement.faults) ++ a.faults in
        let six = ((three ++ i.faults) ++ p.faults) ++ b.faults in
        let range = unless_types one_bit_type 26 span c.judgement.ty d.judgement.ty in
        let annotation = loop_annotation span w ends a.ty in
        let wanted = wanted_faults body_span a.ty b.ty in
        let limit = turn_limit span.to (turns_of c.value d.value) in
        let ends_reached = (c.judgement.reached ++ d.judgement.reached) ++ a.reached in
        let both = none_in six (loop_faults span body_span seen) (none_in (loop_parts_faults seen ++ loop_faults span body_span seen) _ e0).0 in
        let q = none_in_three (range ++ annotation) wanted limit both.1 in
        let r = none_in range annotation q.0 in
        let u = none_in ((three ++ i.faults) ++ p.faults) b.faults both.0 in
        let v = none_in_three three i.faults p.faults u.0 in
        let f = none_in_three c.judgement.faults d.judgement.faults a.faults v.0 in
        let k = all_in here (((ends_reached ++ annotation_reached w) ++ i.reached) ++ p.reached) b.reached r0 in
        let l = all_in_three here (ends_reached ++ annotation_reached w) i.reached p.reached k.0 in
        let m = all_in here ends_reached (annotation_reached w) l.0 in
        let n = all_in_three here c.judgement.reached d.judgement.reached a.reached m.0 in
        let sound = all_sound here context.known.is_sound callees.sound in
        let fc : IsWellTypedPart context.known c.judgement = record { faults = f.0; reached = sound c.judgement.reached n.0 } in
        let fd : IsWellTypedPart context.known d.judgement = record { faults = f.1; reached = sound d.judgement.reached n.1 } in
        let gc = constant_has context env from x sx h fc in
        let gd = constant_has context env to y sy h fd in
        let gz = alone_has context env start z sz h f.2 (sound a.reached n.2) in
        let one = and_true (is_bits gc.ty) (same_type gc.ty gd.ty) (passed (one_bit_type gc.ty gd.ty) 26 span ((λ t. unless_types one_bit_type 26 span (sym gc.typed t) (sym gd.typed t)) ∙ r.0)) in
        let alike : ends ≡ Some gc.ty = (λ t. same_ends (gc.typed t) (gd.typed t)) ∙ (λ t. if (one.0 t && one.1 t) then Some gc.ty else None) in
        let first : GivesOf (types_at context) gc.ty (Some gc.gives.value) = record { value = gc.gives.value; is = refl; of = gc.gives.of; declared = gc.gives.declared } in
        let second : GivesOf (types_at context) gz.0 (Some gz.2.value) = record { value = gz.2.value; is = refl; of = gz.2.of; declared = gz.2.declared } in
        let seen_index : i ≡ index_seen context index (Some gc.ty) = ap (index_seen context index) alike in
        let seen_acc : p ≡ acc_seen context index acc (Some gc.ty) (Some gz.0) = λ t. acc_seen context index acc (alike t) (gz.1 t) in
        let inner = with_typed context (index_seen context index (Some gc.ty)).locals in
        let behind_index = gi.behind false context gc.ty [] context.locals env gc.gives.value h first (ap has_broken (ap (λ (s : PatternSeen). s.faults) (sym seen_index) ∙ v.1)) in
        let behind_acc = ga.behind false inner gz.0 [] inner.locals behind_index.0 gz.2.value behind_index.1 second (ap has_broken (ap (λ (s : PatternSeen). s.faults) (sym seen_acc) ∙ v.2)) in
        let at_index = subst (λ (s : PatternSeen). IsWellTypedEnv (with_typed context s.locals) behind_index.0) (sym seen_index) behind_index.1 in
        let at_acc = subst (λ (s : PatternSeen). IsWellTypedEnv (with_typed context s.locals) behind_acc.0) (sym seen_acc) behind_acc.1 in
        let passes_index = pi false context ends [] context.locals env h callees v.1 l.1 in
        let passes_acc = pa false (with_typed context i.locals) a.ty [] i.locals behind_index.0 at_index callees v.2 l.2 in
        let passes_body = pb (with_typed context p.locals) behind_acc.0 at_acc callees u.1 k.1 in
        let passes_ends = both_pass test (c.judgement.reached ++ d.judgement.reached) a.reached
        (both_pass test c.judgement.reached d.judgement.reached (constant_passes here test context from px f.0 n.0) (constant_passes here test context to py f.1 n.1)) (pz f.2 n.2) in
        let passes_written = annotation_passes span written ends a.ty pw r.1 m.1 in
        both_pass test (((ends_reached ++ annotation_reached w) ++ i.reached) ++ p.reached) b.reached
        (both_pass test ((ends_reached ++ annotation_reached w) ++ i.reached) p.reached
        (both_pass test (ends_reached ++ annotation_reached w) i.reached (both_pass test ends_reached (annotation_reached w) passes_ends passes_written) passes_index) passes_acc) passes_body
