-- `if`, blocks and their statements, and loops, where nothing is wrong with them.
use Rattle.std.proofs.Common.{◌≡◌, ◌++◌, true, false, if◌then◌else◌, List, [], ◌∷◌, Option, Some, None, refl, sym, ap, subst, ◌∙◌}
use Rattle.std.specs.List.{list_all}
use Rattle.xb_span.specs.declared.span.Span.{Span}
use Rattle.dslx_meaning.specs.Lists.{and_then, with_both}
use Rattle.dslx_meaning.specs.Types.{same_type, unit_type}
use Rattle.dslx_meaning.specs.Environment.{Env}
use Rattle.dslx_meaning.specs.Meaning.{ValueDen, StmtDen, ExprDen, PatternDen, TypeDen, choose, fits_in_scope, last_den, statements_den}
use Rattle.dslx_meaning.specs.Operators.{truth}
use Rattle.dslx_meaning.specs.declared.ty.DslxType.{DslxType}
use Rattle.dslx_meaning.specs.Rules.AggregateRules.{wanted_faults}
use Rattle.dslx_meaning.specs.Rules.ControlRules.{annotation_faults, annotation_reached, annotation_size, behind, block_alone, bound_type, if_typing, last_typing, let_with, statements_typing, written_typing}
use Rattle.dslx_meaning.specs.Rules.TypeEnvs.{ExprPair, GlobalEnv, TypeEnv, alone, has_broken, one_and, plus_size, settled, span_of, within}
use Rattle.dslx_meaning.specs.Rules.Typings.{BlockPair, PatternPair, StatementTyping, TypePair}
use Rattle.dslx_meaning.specs.Rules.OperatorRules.{is_bool, unless_type, unless_types}
use Rattle.dslx_meaning.specs.Rules.PatternRules.{pattern_alone}
use Rattle.dslx_core.specs.Typing.Typed.Complete.{IsWellTypedPart}
use Rattle.dslx_core.specs.Typing.Typed.Given.{GivesItsType, IsSized}
use Rattle.dslx_core.specs.Typing.Typed.WellTyped.{AllKeep, IsWellTypedEnv, LastGives, PatternKeeps, types_at}
use Rattle.dslx_core.proofs.Lemmas.Typing.Typed.{bare_keeps, block_gives, if_gives, let_keeps, statements_keep}
use Rattle.dslx_core.specs.Typing.Sound.Sound.{BlockGives, ExprGives, ExprGivesIf, HasTypedValue, StatementGives, StatementsGive, TypeHasDenIf}
use Rattle.dslx_core.proofs.OnTyping.OnSound.WellTypedParts.{all_in, all_in_three, alone_well_typed, alone_has, given, none_in, none_in_three, one_sized, passed, plus_sized, settled_well_typed, whole}

-- ---- if

pub if_has : (span : Span) (context : TypeEnv) (env : Env) (c : ExprPair) (a : BlockPair) (b : ExprPair) (x : ExprDen) (f : ValueDen) (y : ExprDen) → ExprGives c x → BlockGives a.1 f → ExprGives b y → IsWellTypedEnv context env
    → IsWellTypedPart context.known (if_typing span context c a b) → HasTypedValue (types_at context) (if_typing span context c a b) (choose (and_then (x.value env) truth) (f env) (y.value env))
if_has span context env c a b x f y sc sa sb h well_typed =
    let condition = alone context c in
    let first = block_alone context a in
    let second = alone context b in
    let bool = unless_type is_bool 15 (span_of c) condition.ty in
    let alike = unless_types same_type 25 span first.ty second.ty in
    let own = (condition.faults ++ first.faults) ++ second.faults in
    let ty = and_then condition.ty (λ t. with_both first.ty second.ty (λ u v. Some u)) in
    let reached = (condition.reached ++ first.reached) ++ second.reached in
    let size = one_and (plus_size condition.size (plus_size first.size second.size)) in
    let s = settled_well_typed context.known span ty ((own ++ bool) ++ alike) reached size well_typed in
    let p = none_in_three own bool alike s.faults in
    let q = none_in_three condition.faults first.faults second.faults p.0 in
    let k = all_in_three context.known.is_sound condition.reached first.reached second.reached s.reached in
    let gc = alone_has context env c x sc h q.0 k.0 in
    let ga = sa context env h (record { faults = q.1; reached = k.1 }) in
    let gb = alone_has context env b y sb h q.2 k.2 in
    whole (types_at context) context.known span ty ((own ++ bool) ++ alike) reached size ga.0 (choose (and_then (x.value env) truth) (f env) (y.value env)) s
    (λ i. and_then (gc.1 i) (λ t. with_both (ga.1 i) (gb.1 i) (λ u v. Some u)))
    (one_sized (plus_size condition.size (plus_size first.size second.size)) (plus_sized condition.size (plus_size first.size second.size) gc.3 (plus_sized first.size second.size ga.3 gb.3)))
    (if_gives (types_at context) span context c a b (x.value env) (f env) (y.value env) (given (types_at context) condition (x.value env) gc) (given (types_at context) first (f env) ga) (given (types_at context) second (y.value env) gb))

-- ---- statements

-- the type of a `let` is that of its value
pub bound_known : (context : TypeEnv) (env : Env) → IsWellTypedEnv context env → (span : Span) (written : Option TypePair) (f : Option TypeDen) → TypeHasDenIf written f → (t : DslxType)
    → annotation_faults span (written_typing context written) (Some t) ≡ [] → list_all context.known.is_sound (annotation_reached (written_typing context written)) ≡ true → bound_type (written_typing context written) (Some t) ≡ Some t
bound_known context env h span None None k t e r = refl
bound_known context env h span None (Some f) k t e r = absurd k
bound_known context env h span (Some p) None k t e r = absurd k
bound_known context env h span (Some p) (Some f) k t e r =
    let j = p.1 context in
    let q = none_in j.faults (wanted_faults span j.ty (Some t)) e in
    let w = k.known context env h (record { faults = q.0; reached = r }) in
    let same = passed (same_type w.0 t) 9 span (ap (λ o. wanted_faults span o (Some t)) (sym w.1) ∙ q.1) in
    ap (λ o. with_both o (Some t) (λ w u. if same_type w u then Some u else None)) w.1 ∙ ap (λ b. if b then Some t else None) same

-- a type that is written counts nothing
written_sized : (context : TypeEnv) (env : Env) → IsWellTypedEnv context env → (span : Span) (written : Option TypePair) (f : Option TypeDen) → TypeHasDenIf written f → (t : Option DslxType)
    → annotation_faults span (written_typing context written) t ≡ [] → list_all context.known.is_sound (annotation_reached (written_typing context written)) ≡ true → IsSized (annotation_size (written_typing context written))
written_sized context env h span None None k t e r = (0, refl)
written_sized context env h span None (Some f) k t e r = absurd k
written_sized context env h span (Some p) None k t e r = absurd k
written_sized context env h span (Some p) (Some f) k t e r =
    let j = p.1 context in
    let w = k.known context env h (record { faults = (none_in j.faults (wanted_faults span j.ty t) e).0; reached = r }) in
    (0, k.sized context w.0 w.1)

pub let_has : (span : Span) (e : ExprPair) (x : ExprDen) (written : Option TypePair) (f : Option TypeDen) (pattern : PatternPair) (pm : PatternDen) → ExprGives e x → TypeHasDenIf written f → PatternKeeps pattern.1 pm.fits
    → StatementGives (λ on_top context. let_with context e.0 span (e.1 on_top context) (written_typing context written) (pattern_alone false context (bound_type (written_typing context written) (e.1 on_top context).ty) pattern))
    (λ rest env. and_then (x.value env) (λ v. and_then (fits_in_scope pm v env) rest))
let_has span e x written f pattern pm s st keeps = record {
  known = λ context. refl;
  keeps = λ context env h faults reached.
      let value = within context e in
      let j = written_typing context written in
      let bound = pattern_alone false context (bound_type j value.ty) pattern in
      let p = none_in_three value.faults (annotation_faults span j value.ty) bound.faults faults in
      let r = all_in_three context.known.is_sound value.reached (annotation_reached j) bound.reached reached in
      let well_typed : IsWellTypedPart context.known value = record { faults = p.0; reached = r.0 } in
      let g = s.gives context env h well_typed in
      let own = bound_known context env h span written f st g.0 (ap (annotation_faults span j) (sym g.1) ∙ p.1) r.1 in
      let_keeps context e x span j pattern pm g.0 (λ env' h'. given (types_at context) value (x.value env') (s.gives context env' h' well_typed)) g.1 own keeps env h (ap has_broken faults);
  sized = λ context env h faults reached.
      let value = within context e in
      let j = written_typing context written in
      let bound = pattern_alone false context (bound_type j value.ty) pattern in
      let p = none_in_three value.faults (annotation_faults span j value.ty) bound.faults faults in
      let r = all_in_three context.known.is_sound value.reached (annotation_reached j) bound.reached reached in
      let g = s.gives context env h (record { faults = p.0; reached = r.0 }) in
      let rest = plus_sized value.size (Some bound.size) g.3 (bound.size, refl) in
      plus_sized (annotation_size j) (plus_size value.size (Some bound.size)) (written_sized context env h span written f st value.ty p.1 r.1) rest;
}

pub bare_has : (e : ExprPair) (x : ExprDen) → ExprGives e x
    → StatementGives (λ on_top context. record { context = behind context context.locals e.0; faults = (alone context e).faults; reached = (alone context e).reached; size = (alone context e).size }) (λ rest env. and_then (x.value env) (λ v. rest env))
bare_has e x s = record {
  known = λ context. refl;
  keeps = λ context env h faults reached.
      let a = alone_well_typed context.known (span_of e) (within context e) (record { faults = faults; reached = reached }) in
      let g = s.gives context env h a.well_typed in
      let b = bare_keeps context e x g.0 (λ env' h'. given (types_at context) (within context e) (x.value env') (s.gives context env' h' a.well_typed)) g.1 env h in
      record { inner = b.0; typed = b.1; goes = b.2 };
  sized = λ context env h faults reached. (alone_has context env e x s h faults reached).3;
}

pub statements_known : (ss : List StatementTyping) (gs : List StmtDen) → StatementsGive ss gs → (context : TypeEnv) → (statements_typing ss false context).context.known ≡ context.known
statements_known [] [] k context = refl
statements_known [] (g ∷ gs) k context = absurd k
statements_known (s ∷ ss) [] k context = absurd k
statements_known (s ∷ ss) (g ∷ gs) k context = statements_known ss gs k.1 (s false context).context ∙ k.0.known context

all_keep : (ss : List StatementTyping) (gs : List StmtDen) → StatementsGive ss gs → (context : TypeEnv) → (statements_typing ss false context).faults ≡ []
    → list_all context.known.is_sound (statements_typing ss false context).reached ≡ true → AllKeep context ss gs
all_keep [] [] k context f r = tt
all_keep [] (g ∷ gs) k context f r = absurd k
all_keep (s ∷ ss) [] k context f r = absurd k
all_keep (s ∷ ss) (g ∷ gs) k context f r =
    let first = s false context in
    let rest = statements_typing ss false first.context in
    let p = none_in first.faults rest.faults f in
    let q = all_in context.known.is_sound first.reached rest.reached r in
    ((λ env h broken. k.0.keeps context env h p.0 q.0), all_keep ss gs k.1 first.context p.1 (subst (λ (known : GlobalEnv). list_all known.is_sound rest.reached ≡ true) (sym (k.0.known context)) q.1))

statements_sized : (ss : List StatementTyping) (gs : List StmtDen) → StatementsGive ss gs → (context : TypeEnv) (env : Env) → IsWellTypedEnv context env → (statements_typing ss false context).faults ≡ []
    → list_all context.known.is_sound (statements_typing ss false context).reached ≡ true → IsSized (statements_typing ss false context).size
statements_sized [] gs k context env h f r = (0, refl)
statements_sized (s ∷ ss) [] k context env h f r = absurd k
statements_sized (s ∷ ss) (g ∷ gs) k context env h f r =
    let first = s false context in
    let rest = statements_typing ss false first.context in
    let p = none_in first.faults rest.faults f in
    let q = all_in context.known.is_sound first.reached rest.reached r in
    let on = k.0.keeps context env h p.0 q.0 in
    let more = statements_sized ss gs k.1 first.context on.inner on.typed p.1 (subst (λ (known : GlobalEnv). list_all known.is_sound rest.reached ≡ true) (sym (k.0.known context)) q.1) in
    plus_sized first.size rest.size (k.0.sized context env h p.0 q.0) more

-- ---- blocks

-- the last expression: its type, and what it gives
last_has : (context : TypeEnv) (env : Env) → IsWellTypedEnv context env → (o : Option ExprPair) (x : Option ExprDen) → ExprGivesIf o x → IsWellTypedPart context.known (last_typing context o)
    → (t : DslxType) × ((last_typing context o).ty ≡ Some t) × LastGives context o x × IsSized (last_typing context o).size
last_has context env h None None k well_typed = (unit_type, refl, tt, (0, refl))
last_has context env h None (Some x) k well_typed = absurd k
last_has context env h (Some e) None k well_typed = absurd k
last_has context env h (Some e) (Some x) k well_typed =
    let g = alone_has context env e x k h well_typed.faults well_typed.reached in
    (g.0, g.1, (λ env' h'. given (types_at context) (alone context e) (x.value env') (alone_has context env' e x k h' well_typed.faults well_typed.reached)), g.3)

pub block_has : (span : Span) (ss : List StatementTyping) (gs : List StmtDen) (o : Option ExprPair) (x : Option ExprDen) → StatementsGive ss gs → ExprGivesIf o x
    → BlockGives (λ on_top context. settled span (last_typing (statements_typing ss on_top context).context o).ty ((statements_typing ss on_top context).faults ++ (last_typing (statements_typing ss on_top context).context o).faults)
    ((statements_typing ss on_top context).reached ++ (last_typing (statements_typing ss on_top context).context o).reached)
    (one_and (plus_size (statements_typing ss on_top context).size (last_typing (statements_typing ss on_top context).context o).size)))
    (statements_den gs (last_den x))
block_has span ss gs o x ks ko context env h well_typed =
    let walked = statements_typing ss false context in
    let last = last_typing walked.context o in
    let size = one_and (plus_size walked.size last.size) in
    let s = settled_well_typed context.known span last.ty (walked.faults ++ last.faults) (walked.reached ++ last.reached) size well_typed in
    let p = none_in walked.faults last.faults s.faults in
    let r = all_in context.known.is_sound walked.reached last.reached s.reached in
    let same = statements_known ss gs ks context in
    let keeps = all_keep ss gs ks context p.0 r.0 in
    let on = statements_keep context ss gs keeps env h (ap has_broken p.0) in
    let g = last_has walked.context on.inner on.typed o x ko (record { faults = p.1; reached = subst (λ (known : GlobalEnv). list_all known.is_sound last.reached ≡ true) (sym same) r.1 }) in
    whole (types_at context) context.known span last.ty (walked.faults ++ last.faults) (walked.reached ++ last.reached) size g.0 (statements_den gs (last_den x) env) s g.1
    (one_sized (plus_size walked.size last.size) (plus_sized walked.size last.size (statements_sized ss gs ks context env h p.0 r.0) g.3))
    (subst (λ (known : GlobalEnv). GivesItsType known.items.type_named (settled span last.ty (walked.faults ++ last.faults) (walked.reached ++ last.reached) size) (statements_den gs (last_den x) env)) same
    (block_gives span context ss gs o x size env keeps g.2 h))
