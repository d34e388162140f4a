-- `let`, statements and blocks have types.
use Rattle.std.proofs.Common.{◌≡◌, ◌++◌, Bool, true, false, List, [], ◌∷◌, Option, Some, None, refl, sym, ap, subst, ◌∙◌}
use Rattle.std.specs.List.{list_all}
use Rattle.xb_span.specs.declared.span.Span.{Span}
use Rattle.xb_value.specs.declared.ty.Ty.{Ty}
use Rattle.dslx_meaning.specs.Environment.{Env}
use Rattle.dslx_meaning.specs.Lists.{and_then}
use Rattle.dslx_meaning.specs.Meaning.{PatternDen, TypeDen}
use Rattle.dslx_meaning.specs.Types.{plain_type, unit_type}
use Rattle.dslx_meaning.specs.Rules.ControlRules.{annotation_faults, annotation_reached, behind, bound_type, last_typing, let_with, statements_typing, written_typing}
use Rattle.dslx_meaning.specs.Rules.PatternRules.{pattern_alone}
use Rattle.dslx_meaning.specs.Rules.TypeEnvs.{ExprPair, Instance, TypeEnv, alone, has_broken, one_and, plus_size, settled, span_of, within}
use Rattle.dslx_meaning.specs.Rules.Typings.{PatternPair, PatternSeen, StatementTyping, TypePair}
use Rattle.dslx_core.proofs.Lemmas.Typing.Sound.{all_in, all_in_three, alone_well_typed, none_in, none_in_three, settled_well_typed}
use Rattle.dslx_core.specs.declared.expr.CoreExpr as core
use Rattle.dslx_core.specs.Lowering.CoreScopes.{CoreScope}
use Rattle.dslx_core.specs.Lowering.Lowering.{LoweredExpr, lowered}
use Rattle.dslx_core.specs.Lowering.Patterns.{ExprLowering, LoweredShape, PatternLowering, lower_in_scope, lower_let}
use Rattle.dslx_core.specs.Lowering.Trees.{LoweredPair, lower_last_value, lower_statements}
use Rattle.dslx_core.specs.Typing.Sound.Sound.{PatternGives, TypeHasDenIf}
use Rattle.dslx_core.specs.Typing.Typed.Complete.{IsWellTypedPart}
use Rattle.dslx_core.specs.Typing.Typed.WellTyped.{IsWellTypedEnv}
use Rattle.dslx_core.specs.Types.Typing.{FunctionTypes, Typing, binds_types, core_type}
use Rattle.dslx_core.proofs.Lemmas.Types.{type_bind}
use Rattle.dslx_total.proofs.Lemmas.Expressions.{annotated_there, stands_behind, typed_behind}
use Rattle.dslx_total.specs.Expressions.Beside.{ScopeMatchesEnv}
use Rattle.dslx_total.specs.Expressions.ExprLowering.{IsClean, PatternLowers, reaching}
use Rattle.dslx_total.specs.Typed.Scopes.{IsTypedExpr, TypedIfThere, TypedScope}
use Rattle.dslx_total.specs.Typed.Claims.{PartIsTyped, PatternIsTyped, StatementIsTyped}
use Rattle.dslx_total.proofs.OnTyped.OfStructs.{ExprTypedIf}
use Rattle.dslx_total.proofs.OnTyped.OnConstructs.{unit_core}
use Rattle.dslx_total.proofs.OnTyped.OnOptions.{then_typed, typed_as, typed_there}
use Rattle.dslx_total.proofs.OnTyped.OnParts.{ExprTyped, within_typed_to}
use Rattle.dslx_total.proofs.OnTyped.OnTypes.{plain_tuple, sound_tuple}

-- what binds a value for the rest
pub bind_typed : (fs : FunctionTypes) (ts more : List Ty) (e r : LoweredExpr) (s : LoweredShape) → IsTypedExpr fs ts e → binds_types true s.shape (plain_type e.ty) ts ≡ Some more → IsTypedExpr fs more r → IsTypedExpr fs ts (record { core = core.Bind e.core s.shape r.core; ty = r.ty })
bind_typed fs ts more e r s he b hr = record {
  core = ap (λ (q : Typing). q fs ts) (type_bind e.core s.shape r.core) ∙ ap (λ o. and_then o (λ t. and_then (binds_types true s.shape t ts) (core_type r.core fs))) he.core ∙ ap (λ o. and_then o (core_type r.core fs)) b ∙ hr.core;
  sound = hr.sound;
}

pub typed_let : (span : Span) (e : ExprPair) (x : ExprLowering) (written : Option TypePair) (f : Option TypeDen) (p : PatternPair) (l : PatternLowering) (m : PatternDen) → ExprTyped e x → TypeHasDenIf written f → PatternLowers p.1 l → PatternIsTyped p.1 l
    → PatternGives p.1 m
    → StatementIsTyped (λ on_top context. let_with context e.0 span (e.1 on_top context) (written_typing context written) (pattern_alone false context (bound_type (written_typing context written) (e.1 on_top context).ty) p)) (lower_let x l)
typed_let span e x written f p l m s st pl pt pg = record {
  typed = λ here context env scope fs ts h at scoped clean rest goes.
      let value = within context e in
      let j = written_typing context written in
      let bound = pattern_alone false context (bound_type j value.ty) p in
      let q = none_in_three value.faults (annotation_faults span j value.ty) bound.faults clean.faults in
      let r = all_in_three here value.reached (annotation_reached j) bound.reached clean.reached in
      let g = within_typed_to here context env scope fs ts h at scoped e x s (record { faults = q.0; reached = r.0 }) in
      let own = annotated_there here context env scope h at span written f st g.expr.ty (ap (annotation_faults span j) (sym g.typed) ∙ q.1) r.1 in
      let typed : bound_type j value.ty ≡ Some g.expr.ty = ap (bound_type j) g.typed ∙ own in
      let seen : bound ≡ pattern_alone false context (Some g.expr.ty) p = ap (λ o. pattern_alone false context o p) typed in
      let one = pl.lowers here false context g.expr.ty [] context.locals env scope scope h at at g.declared (record { faults = ap (λ (b : PatternSeen). b.faults) (sym seen) ∙ q.2; reached = ap (λ (b : PatternSeen). list_all here b.reached) (sym seen) ∙ r.2 }) in
      let inner = pg.behind false context g.expr.ty [] context.locals env g.value h g.given (ap (λ (b : PatternSeen). has_broken b.faults) (sym seen) ∙ ap has_broken q.2) in
      let here_typed = subst (λ (b : PatternSeen). IsWellTypedEnv (behind context b.locals e.0) inner.0) (sym seen) (typed_behind context (pattern_alone false context (Some g.expr.ty) p).locals e.0 inner.0 inner.1) in
      let here_stands = subst (λ (b : PatternSeen). ScopeMatchesEnv here (behind context b.locals e.0) one.shape.scope) (sym seen) (stands_behind here context (pattern_alone false context (Some g.expr.ty) p).locals e.0 one.shape.scope one.behind) in
      let shape = pt.typed context fs ts ts scope scope g.expr.ty one.shape at.items scoped scoped g.core.sound one.is in
      typed_as fs ts (lower_let x l rest scope) (and_then (rest one.shape.scope) (λ r. lowered (core.Bind g.expr.core one.shape.shape r.core) r.ty))
      (ap (λ o. and_then o (λ e. and_then (lower_in_scope l scope e.ty) (λ s. and_then (rest s.scope) (λ r. lowered (core.Bind e.core s.shape r.core) r.ty)))) g.is
      ∙ ap (λ o. and_then o (λ s. and_then (rest s.scope) (λ r. lowered (core.Bind g.expr.core s.shape r.core) r.ty))) one.is)
      (then_typed fs ts (rest one.shape.scope) (λ r. lowered (core.Bind g.expr.core one.shape.shape r.core) r.ty)
      (λ r there. bind_typed fs ts shape.more g.expr r one.shape g.core (shape.must false (bound_type j value.ty) [] context.locals q.2 refl)
      (typed_there fs shape.more (rest one.shape.scope) r (goes inner.0 one.shape.scope shape.more here_typed here_stands shape.behind) there)));
}

pub typed_bare : (e : ExprPair)
    → StatementIsTyped (λ on_top context. record { context = behind context context.locals e.0; faults = (alone context e).faults; reached = (alone context e).reached; size = (alone context e).size }) (λ rest scope. rest scope)
typed_bare e = record { typed = λ here context env scope fs ts h at scoped clean rest goes. goes env scope ts (typed_behind context context.locals e.0 env h) (stands_behind here context context.locals e.0 scope at) scoped }

abbrev pub EachStatementTyped : List StatementTyping → List (ExprLowering → ExprLowering) → Type 0
EachStatementTyped [] [] = Unit {0}
EachStatementTyped (s ∷ ss) (l ∷ ls) = StatementIsTyped s l × EachStatementTyped ss ls
EachStatementTyped [] (l ∷ ls) = ⊥
EachStatementTyped (s ∷ ss) [] = ⊥

typed_statements : (ss : List StatementTyping) (ls : List (ExprLowering → ExprLowering)) → EachStatementTyped ss ls → (here : Instance → Bool) (context : TypeEnv) (env : Env) (scope : CoreScope) (fs : FunctionTypes) (ts : List Ty)
    → IsWellTypedEnv context env → ScopeMatchesEnv here context scope → TypedScope fs ts scope → IsClean here (statements_typing ss false context).faults (statements_typing ss false context).reached → (last : ExprLowering)
    → ((inner : Env) (beyond : CoreScope) (more : List Ty) → IsWellTypedEnv (statements_typing ss false context).context inner → ScopeMatchesEnv here (statements_typing ss false context).context beyond → TypedScope fs more beyond
    → TypedIfThere fs more (last beyond))
    → TypedIfThere fs ts (lower_statements ls last scope)
typed_statements [] [] k here context env scope fs ts h at scoped clean last goes = goes env scope ts h at scoped
typed_statements [] (l ∷ ls) k here context env scope fs ts h at scoped clean last goes = absurd k
typed_statements (s ∷ ss) [] k here context env scope fs ts h at scoped clean last goes = absurd k
typed_statements (s ∷ ss) (l ∷ ls) k here context env scope fs ts h at scoped clean last goes =
    let first = s false context in
    let rest = statements_typing ss false first.context in
    let p = none_in first.faults rest.faults clean.faults in
    let q = all_in here first.reached rest.reached clean.reached in
    k.0.typed here context env scope fs ts h at scoped (record { faults = p.0; reached = q.0 }) (lower_statements ls last)
    (λ inner beyond more typed stands scoped. typed_statements ss ls k.1 here first.context inner beyond fs more typed stands scoped (record { faults = p.1; reached = q.1 }) last goes)

last_is_typed : (here : Instance → Bool) (context : TypeEnv) (env : Env) (scope : CoreScope) (fs : FunctionTypes) (ts : List Ty) → IsWellTypedEnv context env → ScopeMatchesEnv here context scope → TypedScope fs ts scope
    → (o : Option ExprPair) (x : Option LoweredPair) → ExprTypedIf o x → IsWellTypedPart (reaching context.known here) (last_typing context o) → TypedIfThere fs ts (lower_last_value x scope)
last_is_typed here context env scope fs ts h at scoped None None k well_typed = unit_core fs ts unit_type (plain_tuple []) (sound_tuple [])
last_is_typed here context env scope fs ts h at scoped None (Some x) k well_typed = absurd k
last_is_typed here context env scope fs ts h at scoped (Some e) None k well_typed = absurd k
last_is_typed here context env scope fs ts h at scoped (Some e) (Some x) k well_typed =
    k.typed here context env scope fs ts h at scoped (alone_well_typed (reaching context.known here) (span_of e) (within context e) well_typed).well_typed

pub typed_block : (span : Span) (ss : List StatementTyping) (ls : List (ExprLowering → ExprLowering)) (o : Option ExprPair) (x : Option LoweredPair) → EachStatementTyped ss ls → ExprTypedIf o x
    → PartIsTyped (λ context. settled span (last_typing (statements_typing ss false context).context o).ty ((statements_typing ss false context).faults ++ (last_typing (statements_typing ss false context).context o).faults)
    ((statements_typing ss false context).reached ++ (last_typing (statements_typing ss false context).context o).reached)
    (one_and (plus_size (statements_typing ss false context).size (last_typing (statements_typing ss false context).context o).size)))
    (lower_statements ls (lower_last_value x))
typed_block span ss ls o x ks ko here context env scope fs ts h at scoped well_typed =
    let walked = statements_typing ss false context in
    let last = last_typing walked.context o in
    let s = settled_well_typed (reaching context.known here) span last.ty (walked.faults ++ last.faults) (walked.reached ++ last.reached) (one_and (plus_size walked.size last.size)) well_typed in
    let p = none_in walked.faults last.faults s.faults in
    let q = all_in here walked.reached last.reached s.reached in
    typed_statements ss ls ks here context env scope fs ts h at scoped (record { faults = p.0; reached = q.0 }) (lower_last_value x)
    (λ inner beyond more typed stands scoped. last_is_typed here walked.context inner beyond fs more typed stands scoped o x ko (record { faults = p.1; reached = q.1 }))
