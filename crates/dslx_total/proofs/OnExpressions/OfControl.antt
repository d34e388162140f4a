-- `if`, `let`, statements and blocks become something.
use Rattle.std.proofs.Common.{◌≡◌, ◌++◌, Bool, true, false, if◌then◌else◌, List, [], ◌∷◌, Option, Some, None, refl, sym, ap, subst, ◌∙◌}
use Rattle.std.specs.List.{list_all}
use Rattle.xb_span.specs.declared.span.Span.{Span}
use Rattle.dslx_tree.specs.declared.expr.Expr.{Expr}
use Rattle.dslx_meaning.specs.Lists.{and_then, where_true, with_both}
use Rattle.dslx_meaning.specs.Types.{same_type}
use Rattle.dslx_meaning.specs.Environment.{Env}
use Rattle.dslx_meaning.specs.Meaning.{ValueDen, PatternDen, TypeDen}
use Rattle.dslx_meaning.specs.declared.ty.DslxType.{DslxType}
use Rattle.dslx_meaning.specs.Rules.AggregateRules.{wanted_faults}
use Rattle.dslx_meaning.specs.Rules.ControlRules.{annotation_faults, annotation_reached, behind, block_alone, bound_type, if_typing, last_typing, let_with, statements_typing, written_typing}
use Rattle.dslx_meaning.specs.Rules.TypeEnvs.{ExprPair, Instance, ExprTyping, TypeEnv, Typed, alone, has_broken, one_and, plus_size, settled, span_of, with_typed, within}
use Rattle.dslx_meaning.specs.Rules.Typings.{BlockPair, PatternPair, PatternSeen, StatementTyping, TypePair}
use Rattle.dslx_meaning.specs.Rules.OperatorRules.{is_bool, unless_type, unless_types}
use Rattle.dslx_meaning.specs.Rules.PatternRules.{pattern_alone}
use Rattle.dslx_core.specs.Typing.Typed.Complete.{IsWellTypedPart}
use Rattle.dslx_core.specs.Typing.Typed.WellTyped.{IsWellTypedEnv, types_at}
use Rattle.dslx_core.specs.Typing.Sound.Sound.{BlockGives, PatternGives, TypeHasDenIf}
use Rattle.dslx_core.proofs.Lemmas.Typing.Sound.{all_in, all_in_three, none_in, none_in_three, passed, settled_well_typed}
use Rattle.dslx_core.specs.declared.expr.CoreExpr.{CoreExpr}
use Rattle.dslx_core.specs.declared.expr.CoreExpr as core
use Rattle.dslx_core.specs.Lowering.CoreScopes.{CoreScope}
use Rattle.dslx_core.specs.Lowering.Lowering.{LoweredExpr, lower_choice, lowered}
use Rattle.dslx_core.specs.Lowering.Patterns.{ExprLowering, PatternLowering, lower_let, lower_in_scope}
use Rattle.dslx_core.specs.Lowering.Trees.{LoweredPair, lower_last_value, lower_statements}
use Rattle.dslx_total.specs.Expressions.Beside.{ScopeMatchesEnv}
use Rattle.dslx_total.specs.Expressions.ExprLowering.{ExprLowers, IsClean, IsLimited, PartLowers, PatternLowers, reaching, type_of_lowered}
use Rattle.dslx_total.proofs.OnExpressions.Equal.{equal_of_text}
use Rattle.dslx_total.proofs.OnExpressions.OfStructs.{ExprLowersIf}
use Rattle.dslx_total.proofs.OnExpressions.Parts.{LowersTo, alone_lowers_to, becomes, well_typed_there, within_lowers_to}

-- ---- blocks as parts

pub record BlockLowers (j : ExprTyping) (l : ExprLowering) : Type 0 where
  pub meaning : ValueDen
  pub gives : BlockGives j meaning
  pub lowers : PartLowers (j false) l
  pub limited : IsLimited (j false)

pub block_lowers_to : (here : Instance → Bool) (context : TypeEnv) (env : Env) (scope : CoreScope) (j : ExprTyping) (l : ExprLowering) → BlockLowers j l → IsWellTypedEnv context env → ScopeMatchesEnv here context scope
    → IsWellTypedPart (reaching context.known here) (j false context) → LowersTo (types_at context) (j false context) (l scope)
block_lowers_to here context env scope j l s h at well_typed =
    let g = s.gives context env h (well_typed_there here context scope (j false context) at well_typed) in
    becomes (types_at context) (j false context) (l scope) (s.meaning env) g.0 g.1 g.2 (s.lowers here context env scope h at well_typed) (s.limited context well_typed.faults g.0 g.1)

-- ---- if

pub lower_total_if : (span : Span) (c : ExprPair) (a : BlockPair) (b : ExprPair) (x y z : ExprLowering) → ExprLowers c x → BlockLowers a.1 y → ExprLowers b z
    → PartLowers (λ context. if_typing span context c a b) (λ scope. lower_choice (x scope) (y scope) (z scope))
lower_total_if span c a b x y z sc sa sb here context env scope h at well_typed =
    let condition = alone context c in
    let first = block_alone context a in
    let second = alone context b in
    let bool = unless_type is_bool 15 (span_of c) condition.ty in
    let same = unless_types same_type 25 span first.ty second.ty in
    let own = and_then condition.ty (λ t. with_both first.ty second.ty (λ u v. Some u)) in
    let three = (condition.faults ++ first.faults) ++ second.faults in
    let s = settled_well_typed (reaching context.known here) span own ((three ++ bool) ++ same) ((condition.reached ++ first.reached) ++ second.reached) (one_and (plus_size condition.size (plus_size first.size second.size))) well_typed in
    let p = none_in_three three bool same s.faults in
    let q = none_in_three condition.faults first.faults second.faults p.0 in
    let k = all_in_three here condition.reached first.reached second.reached s.reached in
    let gc = alone_lowers_to here context env scope c x sc h at q.0 k.0 in
    let ga = block_lowers_to here context env scope a.1 y sa h at (record { faults = q.1; reached = k.1 }) in
    let gb = alone_lowers_to here context env scope b z sb h at q.2 k.2 in
    let like = passed (same_type ga.expr.ty gb.expr.ty) 25 span ((λ i. unless_types same_type 25 span (sym ga.typed i) (sym gb.typed i)) ∙ p.2) in
    (λ i. type_of_lowered (lower_choice (gc.is i) (ga.is i) (gb.is i)))
    ∙ ap (λ t. type_of_lowered (where_true t (lowered (core.Choose gc.expr.core ga.expr.core gb.expr.core) ga.expr.ty))) (equal_of_text (types_at context) ga.expr.ty gb.expr.ty like ga.declared gb.declared)
    ∙ sym (λ i. and_then (gc.typed i) (λ t. with_both (ga.typed i) (gb.typed i) (λ u v. Some u))) ∙ sym s.ty

-- ---- statements

-- whatever type the rest of the block has behind a statement, the whole has
pub record StatementLowers (s : StatementTyping) (l : ExprLowering → ExprLowering) : Type 0 where
  pub lowers : (here : Instance → Bool) (context : TypeEnv) (env : Env) (scope : CoreScope) → IsWellTypedEnv context env → ScopeMatchesEnv here context scope → IsClean here (s false context).faults (s false context).reached
      → (rest : ExprLowering) (t : Option DslxType)
      → ((inner : Env) (beyond : CoreScope) → IsWellTypedEnv (s false context).context inner → ScopeMatchesEnv here (s false context).context beyond → type_of_lowered (rest beyond) ≡ t) → type_of_lowered (l rest scope) ≡ t

-- what a statement uses up of channels types don't see
pub typed_behind : (context : TypeEnv) (locals : List Typed) (e : Expr) (env : Env) → IsWellTypedEnv (with_typed context locals) env → IsWellTypedEnv (behind context locals e) env
typed_behind context locals e env h = record {
  locals = h.locals;
  parametric_args = h.parametric_args;
  constants = h.constants;
  members = h.members;
  kinds = h.kinds;
  typed = h.typed;
  valued = h.valued;
  place = record { others = h.place.others; hides = h.place.hides };
  items = h.items;
  known = h.known;
}

pub stands_behind : (here : Instance → Bool) (context : TypeEnv) (locals : List Typed) (e : Expr) (scope : CoreScope) → ScopeMatchesEnv here (with_typed context locals) scope → ScopeMatchesEnv here (behind context locals e) scope
stands_behind here context locals e scope at =
    record { items = at.items; parametric_args = at.parametric_args; locals = at.locals; sound = at.sound; calls = at.calls; widths = at.widths; constants = at.constants }

typed_rest : (o : Option LoweredExpr) (f : LoweredExpr → CoreExpr) → type_of_lowered (and_then o (λ r. lowered (f r) r.ty)) ≡ type_of_lowered o
typed_rest None f = refl
typed_rest (Some r) f = refl

-- the type that a `let` gives its pattern
pub annotated_there : (here : Instance → Bool) (context : TypeEnv) (env : Env) (scope : CoreScope) → IsWellTypedEnv context env → ScopeMatchesEnv here context scope → (span : Span) (written : Option TypePair) (f : Option TypeDen) → TypeHasDenIf written f → (t : DslxType)
    → annotation_faults span (written_typing context written) (Some t) ≡ [] → list_all here (annotation_reached (written_typing context written)) ≡ true → bound_type (written_typing context written) (Some t) ≡ Some t
annotated_there here context env scope h at span None None k t e r = refl
annotated_there here context env scope h at span None (Some f) k t e r = absurd k
annotated_there here context env scope h at span (Some p) None k t e r = absurd k
annotated_there here context env scope h at span (Some p) (Some f) k t e r =
    let j = p.1 context in
    let q = none_in j.faults (wanted_faults span j.ty (Some t)) e in
    let w = k.known context env h (well_typed_there here context scope j at (record { faults = q.0; reached = r })) in
    let same = passed (same_type w.0 t) 9 span (ap (λ o. wanted_faults span o (Some t)) (sym w.1) ∙ q.1) in
    ap (λ o. with_both o (Some t) (λ w u. if same_type w u then Some u else None)) w.1 ∙ ap (λ b. if b then Some t else None) same

pub lower_total_let : (span : Span) (e : ExprPair) (x : ExprLowering) (written : Option TypePair) (f : Option TypeDen) (p : PatternPair) (l : PatternLowering) (m : PatternDen) → ExprLowers e x → TypeHasDenIf written f → PatternLowers p.1 l
    → PatternGives p.1 m
    → StatementLowers (λ on_top context. let_with context e.0 span (e.1 on_top context) (written_typing context written) (pattern_alone false context (bound_type (written_typing context written) (e.1 on_top context).ty) p)) (lower_let x l)
lower_total_let span e x written f p l m s st pl pg = record {
  lowers = λ here context env scope h at clean rest t goes.
      let value = within context e in
      let j = written_typing context written in
      let bound = pattern_alone false context (bound_type j value.ty) p in
      let q = none_in_three value.faults (annotation_faults span j value.ty) bound.faults clean.faults in
      let r = all_in_three here value.reached (annotation_reached j) bound.reached clean.reached in
      let g = within_lowers_to here context env scope e x s h at (record { faults = q.0; reached = r.0 }) in
      let own = annotated_there here context env scope h at span written f st g.expr.ty (ap (annotation_faults span j) (sym g.typed) ∙ q.1) r.1 in
      let typed : bound_type j value.ty ≡ Some g.expr.ty = ap (bound_type j) g.typed ∙ own in
      let seen : bound ≡ pattern_alone false context (Some g.expr.ty) p = ap (λ o. pattern_alone false context o p) typed in
      let one = pl.lowers here false context g.expr.ty [] context.locals env scope scope h at at g.declared (record { faults = ap (λ (b : PatternSeen). b.faults) (sym seen) ∙ q.2; reached = ap (λ (b : PatternSeen). list_all here b.reached) (sym seen) ∙ r.2 }) in
      let inner = pg.behind false context g.expr.ty [] context.locals env g.value h g.given (ap (λ (b : PatternSeen). has_broken b.faults) (sym seen) ∙ ap has_broken q.2) in
      let here_typed = subst (λ (b : PatternSeen). IsWellTypedEnv (behind context b.locals e.0) inner.0) (sym seen) (typed_behind context (pattern_alone false context (Some g.expr.ty) p).locals e.0 inner.0 inner.1) in
      let here_stands = subst (λ (b : PatternSeen). ScopeMatchesEnv here (behind context b.locals e.0) one.shape.scope) (sym seen) (stands_behind here context (pattern_alone false context (Some g.expr.ty) p).locals e.0 one.shape.scope one.behind) in
      ap (λ o. type_of_lowered (and_then o (λ e. and_then (lower_in_scope l scope e.ty) (λ s. and_then (rest s.scope) (λ r. lowered (core.Bind e.core s.shape r.core) r.ty))))) g.is
      ∙ ap (λ o. type_of_lowered (and_then o (λ s. and_then (rest s.scope) (λ r. lowered (core.Bind g.expr.core s.shape r.core) r.ty)))) one.is
      ∙ typed_rest (rest one.shape.scope) (λ r. core.Bind g.expr.core one.shape.shape r.core)
      ∙ goes inner.0 one.shape.scope here_typed here_stands;
}

pub lower_total_bare : (e : ExprPair)
    → StatementLowers (λ on_top context. record { context = behind context context.locals e.0; faults = (alone context e).faults; reached = (alone context e).reached; size = (alone context e).size }) (λ rest scope. rest scope)
lower_total_bare e = record { lowers = λ here context env scope h at clean rest t goes. goes env scope (typed_behind context context.locals e.0 env h) (stands_behind here context context.locals e.0 scope at) }

abbrev pub EachStatementLowers : List StatementTyping → List (ExprLowering → ExprLowering) → Type 0
EachStatementLowers [] [] = Unit {0}
EachStatementLowers (s ∷ ss) (l ∷ ls) = StatementLowers s l × EachStatementLowers ss ls
EachStatementLowers [] (l ∷ ls) = ⊥
EachStatementLowers (s ∷ ss) [] = ⊥

lower_total_statements : (ss : List StatementTyping) (ls : List (ExprLowering → ExprLowering)) → EachStatementLowers ss ls → (here : Instance → Bool) (context : TypeEnv) (env : Env) (scope : CoreScope) → IsWellTypedEnv context env → ScopeMatchesEnv here context scope
    → IsClean here (statements_typing ss false context).faults (statements_typing ss false context).reached → (last : ExprLowering) (t : Option DslxType)
    → ((inner : Env) (beyond : CoreScope) → IsWellTypedEnv (statements_typing ss false context).context inner → ScopeMatchesEnv here (statements_typing ss false context).context beyond → type_of_lowered (last beyond) ≡ t)
    → type_of_lowered (lower_statements ls last scope) ≡ t
lower_total_statements [] [] k here context env scope h at clean last t goes = goes env scope h at
lower_total_statements [] (l ∷ ls) k here context env scope h at clean last t goes = absurd k
lower_total_statements (s ∷ ss) [] k here context env scope h at clean last t goes = absurd k
lower_total_statements (s ∷ ss) (l ∷ ls) k here context env scope h at clean last t goes =
    let first = s false context in
    let rest = statements_typing ss false first.context in
    let p = none_in first.faults rest.faults clean.faults in
    let q = all_in here first.reached rest.reached clean.reached in
    k.0.lowers here context env scope h at (record { faults = p.0; reached = q.0 }) (lower_statements ls last) t
    (λ inner beyond typed stands. lower_total_statements ss ls k.1 here first.context inner beyond typed stands (record { faults = p.1; reached = q.1 }) last t goes)

-- ---- blocks

last_typed : (here : Instance → Bool) (context : TypeEnv) (env : Env) (scope : CoreScope) → IsWellTypedEnv context env → ScopeMatchesEnv here context scope → (o : Option ExprPair) (x : Option LoweredPair) → ExprLowersIf o x
    → IsWellTypedPart (reaching context.known here) (last_typing context o) → type_of_lowered (lower_last_value x scope) ≡ (last_typing context o).ty
last_typed here context env scope h at None None k well_typed = refl
last_typed here context env scope h at None (Some x) k well_typed = absurd k
last_typed here context env scope h at (Some e) None k well_typed = absurd k
last_typed here context env scope h at (Some e) (Some x) k well_typed =
    let g = alone_lowers_to here context env scope e x.1 k h at well_typed.faults well_typed.reached in
    ap type_of_lowered g.is ∙ sym g.typed

pub lower_total_block : (span : Span) (ss : List StatementTyping) (ls : List (ExprLowering → ExprLowering)) (o : Option ExprPair) (x : Option LoweredPair) → EachStatementLowers ss ls → ExprLowersIf o x
    → PartLowers (λ context. settled span (last_typing (statements_typing ss false context).context o).ty ((statements_typing ss false context).faults ++ (last_typing (statements_typing ss false context).context o).faults)
    ((statements_typing ss false context).reached ++ (last_typing (statements_typing ss false context).context o).reached)
    (one_and (plus_size (statements_typing ss false context).size (last_typing (statements_typing ss false context).context o).size)))
    (lower_statements ls (lower_last_value x))
lower_total_block span ss ls o x ks ko here context env scope h at well_typed =
    let walked = statements_typing ss false context in
    let last = last_typing walked.context o in
    let s = settled_well_typed (reaching context.known here) span last.ty (walked.faults ++ last.faults) (walked.reached ++ last.reached) (one_and (plus_size walked.size last.size)) well_typed in
    let p = none_in walked.faults last.faults s.faults in
    let q = all_in here walked.reached last.reached s.reached in
    lower_total_statements ss ls ks here context env scope h at (record { faults = p.0; reached = q.0 }) (lower_last_value x) last.ty
    (λ inner beyond typed stands. last_typed here walked.context inner beyond typed stands o x ko (record { faults = p.1; reached = q.1 }))
    ∙ sym s.ty
