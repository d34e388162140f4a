-- The statements of `next` become steps.
use Rattle.dslx_meaning.specs.declared.ty.DslxType.{DslxType}
use Rattle.dslx_core.specs.declared.expr.Shape as shape
use mathlib.Core.Bool.{true≢false}
use Rattle.xb_span.specs.declared.span.Span.{Span}
use Rattle.std.proofs.Common.{Bool, List, [], false, if◌then◌else◌, map, subst, sym, true, ◌∙◌, ◌∷◌, ◌≡◌, None, Option, Some, ap, refl, ◌++◌}
use Rattle.dslx_core.specs.Typing.Typed.WellTyped.{IsWellTypedEnv, types_at}
use Rattle.dslx_core.specs.Typing.Typed.Complete.{IsWellTypedPart}
use Rattle.dslx_core.specs.Typing.Typed.Declared.{Declarations, IsDeclared}
use Rattle.dslx_core.proofs.Lemmas.Typing.Typed.{same_some, tuple_declared}
use Rattle.dslx_tree.proofs.Lemmas.Folds.Levels.{map_node, trees, BlockLevel, Carriers, LetLevel, StmtLevel, map_bind, map_block, map_stmt}
use Rattle.dslx_tree.proofs.Lemmas.Folds.Folds.{fold_arg, folds, Steps, fold_bind, fold_block, fold_pattern, fold_stmt, fold_type_expr}
use Rattle.dslx_tree.specs.declared.process.End.{End}
use Rattle.dslx_tree.specs.declared.ident.Ident.{Ident}
use Rattle.dslx_tree.specs.declared.expr.Expr.{Expr, out-Expr}
use Rattle.dslx_tree.specs.declared.expr.Arg.{Arg}
use Rattle.dslx_tree.specs.declared.block.Stmt.TheOpen.{Node-F, Stmt-F}
use Rattle.dslx_tree.specs.declared.block.Stmt.TheFolds.{fold_out-Stmt, fold_out-Let, fold_out-Block}
use Rattle.dslx_tree.specs.declared.block.Block.{Block, out-Block}
use Rattle.dslx_core.proofs.Lemmas.Typing.Sound.{wrongly_called, all_in, all_in_three, alone_well_typed, none_in, none_in_three, pattern_gives, settled_well_typed, type_has_den}
use Rattle.dslx_meaning.specs.Rules.NodeRules.{expr_pair, node_typing, block_pair}
use Rattle.dslx_meaning.specs.Rules.TypeEnvs.{ExprPair, Instance, Judgement, GlobalEnv, TypeEnv, all_alone, alone, has_broken, no_token, one_and, plus_size, settled, span_of}
use Rattle.dslx_meaning.specs.Rules.CallRules.{ParametricArgument, call_typing, channel_seen, given_parametric_args, held_typing, receiving, receiving_if, sending, sending_if, wrong_effect}
use Rattle.dslx_meaning.specs.Environment.{Env}
use Rattle.dslx_meaning.specs.Callees.{AllOnes, CallKind, Calls, CountsLeading, CountsTrailing, Joins, Parity, Receives, ReceivesIf, Reverses, Sends, SendsIf, SomeOne, Updates, kind_of_call}
use Rattle.dslx_meaning.specs.Activation.{Computes, NodeLayer, act_of, act_of_call, act_of_node, node_of}
use Rattle.dslx_total.specs.Expressions.ExprLowering.{reaching, IsClean}
use Rattle.dslx_total.specs.Expressions.NextSteps.{LowersToSteps, MembersExist}
use Rattle.dslx_total.specs.Expressions.Beside.{ScopeMatchesEnv}
use Rattle.dslx_total.proofs.OnExpressions.OfEffects.{ActThere, typing_at, type_of_steps, computes_there, receiving_there, sending_there, receiving_if_there, sending_if_there}
use Rattle.dslx_total.proofs.OnExpressions.Joined.{seeing, seen, become, becoming, expression_part, pattern_part}
use Rattle.dslx_core.specs.Lowering.CoreScopes.{CoreScope}
use Rattle.std.specs.List.{list_all}
use Rattle.dslx_tree.specs.declared.type_expr.TypeExpr.{TypeExpr}
use Rattle.dslx_tree.specs.declared.pattern.Pattern.{Pattern}
use Rattle.dslx_tree.specs.declared.block.Stmt.{Stmt, out-Stmt}
use Rattle.dslx_tree.specs.declared.block.Let.{Let, out-Let}
use Rattle.dslx_core.specs.Typing.Sound.Sound.{TypeHasDenIf}
use Rattle.dslx_meaning.specs.Rules.PatternRules.{pattern_alone}
use Rattle.dslx_meaning.specs.Rules.Typings.{PatternSeen, StatementTyping, StatementSeen, TypePair}
use Rattle.dslx_meaning.specs.Rules.EffectNames.{is_effect}
use Rattle.dslx_meaning.specs.Rules.ControlRules.{expr_statement_typing, annotation_faults, annotation_reached, behind, bound_type, last_typing, let_with, statements_typing, written_typing}
use Rattle.dslx_meaning.specs.Types.{unit_type}
use Rattle.dslx_meaning.specs.Meaning.{TypeDen, written_type}
use Rattle.dslx_meaning.specs.Lists.{and_then}
use Rattle.dslx_total.proofs.OnExpressions.Parts.{alone_lowers_to}
use Rattle.dslx_total.proofs.OnExpressions.OfControl.{annotated_there, stands_behind, typed_behind}
use Rattle.dslx_total.proofs.OnExpressions.Inhabited.{some_value}
use Rattle.dslx_core.specs.Lowering.Trees.{lower_expression}
use Rattle.dslx_core.specs.Lowering.Steps.{LoweredSteps, StepsLowering, lower_act, binds_nothing, statement_steps, statements_steps}
use Rattle.dslx_core.specs.Lowering.Patterns.{lower_in_scope}

-- ---- any expression at the top

wrong_any : {X : Type 0} (known : GlobalEnv) (span : Span) (context : TypeEnv) (given : List ParametricArgument) (es : List ExprPair) → IsWellTypedPart known (wrong_effect span context given es) → X
wrong_any known span context given [] well_typed = wrongly_called known span given [] [] well_typed
wrong_any known span context given (t ∷ []) well_typed = wrongly_called known span given (held_typing context t ∷ []) [] well_typed
wrong_any known span context given (t ∷ c ∷ es) well_typed = wrongly_called known span given (held_typing context t ∷ (channel_seen context c).judgement ∷ all_alone context es) [] well_typed

module _ (here : Instance → Bool) (context : TypeEnv) (env : Env) (outer scope : CoreScope) (ends : List End) (h : IsWellTypedEnv context env) (at : ScopeMatchesEnv here context scope) (members : MembersExist context outer ends) (e : Expr) where
  receives_at : (span : Span) (es : List Expr) → IsWellTypedPart (reaching context.known here) (receiving span context (map expr_pair es))
      → ActThere (types_at context) outer ends scope e (act_of_call Receives es) (receiving span context (map expr_pair es))
  receives_at span [] well_typed = wrong_any (reaching context.known here) span context [] [] well_typed
  receives_at span (t ∷ []) well_typed = wrong_any (reaching context.known here) span context [] (expr_pair t ∷ []) well_typed
  receives_at span (t ∷ c ∷ []) well_typed = receiving_there here context env outer scope ends h at members span e t c well_typed
  receives_at span (t ∷ c ∷ x ∷ es) well_typed = wrong_any (reaching context.known here) span context [] (map expr_pair (t ∷ c ∷ x ∷ es)) well_typed

  receives_if_at : (span : Span) (es : List Expr) → IsWellTypedPart (reaching context.known here) (receiving_if span context (map expr_pair es))
      → ActThere (types_at context) outer ends scope e (act_of_call ReceivesIf es) (receiving_if span context (map expr_pair es))
  receives_if_at span [] well_typed = wrong_any (reaching context.known here) span context [] [] well_typed
  receives_if_at span (t ∷ []) well_typed = wrong_any (reaching context.known here) span context [] (map expr_pair (t ∷ [])) well_typed
  receives_if_at span (t ∷ c ∷ []) well_typed = wrong_any (reaching context.known here) span context [] (map expr_pair (t ∷ c ∷ [])) well_typed
  receives_if_at span (t ∷ c ∷ p ∷ []) well_typed = wrong_any (reaching context.known here) span context [] (map expr_pair (t ∷ c ∷ p ∷ [])) well_typed
  receives_if_at span (t ∷ c ∷ p ∷ x ∷ []) well_typed =
      receiving_if_there here context env outer scope ends h at members span e t c p x well_typed
  receives_if_at span (t ∷ c ∷ p ∷ x ∷ y ∷ es) well_typed = wrong_any (reaching context.known here) span context [] (map expr_pair (t ∷ c ∷ p ∷ x ∷ y ∷ es)) well_typed

  sends_at : (span : Span) (es : List Expr) → IsWellTypedPart (reaching context.known here) (sending span context (map expr_pair es))
      → ActThere (types_at context) outer ends scope e (act_of_call Sends es) (sending span context (map expr_pair es))
  sends_at span [] well_typed = wrong_any (reaching context.known here) span context [] [] well_typed
  sends_at span (t ∷ []) well_typed = wrong_any (reaching context.known here) span context [] (map expr_pair (t ∷ [])) well_typed
  sends_at span (t ∷ c ∷ []) well_typed = wrong_any (reaching context.known here) span context [] (map expr_pair (t ∷ c ∷ [])) well_typed
  sends_at span (t ∷ c ∷ x ∷ []) well_typed =
      sending_there here context env outer scope ends h at members span e t c x well_typed
  sends_at span (t ∷ c ∷ x ∷ y ∷ es) well_typed = wrong_any (reaching context.known here) span context [] (map expr_pair (t ∷ c ∷ x ∷ y ∷ es)) well_typed

  sends_if_at : (span : Span) (es : List Expr) → IsWellTypedPart (reaching context.known here) (sending_if span context (map expr_pair es))
      → ActThere (types_at context) outer ends scope e (act_of_call SendsIf es) (sending_if span context (map expr_pair es))
  sends_if_at span [] well_typed = wrong_any (reaching context.known here) span context [] [] well_typed
  sends_if_at span (t ∷ []) well_typed = wrong_any (reaching context.known here) span context [] (map expr_pair (t ∷ [])) well_typed
  sends_if_at span (t ∷ c ∷ []) well_typed = wrong_any (reaching context.known here) span context [] (map expr_pair (t ∷ c ∷ [])) well_typed
  sends_if_at span (t ∷ c ∷ p ∷ []) well_typed = wrong_any (reaching context.known here) span context [] (map expr_pair (t ∷ c ∷ p ∷ [])) well_typed
  sends_if_at span (t ∷ c ∷ p ∷ x ∷ []) well_typed =
      sending_if_there here context env outer scope ends h at members span e t c p x well_typed
  sends_if_at span (t ∷ c ∷ p ∷ x ∷ y ∷ es) well_typed = wrong_any (reaching context.known here) span context [] (map expr_pair (t ∷ c ∷ p ∷ x ∷ y ∷ es)) well_typed

  -- what has a value alone is judged alike at the top and elsewhere
  alike_there : (j : Judgement) → (expr_pair e).1 false context ≡ j → IsWellTypedPart (reaching context.known here) j → ActThere (types_at context) outer ends scope e Computes j
  alike_there j q well_typed = subst (ActThere (types_at context) outer ends scope e Computes) q (computes_there here context env outer scope ends h at members e (subst (IsWellTypedPart (reaching context.known here)) (sym q) well_typed))

  act_there : IsWellTypedPart (reaching context.known here) ((expr_pair e).1 true context) → ActThere (types_at context) outer ends scope e (act_of e) ((expr_pair e).1 true context)
  act_there well_typed =
      subst (ActThere (types_at context) outer ends scope e (act_of e)) (sym (typing_at e true context))
      (by_node (node_of e) (typing_at e false context) (subst (IsWellTypedPart (reaching context.known here)) (typing_at e true context) well_typed))
    where
      span : Span
      span = (out-Expr e).span

      typing : NodeLayer → Bool → Judgement
      typing y on_top = node_typing (map_node trees seen (folds seen seeing) y) span on_top context

      by_call : (f : Ident) (parametric_args : List Arg) (es : List Expr) (k : CallKind) → (expr_pair e).1 false context ≡ call_typing k span f (map (fold_arg seen seeing) parametric_args) (map expr_pair es) false context
          → IsWellTypedPart (reaching context.known here) (call_typing k span f (map (fold_arg seen seeing) parametric_args) (map expr_pair es) true context)
          → ActThere (types_at context) outer ends scope e (act_of_call k es) (call_typing k span f (map (fold_arg seen seeing) parametric_args) (map expr_pair es) true context)
      by_call f [] es Receives q g = receives_at span es g
      by_call f (n ∷ ns) es Receives q g = wrong_any (reaching context.known here) span context (given_parametric_args context (map (fold_arg seen seeing) (n ∷ ns))) (map expr_pair es) g
      by_call f [] es ReceivesIf q g = receives_if_at span es g
      by_call f (n ∷ ns) es ReceivesIf q g = wrong_any (reaching context.known here) span context (given_parametric_args context (map (fold_arg seen seeing) (n ∷ ns))) (map expr_pair es) g
      by_call f [] es Sends q g = sends_at span es g
      by_call f (n ∷ ns) es Sends q g = wrong_any (reaching context.known here) span context (given_parametric_args context (map (fold_arg seen seeing) (n ∷ ns))) (map expr_pair es) g
      by_call f [] es SendsIf q g = sends_if_at span es g
      by_call f (n ∷ ns) es SendsIf q g = wrong_any (reaching context.known here) span context (given_parametric_args context (map (fold_arg seen seeing) (n ∷ ns))) (map expr_pair es) g
      by_call f parametric_args es Joins q g = alike_there _ q g
      by_call f parametric_args es CountsLeading q g = alike_there _ q g
      by_call f parametric_args es CountsTrailing q g = alike_there _ q g
      by_call f parametric_args es Reverses q g = alike_there _ q g
      by_call f parametric_args es AllOnes q g = alike_there _ q g
      by_call f parametric_args es SomeOne q g = alike_there _ q g
      by_call f parametric_args es Parity q g = alike_there _ q g
      by_call f parametric_args es Updates q g = alike_there _ q g
      by_call f parametric_args es Calls q g = alike_there _ q g

      by_node : (y : NodeLayer) → (expr_pair e).1 false context ≡ typing y false → IsWellTypedPart (reaching context.known here) (typing y true)
          → ActThere (types_at context) outer ends scope e (act_of_node y) (typing y true)
      by_node (Node-F.Call f parametric_args es) q g = by_call f parametric_args es (kind_of_call f.name) q g
      by_node (Node-F.Node::Number n) q g = alike_there _ q g
      by_node (Node-F.Node::Bool b) q g = alike_there _ q g
      by_node (Node-F.Node::Array t es dots) q g = alike_there _ q g
      by_node (Node-F.Node::Name name) q g = alike_there _ q g
      by_node (Node-F.Node::Member x a) q g = alike_there _ q g
      by_node (Node-F.Node::Tuple es) q g = alike_there _ q g
      by_node (Node-F.Struct name fields rest) q g = alike_there _ q g
      by_node (Node-F.Block b) q g = alike_there _ q g
      by_node (Node-F.If test taken other) q g = alike_there _ q g
      by_node (Node-F.Match x arms) q g = alike_there _ q g
      by_node (Node-F.For loop) q g = alike_there _ q g
      by_node (Node-F.Index x i) q g = alike_there _ q g
      by_node (Node-F.Slice x a b) q g = alike_there _ q g
      by_node (Node-F.Part x i t) q g = alike_there _ q g
      by_node (Node-F.Field x name) q g = alike_there _ q g
      by_node (Node-F.Element x place k) q g = alike_there _ q g
      by_node (Node-F.Prefix o x) q g = alike_there _ q g
      by_node (Node-F.Cast x t) q g = alike_there _ q g
      by_node (Node-F.Binary o l r) q g = alike_there _ q g

-- ---- steps of a type

record GoesTo (types : Declarations) (t : Option DslxType) (o : Option LoweredSteps) : Type 0 where
  own : DslxType
  typed : t ≡ Some own
  declared : IsDeclared types own
  is : type_of_steps o ≡ Some own

abbrev is_some : Option DslxType → Bool
is_some None = false
is_some (Some t) = true

steps_there : (types : Declarations) (j : Judgement) (o : Option LoweredSteps) → GoesTo types j.ty o → LowersToSteps types j o
steps_there types j None g = absurd (true≢false (sym (ap is_some g.is)))
steps_there types j (Some l) g = record { steps = l; is = refl; typed = g.typed ∙ sym g.is; declared = subst (IsDeclared types) (sym (same_some l.next.ty g.own g.is)) g.declared }

last_there : (here : Instance → Bool) (context : TypeEnv) (env : Env) (scope : CoreScope) (e : Expr) → IsWellTypedEnv context env → ScopeMatchesEnv here context scope → IsWellTypedPart (reaching context.known here) (alone context (expr_pair e))
    → GoesTo (types_at context) (alone context (expr_pair e)).ty (and_then (lower_expression e scope) (λ e. Some (record { steps = []; next = e })))
last_there here context env scope e h at well_typed =
    let g = alone_lowers_to here context env scope (expr_pair e) (lower_expression e) (expression_part e) h at well_typed.faults well_typed.reached in
    record { own = g.expr.ty; typed = g.typed; declared = g.declared; is = ap (λ o. type_of_steps (and_then o (λ e. Some (record { steps = []; next = e })))) g.is }

-- ---- statements

-- whatever type the next state has behind a statement, it has at the statement
record StepExists (s : StatementTyping) (l : CoreScope → List End → StepsLowering → StepsLowering) : Type 0 where
  lowers : (here : Instance → Bool) (context : TypeEnv) (env : Env) (outer scope : CoreScope) (ends : List End) → IsWellTypedEnv context env → ScopeMatchesEnv here context scope → MembersExist context outer ends
      → IsClean here (s true context).faults (s true context).reached → (rest : StepsLowering) (types : Declarations) (t : Option DslxType)
      → ((inner : Env) (beyond : CoreScope) → IsWellTypedEnv (s true context).context inner → ScopeMatchesEnv here (s true context).context beyond → MembersExist (s true context).context outer ends → GoesTo types t (rest beyond))
      → GoesTo types t (l outer ends rest scope)
  -- it leaves what is known alone
  known : (context : TypeEnv) → (s true context).context.known ≡ context.known

let_there : (e : Expr) (written : Option TypePair) (f : Option TypeDen) → TypeHasDenIf written f → (p : Pattern)
    → StepExists (λ on_top context. let_with context (expr_pair e).0 (span_of (expr_pair e)) ((expr_pair e).1 on_top context) (written_typing context written)
    (pattern_alone false context (bound_type (written_typing context written) ((expr_pair e).1 on_top context).ty) (fold_pattern seen seeing p)))
    (λ outer ends. lower_act outer ends (act_of e) e (lower_in_scope (fold_pattern become becoming p).1))
let_there e written f st text = record {
  lowers = λ here context env outer scope ends h at members clean rest types t goes.
      let p = fold_pattern seen seeing text in
      let l = (fold_pattern become becoming text).1 in
      let tree = (expr_pair e).0 in
      let value = (expr_pair e).1 true context in
      let span = span_of (expr_pair e) in
      let j = written_typing context written in
      let bound = pattern_alone false context (bound_type j value.ty) p in
      let q = none_in_three value.faults (annotation_faults span j value.ty) bound.faults clean.faults in
      let r = all_in_three here value.reached (annotation_reached j) bound.reached clean.reached in
      let a = act_there here context env outer scope ends h at members e (record { faults = q.0; reached = r.0 }) in
      let own = annotated_there here context env scope h at span written f st a.own (ap (annotation_faults span j) (sym a.typed) ∙ q.1) r.1 in
      let typed : bound_type j value.ty ≡ Some a.own = ap (bound_type j) a.typed ∙ own in
      let same : bound ≡ pattern_alone false context (Some a.own) p = ap (λ o. pattern_alone false context o p) typed in
      let one = (pattern_part text).lowers here false context a.own [] context.locals env scope scope h at at a.declared (record { faults = ap (λ (b : PatternSeen). b.faults) (sym same) ∙ q.2; reached = ap (λ (b : PatternSeen). list_all here b.reached) (sym same) ∙ r.2 }) in
      let v = some_value (types_at context) h.known.parts a.own a.declared in
      let inner = (pattern_gives text).behind false context a.own [] context.locals env v.0 h v.1 (ap (λ (b : PatternSeen). has_broken b.faults) (sym same) ∙ ap has_broken q.2) in
      let here_typed = subst (λ (b : PatternSeen). IsWellTypedEnv (behind context b.locals tree) inner.0) (sym same) (typed_behind context (pattern_alone false context (Some a.own) p).locals tree inner.0 inner.1) in
      let here_stands = subst (λ (b : PatternSeen). ScopeMatchesEnv here (behind context b.locals tree) one.shape.scope) (sym same) (stands_behind here context (pattern_alone false context (Some a.own) p).locals tree one.shape.scope one.behind) in
      let g = goes inner.0 one.shape.scope here_typed here_stands members in
      record { own = g.own; typed = g.typed; declared = g.declared; is = a.steps (lower_in_scope l) rest one.shape one.is ∙ g.is };
  known = λ context. refl;
}

bare_there : (e : Expr)
    → StepExists (λ on_top context. record {
      context = behind context context.locals (expr_pair e).0;
      faults = (expr_statement_typing on_top (expr_pair e) ((expr_pair e).1 on_top context)).faults;
      reached = (expr_statement_typing on_top (expr_pair e) ((expr_pair e).1 on_top context)).reached;
      size = (expr_statement_typing on_top (expr_pair e) ((expr_pair e).1 on_top context)).size;
    })
    (λ outer ends. lower_act outer ends (act_of e) e binds_nothing)
bare_there e = record {
  lowers = λ here context env outer scope ends h at members clean rest types t goes.
      let j = (expr_pair e).1 true context in
      let a = act_there here context env outer scope ends h at members e (bare_well_typed (reaching context.known here) (is_effect (expr_pair e).0) j (record { faults = clean.faults; reached = clean.reached })) in
      let g = goes env scope (typed_behind context context.locals (expr_pair e).0 env h) (stands_behind here context context.locals (expr_pair e).0 scope at) members in
      record { own = g.own; typed = g.typed; declared = g.declared; is = a.steps binds_nothing rest (record { shape = shape.Wild; scope = scope }) refl ∙ g.is };
  known = λ context. refl;
}
  where
    bare_well_typed : (known : GlobalEnv) (b : Bool) (j : Judgement) → IsWellTypedPart known (if b then j else no_token (span_of (expr_pair e)) j) → IsWellTypedPart known j
    bare_well_typed known true j well_typed = well_typed
    bare_well_typed known false j well_typed = (alone_well_typed known (span_of (expr_pair e)) j well_typed).well_typed

bind_there : (y : LetLevel trees)
    → StepExists (seeing.bind (map_bind trees seen (folds seen seeing) y)).1 (λ outer ends. lower_act outer ends (act_of y.value) y.value (lower_in_scope (fold_pattern become becoming y.pattern).1))
bind_there y = by_type y.ty
  where
    with_type : Option TypeExpr → LetLevel trees
    with_type o = record { span = y.span; pattern = y.pattern; ty = o; value = y.value }

    by_type : (o : Option TypeExpr) → StepExists (seeing.bind (map_bind trees seen (folds seen seeing) (with_type o))).1 (λ outer ends. lower_act outer ends (act_of y.value) y.value (lower_in_scope (fold_pattern become becoming y.pattern).1))
    by_type None = let_there y.value None None tt y.pattern
    by_type (Some t) = let_there y.value (Some (fold_type_expr seen seeing t)) (Some (written_type t)) (type_has_den t) y.pattern

let_at_top : (l : Let) → StepExists (fold_bind seen seeing l).1 (λ outer ends. statement_steps outer ends (Stmt-F.Let l))
let_at_top l =
    subst (λ (x : Let × StatementTyping). StepExists x.1 (λ outer ends. statement_steps outer ends (Stmt-F.Let l))) (sym (out_bind seen seeing l)) (bind_there (out-Let l))
  where
    out_bind : (c : Carriers) (s : Steps c) (l : Let) → fold_bind c s l ≡ s.bind (map_bind trees c (folds c s) (out-Let l))
    out_bind c s l =
        fold_out-Let c.stmt c.node c.shape c.type_node c.block c.bind c.arg c.arm c.expr c.field c.loop c.number c.pattern c.type_expr s.stmt s.node s.shape s.type_node s.block s.bind s.arg s.arm s.expr s.field s.loop s.number s.pattern s.type_expr l

statement_there : (x : Stmt) → StepExists (fold_stmt seen seeing x).1 (λ outer ends. statement_steps outer ends (out-Stmt x))
statement_there x =
    subst (λ (y : Stmt × StatementTyping). StepExists y.1 (λ outer ends. statement_steps outer ends (out-Stmt x))) (sym (out_stmt seen seeing x)) (by_layer (out-Stmt x))
  where
    out_stmt : (c : Carriers) (s : Steps c) (x : Stmt) → fold_stmt c s x ≡ s.stmt (map_stmt trees c (folds c s) (out-Stmt x))
    out_stmt c s x =
        fold_out-Stmt c.stmt c.node c.shape c.type_node c.block c.bind c.arg c.arm c.expr c.field c.loop c.number c.pattern c.type_expr s.stmt s.node s.shape s.type_node s.block s.bind s.arg s.arm s.expr s.field s.loop s.number s.pattern s.type_expr x

    by_layer : (y : StmtLevel trees) → StepExists (seeing.stmt (map_stmt trees seen (folds seen seeing) y)).1 (λ outer ends. statement_steps outer ends y)
    by_layer (Stmt-F.Let l) = record { lowers = (let_at_top l).lowers; known = (let_at_top l).known }
    by_layer (Stmt-F.Bare e) = record { lowers = (bare_there e).lowers; known = (bare_there e).known }

abbrev typing_statements : List Stmt → StatementTyping
typing_statements ss = statements_typing (map (λ (s : Stmt × StatementTyping). s.1) (map (fold_stmt seen seeing) ss))

statements_there : (ss : List Stmt) (last : Option Expr) (types : Declarations) (t : Option DslxType) (here : Instance → Bool) (context : TypeEnv) (env : Env) (outer scope : CoreScope) (ends : List End)
    → IsWellTypedEnv context env → ScopeMatchesEnv here context scope → MembersExist context outer ends → IsClean here (typing_statements ss true context).faults (typing_statements ss true context).reached
    → ((inner : Env) (beyond : CoreScope) → IsWellTypedEnv (typing_statements ss true context).context inner → ScopeMatchesEnv here (typing_statements ss true context).context beyond → GoesTo types t (statements_steps outer ends [] last beyond))
    → GoesTo types t (statements_steps outer ends ss last scope)
statements_there [] last types t here context env outer scope ends h at members clean goes = goes env scope h at
statements_there (s ∷ ss) last types t here context env outer scope ends h at members clean goes =
    let first = (fold_stmt seen seeing s).1 true context in
    let rest = typing_statements ss true first.context in
    let p = none_in first.faults rest.faults clean.faults in
    let q = all_in here first.reached rest.reached clean.reached in
    (statement_there s).lowers here context env outer scope ends h at members (record { faults = p.0; reached = q.0 }) (statements_steps outer ends ss last) types t
    (λ inner beyond typed stands there. statements_there ss last types t here first.context inner outer beyond ends typed stands there (record { faults = p.1; reached = q.1 }) goes)

statements_known : (ss : List Stmt) (context : TypeEnv) → (typing_statements ss true context).context.known ≡ context.known
statements_known [] context = refl
statements_known (s ∷ ss) context =
    statements_known ss ((fold_stmt seen seeing s).1 true context).context ∙ (statement_there s).known context

-- ---- the block

pub block_of_next : (b : Block) (here : Instance → Bool) (context : TypeEnv) (env : Env) (outer scope : CoreScope) (ends : List End) → IsWellTypedEnv context env → ScopeMatchesEnv here context scope → MembersExist context outer ends
    → IsWellTypedPart (reaching context.known here) ((block_pair b).1 true context) → LowersToSteps (types_at context) ((block_pair b).1 true context) (statements_steps outer ends (out-Block b).statements (out-Block b).value scope)
block_of_next b here context env outer scope ends h at members well_typed =
    subst (λ j. LowersToSteps (types_at context) j (statements_steps outer ends (out-Block b).statements (out-Block b).value scope)) (sym typing)
    (by_value (out-Block b).value (subst (IsWellTypedPart (reaching context.known here)) typing well_typed))
  where
    out_block : (c : Carriers) (s : Steps c) (x : Block) → fold_block c s x ≡ s.block (map_block trees c (folds c s) (out-Block x))
    out_block c s x =
        fold_out-Block c.stmt c.node c.shape c.type_node c.block c.bind c.arg c.arm c.expr c.field c.loop c.number c.pattern c.type_expr s.stmt s.node s.shape s.type_node s.block s.bind s.arg s.arm s.expr s.field s.loop s.number s.pattern s.type_expr x

    ss : List Stmt
    ss = (out-Block b).statements

    with_value : Option Expr → BlockLevel trees
    with_value o = record { span = (out-Block b).span; statements = ss; value = o }

    judgement : Option Expr → Judgement
    judgement o = (seeing.block (map_block trees seen (folds seen seeing) (with_value o))).1 true context

    typing : (block_pair b).1 true context ≡ judgement (out-Block b).value
    typing = λ i. (out_block seen seeing b i).1 true context

    walked : StatementSeen
    walked = typing_statements ss true context

    by_last : (o : Option Expr) (last : Judgement)
        → IsWellTypedPart (reaching context.known here) (settled (out-Block b).span last.ty (walked.faults ++ last.faults) (walked.reached ++ last.reached) (one_and (plus_size walked.size last.size)))
        → ((inner : Env) (beyond : CoreScope) → IsWellTypedEnv walked.context inner → ScopeMatchesEnv here walked.context beyond → IsWellTypedPart (reaching context.known here) last → GoesTo (types_at walked.context) last.ty (statements_steps outer ends [] o beyond))
        → LowersToSteps (types_at context) (settled (out-Block b).span last.ty (walked.faults ++ last.faults) (walked.reached ++ last.reached) (one_and (plus_size walked.size last.size))) (statements_steps outer ends ss o scope)
    by_last o last well_typed goes =
        let size = one_and (plus_size walked.size last.size) in
        let s = settled_well_typed (reaching context.known here) (out-Block b).span last.ty (walked.faults ++ last.faults) (walked.reached ++ last.reached) size well_typed in
        let p = none_in walked.faults last.faults s.faults in
        let q = all_in here walked.reached last.reached s.reached in
        let g = statements_there ss o (types_at walked.context) last.ty here context env outer scope ends h at members (record { faults = p.0; reached = q.0 }) (λ inner beyond typed stands. goes inner beyond typed stands (record { faults = p.1; reached = q.1 })) in
        steps_there (types_at context) (settled (out-Block b).span last.ty (walked.faults ++ last.faults) (walked.reached ++ last.reached) size) (statements_steps outer ends ss o scope) (record { own = g.own; typed = s.ty ∙ g.typed; declared = subst (λ (k : GlobalEnv). IsDeclared k.items.type_named g.own) (statements_known ss context) g.declared; is = g.is })

    by_value : (o : Option Expr) → IsWellTypedPart (reaching context.known here) (judgement o) → LowersToSteps (types_at context) (judgement o) (statements_steps outer ends ss o scope)
    by_value None well_typed =
        by_last None (last_typing walked.context None) well_typed (λ inner beyond typed stands well_typed. record { own = unit_type; typed = refl; declared = tuple_declared (types_at walked.context) [] tt; is = refl })
    by_value (Some e) well_typed =
        by_last (Some e) (last_typing walked.context (Some (expr_pair e))) well_typed (λ inner beyond typed stands well_typed. last_there here walked.context inner beyond e typed stands (record { faults = well_typed.faults; reached = well_typed.reached }))
