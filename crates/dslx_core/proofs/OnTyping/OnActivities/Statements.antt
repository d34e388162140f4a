-- The statements of `next` in their order, and the whole body.
use Rattle.std.proofs.Common.{◌≡◌, ◌++◌, ℕ, Bool, true, false, if◌then◌else◌, List, [], ◌∷◌, map, length, Option, Some, None, refl, sym, ap, subst, ◌∙◌}
use mathlib.Core.Bool.{true≢false}
use Rattle.std.specs.List.{list_all}
use Rattle.xb_bits.specs.Word.{Word}
use Rattle.xb_span.specs.declared.fault.Fault.{Fault}
use Rattle.xb_span.specs.declared.span.Span.{Span}
use Rattle.dslx_tree.specs.declared.block.Block.{Block, out-Block}
use Rattle.dslx_tree.specs.declared.block.Let.{Let, out-Let}
use Rattle.dslx_tree.specs.declared.block.Stmt.{Stmt, out-Stmt}
use Rattle.dslx_tree.specs.declared.block.Stmt.TheFolds.{fold_out-Block, fold_out-Let, fold_out-Stmt}
use Rattle.dslx_tree.specs.declared.block.Stmt.TheOpen.{Stmt-F}
use Rattle.dslx_tree.specs.declared.expr.Expr.{Expr}
use Rattle.dslx_tree.specs.declared.pattern.Pattern.{Pattern}
use Rattle.dslx_tree.specs.declared.type_expr.TypeExpr.{TypeExpr}
use Rattle.dslx_tree.proofs.Lemmas.Folds.Folds.{folds, fold_bind, fold_pattern, fold_stmt}
use Rattle.dslx_tree.proofs.Lemmas.Folds.Levels.{map_bind, map_block, map_stmt, trees}
use Rattle.dslx_meaning.specs.Activation.{Further, SiteEnv, SiteName, StmtLayer, do_stmt, do_stmts, sites_in_stmt, sites_in_stmts}
use Rattle.dslx_meaning.specs.Environment.{Env}
use Rattle.dslx_meaning.specs.Meaning.{TypeDen, fits_in_scope, fitted, denotation, pattern_denotation, written_type}
use Rattle.dslx_meaning.specs.Types.{same_type, unit_type}
use Rattle.dslx_meaning.specs.Values.{unit_value}
use Rattle.dslx_meaning.specs.declared.ty.DslxType.{DslxType}
use Rattle.dslx_meaning.specs.declared.value.DslxValue.TheViews as views
use Rattle.dslx_meaning.specs.Rules.AggregateRules.{wanted_faults}
use Rattle.dslx_meaning.specs.Rules.CallRules.{channel_end_in}
use Rattle.dslx_meaning.specs.Rules.ConstantRules.{size_faults}
use Rattle.dslx_meaning.specs.Rules.ControlRules.{annotation_faults, annotation_reached, behind, block_typing, bound_type, last_typing, let_typing, let_with, statements_typing, stmt_typing, written_typing}
use Rattle.dslx_meaning.specs.Rules.EffectNames.{is_effect}
use Rattle.dslx_meaning.specs.Rules.ItemRules.{body_typing}
use Rattle.dslx_meaning.specs.Rules.TypeEnvs.{ExprPair, Judgement, GlobalEnv, TypeEnv, has_broken, no_token, one_and, plus_size, settled, span_of, with_typed}
use Rattle.dslx_meaning.specs.Rules.Typings.{PatternPair, PatternSeen, StatementTyping, StatementSeen, TypePair}
use Rattle.dslx_meaning.specs.Rules.NodeRules.{block_pair, expr_pair, type_pair}
use Rattle.dslx_meaning.specs.Rules.PatternRules.{pattern_alone}
use Rattle.dslx_core.specs.Typing.Typed.Complete.{IsWellTypedPart}
use Rattle.dslx_core.specs.Typing.Typed.Declared.{IsDeclared}
use Rattle.dslx_core.specs.Typing.Typed.Kinds.{is_of, tuple_of}
use Rattle.dslx_core.specs.Typing.Typed.WellTyped.{Fails, Fits, FitsOrFails, IsWellTypedEnv, types_at}
use Rattle.dslx_core.proofs.Lemmas.Typing.Typed.{of_tuple, one_of_text, same_some, tuple_declared}
use Rattle.dslx_core.specs.Typing.Sound.Sound.{TypeHasDenIf}
use Rattle.dslx_core.proofs.Lemmas.Typing.Sound.{alone_well_typed, alone_has, all_in, all_in_three, bound_known, expression_gives, none_in, none_in_three, passed, pattern_gives, settled_well_typed, type_has_den}
use Rattle.dslx_core.specs.Typing.Activities.ActivityGoesOn.{ActivityGoesOn, Ends}
use Rattle.dslx_core.specs.Typing.Activities.Members.{ProcMembersHaveValues}
use Rattle.dslx_core.proofs.OnTyping.OnActivities.Effects.{Binds, act_goes}
use Rattle.dslx_core.proofs.OnTyping.OnActivities.Trees.{typing, expr_typing}
use Rattle.dslx_core.proofs.OnTyping.OnActivities.Turns.{BindsAndGoes}

-- ---- one level of a statement and of a block

abbrev stmt_pair : Stmt → Stmt × StatementTyping
stmt_pair = fold_stmt typing expr_typing

abbrev bind_pair : Let → Let × StatementTyping
bind_pair = fold_bind typing expr_typing

abbrev pattern_pair : Pattern → PatternPair
pattern_pair = fold_pattern typing expr_typing

stmt_opened : (s : Stmt) → (stmt_pair s).1 ≡ stmt_typing (map_stmt trees typing (folds typing expr_typing) (out-Stmt s))
stmt_opened s =
    ap (λ (p : typing.stmt). p.1)
    (fold_out-Stmt typing.stmt typing.node typing.shape typing.type_node typing.block typing.bind typing.arg typing.arm typing.expr typing.field typing.loop typing.number typing.pattern typing.type_expr
    expr_typing.stmt expr_typing.node expr_typing.shape expr_typing.type_node expr_typing.block expr_typing.bind expr_typing.arg expr_typing.arm expr_typing.expr expr_typing.field expr_typing.loop expr_typing.number expr_typing.pattern expr_typing.type_expr s)

bind_opened : (l : Let) → (bind_pair l).1 ≡ let_typing (map_bind trees typing (folds typing expr_typing) (out-Let l))
bind_opened l =
    ap (λ (p : typing.bind). p.1)
    (fold_out-Let typing.stmt typing.node typing.shape typing.type_node typing.block typing.bind typing.arg typing.arm typing.expr typing.field typing.loop typing.number typing.pattern typing.type_expr
    expr_typing.stmt expr_typing.node expr_typing.shape expr_typing.type_node expr_typing.block expr_typing.bind expr_typing.arg expr_typing.arm expr_typing.expr expr_typing.field expr_typing.loop expr_typing.number expr_typing.pattern expr_typing.type_expr l)

-- a `let`, by the type that is written
abbrev pair_if : Option TypeExpr → Option TypePair
pair_if None = None
pair_if (Some t) = Some (type_pair t)

abbrev typing_if : Option TypeExpr → Option TypeDen
typing_if None = None
typing_if (Some t) = Some (written_type t)

written_has_den : (o : Option TypeExpr) → TypeHasDenIf (pair_if o) (typing_if o)
written_has_den None = tt
written_has_den (Some t) = type_has_den t

abbrev let_seen : Let → StatementTyping
let_seen l on_top context =
    let value = (expr_pair (out-Let l).value).1 on_top context in
    let written = written_typing context (pair_if (out-Let l).ty) in
    let_with context (expr_pair (out-Let l).value).0 (span_of (expr_pair (out-Let l).value)) value written (pattern_alone false context (bound_type written value.ty) (pattern_pair (out-Let l).pattern))

let_opened : (l : Let) → (bind_pair l).1 ≡ let_seen l
let_opened l = bind_opened l ∙ at (out-Let l).ty
  where
    with_written : Option TypeExpr → StatementTyping
    with_written o on_top context =
        let value = (expr_pair (out-Let l).value).1 on_top context in
        let written = written_typing context (pair_if o) in
        let_with context (expr_pair (out-Let l).value).0 (span_of (expr_pair (out-Let l).value)) value written (pattern_alone false context (bound_type written value.ty) (pattern_pair (out-Let l).pattern))

    at : (o : Option TypeExpr)
        → let_typing (map_bind trees typing (folds typing expr_typing) (record { span = (out-Let l).span; pattern = (out-Let l).pattern; ty = o; value = (out-Let l).value })) ≡ with_written o
    at None = refl
    at (Some t) = refl

-- ---- what a statement binds

-- the type environment behind a statement knows the same, and has the same members
pub record SeesMore (context inner : TypeEnv) : Type 0 where
  pub known : inner.known ≡ context.known
  pub members : inner.members ≡ context.members

-- a place behind a statement
typed_behind : (context : TypeEnv) (seen : PatternSeen) (e : Expr) (env : Env) → IsWellTypedEnv (with_typed context seen.locals) env → IsWellTypedEnv (behind context seen.locals e) env
typed_behind context seen e env h = record {
  locals = h.locals;
  parametric_args = h.parametric_args;
  constants = h.constants;
  members = h.members;
  kinds = h.kinds;
  typed = h.typed;
  valued = h.valued;
  place = record { others = h.place.others; hides = h.place.hides };
  items = h.items;
  known = h.known;
}

typed_alone : (context : TypeEnv) (e : Expr) (env : Env) → IsWellTypedEnv context env → IsWellTypedEnv (behind context context.locals e) env
typed_alone context e env h = record {
  locals = h.locals;
  parametric_args = h.parametric_args;
  constants = h.constants;
  members = h.members;
  kinds = h.kinds;
  typed = h.typed;
  valued = h.valued;
  place = record { others = h.place.others; hides = h.place.hides };
  items = h.items;
  known = h.known;
}

-- what comes behind goes on from each well typed place
abbrev RestGoes : DslxType → ℕ → Further → TypeEnv → Type 0
RestGoes t n rest inner = (env : Env) → IsWellTypedEnv inner env → (words : List Word) → ActivityGoesOn t n words (rest env words)

-- a value of the type that the rules give a `let` fits its pattern
let_binds : (t : DslxType) (n : ℕ) (rest : Further) (context : TypeEnv) (env : Env) → IsWellTypedEnv context env → (l : Let) (value : Judgement) → IsWellTypedPart context.known value
    → (let_with context (expr_pair (out-Let l).value).0 (span_of (expr_pair (out-Let l).value)) value (written_typing context (pair_if (out-Let l).ty))
    (pattern_alone false context (bound_type (written_typing context (pair_if (out-Let l).ty)) value.ty) (pattern_pair (out-Let l).pattern))).faults ≡ []
    → list_all context.known.is_sound (let_with context (expr_pair (out-Let l).value).0 (span_of (expr_pair (out-Let l).value)) value (written_typing context (pair_if (out-Let l).ty))
    (pattern_alone false context (bound_type (written_typing context (pair_if (out-Let l).ty)) value.ty) (pattern_pair (out-Let l).pattern))).reached ≡ true
    → RestGoes t n rest (let_with context (expr_pair (out-Let l).value).0 (span_of (expr_pair (out-Let l).value)) value (written_typing context (pair_if (out-Let l).ty))
    (pattern_alone false context (bound_type (written_typing context (pair_if (out-Let l).ty)) value.ty) (pattern_pair (out-Let l).pattern))).context
    → Binds (types_at context) t n rest (λ v. fitted (out-Let l).pattern v env) value.ty
let_binds t n rest context env h l value well_typed faults reached goes u v is of declared =
    let p = none_in_three value.faults (annotation_faults span written value.ty) bound.faults faults in
    let r = all_in_three context.known.is_sound value.reached (annotation_reached written) bound.reached reached in
    let own = bound_known context env h span (pair_if (out-Let l).ty) (typing_if (out-Let l).ty) (written_has_den (out-Let l).ty) u (ap (annotation_faults span written) (sym is) ∙ p.1) r.1 in
    let typed : bound_type written value.ty ≡ Some u = ap (bound_type written) is ∙ own in
    fits typed ((pattern_gives (out-Let l).pattern).keeps false context u [] context.locals env env v h h (record { value = v; is = refl; of = of; declared = declared })
    (ap has_broken (ap (λ o. (pattern_alone false context o (pattern_pair (out-Let l).pattern)).faults) (sym typed) ∙ p.2)))
  where
    span : Span
    span = span_of (expr_pair (out-Let l).value)

    written : Option Judgement
    written = written_typing context (pair_if (out-Let l).ty)

    bound : PatternSeen
    bound = pattern_alone false context (bound_type written value.ty) (pattern_pair (out-Let l).pattern)

    fits : bound_type written value.ty ≡ Some u → FitsOrFails false context (pattern_alone false context (Some u) (pattern_pair (out-Let l).pattern)) (fits_in_scope (pattern_denotation (out-Let l).pattern) v env)
        → BindsAndGoes t n rest (fits_in_scope (pattern_denotation (out-Let l).pattern) v env)
    fits typed (Fits inner e k) =
        let place = subst (λ o. IsWellTypedEnv (with_typed context (pattern_alone false context o (pattern_pair (out-Let l).pattern)).locals) inner) (sym typed) k in
        record { inner = inner; is = e; goes = goes inner (typed_behind context bound (expr_pair (out-Let l).value).0 inner place) }
    fits typed (Fails e may sure) = absurd (true≢false (sym may))

-- ---- one statement

-- behind it the same is known and the members are the same, and it goes on where what comes behind it does
pub record StatementGoes (t : DslxType) (more : List SiteName) (site : SiteEnv) (context : TypeEnv) (env : Env) (rest : Further) (seen : StatementSeen) (x : StmtLayer) : Type 0 where
  pub known : seen.context.known ≡ context.known
  pub members : seen.context.members ≡ context.members
  pub goes : RestGoes t (length more) rest seen.context → (words : List Word) → ActivityGoesOn t (length (sites_in_stmt x ++ more)) words (do_stmt site x rest env words)

let_goes : (t : DslxType) (more : List SiteName) (site : SiteEnv) (context : TypeEnv) (env : Env) (rest : Further) → IsWellTypedEnv context env → ProcMembersHaveValues context site → (l : Let) → (let_seen l true context).faults ≡ []
    → list_all context.known.is_sound (let_seen l true context).reached ≡ true → StatementGoes t more site context env rest (let_seen l true context) (Stmt-F.Let l)
let_goes t more site context env rest h members l f r = record {
  known = refl;
  members = refl;
  goes = λ goes words.
      let p = none_in_three value.faults (annotation_faults span written value.ty) bound.faults f in
      let q = all_in_three context.known.is_sound value.reached (annotation_reached written) bound.reached r in
      let well_typed : IsWellTypedPart context.known value = record { faults = p.0; reached = q.0 } in
      act_goes t more site (out-Let l).value (λ v. fitted (out-Let l).pattern v env) rest context env h members well_typed (let_binds t (length more) rest context env h l value well_typed f r goes) words;
}
  where
    span : Span
    span = span_of (expr_pair (out-Let l).value)

    value : Judgement
    value = (expr_pair (out-Let l).value).1 true context

    written : Option Judgement
    written = written_typing context (pair_if (out-Let l).ty)

    bound : PatternSeen
    bound = pattern_alone false context (bound_type written value.ty) (pattern_pair (out-Let l).pattern)

bare_goes : (t : DslxType) (more : List SiteName) (site : SiteEnv) (context : TypeEnv) (env : Env) (rest : Further) → IsWellTypedEnv context env → ProcMembersHaveValues context site → (e : Expr)
    → (stmt_typing (Stmt-F.Bare (expr_pair e)) true context).faults ≡ [] → list_all context.known.is_sound (stmt_typing (Stmt-F.Bare (expr_pair e)) true context).reached ≡ true
    → StatementGoes t more site context env rest (stmt_typing (Stmt-F.Bare (expr_pair e)) true context) (Stmt-F.Bare e)
bare_goes t more site context env rest h members e f r = record {
  known = refl;
  members = refl;
  goes = λ goes words.
      act_goes t more site e (λ v. Some env) rest context env h members (well_typed (is_effect (expr_pair e).0) f r)
      (λ u v is of declared. record { inner = env; is = refl; goes = goes env (typed_alone context (expr_pair e).0 env h) }) words;
}
  where
    j : Judgement
    j = (expr_pair e).1 true context

    well_typed : (b : Bool) → (if◌then◌else◌ {A = Judgement} b j (no_token (span_of (expr_pair e)) j)).faults ≡ [] → list_all context.known.is_sound (if◌then◌else◌ {A = Judgement} b j (no_token (span_of (expr_pair e)) j)).reached ≡ true → IsWellTypedPart context.known j
    well_typed true x y = record { faults = x; reached = y }
    well_typed false x y = (alone_well_typed context.known (span_of (expr_pair e)) j (record { faults = x; reached = y })).well_typed

statement_goes : (t : DslxType) (more : List SiteName) (site : SiteEnv) (context : TypeEnv) (env : Env) (rest : Further) → IsWellTypedEnv context env → ProcMembersHaveValues context site → (s : Stmt) → ((stmt_pair s).1 true context).faults ≡ []
    → list_all context.known.is_sound ((stmt_pair s).1 true context).reached ≡ true → StatementGoes t more site context env rest ((stmt_pair s).1 true context) (out-Stmt s)
statement_goes t more site context env rest h members s f r = by_layer (out-Stmt s) refl
  where
    by_layer : (x : StmtLayer) → out-Stmt s ≡ x → StatementGoes t more site context env rest ((stmt_pair s).1 true context) (out-Stmt s)
    by_layer (Stmt-F.Let l) e =
        let same : (stmt_pair s).1 true context ≡ let_seen l true context = (λ i. stmt_opened s i true context) ∙ ap (λ x. stmt_typing (map_stmt trees typing (folds typing expr_typing) x) true context) e ∙ (λ i. let_opened l i true context) in
        let goes = let_goes t more site context env rest h members l (ap (λ (x : StatementSeen). x.faults) (sym same) ∙ f) (ap (λ (x : StatementSeen). list_all context.known.is_sound x.reached) (sym same) ∙ r) in
        subst (λ x. StatementGoes t more site context env rest ((stmt_pair s).1 true context) x) (sym e) (subst (λ (x : StatementSeen). StatementGoes t more site context env rest x (Stmt-F.Let l)) (sym same) goes)
    by_layer (Stmt-F.Bare x) e =
        let same : (stmt_pair s).1 true context ≡ stmt_typing (Stmt-F.Bare (expr_pair x)) true context = (λ i. stmt_opened s i true context) ∙ ap (λ x. stmt_typing (map_stmt trees typing (folds typing expr_typing) x) true context) e in
        let goes = bare_goes t more site context env rest h members x (ap (λ (x : StatementSeen). x.faults) (sym same) ∙ f) (ap (λ (x : StatementSeen). list_all context.known.is_sound x.reached) (sym same) ∙ r) in
        subst (λ x. StatementGoes t more site context env rest ((stmt_pair s).1 true context) x) (sym e) (subst (λ (y : StatementSeen). StatementGoes t more site context env rest y (Stmt-F.Bare x)) (sym same) goes)

-- ---- all statements

abbrev typing_statements : List Stmt → List StatementTyping
typing_statements ss = map (λ (p : Stmt × StatementTyping). p.1) (map stmt_pair ss)

abbrev last_pair : Option Expr → Option ExprPair
last_pair None = None
last_pair (Some e) = Some (expr_pair e)

unit_is : is_of unit_type unit_value ≡ true
unit_is = of_tuple [] unit_value ∙ ap (tuple_of []) (views.outs-Tuple [])

last_goes : (t : DslxType) (context : TypeEnv) (env : Env) (site : SiteEnv) → IsWellTypedEnv context env → (o : Option Expr) → IsWellTypedPart context.known (last_typing context (last_pair o)) → (last_typing context (last_pair o)).ty ≡ Some t
    → (words : List Word) → ActivityGoesOn t 0 words (do_stmts site [] o env words)
last_goes t context env site h None well_typed e words = Ends unit_value refl (subst (λ u. is_of u unit_value ≡ true) (same_some unit_type t e) unit_is) refl
last_goes t context env site h (Some x) well_typed e words =
    let g = alone_has context env (expr_pair x) (denotation x) (expression_gives x) h well_typed.faults well_typed.reached in
    Ends g.2.value g.2.is (subst (λ u. is_of u g.2.value ≡ true) (same_some g.0 t (sym g.1 ∙ e)) g.2.of) refl

-- members stay where the same is known behind a statement
members_stay : (site : SiteEnv) (context inner : TypeEnv) → inner.known ≡ context.known → inner.members ≡ context.members → ProcMembersHaveValues context site → ProcMembersHaveValues inner site
members_stay site context inner known members h name o e =
    let m = h name o (ap (channel_end_in name) (sym members) ∙ e) in
    record { word = m.word; typed = m.typed; means = m.means; declared = subst (λ (k : GlobalEnv). IsDeclared k.items.type_named m.word) (sym known) m.declared; holds = m.holds }

-- the last expression has this type, in each place behind the statements
abbrev EndsTyped : DslxType → TypeEnv → Option Expr → Type 0
EndsTyped t context o = (env : Env) → IsWellTypedEnv context env → (last_typing context (last_pair o)).ty ≡ Some t

statements_go : (t : DslxType) (site : SiteEnv) (ss : List Stmt) (o : Option Expr) (context : TypeEnv) (env : Env) → IsWellTypedEnv context env → ProcMembersHaveValues context site → (statements_typing (typing_statements ss) true context).faults ≡ []
    → list_all context.known.is_sound (statements_typing (typing_statements ss) true context).reached ≡ true
    → IsWellTypedPart context.known (last_typing (statements_typing (typing_statements ss) true context).context (last_pair o)) → EndsTyped t (statements_typing (typing_statements ss) true context).context o
    → (words : List Word) → ActivityGoesOn t (length (sites_in_stmts ss)) words (do_stmts site ss o env words)
statements_go t site [] o context env h members f r last e words = last_goes t context env site h o last (e env h) words
statements_go t site (s ∷ ss) o context env h members f r last e words =
    let first = (stmt_pair s).1 true context in
    let rest = statements_typing (typing_statements ss) true first.context in
    let p = none_in first.faults rest.faults f in
    let q = all_in context.known.is_sound first.reached rest.reached r in
    let one = statement_goes t (sites_in_stmts ss) site context env (do_stmts site ss o) h members s p.0 q.0 in
    one.goes (λ inner k words. statements_go t site ss o first.context inner k (members_stay site context first.context one.known one.members members) p.1
    (subst (λ (x : GlobalEnv). list_all x.is_sound rest.reached ≡ true) (sym one.known) q.1) (subst (λ (x : GlobalEnv). IsWellTypedPart x (last_typing rest.context (last_pair o))) (sym one.known) last) e words) words

-- ---- the body of `next`

abbrev block_seen : Block → Bool → TypeEnv → Judgement
block_seen b on_top context =
    let walked = statements_typing (typing_statements (out-Block b).statements) on_top context in
    let last = last_typing walked.context (last_pair (out-Block b).value) in
    settled (out-Block b).span last.ty (walked.faults ++ last.faults) (walked.reached ++ last.reached) (one_and (plus_size walked.size last.size))

block_opened : (b : Block) → (block_pair b).1 ≡ block_seen b
block_opened b =
    ap (λ (p : typing.block). p.1)
    (fold_out-Block typing.stmt typing.node typing.shape typing.type_node typing.block typing.bind typing.arg typing.arm typing.expr typing.field typing.loop typing.number typing.pattern typing.type_expr
    expr_typing.stmt expr_typing.node expr_typing.shape expr_typing.type_node expr_typing.block expr_typing.bind expr_typing.arg expr_typing.arm expr_typing.expr expr_typing.field expr_typing.loop expr_typing.number expr_typing.pattern expr_typing.type_expr b)
    ∙ at (out-Block b).value
  where
    with_last : Option Expr → Bool → TypeEnv → Judgement
    with_last o on_top context =
        let walked = statements_typing (typing_statements (out-Block b).statements) on_top context in
        let last = last_typing walked.context (last_pair o) in
        settled (out-Block b).span last.ty (walked.faults ++ last.faults) (walked.reached ++ last.reached) (one_and (plus_size walked.size last.size))

    at : (o : Option Expr) → block_typing (map_block trees typing (folds typing expr_typing) (record { span = (out-Block b).span; statements = (out-Block b).statements; value = o })) ≡ with_last o
    at None = refl
    at (Some e) = refl

last_known : (context : TypeEnv) (env : Env) → IsWellTypedEnv context env → (o : Option Expr) → IsWellTypedPart context.known (last_typing context (last_pair o)) → (t : DslxType) × ((last_typing context (last_pair o)).ty ≡ Some t) × IsDeclared (types_at context) t
last_known context env h None well_typed = (unit_type, refl, tuple_declared (types_at context) [] tt)
last_known context env h (Some x) well_typed =
    let g = alone_has context env (expr_pair x) (denotation x) (expression_gives x) h well_typed.faults well_typed.reached in
    (g.0, g.1, g.2.declared)

-- what is known stays
statement_known : (s : Stmt) (context : TypeEnv) → ((stmt_pair s).1 true context).context.known ≡ context.known
statement_known s context = by_layer (out-Stmt s) refl
  where
    by_layer : (x : StmtLayer) → out-Stmt s ≡ x → ((stmt_pair s).1 true context).context.known ≡ context.known
    by_layer (Stmt-F.Let l) e =
        ap (λ (x : StatementSeen). x.context.known) ((λ i. stmt_opened s i true context) ∙ ap (λ x. stmt_typing (map_stmt trees typing (folds typing expr_typing) x) true context) e ∙ (λ i. let_opened l i true context))
    by_layer (Stmt-F.Bare x) e = ap (λ (x : StatementSeen). x.context.known) ((λ i. stmt_opened s i true context) ∙ ap (λ x. stmt_typing (map_stmt trees typing (folds typing expr_typing) x) true context) e)

statements_known : (ss : List Stmt) (context : TypeEnv) → (statements_typing (typing_statements ss) true context).context.known ≡ context.known
statements_known [] context = refl
statements_known (s ∷ ss) context = statements_known ss ((stmt_pair s).1 true context).context ∙ statement_known s context

-- a body whose value has to be of a type goes on to a value of it
pub body_goes : (t : DslxType) (site : SiteEnv) (b : Block) (context : TypeEnv) (env : Env) → IsWellTypedEnv context env → ProcMembersHaveValues context site → IsDeclared (types_at context) t → IsWellTypedPart context.known (body_typing true context (Some t) b)
    → (words : List Word) → ActivityGoesOn t (length (sites_in_stmts (out-Block b).statements)) words (do_stmts site (out-Block b).statements (out-Block b).value env words)
body_goes t site b context env h members declared well_typed words =
    let own = none_in j.faults wrong (none_in (j.faults ++ wrong) size well_typed.faults).0 in
    let seen : IsWellTypedPart context.known (block_seen b true context) = subst (IsWellTypedPart context.known) (λ i. block_opened b i true context) (record { faults = own.0; reached = well_typed.reached }) in
    let s = settled_well_typed context.known (out-Block b).span last.ty (walked.faults ++ last.faults) (walked.reached ++ last.reached) (one_and (plus_size walked.size last.size)) seen in
    let p = none_in walked.faults last.faults s.faults in
    let r = all_in context.known.is_sound walked.reached last.reached s.reached in
    let ends : IsWellTypedPart context.known last = record { faults = p.1; reached = r.1 } in
    statements_go t site (out-Block b).statements (out-Block b).value context env h members p.0 r.0 ends
    (λ inner k. typed (ap (λ (f : Bool → TypeEnv → Judgement). (f true context).ty) (block_opened b) ∙ s.ty) own.1 ends inner k) words
  where
    j : Judgement
    j = (block_pair b).1 true context

    wrong : List Fault
    wrong = wanted_faults (out-Block b).span (Some t) j.ty

    size : List Fault
    size = size_faults context.known (out-Block b).span.to (record j { faults = j.faults ++ wrong })

    walked : StatementSeen
    walked = statements_typing (typing_statements (out-Block b).statements) true context

    last : Judgement
    last = last_typing walked.context (last_pair (out-Block b).value)

    -- the type of the last expression is the one that is wanted
    typed : j.ty ≡ last.ty → wrong ≡ [] → IsWellTypedPart context.known last → (inner : Env) → IsWellTypedEnv walked.context inner → last.ty ≡ Some t
    typed same right ends inner k =
        let known = statements_known (out-Block b).statements context in
        let g = last_known walked.context inner k (out-Block b).value (subst (λ (x : GlobalEnv). IsWellTypedPart x last) (sym known) ends) in
        let u = g.0 in
        let one = one_of_text (types_at context) t u (passed (same_type t u) 9 (out-Block b).span (ap (wanted_faults (out-Block b).span (Some t)) (sym (same ∙ g.1)) ∙ right)) declared
        (subst (λ (x : GlobalEnv). IsDeclared x.items.type_named u) known g.2) in
        g.1 ∙ ap Some (sym one)
