-- The statements of `next` in their order, and the whole body: all words that are sent are values of the types of their channels' words.
use Rattle.std.proofs.Common.{◌≡◌, ◌++◌, Bool, true, false, if◌then◌else◌, List, [], ◌∷◌, map, Option, Some, None, refl, sym, ap, subst, ◌∙◌}
use mathlib.Core.Bool.{true≢false}
use Rattle.std.specs.List.{list_all}
use Rattle.xb_bits.specs.Word.{Word}
use Rattle.xb_span.specs.declared.fault.Fault.{Fault}
use Rattle.xb_span.specs.declared.span.Span.{Span}
use Rattle.xb_value.specs.declared.value.Value.{Value}
use Rattle.dslx_tree.specs.declared.process.Proc.{Proc}
use Rattle.dslx_meaning.specs.declared.value.DslxValue.{DslxValue}
use Rattle.dslx_core.proofs.Lemmas.Typing.Typed.{bound_keeps}
use Rattle.dslx_tree.specs.declared.block.Block.{Block, out-Block}
use Rattle.dslx_tree.specs.declared.block.Let.{Let, out-Let}
use Rattle.dslx_tree.specs.declared.block.Stmt.{Stmt, out-Stmt}
use Rattle.dslx_tree.specs.declared.block.Stmt.TheFolds.{fold_out-Block, fold_out-Let, fold_out-Stmt}
use Rattle.dslx_tree.specs.declared.block.Stmt.TheOpen.{Stmt-F}
use Rattle.dslx_tree.specs.declared.expr.Expr.{Expr}
use Rattle.dslx_tree.specs.declared.pattern.Pattern.{Pattern}
use Rattle.dslx_tree.specs.declared.type_expr.TypeExpr.{TypeExpr}
use Rattle.dslx_tree.proofs.Lemmas.Folds.Folds.{folds, fold_bind, fold_pattern, fold_stmt}
use Rattle.dslx_tree.proofs.Lemmas.Folds.Levels.{map_bind, map_block, map_stmt, trees}
use Rattle.dslx_meaning.specs.Activation.{Further, SiteEnv, SiteName, StmtLayer, activation_of, activity_from, do_stmt, do_stmts, site_names, sites_in_stmt, sites_in_stmts}
use Rattle.dslx_meaning.specs.Environment.{Env, bind}
use Rattle.dslx_meaning.specs.Meaning.{TypeDen, fits_in_scope, fitted, pattern_denotation, written_type}
use Rattle.dslx_meaning.specs.Values.{at_type}
use Rattle.dslx_meaning.specs.declared.ty.DslxType.{DslxType}
use Rattle.dslx_meaning.specs.Rules.AggregateRules.{wanted_faults}
use Rattle.dslx_meaning.specs.Rules.CallRules.{channel_end_in}
use Rattle.dslx_meaning.specs.Rules.ConstantRules.{size_faults}
use Rattle.dslx_meaning.specs.Rules.ControlRules.{annotation_faults, annotation_reached, behind, block_typing, bound_type, last_typing, let_typing, let_with, statements_typing, stmt_typing, written_typing}
use Rattle.dslx_meaning.specs.Rules.EffectNames.{is_effect}
use Rattle.dslx_meaning.specs.Rules.ItemRules.{body_typing}
use Rattle.dslx_meaning.specs.Rules.TypeEnvs.{ExprPair, Judgement, GlobalEnv, TypeEnv, has_broken, no_token, one_and, plus_size, settled, span_of, with_typed}
use Rattle.dslx_meaning.specs.Rules.Typings.{PatternPair, PatternSeen, StatementTyping, StatementSeen, TypePair}
use Rattle.dslx_meaning.specs.Rules.NodeRules.{block_pair, expr_pair, type_pair}
use Rattle.dslx_meaning.specs.Rules.PatternRules.{pattern_alone}
use Rattle.dslx_core.specs.Typing.Typed.Complete.{IsWellTypedPart}
use Rattle.dslx_core.specs.Typing.Typed.Declared.{IsDeclared}
use Rattle.dslx_core.specs.Typing.Typed.Kinds.{is_of}
use Rattle.dslx_core.specs.Typing.Typed.WellTyped.{Fails, Fits, FitsOrFails, IsWellTypedEnv, types_at}
use Rattle.dslx_core.specs.Typing.Sound.Sound.{TypeHasDenIf}
use Rattle.dslx_core.proofs.Lemmas.Typing.Sound.{alone_well_typed, all_in, all_in_three, bound_known, none_in, none_in_three, pattern_gives, settled_well_typed, type_has_den}
use Rattle.dslx_core.specs.Typing.Activities.Members.{IsWellTypedNext, ProcMembersHaveValues, inner_env, inner_type_env}
use Rattle.dslx_total.proofs.OnExpressions.Joined.{seen, seeing}
use Rattle.dslx_total.proofs.OnNets.Effects.{Binds, act_gives}
use Rattle.dslx_total.proofs.OnNets.Given.{BindsAndGives, GiveWords}

-- ---- one level of a statement and of a block

abbrev pub stmt_pair : Stmt → Stmt × StatementTyping
stmt_pair = fold_stmt seen seeing

abbrev bind_pair : Let → Let × StatementTyping
bind_pair = fold_bind seen seeing

abbrev pub pattern_pair : Pattern → PatternPair
pattern_pair = fold_pattern seen seeing

pub stmt_opened : (s : Stmt) → (stmt_pair s).1 ≡ stmt_typing (map_stmt trees seen (folds seen seeing) (out-Stmt s))
stmt_opened s =
    ap (λ (p : seen.stmt). p.1)
    (fold_out-Stmt seen.stmt seen.node seen.shape seen.type_node seen.block seen.bind seen.arg seen.arm seen.expr seen.field seen.loop seen.number seen.pattern seen.type_expr
    seeing.stmt seeing.node seeing.shape seeing.type_node seeing.block seeing.bind seeing.arg seeing.arm seeing.expr seeing.field seeing.loop seeing.number seeing.pattern seeing.type_expr s)

bind_opened : (l : Let) → (bind_pair l).1 ≡ let_typing (map_bind trees seen (folds seen seeing) (out-Let l))
bind_opened l =
    ap (λ (p : seen.bind). p.1)
    (fold_out-Let seen.stmt seen.node seen.shape seen.type_node seen.block seen.bind seen.arg seen.arm seen.expr seen.field seen.loop seen.number seen.pattern seen.type_expr
    seeing.stmt seeing.node seeing.shape seeing.type_node seeing.block seeing.bind seeing.arg seeing.arm seeing.expr seeing.field seeing.loop seeing.number seeing.pattern seeing.type_expr l)

-- a `let`, by the type that is written
abbrev pub pair_if : Option TypeExpr → Option TypePair
pair_if None = None
pair_if (Some t) = Some (type_pair t)

abbrev typing_if : Option TypeExpr → Option TypeDen
typing_if None = None
typing_if (Some t) = Some (written_type t)

written_has_den : (o : Option TypeExpr) → TypeHasDenIf (pair_if o) (typing_if o)
written_has_den None = tt
written_has_den (Some t) = type_has_den t

abbrev pub let_seen : Let → StatementTyping
let_seen l on_top context =
    let value = (expr_pair (out-Let l).value).1 on_top context in
    let written = written_typing context (pair_if (out-Let l).ty) in
    let_with context (expr_pair (out-Let l).value).0 (span_of (expr_pair (out-Let l).value)) value written (pattern_alone false context (bound_type written value.ty) (pattern_pair (out-Let l).pattern))

pub let_opened : (l : Let) → (bind_pair l).1 ≡ let_seen l
let_opened l = bind_opened l ∙ at (out-Let l).ty
  where
    with_written : Option TypeExpr → StatementTyping
    with_written o on_top context =
        let value = (expr_pair (out-Let l).value).1 on_top context in
        let written = written_typing context (pair_if o) in
        let_with context (expr_pair (out-Let l).value).0 (span_of (expr_pair (out-Let l).value)) value written (pattern_alone false context (bound_type written value.ty) (pattern_pair (out-Let l).pattern))

    at : (o : Option TypeExpr)
        → let_typing (map_bind trees seen (folds seen seeing) (record { span = (out-Let l).span; pattern = (out-Let l).pattern; ty = o; value = (out-Let l).value })) ≡ with_written o
    at None = refl
    at (Some t) = refl

-- ---- what a statement binds

-- the type environment behind a statement knows the same, and has the same members
pub record SeesMore (context inner : TypeEnv) : Type 0 where
  pub known : inner.known ≡ context.known
  pub members : inner.members ≡ context.members

-- a place behind a statement
typed_behind : (context : TypeEnv) (bound : PatternSeen) (e : Expr) (env : Env) → IsWellTypedEnv (with_typed context bound.locals) env → IsWellTypedEnv (behind context bound.locals e) env
typed_behind context bound e env h = record {
  locals = h.locals;
  parametric_args = h.parametric_args;
  constants = h.constants;
  members = h.members;
  kinds = h.kinds;
  typed = h.typed;
  valued = h.valued;
  place = record { others = h.place.others; hides = h.place.hides };
  items = h.items;
  known = h.known;
}

typed_alone : (context : TypeEnv) (e : Expr) (env : Env) → IsWellTypedEnv context env → IsWellTypedEnv (behind context context.locals e) env
typed_alone context e env h = record {
  locals = h.locals;
  parametric_args = h.parametric_args;
  constants = h.constants;
  members = h.members;
  kinds = h.kinds;
  typed = h.typed;
  valued = h.valued;
  place = record { others = h.place.others; hides = h.place.hides };
  items = h.items;
  known = h.known;
}

-- what comes behind gives such words from each well typed place
abbrev RestGives : SiteEnv → List SiteName → Further → TypeEnv → Type 0
RestGives site more rest inner = (env : Env) → IsWellTypedEnv inner env → (words : List Word) → GiveWords site more (rest env words).turns

-- a value of the type that the rules give a `let` fits its pattern
let_binds : (site : SiteEnv) (more : List SiteName) (rest : Further) (context : TypeEnv) (env : Env) → IsWellTypedEnv context env → (l : Let) (value : Judgement) → IsWellTypedPart context.known value
    → (let_with context (expr_pair (out-Let l).value).0 (span_of (expr_pair (out-Let l).value)) value (written_typing context (pair_if (out-Let l).ty))
    (pattern_alone false context (bound_type (written_typing context (pair_if (out-Let l).ty)) value.ty) (pattern_pair (out-Let l).pattern))).faults ≡ []
    → list_all context.known.is_sound (let_with context (expr_pair (out-Let l).value).0 (span_of (expr_pair (out-Let l).value)) value (written_typing context (pair_if (out-Let l).ty))
    (pattern_alone false context (bound_type (written_typing context (pair_if (out-Let l).ty)) value.ty) (pattern_pair (out-Let l).pattern))).reached ≡ true
    → RestGives site more rest (let_with context (expr_pair (out-Let l).value).0 (span_of (expr_pair (out-Let l).value)) value (written_typing context (pair_if (out-Let l).ty))
    (pattern_alone false context (bound_type (written_typing context (pair_if (out-Let l).ty)) value.ty) (pattern_pair (out-Let l).pattern))).context
    → Binds (types_at context) site more rest (λ v. fitted (out-Let l).pattern v env) value.ty
let_binds site more rest context env h l value well_typed faults reached goes u v is of declared =
    let p = none_in_three value.faults (annotation_faults span written value.ty) bound.faults faults in
    let r = all_in_three context.known.is_sound value.reached (annotation_reached written) bound.reached reached in
    let own = bound_known context env h span (pair_if (out-Let l).ty) (typing_if (out-Let l).ty) (written_has_den (out-Let l).ty) u (ap (annotation_faults span written) (sym is) ∙ p.1) r.1 in
    let typed : bound_type written value.ty ≡ Some u = ap (bound_type written) is ∙ own in
    fits typed ((pattern_gives (out-Let l).pattern).keeps false context u [] context.locals env env v h h (record { value = v; is = refl; of = of; declared = declared })
    (ap has_broken (ap (λ o. (pattern_alone false context o (pattern_pair (out-Let l).pattern)).faults) (sym typed) ∙ p.2)))
  where
    span : Span
    span = span_of (expr_pair (out-Let l).value)

    written : Option Judgement
    written = written_typing context (pair_if (out-Let l).ty)

    bound : PatternSeen
    bound = pattern_alone false context (bound_type written value.ty) (pattern_pair (out-Let l).pattern)

    fits : bound_type written value.ty ≡ Some u → FitsOrFails false context (pattern_alone false context (Some u) (pattern_pair (out-Let l).pattern)) (fits_in_scope (pattern_denotation (out-Let l).pattern) v env)
        → BindsAndGives site more rest (fits_in_scope (pattern_denotation (out-Let l).pattern) v env)
    fits typed (Fits inner e k) =
        let place = subst (λ o. IsWellTypedEnv (with_typed context (pattern_alone false context o (pattern_pair (out-Let l).pattern)).locals) inner) (sym typed) k in
        record { inner = inner; is = e; gives = goes inner (typed_behind context bound (expr_pair (out-Let l).value).0 inner place) }
    fits typed (Fails e may sure) = absurd (true≢false (sym may))

-- ---- one statement

-- behind it the same is known and the members are the same, and it gives such words where what comes behind it does
record StatementGives (more : List SiteName) (site : SiteEnv) (context : TypeEnv) (env : Env) (rest : Further) (found : StatementSeen) (x : StmtLayer) : Type 0 where
  known : found.context.known ≡ context.known
  members : found.context.members ≡ context.members
  gives : RestGives site more rest found.context → (words : List Word) → GiveWords site (sites_in_stmt x ++ more) (do_stmt site x rest env words).turns

let_gives : (more : List SiteName) (site : SiteEnv) (context : TypeEnv) (env : Env) (rest : Further) → IsWellTypedEnv context env → ProcMembersHaveValues context site → (l : Let) → (let_seen l true context).faults ≡ []
    → list_all context.known.is_sound (let_seen l true context).reached ≡ true → StatementGives more site context env rest (let_seen l true context) (Stmt-F.Let l)
let_gives more site context env rest h members l f r = record {
  known = refl;
  members = refl;
  gives = λ goes words.
      let p = none_in_three value.faults (annotation_faults span written value.ty) bound.faults f in
      let q = all_in_three context.known.is_sound value.reached (annotation_reached written) bound.reached r in
      let well_typed : IsWellTypedPart context.known value = record { faults = p.0; reached = q.0 } in
      act_gives more site (out-Let l).value (λ v. fitted (out-Let l).pattern v env) rest context env h members well_typed (let_binds site more rest context env h l value well_typed f r goes) words;
}
  where
    span : Span
    span = span_of (expr_pair (out-Let l).value)

    value : Judgement
    value = (expr_pair (out-Let l).value).1 true context

    written : Option Judgement
    written = written_typing context (pair_if (out-Let l).ty)

    bound : PatternSeen
    bound = pattern_alone false context (bound_type written value.ty) (pattern_pair (out-Let l).pattern)

bare_gives : (more : List SiteName) (site : SiteEnv) (context : TypeEnv) (env : Env) (rest : Further) → IsWellTypedEnv context env → ProcMembersHaveValues context site → (e : Expr)
    → (stmt_typing (Stmt-F.Bare (expr_pair e)) true context).faults ≡ [] → list_all context.known.is_sound (stmt_typing (Stmt-F.Bare (expr_pair e)) true context).reached ≡ true
    → StatementGives more site context env rest (stmt_typing (Stmt-F.Bare (expr_pair e)) true context) (Stmt-F.Bare e)
bare_gives more site context env rest h members e f r = record {
  known = refl;
  members = refl;
  gives = λ goes words.
      act_gives more site e (λ v. Some env) rest context env h members (well_typed (is_effect (expr_pair e).0) f r)
      (λ u v is of declared. record { inner = env; is = refl; gives = goes env (typed_alone context (expr_pair e).0 env h) }) words;
}
  where
    j : Judgement
    j = (expr_pair e).1 true context

    well_typed : (b : Bool) → (if◌then◌else◌ {A = Judgement} b j (no_token (span_of (expr_pair e)) j)).faults ≡ [] → list_all context.known.is_sound (if◌then◌else◌ {A = Judgement} b j (no_token (span_of (expr_pair e)) j)).reached ≡ true → IsWellTypedPart context.known j
    well_typed true x y = record { faults = x; reached = y }
    well_typed false x y = (alone_well_typed context.known (span_of (expr_pair e)) j (record { faults = x; reached = y })).well_typed

statement_gives : (more : List SiteName) (site : SiteEnv) (context : TypeEnv) (env : Env) (rest : Further) → IsWellTypedEnv context env → ProcMembersHaveValues context site → (s : Stmt) → ((stmt_pair s).1 true context).faults ≡ []
    → list_all context.known.is_sound ((stmt_pair s).1 true context).reached ≡ true → StatementGives more site context env rest ((stmt_pair s).1 true context) (out-Stmt s)
statement_gives more site context env rest h members s f r = by_layer (out-Stmt s) refl
  where
    by_layer : (x : StmtLayer) → out-Stmt s ≡ x → StatementGives more site context env rest ((stmt_pair s).1 true context) (out-Stmt s)
    by_layer (Stmt-F.Let l) e =
        let same : (stmt_pair s).1 true context ≡ let_seen l true context = (λ i. stmt_opened s i true context) ∙ ap (λ x. stmt_typing (map_stmt trees seen (folds seen seeing) x) true context) e ∙ (λ i. let_opened l i true context) in
        let goes = let_gives more site context env rest h members l (ap (λ (x : StatementSeen). x.faults) (sym same) ∙ f) (ap (λ (x : StatementSeen). list_all context.known.is_sound x.reached) (sym same) ∙ r) in
        subst (λ x. StatementGives more site context env rest ((stmt_pair s).1 true context) x) (sym e) (subst (λ (x : StatementSeen). StatementGives more site context env rest x (Stmt-F.Let l)) (sym same) goes)
    by_layer (Stmt-F.Bare x) e =
        let same : (stmt_pair s).1 true context ≡ stmt_typing (Stmt-F.Bare (expr_pair x)) true context = (λ i. stmt_opened s i true context) ∙ ap (λ x. stmt_typing (map_stmt trees seen (folds seen seeing) x) true context) e in
        let goes = bare_gives more site context env rest h members x (ap (λ (x : StatementSeen). x.faults) (sym same) ∙ f) (ap (λ (x : StatementSeen). list_all context.known.is_sound x.reached) (sym same) ∙ r) in
        subst (λ x. StatementGives more site context env rest ((stmt_pair s).1 true context) x) (sym e) (subst (λ (y : StatementSeen). StatementGives more site context env rest y (Stmt-F.Bare x)) (sym same) goes)

-- ---- all statements

abbrev pub typing_statements : List Stmt → List StatementTyping
typing_statements ss = map (λ (p : Stmt × StatementTyping). p.1) (map stmt_pair ss)

abbrev pub last_pair : Option Expr → Option ExprPair
last_pair None = None
last_pair (Some e) = Some (expr_pair e)

-- members stay where the same is known behind a statement
members_stay : (site : SiteEnv) (context inner : TypeEnv) → inner.known ≡ context.known → inner.members ≡ context.members → ProcMembersHaveValues context site → ProcMembersHaveValues inner site
members_stay site context inner known members h name o e =
    let m = h name o (ap (channel_end_in name) (sym members) ∙ e) in
    record { word = m.word; typed = m.typed; means = m.means; declared = subst (λ (k : GlobalEnv). IsDeclared k.items.type_named m.word) (sym known) m.declared; holds = m.holds }

statements_give : (site : SiteEnv) (ss : List Stmt) (o : Option Expr) (context : TypeEnv) (env : Env) → IsWellTypedEnv context env → ProcMembersHaveValues context site → (statements_typing (typing_statements ss) true context).faults ≡ []
    → list_all context.known.is_sound (statements_typing (typing_statements ss) true context).reached ≡ true → (words : List Word) → GiveWords site (sites_in_stmts ss) (do_stmts site ss o env words).turns
statements_give site [] o context env h members f r words = tt
statements_give site (s ∷ ss) o context env h members f r words =
    let first = (stmt_pair s).1 true context in
    let rest = statements_typing (typing_statements ss) true first.context in
    let p = none_in first.faults rest.faults f in
    let q = all_in context.known.is_sound first.reached rest.reached r in
    let one = statement_gives (sites_in_stmts ss) site context env (do_stmts site ss o) h members s p.0 q.0 in
    one.gives (λ inner k words. statements_give site ss o first.context inner k (members_stay site context first.context one.known one.members members) p.1
    (subst (λ (x : GlobalEnv). list_all x.is_sound rest.reached ≡ true) (sym one.known) q.1) words) words

-- ---- the body of `next`

abbrev pub block_seen : Block → Bool → TypeEnv → Judgement
block_seen b on_top context =
    let walked = statements_typing (typing_statements (out-Block b).statements) on_top context in
    let last = last_typing walked.context (last_pair (out-Block b).value) in
    settled (out-Block b).span last.ty (walked.faults ++ last.faults) (walked.reached ++ last.reached) (one_and (plus_size walked.size last.size))

pub block_opened : (b : Block) → (block_pair b).1 ≡ block_seen b
block_opened b =
    ap (λ (p : seen.block). p.1)
    (fold_out-Block seen.stmt seen.node seen.shape seen.type_node seen.block seen.bind seen.arg seen.arm seen.expr seen.field seen.loop seen.number seen.pattern seen.type_expr
    seeing.stmt seeing.node seeing.shape seeing.type_node seeing.block seeing.bind seeing.arg seeing.arm seeing.expr seeing.field seeing.loop seeing.number seeing.pattern seeing.type_expr b)
    ∙ at (out-Block b).value
  where
    with_last : Option Expr → Bool → TypeEnv → Judgement
    with_last o on_top context =
        let walked = statements_typing (typing_statements (out-Block b).statements) on_top context in
        let last = last_typing walked.context (last_pair o) in
        settled (out-Block b).span last.ty (walked.faults ++ last.faults) (walked.reached ++ last.reached) (one_and (plus_size walked.size last.size))

    at : (o : Option Expr) → block_typing (map_block trees seen (folds seen seeing) (record { span = (out-Block b).span; statements = (out-Block b).statements; value = o })) ≡ with_last o
    at None = refl
    at (Some e) = refl

-- a body whose value has to be of a type
body_gives : (t : DslxType) (site : SiteEnv) (b : Block) (context : TypeEnv) (env : Env) → IsWellTypedEnv context env → ProcMembersHaveValues context site → IsWellTypedPart context.known (body_typing true context (Some t) b)
    → (words : List Word) → GiveWords site (sites_in_stmts (out-Block b).statements) (do_stmts site (out-Block b).statements (out-Block b).value env words).turns
body_gives t site b context env h members well_typed words =
    let own = none_in j.faults wrong (none_in (j.faults ++ wrong) size well_typed.faults).0 in
    let whole : IsWellTypedPart context.known (block_seen b true context) = subst (IsWellTypedPart context.known) (λ i. block_opened b i true context) (record { faults = own.0; reached = well_typed.reached }) in
    let s = settled_well_typed context.known (out-Block b).span last.ty (walked.faults ++ last.faults) (walked.reached ++ last.reached) (one_and (plus_size walked.size last.size)) whole in
    statements_give site (out-Block b).statements (out-Block b).value context env h members (none_in walked.faults last.faults s.faults).0 (all_in context.known.is_sound walked.reached last.reached s.reached).0 words
  where
    j : Judgement
    j = (block_pair b).1 true context

    wrong : List Fault
    wrong = wanted_faults (out-Block b).span (Some t) j.ty

    size : List Fault
    size = size_faults context.known (out-Block b).span.to (record j { faults = j.faults ++ wrong })

    walked : StatementSeen
    walked = statements_typing (typing_statements (out-Block b).statements) true context

    last : Judgement
    last = last_typing walked.context (last_pair (out-Block b).value)

-- an activation from a state of its type
pub activation_gives : (known : GlobalEnv) (p : Proc) (parametric_args : List DslxValue) (t : DslxType) → IsWellTypedNext known p parametric_args t → (state : Value) → is_of t (at_type t state) ≡ true
    → (words : List Word) → GiveWords (record { members = p.members; env = inner_env known p parametric_args }) (site_names p) (activation_of known.items p parametric_args state words).turns
activation_gives known p parametric_args t h state of words =
    subst (λ o. GiveWords site (site_names p) (activity_from known.items p parametric_args state words o).turns) (sym h.state)
    (body_gives t site p.next.body inside (bind p.next.state.name (at_type t state) env) typed members h.body words)
  where
    env : Env
    env = inner_env known p parametric_args

    site : SiteEnv
    site = record { members = p.members; env = env }

    inside : TypeEnv
    inside = with_typed (inner_type_env known p parametric_args) (record { name = p.next.state.name; ty = Some t } ∷ [])

    typed : IsWellTypedEnv inside (bind p.next.state.name (at_type t state) env)
    typed = bound_keeps (inner_type_env known p parametric_args) [] env p.next.state.name t (at_type t state) h.typed (record { value = at_type t state; is = refl; of = of; declared = h.declared }) h.name

    members : ProcMembersHaveValues inside site
    members name o e = let m = h.members name o e in record { word = m.word; typed = m.typed; means = m.means; declared = m.declared; holds = m.holds }
