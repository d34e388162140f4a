-- Sites of a `next` with which nothing is wrong: each stands at a member that goes its way, and there are no more than the limit allows.
use Rattle.std.proofs.Common.{◌≡◌, ◌≤◌, ◌||◌, ◌++◌, ℕ, Bool, true, false, not, if◌then◌else◌, List, [], ◌∷◌, map, length, Option, Some, None, arith, refl, sym, ap, subst, ◌∙◌}
use Rattle.std.specs.List.{list_all}
use Rattle.std.proofs.lemmas.List.{length-append}
use Rattle.xb_span.specs.declared.fault.Fault.{Fault}
use Rattle.xb_span.specs.declared.span.Span.{Span}
use Rattle.xb_value.proofs.Lemmas.Types.{EachHas}
use Rattle.dslx_tree.specs.declared.block.Block.{Block, out-Block}
use Rattle.dslx_tree.specs.declared.block.Let.{Let, out-Let}
use Rattle.dslx_tree.specs.declared.block.Stmt.{Stmt, out-Stmt}
use Rattle.dslx_tree.specs.declared.block.Stmt.TheOpen.{Node-F, Stmt-F}
use Rattle.dslx_tree.specs.declared.expr.Arg.{Arg}
use Rattle.dslx_tree.specs.declared.expr.Expr.{Expr, out-Expr}
use Rattle.dslx_tree.specs.declared.ident.Ident.{Ident}
use Rattle.dslx_tree.specs.declared.process.Direction.{Direction}
use Rattle.dslx_tree.specs.declared.process.Direction.TheVariants.{In, Out}
use Rattle.dslx_tree.proofs.Lemmas.Folds.Folds.{folds}
use Rattle.dslx_tree.proofs.Lemmas.Folds.Levels.{map_stmt, trees}
use Rattle.dslx_meaning.specs.Activation.{NodeLayer, SendsWord, SendsWordIf, SiteAct, SiteName, StmtLayer, TakesWord, TakesWordIf, act_of, act_of_call, act_of_node, at_channel, name_in_node, node_of, sites_in_act, sites_in_stmt, sites_in_stmts}
use Rattle.dslx_meaning.specs.Callees.{AllOnes, CallKind, Calls, CountsLeading, CountsTrailing, Joins, Parity, Receives, ReceivesIf, Reverses, Sends, SendsIf, SomeOne, Updates, kind_of_call}
use Rattle.dslx_meaning.specs.Lists.{and_then}
use Rattle.dslx_meaning.specs.Types.{received}
use Rattle.dslx_meaning.specs.declared.ty.DslxType as ty
use Rattle.dslx_meaning.specs.declared.ty.DslxType.{DslxType}
use Rattle.dslx_meaning.specs.Rules.AggregateRules.{wanted_faults}
use Rattle.dslx_meaning.specs.Rules.CallRules.{call_typing, channel_end_at, channel_end_if, channel_end_in, channel_named, channel_seen, given_parametric_args, goes_there, has_site, receiving, receiving_if, same_direction, sending, sending_if, site_faults, token_typing, word_of}
use Rattle.dslx_meaning.specs.Rules.ConstantRules.{size_faults}
use Rattle.dslx_meaning.specs.Rules.ControlRules.{annotation_faults, annotation_reached, bound_type, last_typing, statements_typing, stmt_typing, written_typing}
use Rattle.dslx_meaning.specs.Rules.EffectNames.{is_effect, is_effect_kind, is_effect_node}
use Rattle.dslx_meaning.specs.Rules.ItemRules.{body_typing}
use Rattle.dslx_meaning.specs.Rules.NodeRules.{arg_pair, block_pair, expr_pair}
use Rattle.dslx_meaning.specs.Rules.OperatorRules.{is_bool, unless_type}
use Rattle.dslx_meaning.specs.Rules.PatternRules.{pattern_alone}
use Rattle.dslx_meaning.specs.Rules.ProcRules.{count_sites, counts_site}
use Rattle.dslx_meaning.specs.Rules.TypeEnvs.{ChannelEnd, GlobalEnv, Judgement, TypeEnv, alone, breaks, breaks_if, name_of_expr, no_token, one_and, plus_size, span_of, typed_in}
use Rattle.dslx_meaning.specs.Rules.Typings.{StatementSeen, typing_sorts}
use Rattle.dslx_meaning.specs.Rules.NodeRules.{typing_steps}
use Rattle.dslx_core.proofs.Lemmas.Typing.Sound.{all_in, all_in_three, alone_well_typed, none_in, none_in_three, not_broken, own_expr, settled_well_typed, some_fault}
use Rattle.dslx_core.proofs.Lemmas.Typing.Typed.{none_some, not_false, or_false}
use Rattle.dslx_core.specs.Typing.Typed.Complete.{IsWellTypedPart}
use Rattle.dslx_total.proofs.OnExpressions.Joined.{seen, seeing}
use Rattle.dslx_total.proofs.OnNets.Bodies.{block_opened, block_seen, last_pair, let_opened, let_seen, pair_if, pattern_pair, stmt_opened, stmt_pair, typing_statements}
use Rattle.dslx_total.proofs.OnNets.Effects.{effect_well_typed, expr_opened, if_named, named_act, never_wrong_effect, node_seen}
use Rattle.dslx_total.proofs.OnNets.Ends.{one_direction}

abbrev pub way_of : Bool → Direction
way_of false = In
way_of true = Out

-- the member of a site is an end that goes its way
pub record SiteStands (context : TypeEnv) (n : SiteName) : Type 0 where
  pub channel_end : ChannelEnd
  pub found : channel_end_in n.member context.members ≡ Some channel_end
  pub goes : way_of n.sends ≡ channel_end.direction

abbrev pub SitesStand : TypeEnv → List SiteName → Type 0
SitesStand context ns = EachHas (SiteStands context) ns

-- ---- effects

record ChannelThere (context : TypeEnv) (direction : Direction) (c : Expr) : Type 0 where
  name : List ℕ
  named : name_in_node (node_of c) ≡ Some name
  channel_end : ChannelEnd
  found : channel_end_in name context.members ≡ Some channel_end
  goes : direction ≡ channel_end.direction

channel_there : (span : Span) (context : TypeEnv) (direction : Direction) (c : Expr) → site_faults span context direction (channel_seen context (expr_pair c)) ≡ [] → ChannelThere context direction c
channel_there span context direction c e = by_name (name_of_expr (expr_pair c)) refl e
  where
    same : name_of_expr (expr_pair c) ≡ name_in_node (node_of c)
    same = ap (λ x. name_in_node (node_of x)) (own_expr typing_sorts typing_steps c)

    end_there : (l : Option (Option DslxType)) (p : Option ChannelEnd) (o : ChannelEnd) → channel_end_if l p ≡ Some o → p ≡ Some o
    end_there None p o q = q
    end_there (Some u) p o q = none_some o q

    by_channel_end : (name : List ℕ) → name_of_expr (expr_pair c) ≡ Some name → (p : Option ChannelEnd) → channel_end_at context name ≡ p → breaks_if (not (goes_there direction p) || has_site context (Some name)) 29 span ≡ []
        → ChannelThere context direction c
    by_channel_end name n None q k = some_fault (breaks 29 span) [] k
    by_channel_end name n (Some o) q k = record {
      name = name;
      named = sym same ∙ n;
      channel_end = o;
      found = end_there (typed_in name context.locals) (channel_end_in name context.members) o q;
      goes = one_direction direction o.direction (not_false (same_direction direction o.direction)
          (or_false (not (same_direction direction o.direction)) (has_site context (Some name)) (not_broken (not (same_direction direction o.direction) || has_site context (Some name)) 29 span k)).0);
    }

    by_name : (n : Option (List ℕ)) → name_of_expr (expr_pair c) ≡ n → site_faults span context direction (channel_named context (expr_pair c) n) ≡ [] → ChannelThere context direction c
    by_name None n k = some_fault (breaks 29 span) [] k
    by_name (Some name) n k = by_channel_end name n (channel_end_at context name) refl k

-- a site at the channel of an effect
at_stands : (context : TypeEnv) (sends : Bool) (c : Expr) (act : List ℕ → SiteAct) → ((name : List ℕ) → sites_in_act (act name) ≡ record { member = name; sends = sends } ∷ []) → ChannelThere context (way_of sends) c
    → SitesStand context (sites_in_act (at_channel c act))
at_stands context sends c act is k =
    subst (λ a. SitesStand context (sites_in_act a)) (sym (named_act (at_channel c act) c act k.name k.named refl))
    (subst (SitesStand context) (sym (is k.name)) (record { channel_end = k.channel_end; found = k.found; goes = k.goes }, tt))

act_stands : (e : Expr) (context : TypeEnv) → IsWellTypedPart context.known ((expr_pair e).1 true context) → SitesStand context (sites_in_act (act_of e))
act_stands e context well_typed = by_node (node_of e) (subst (IsWellTypedPart context.known) (expr_opened e true context) well_typed)
  where
    span : Span
    span = (out-Expr e).span

    Stands : SiteAct → Type 0
    Stands a = SitesStand context (sites_in_act a)

    by_receive : (es : List Expr) → IsWellTypedPart context.known (receiving span context (map expr_pair es)) → SitesStand context (sites_in_act (act_of_call Receives es))
    by_receive (x ∷ c ∷ []) f =
        let there = channel_seen context (expr_pair c) in
        let w = effect_well_typed span context In (token_typing context (expr_pair x)) there [] [] (and_then (word_of there) (λ w. Some (received w))) f in
        at_stands context false c TakesWord (λ name. refl) (channel_there span context In c w.site)
    by_receive [] f = never_wrong_effect span context [] [] f
    by_receive (x ∷ []) f = never_wrong_effect span context [] (map expr_pair (x ∷ [])) f
    by_receive (x ∷ c ∷ y ∷ es) f = never_wrong_effect span context [] (map expr_pair (x ∷ c ∷ y ∷ es)) f

    by_receive_if : (es : List Expr) → IsWellTypedPart context.known (receiving_if span context (map expr_pair es)) → SitesStand context (sites_in_act (act_of_call ReceivesIf es))
    by_receive_if (x ∷ c ∷ p ∷ d ∷ []) f =
        let there = channel_seen context (expr_pair c) in
        let condition = alone context (expr_pair p) in
        let default = alone context (expr_pair d) in
        let rules = unless_type is_bool 15 (span_of (expr_pair p)) condition.ty ++ wanted_faults (span_of (expr_pair d)) (word_of there) default.ty in
        let w = effect_well_typed span context In (token_typing context (expr_pair x)) there (condition ∷ default ∷ []) rules (and_then (word_of there) (λ w. Some (received w))) f in
        at_stands context false c (λ name. TakesWordIf name p d) (λ name. refl) (channel_there span context In c w.site)
    by_receive_if [] f = never_wrong_effect span context [] [] f
    by_receive_if (x ∷ []) f = never_wrong_effect span context [] (map expr_pair (x ∷ [])) f
    by_receive_if (x ∷ c ∷ []) f = never_wrong_effect span context [] (map expr_pair (x ∷ c ∷ [])) f
    by_receive_if (x ∷ c ∷ p ∷ []) f = never_wrong_effect span context [] (map expr_pair (x ∷ c ∷ p ∷ [])) f
    by_receive_if (x ∷ c ∷ p ∷ d ∷ y ∷ es) f = never_wrong_effect span context [] (map expr_pair (x ∷ c ∷ p ∷ d ∷ y ∷ es)) f

    by_send : (es : List Expr) → IsWellTypedPart context.known (sending span context (map expr_pair es)) → SitesStand context (sites_in_act (act_of_call Sends es))
    by_send (x ∷ c ∷ d ∷ []) f =
        let there = channel_seen context (expr_pair c) in
        let word = alone context (expr_pair d) in
        let w = effect_well_typed span context Out (token_typing context (expr_pair x)) there (word ∷ []) (wanted_faults (span_of (expr_pair d)) (word_of there) word.ty) (and_then (word_of there) (λ w. Some ty.Token)) f in
        at_stands context true c (λ name. SendsWord name d) (λ name. refl) (channel_there span context Out c w.site)
    by_send [] f = never_wrong_effect span context [] [] f
    by_send (x ∷ []) f = never_wrong_effect span context [] (map expr_pair (x ∷ [])) f
    by_send (x ∷ c ∷ []) f = never_wrong_effect span context [] (map expr_pair (x ∷ c ∷ [])) f
    by_send (x ∷ c ∷ d ∷ y ∷ es) f = never_wrong_effect span context [] (map expr_pair (x ∷ c ∷ d ∷ y ∷ es)) f

    by_send_if : (es : List Expr) → IsWellTypedPart context.known (sending_if span context (map expr_pair es)) → SitesStand context (sites_in_act (act_of_call SendsIf es))
    by_send_if (x ∷ c ∷ p ∷ d ∷ []) f =
        let there = channel_seen context (expr_pair c) in
        let condition = alone context (expr_pair p) in
        let word = alone context (expr_pair d) in
        let rules = unless_type is_bool 15 (span_of (expr_pair p)) condition.ty ++ wanted_faults (span_of (expr_pair d)) (word_of there) word.ty in
        let w = effect_well_typed span context Out (token_typing context (expr_pair x)) there (condition ∷ word ∷ []) rules (and_then (word_of there) (λ w. Some ty.Token)) f in
        at_stands context true c (λ name. SendsWordIf name p d) (λ name. refl) (channel_there span context Out c w.site)
    by_send_if [] f = never_wrong_effect span context [] [] f
    by_send_if (x ∷ []) f = never_wrong_effect span context [] (map expr_pair (x ∷ [])) f
    by_send_if (x ∷ c ∷ []) f = never_wrong_effect span context [] (map expr_pair (x ∷ c ∷ [])) f
    by_send_if (x ∷ c ∷ p ∷ []) f = never_wrong_effect span context [] (map expr_pair (x ∷ c ∷ p ∷ [])) f
    by_send_if (x ∷ c ∷ p ∷ d ∷ y ∷ es) f = never_wrong_effect span context [] (map expr_pair (x ∷ c ∷ p ∷ d ∷ y ∷ es)) f

    by_kind : (k : CallKind) (f : Ident) (ns : List Arg) (es : List Expr) → IsWellTypedPart context.known (call_typing k span f (map arg_pair ns) (map expr_pair es) true context) → SitesStand context (sites_in_act (act_of_call k es))
    by_kind Receives f [] es y = by_receive es y
    by_kind Receives f (n ∷ ns) es y = never_wrong_effect span context (given_parametric_args context (map arg_pair (n ∷ ns))) (map expr_pair es) y
    by_kind ReceivesIf f [] es y = by_receive_if es y
    by_kind ReceivesIf f (n ∷ ns) es y = never_wrong_effect span context (given_parametric_args context (map arg_pair (n ∷ ns))) (map expr_pair es) y
    by_kind Sends f [] es y = by_send es y
    by_kind Sends f (n ∷ ns) es y = never_wrong_effect span context (given_parametric_args context (map arg_pair (n ∷ ns))) (map expr_pair es) y
    by_kind SendsIf f [] es y = by_send_if es y
    by_kind SendsIf f (n ∷ ns) es y = never_wrong_effect span context (given_parametric_args context (map arg_pair (n ∷ ns))) (map expr_pair es) y
    by_kind Joins f ns es y = tt
    by_kind CountsLeading f ns es y = tt
    by_kind CountsTrailing f ns es y = tt
    by_kind Reverses f ns es y = tt
    by_kind AllOnes f ns es y = tt
    by_kind SomeOne f ns es y = tt
    by_kind Parity f ns es y = tt
    by_kind Updates f ns es y = tt
    by_kind Calls f ns es y = tt

    by_node : (x : NodeLayer) → IsWellTypedPart context.known (node_seen x span true context) → SitesStand context (sites_in_act (act_of_node x))
    by_node (Node-F.Call f ns es) y = by_kind (kind_of_call f.name) f ns es y
    by_node _ y = tt

-- ---- statements

record StatementStands (context : TypeEnv) (found : StatementSeen) (x : StmtLayer) : Type 0 where
  known : found.context.known ≡ context.known
  members : found.context.members ≡ context.members
  sites : SitesStand context (sites_in_stmt x)

let_stands : (l : Let) (context : TypeEnv) → (let_seen l true context).faults ≡ [] → list_all context.known.is_sound (let_seen l true context).reached ≡ true → StatementStands context (let_seen l true context) (Stmt-F.Let l)
let_stands l context f r =
    let span = span_of (expr_pair (out-Let l).value) in
    let value = (expr_pair (out-Let l).value).1 true context in
    let written = written_typing context (pair_if (out-Let l).ty) in
    let bound = pattern_alone false context (bound_type written value.ty) (pattern_pair (out-Let l).pattern) in
    let p = none_in_three value.faults (annotation_faults span written value.ty) bound.faults f in
    let q = all_in_three context.known.is_sound value.reached (annotation_reached written) bound.reached r in
    record { known = refl; members = refl; sites = act_stands (out-Let l).value context (record { faults = p.0; reached = q.0 }) }

bare_stands : (e : Expr) (context : TypeEnv) → (stmt_typing (Stmt-F.Bare (expr_pair e)) true context).faults ≡ [] → list_all context.known.is_sound (stmt_typing (Stmt-F.Bare (expr_pair e)) true context).reached ≡ true
    → StatementStands context (stmt_typing (Stmt-F.Bare (expr_pair e)) true context) (Stmt-F.Bare e)
bare_stands e context f r = record { known = refl; members = refl; sites = act_stands e context (well_typed (is_effect (expr_pair e).0) f r) }
  where
    j : Judgement
    j = (expr_pair e).1 true context

    well_typed : (b : Bool) → (if◌then◌else◌ {A = Judgement} b j (no_token (span_of (expr_pair e)) j)).faults ≡ [] → list_all context.known.is_sound (if◌then◌else◌ {A = Judgement} b j (no_token (span_of (expr_pair e)) j)).reached ≡ true → IsWellTypedPart context.known j
    well_typed true x y = record { faults = x; reached = y }
    well_typed false x y = (alone_well_typed context.known (span_of (expr_pair e)) j (record { faults = x; reached = y })).well_typed

statement_stands : (s : Stmt) (context : TypeEnv) → ((stmt_pair s).1 true context).faults ≡ [] → list_all context.known.is_sound ((stmt_pair s).1 true context).reached ≡ true → StatementStands context ((stmt_pair s).1 true context) (out-Stmt s)
statement_stands s context f r = by_layer (out-Stmt s) refl
  where
    by_layer : (x : StmtLayer) → out-Stmt s ≡ x → StatementStands context ((stmt_pair s).1 true context) (out-Stmt s)
    by_layer (Stmt-F.Let l) e =
        let same : (stmt_pair s).1 true context ≡ let_seen l true context = (λ i. stmt_opened s i true context) ∙ ap (λ x. stmt_typing (map_stmt trees seen (folds seen seeing) x) true context) e ∙ (λ i. let_opened l i true context) in
        let goes = let_stands l context (ap (λ (x : StatementSeen). x.faults) (sym same) ∙ f) (ap (λ (x : StatementSeen). list_all context.known.is_sound x.reached) (sym same) ∙ r) in
        subst (λ x. StatementStands context ((stmt_pair s).1 true context) x) (sym e) (subst (λ (x : StatementSeen). StatementStands context x (Stmt-F.Let l)) (sym same) goes)
    by_layer (Stmt-F.Bare x) e =
        let same : (stmt_pair s).1 true context ≡ stmt_typing (Stmt-F.Bare (expr_pair x)) true context = (λ i. stmt_opened s i true context) ∙ ap (λ x. stmt_typing (map_stmt trees seen (folds seen seeing) x) true context) e in
        let goes = bare_stands x context (ap (λ (x : StatementSeen). x.faults) (sym same) ∙ f) (ap (λ (x : StatementSeen). list_all context.known.is_sound x.reached) (sym same) ∙ r) in
        subst (λ x. StatementStands context ((stmt_pair s).1 true context) x) (sym e) (subst (λ (y : StatementSeen). StatementStands context y (Stmt-F.Bare x)) (sym same) goes)

join_sites : (context : TypeEnv) (xs ys : List SiteName) → SitesStand context xs → SitesStand context ys → SitesStand context (xs ++ ys)
join_sites context [] ys h k = k
join_sites context (x ∷ xs) ys h k = (h.0, join_sites context xs ys h.1 k)

-- the same members
with_members : (context inner : TypeEnv) → inner.members ≡ context.members → (ns : List SiteName) → SitesStand inner ns → SitesStand context ns
with_members context inner e [] h = tt
with_members context inner e (n ∷ ns) h =
    let one = h.0 in
    (record { channel_end = one.channel_end; found = ap (channel_end_in n.member) (sym e) ∙ one.found; goes = one.goes }, with_members context inner e ns h.1)

statements_stand : (ss : List Stmt) (context : TypeEnv) → (statements_typing (typing_statements ss) true context).faults ≡ [] → list_all context.known.is_sound (statements_typing (typing_statements ss) true context).reached ≡ true
    → SitesStand context (sites_in_stmts ss)
statements_stand [] context f r = tt
statements_stand (s ∷ ss) context f r =
    let first = (stmt_pair s).1 true context in
    let rest = statements_typing (typing_statements ss) true first.context in
    let p = none_in first.faults rest.faults f in
    let q = all_in context.known.is_sound first.reached rest.reached r in
    let one = statement_stands s context p.0 q.0 in
    let others = statements_stand ss first.context p.1 (subst (λ (x : GlobalEnv). list_all x.is_sound rest.reached ≡ true) (sym one.known) q.1) in
    join_sites context (sites_in_stmt (out-Stmt s)) (sites_in_stmts ss) one.sites (with_members context first.context one.members (sites_in_stmts ss) others)

pub body_stands : (t : DslxType) (b : Block) (context : TypeEnv) → IsWellTypedPart context.known (body_typing true context (Some t) b) → SitesStand context (sites_in_stmts (out-Block b).statements)
body_stands t b context well_typed =
    let own = none_in j.faults wrong (none_in (j.faults ++ wrong) size well_typed.faults).0 in
    let whole : IsWellTypedPart context.known (block_seen b true context) = subst (IsWellTypedPart context.known) (λ i. block_opened b i true context) (record { faults = own.0; reached = well_typed.reached }) in
    let s = settled_well_typed context.known (out-Block b).span last.ty (walked.faults ++ last.faults) (walked.reached ++ last.reached) (one_and (plus_size walked.size last.size)) whole in
    statements_stand (out-Block b).statements context (none_in walked.faults last.faults s.faults).0 (all_in context.known.is_sound walked.reached last.reached s.reached).0
  where
    j : Judgement
    j = (block_pair b).1 true context

    wrong : List Fault
    wrong = wanted_faults (out-Block b).span (Some t) j.ty

    size : List Fault
    size = size_faults context.known (out-Block b).span.to (record j { faults = j.faults ++ wrong })

    walked : StatementSeen
    walked = statements_typing (typing_statements (out-Block b).statements) true context

    last : Judgement
    last = last_typing walked.context (last_pair (out-Block b).value)

-- ---- how many they are

named_few : (c : Expr) (act : List ℕ → SiteAct) → ((name : List ℕ) → length (sites_in_act (act name)) ≤ 1) → length (sites_in_act (at_channel c act)) ≤ 1
named_few c act h = by (name_in_node (node_of c))
  where
    by : (o : Option (List ℕ)) → length (sites_in_act (if_named act o)) ≤ 1
    by None = omega arith
    by (Some name) = h name

call_few : (k : CallKind) (es : List Expr) → length (sites_in_act (act_of_call k es)) ≤ (if is_effect_kind k then 1 else 0)
call_few Receives (x ∷ c ∷ []) = named_few c TakesWord (λ name. omega arith)
call_few Receives [] = omega arith
call_few Receives (x ∷ []) = omega arith
call_few Receives (x ∷ c ∷ y ∷ es) = omega arith
call_few ReceivesIf (x ∷ c ∷ p ∷ d ∷ []) = named_few c (λ name. TakesWordIf name p d) (λ name. omega arith)
call_few ReceivesIf [] = omega arith
call_few ReceivesIf (x ∷ []) = omega arith
call_few ReceivesIf (x ∷ c ∷ []) = omega arith
call_few ReceivesIf (x ∷ c ∷ p ∷ []) = omega arith
call_few ReceivesIf (x ∷ c ∷ p ∷ d ∷ y ∷ es) = omega arith
call_few Sends (x ∷ c ∷ d ∷ []) = named_few c (λ name. SendsWord name d) (λ name. omega arith)
call_few Sends [] = omega arith
call_few Sends (x ∷ []) = omega arith
call_few Sends (x ∷ c ∷ []) = omega arith
call_few Sends (x ∷ c ∷ d ∷ y ∷ es) = omega arith
call_few SendsIf (x ∷ c ∷ p ∷ d ∷ []) = named_few c (λ name. SendsWordIf name p d) (λ name. omega arith)
call_few SendsIf [] = omega arith
call_few SendsIf (x ∷ []) = omega arith
call_few SendsIf (x ∷ c ∷ []) = omega arith
call_few SendsIf (x ∷ c ∷ p ∷ []) = omega arith
call_few SendsIf (x ∷ c ∷ p ∷ d ∷ y ∷ es) = omega arith
call_few Joins es = omega arith
call_few CountsLeading es = omega arith
call_few CountsTrailing es = omega arith
call_few Reverses es = omega arith
call_few AllOnes es = omega arith
call_few SomeOne es = omega arith
call_few Parity es = omega arith
call_few Updates es = omega arith
call_few Calls es = omega arith

act_few : (e : Expr) → length (sites_in_act (act_of e)) ≤ (if is_effect e then 1 else 0)
act_few e = by (node_of e)
  where
    by : (x : NodeLayer) → length (sites_in_act (act_of_node x)) ≤ (if is_effect_node x then 1 else 0)
    by (Node-F.Call f ns es) = call_few (kind_of_call f.name) es
    by _ = omega arith

stmt_few : (x : StmtLayer) → length (sites_in_stmt x) ≤ counts_site x
stmt_few (Stmt-F.Let l) = act_few (out-Let l).value
stmt_few (Stmt-F.Bare e) = act_few e

pub few_sites : (ss : List Stmt) → length (sites_in_stmts ss) ≤ count_sites ss
few_sites [] = omega arith
few_sites (s ∷ ss) =
    let many = length-append (sites_in_stmt (out-Stmt s)) (sites_in_stmts ss) in
    let first = stmt_few (out-Stmt s) in
    let rest = few_sites ss in
    omega (arith, many, first, rest)
