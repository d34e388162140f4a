-- Effects with which nothing is wrong: each word that is sent is a value of the type of its channel's words.
use Rattle.std.proofs.Common.{◌≡◌, ◌++◌, ◌&&◌, ◌||◌, not, ℕ, Bool, true, false, List, [], ◌∷◌, map, Option, Some, None, refl, sym, ap, subst, ◌∙◌}
use mathlib.Core.Bool.{true≢false}
use Rattle.std.specs.List.{list_all}
use Rattle.xb_bits.specs.Word.{Word}
use Rattle.xb_span.specs.declared.fault.Fault.{Fault}
use Rattle.xb_span.specs.declared.span.Span.{Span}
use Rattle.dslx_tree.specs.declared.block.Stmt.TheFolds.{fold_out-Expr, fold_out-Node}
use Rattle.dslx_tree.specs.declared.block.Stmt.TheOpen.{Node-F}
use Rattle.dslx_tree.specs.declared.expr.Arg.{Arg}
use Rattle.dslx_tree.specs.declared.expr.Expr.{Expr, out-Expr}
use Rattle.dslx_tree.specs.declared.ident.Ident.{Ident}
use Rattle.dslx_tree.specs.declared.process.Direction.{Direction}
use Rattle.dslx_tree.specs.declared.process.Direction.TheVariants.{In, Out}
use Rattle.dslx_tree.proofs.Lemmas.Folds.Folds.{folds}
use Rattle.dslx_tree.proofs.Lemmas.Folds.Levels.{map_node, trees}
use Rattle.dslx_meaning.specs.Activation.{Binder, Computes, Further, NodeLayer, SendsWord, SendsWordIf, SiteAct, SiteEnv, SiteName, TakesWord, TakesWordIf, act_of, act_of_call, act_of_node, at_channel, send_word, take_word, do_act, name_in_node, node_of, pair_with, sites_in_act, word_type_at}
use Rattle.dslx_meaning.specs.Callees.{AllOnes, CallKind, Calls, CountsLeading, CountsTrailing, Joins, Parity, Receives, ReceivesIf, Reverses, Sends, SendsIf, SomeOne, Updates, kind_of_call}
use Rattle.dslx_meaning.specs.Environment.{Env}
use Rattle.dslx_meaning.specs.Lists.{and_then, all_some}
use Rattle.dslx_meaning.specs.Meaning.{denotation, value_of}
use Rattle.dslx_meaning.specs.Operators.{truth}
use Rattle.dslx_meaning.specs.Types.{received, same_type}
use Rattle.dslx_meaning.specs.Values.{flat_word, from_word}
use Rattle.dslx_meaning.specs.declared.ty.DslxType as ty
use Rattle.dslx_meaning.specs.declared.ty.DslxType.{DslxType}
use Rattle.dslx_meaning.specs.declared.value.DslxValue as value
use Rattle.dslx_meaning.specs.declared.value.DslxValue.{DslxValue}
use Rattle.dslx_meaning.specs.declared.value.DslxValue.TheViews as views
use Rattle.dslx_meaning.specs.Rules.AggregateRules.{wanted_faults, when_all}
use Rattle.dslx_meaning.specs.Rules.CallRules.{ChannelSeen, ParametricArgument, call_typing, call_parts_faults, call_parts_reached, held_typing, channel_named, channel_seen, effect_with, given_parametric_args, goes_there, has_site, channel_end_at, channel_end_if, channel_end_in, receiving, receiving_if, sending, sending_if, site_faults, token_faults, token_typing, word_of, wrong_call, wrong_effect}
use Rattle.dslx_meaning.specs.Rules.EffectNames.{is_effect_kind}
use Rattle.dslx_meaning.specs.Rules.Typings.{ArgPair, typing_sorts}
use Rattle.dslx_meaning.specs.Rules.TypeEnvs.{ExprPair, Judgement, GlobalEnv, ChannelEnd, TypeEnv, all_alone, alone, breaks, breaks_if, faults_of_all, name_of_expr, one_and, plus_size, reached_of_all, size_of_all, span_of, typed_in, types_of, within}
use Rattle.dslx_meaning.specs.Rules.NodeRules.{arg_pair, expr_pair, node_typing, typing_steps}
use Rattle.dslx_meaning.specs.Rules.OperatorRules.{is_bool, unless_type}
use Rattle.dslx_core.specs.Typing.Typed.Complete.{IsWellTypedPart}
use Rattle.dslx_core.specs.Typing.Typed.Declared.{Declarations, IsDeclared}
use Rattle.dslx_core.specs.Typing.Typed.Kinds.{is_of, is_some_token, tuple_of}
use Rattle.dslx_core.specs.Typing.Typed.WellTyped.{IsWellTypedEnv, types_at}
use Rattle.dslx_core.proofs.Lemmas.Typing.Typed.{none_some, of_token, of_tuple, one_of_text, same_some, tuple_declared}
use Rattle.dslx_core.specs.Typing.Sound.Sound.{HasTypedValue}
use Rattle.dslx_core.proofs.Lemmas.Typing.Sound.{all_in, alone_has, expression_gives, expression_has, none_in, own_expr, passed, settled_well_typed, some_fault, token_declared}
use Rattle.dslx_core.specs.Typing.Activities.Members.{ProcMemberHasValues, ProcMembersHaveValues}
use Rattle.dslx_total.proofs.OnExpressions.Joined.{seen, seeing}
use Rattle.dslx_total.proofs.OnNets.Given.{BindsAndGives, GiveWords, IsWordThere, if_gives, send_gives, take_gives, value_gives}

-- ---- one level of an expression

-- what the rules say of what an expression is
abbrev pub node_seen : NodeLayer → Span → Bool → TypeEnv → Judgement
node_seen x span on_top context = node_typing (map_node trees seen (folds seen seeing) x) span on_top context

pub expr_opened : (e : Expr) (on_top : Bool) (context : TypeEnv) → (expr_pair e).1 on_top context ≡ node_seen (node_of e) (out-Expr e).span on_top context
expr_opened e on_top context =
    ap (λ (p : ExprPair). p.1 on_top context)
    (fold_out-Expr seen.stmt seen.node seen.shape seen.type_node seen.block seen.bind seen.arg seen.arm seen.expr seen.field seen.loop seen.number seen.pattern seen.type_expr
    seeing.stmt seeing.node seeing.shape seeing.type_node seeing.block seeing.bind seeing.arg seeing.arm seeing.expr seeing.field seeing.loop seeing.number seeing.pattern seeing.type_expr e)
    ∙ ap (λ (p : seen.node). p.1 (out-Expr e).span on_top context)
    (fold_out-Node seen.stmt seen.node seen.shape seen.type_node seen.block seen.bind seen.arg seen.arm seen.expr seen.field seen.loop seen.number seen.pattern seen.type_expr
    seeing.stmt seeing.node seeing.shape seeing.type_node seeing.block seeing.bind seeing.arg seeing.arm seeing.expr seeing.field seeing.loop seeing.number seeing.pattern seeing.type_expr (out-Expr e).node)

-- ---- an effect with which nothing is wrong

pub record EffectIsWellTyped (context : TypeEnv) (span : Span) (direction : Direction) (t : Judgement) (c : ChannelSeen) (others : List Judgement) (more : List Fault) (j given : Option DslxType) : Type 0 where
  pub token : IsWellTypedPart context.known t
  pub beside : faults_of_all others ≡ []
  pub reached : list_all context.known.is_sound (reached_of_all others) ≡ true
  pub rules : more ≡ []
  pub site : site_faults span context direction c ≡ []
  pub typed : j ≡ and_then t.ty (λ u. when_all (types_of others) given)

pub effect_well_typed : (span : Span) (context : TypeEnv) (direction : Direction) (t : Judgement) (c : ChannelSeen) (others : List Judgement) (more : List Fault) (given : Option DslxType) → IsWellTypedPart context.known (effect_with span context direction t c others more given)
    → EffectIsWellTyped context span direction t c others more (effect_with span context direction t c others more given).ty given
effect_well_typed span context direction t c others more given well_typed =
    let site = site_faults span context direction c in
    let s = settled_well_typed context.known span (and_then t.ty (λ u. when_all (types_of others) given)) ((((t.faults ++ c.judgement.faults) ++ faults_of_all others) ++ more) ++ site)
    ((t.reached ++ c.judgement.reached) ++ reached_of_all others) (one_and (plus_size t.size (plus_size c.judgement.size (size_of_all others)))) well_typed in
    let a = none_in (((t.faults ++ c.judgement.faults) ++ faults_of_all others) ++ more) site s.faults in
    let b = none_in ((t.faults ++ c.judgement.faults) ++ faults_of_all others) more a.0 in
    let d = none_in (t.faults ++ c.judgement.faults) (faults_of_all others) b.0 in
    let e = none_in t.faults c.judgement.faults d.0 in
    let r = all_in context.known.is_sound (t.reached ++ c.judgement.reached) (reached_of_all others) s.reached in
    let q = all_in context.known.is_sound t.reached c.judgement.reached r.0 in
    record { token = record { faults = e.0; reached = q.0 }; beside = d.1; reached = r.1; rules = b.1; site = a.1; typed = s.ty }

never_wrong : {X : Type 0} (known : GlobalEnv) (span : Span) (given : List ParametricArgument) (js : List Judgement) (more : List Fault) → IsWellTypedPart known (wrong_call span given js more) → X
never_wrong known span given js more well_typed =
    let s = settled_well_typed known span None (call_parts_faults given js ++ breaks 10 span ∷ more) (call_parts_reached given js) None well_typed in
    some_fault (breaks 10 span) more (none_in (call_parts_faults given js) (breaks 10 span ∷ more) s.faults).1

pub never_wrong_effect : {X : Type 0} (span : Span) (context : TypeEnv) (given : List ParametricArgument) (es : List ExprPair) → IsWellTypedPart context.known (wrong_effect span context given es) → X
never_wrong_effect span context given [] well_typed = never_wrong context.known span given [] [] well_typed
never_wrong_effect span context given (t ∷ []) well_typed = never_wrong context.known span given (held_typing context t ∷ []) [] well_typed
never_wrong_effect span context given (t ∷ c ∷ es) well_typed = never_wrong context.known span given (held_typing context t ∷ (channel_seen context c).judgement ∷ all_alone context es) [] well_typed

-- the member that a channel is
record ChannelIs (context : TypeEnv) (site : SiteEnv) (c : Expr) (seen : ChannelSeen) : Type 0 where
  pub name : List ℕ
  pub named : name_in_node (node_of c) ≡ Some name
  pub channel_end : ChannelEnd
  pub member : ProcMemberHasValues context site name channel_end
  pub word : word_of seen ≡ Some member.word

channel_is : (span : Span) (context : TypeEnv) (direction : Direction) (site : SiteEnv) → ProcMembersHaveValues context site → (c : Expr) → site_faults span context direction (channel_seen context (expr_pair c)) ≡ [] → ChannelIs context site c (channel_seen context (expr_pair c))
channel_is span context direction site members c e = by_name (name_of_expr (expr_pair c)) refl e
  where
    same : name_of_expr (expr_pair c) ≡ name_in_node (node_of c)
    same = ap (λ x. name_in_node (node_of x)) (own_expr typing_sorts typing_steps c)

    channel_end_there : (l : Option (Option DslxType)) (p : Option ChannelEnd) (o : ChannelEnd) → channel_end_if l p ≡ Some o → p ≡ Some o
    channel_end_there None p o q = q
    channel_end_there (Some u) p o q = none_some o q

    by_channel_end : (name : List ℕ) → name_of_expr (expr_pair c) ≡ Some name → (p : Option ChannelEnd) → channel_end_at context name ≡ p → breaks_if (not (goes_there direction p) || has_site context (Some name)) 29 span ≡ []
        → ChannelIs context site c (channel_seen context (expr_pair c))
    by_channel_end name n None q k = some_fault (breaks 29 span) [] k
    by_channel_end name n (Some o) q k =
        let m = members name o (channel_end_there (typed_in name context.locals) (channel_end_in name context.members) o q) in
        record {
          name = name;
          named = sym same ∙ n;
          channel_end = o;
          member = m;
          word = ap (λ x. word_of (channel_named context (expr_pair c) x)) n ∙ ap (λ p. and_then p (λ (o : ChannelEnd). o.word)) q ∙ m.typed;
        }

    by_name : (n : Option (List ℕ)) → name_of_expr (expr_pair c) ≡ n → site_faults span context direction (channel_named context (expr_pair c) n) ≡ [] → ChannelIs context site c (channel_seen context (expr_pair c))
    by_name None n k = some_fault (breaks 29 span) [] k
    by_name (Some name) n k = by_channel_end name n (channel_end_at context name) refl k

-- ---- types of what effects give

received_declared : (types : Declarations) (w : DslxType) → IsDeclared types w → IsDeclared types (received w)
received_declared types w h = tuple_declared types (ty.Token ∷ w ∷ []) (token_declared types, (h, tt))

token_is : is_of ty.Token value.Token ≡ true
token_is = of_token value.Token ∙ ap is_some_token views.outs-Token

received_is : (w : DslxType) (v : DslxValue) → is_of w v ≡ true → is_of (received w) (pair_with v) ≡ true
received_is w v h =
    of_tuple (ty.Token ∷ w ∷ []) (pair_with v) ∙ ap (tuple_of (map is_of (ty.Token ∷ w ∷ []))) (views.outs-Tuple (value.Token ∷ v ∷ []))
    ∙ (λ i. token_is i && (h i && true))

-- ---- acts

-- what a statement binds where its value is of the type that the rules give it
abbrev pub Binds : Declarations → SiteEnv → List SiteName → Further → Binder → Option DslxType → Type 0
Binds types site more rest binds o = (u : DslxType) (v : DslxValue) → o ≡ Some u → is_of u v ≡ true → IsDeclared types u → BindsAndGives site more rest (binds v)

-- a value that is there is the one that is given
given_value : (P : DslxValue → Type 0) (o : Option DslxValue) (x : DslxValue) → o ≡ Some x → P x → (v : DslxValue) → o ≡ Some v → P v
given_value P o x e h v q = subst P (same_some x v (sym e ∙ q)) h

-- an expression alone
computes_gives : (more : List SiteName) (site : SiteEnv) (e : Expr) (binds : Binder) (rest : Further) (context : TypeEnv) (env : Env) → IsWellTypedEnv context env → IsWellTypedPart context.known ((expr_pair e).1 false context)
    → Binds (types_at context) site more rest binds ((expr_pair e).1 false context).ty → (words : List Word) → GiveWords site more (do_act site Computes e binds rest env words).turns
computes_gives more site e binds rest context env h well_typed b words =
    let g = expression_has e context env h well_typed in
    value_gives site more rest binds (value_of e env) (given_value (λ v. BindsAndGives site more rest (binds v)) (value_of e env) g.2.value g.2.is (b g.0 g.2.value g.1 g.2.of g.2.declared)) words

-- the token of an effect
token_there : (e : Expr) (context : TypeEnv) (env : Env) → IsWellTypedEnv context env → IsWellTypedPart context.known (token_typing context (expr_pair e)) → (u : DslxType) × ((token_typing context (expr_pair e)).ty ≡ Some u)
token_there e context env h well_typed =
    let j = within context (expr_pair e) in
    let g = expression_has e context env h (record { faults = (none_in j.faults (token_faults (span_of (expr_pair e)) j.ty) well_typed.faults).0; reached = well_typed.reached }) in
    (g.0, g.1)

-- what two expressions beside the channel give
pub record BothGive (context : TypeEnv) (env : Env) (p e : Expr) : Type 0 where
  pub first : HasTypedValue (types_at context) (alone context (expr_pair p)) (value_of p env)
  pub second : HasTypedValue (types_at context) (alone context (expr_pair e)) (value_of e env)

stands_alone : (e : Expr) (context : TypeEnv) (env : Env) → IsWellTypedEnv context env → (alone context (expr_pair e)).faults ≡ [] → list_all context.known.is_sound (alone context (expr_pair e)).reached ≡ true
    → HasTypedValue (types_at context) (alone context (expr_pair e)) (value_of e env)
stands_alone e context env h f r = alone_has context env (expr_pair e) (denotation e) (expression_gives e) h f r

one_gives : (e : Expr) (context : TypeEnv) (env : Env) → IsWellTypedEnv context env → faults_of_all (alone context (expr_pair e) ∷ []) ≡ [] → list_all context.known.is_sound (reached_of_all (alone context (expr_pair e) ∷ [])) ≡ true
    → HasTypedValue (types_at context) (alone context (expr_pair e)) (value_of e env)
one_gives e context env h f r = stands_alone e context env h (none_in (alone context (expr_pair e)).faults [] f).0 (all_in context.known.is_sound (alone context (expr_pair e)).reached [] r).0

both_give : (p e : Expr) (context : TypeEnv) (env : Env) → IsWellTypedEnv context env → faults_of_all (alone context (expr_pair p) ∷ alone context (expr_pair e) ∷ []) ≡ []
    → list_all context.known.is_sound (reached_of_all (alone context (expr_pair p) ∷ alone context (expr_pair e) ∷ [])) ≡ true → BothGive context env p e
both_give p e context env h f r =
    let a = none_in (alone context (expr_pair p)).faults (faults_of_all (alone context (expr_pair e) ∷ [])) f in
    let b = all_in context.known.is_sound (alone context (expr_pair p)).reached (reached_of_all (alone context (expr_pair e) ∷ [])) r in
    record { first = stands_alone p context env h a.0 b.0; second = one_gives e context env h a.1 b.1 }

-- a value is of the type of the channel's words
word_given : (context : TypeEnv) (env : Env) (e : Expr) (w : DslxType) → IsDeclared (types_at context) w → (g : HasTypedValue (types_at context) (alone context (expr_pair e)) (value_of e env)) → (o : Option DslxType) → o ≡ Some w
    → wanted_faults (span_of (expr_pair e)) o (alone context (expr_pair e)).ty ≡ [] → is_of w g.2.value ≡ true
word_given context env e w declared g o is k =
    let same = one_of_text (types_at context) w g.0 (passed (same_type w g.0) 9 (span_of (expr_pair e)) ((λ i. wanted_faults (span_of (expr_pair e)) (sym is i) (sym g.1 i)) ∙ k)) declared g.2.declared in
    subst (λ u. is_of u g.2.value ≡ true) (sym same) g.2.of

-- the types that are there give their whole its type
given_type : (o : Option DslxType) (u : DslxType) → o ≡ Some u → (types : List (Option DslxType)) (ts : List DslxType) → all_some types ≡ Some ts → (given : Option DslxType) → and_then o (λ u. when_all types given) ≡ given
given_type o u e types ts a given = ap (λ p. and_then p (λ u. when_all types given)) e ∙ ap (λ p. and_then p (λ ts. given)) a

-- an effect at a channel that has a name
abbrev pub if_named : (List ℕ → SiteAct) → Option (List ℕ) → SiteAct
if_named act None = Computes
if_named act (Some name) = act name

-- the act of an effect at this channel
pub named_act : (a : SiteAct) (c : Expr) (act : List ℕ → SiteAct) (name : List ℕ) → name_in_node (node_of c) ≡ Some name → a ≡ at_channel c act → a ≡ act name
named_act a c act name e is = is ∙ (λ i. if_named act (e i))

-- what is received at a member is bound
receives : (site : SiteEnv) (more : List SiteName) (rest : Further) (binds : Binder) (context : TypeEnv) (name : List ℕ) (o : ChannelEnd) (m : ProcMemberHasValues context site name o) → {j : Option DslxType}
    → Binds (types_at context) site more rest binds j → j ≡ Some (received m.word) → (w : DslxType) (x : Word) → word_type_at site name ≡ Some w → BindsAndGives site more rest (binds (pair_with (from_word w x)))
receives site more rest binds context name o m b typed w x e =
    subst (λ u. BindsAndGives site more rest (binds (pair_with (from_word u x)))) (same_some m.word w (sym m.means ∙ e))
    (b (received m.word) (pair_with (from_word m.word x)) typed (received_is m.word (from_word m.word x) (m.holds x)) (received_declared (types_at context) m.word m.declared))

-- what is sent there is a value of the type of its words
sent : (site : SiteEnv) (context : TypeEnv) (name : List ℕ) (o : ChannelEnd) (m : ProcMemberHasValues context site name o) (given : Option DslxValue) (x : DslxValue) → given ≡ Some x → is_of m.word x ≡ true
    → (v : DslxValue) → given ≡ Some v → IsWordThere site name (flat_word v)
sent site context name o m given x e of = given_value (λ v. IsWordThere site name (flat_word v)) given x e (record { word = m.word; means = m.means; value = x; of = of; is = refl })

receive_act : (more : List SiteName) (span : Span) (site : SiteEnv) (x c e : Expr) (binds : Binder) (rest : Further) (context : TypeEnv) (env : Env) → IsWellTypedEnv context env → ProcMembersHaveValues context site
    → IsWellTypedPart context.known (receiving span context (expr_pair x ∷ expr_pair c ∷ [])) → Binds (types_at context) site more rest binds (receiving span context (expr_pair x ∷ expr_pair c ∷ [])).ty
    → (words : List Word) → GiveWords site (sites_in_act (at_channel c TakesWord) ++ more) (do_act site (at_channel c TakesWord) e binds rest env words).turns
receive_act more span site x c e binds rest context env h members well_typed b words =
    let seen_there = channel_seen context (expr_pair c) in
    let given = and_then (word_of seen_there) (λ w. Some (received w)) in
    let f = effect_well_typed span context In (token_typing context (expr_pair x)) seen_there [] [] given well_typed in
    let k = channel_is span context In site members c f.site in
    let token = token_there x context env h f.token in
    let typed = f.typed ∙ given_type (token_typing context (expr_pair x)).ty token.0 token.1 [] [] refl given ∙ ap (λ o. and_then o (λ w. Some (received w))) k.word in
    subst (λ y. GiveWords site (sites_in_act y ++ more) (do_act site y e binds rest env words).turns) (sym (named_act (at_channel c TakesWord) c TakesWord k.name k.named refl))
    (take_gives site more rest (record { member = k.name; sends = false }) binds (word_type_at site k.name) (receives site more rest binds context k.name k.channel_end k.member b typed) words)

receive_if_act : (more : List SiteName) (span : Span) (site : SiteEnv) (x c p d e : Expr) (binds : Binder) (rest : Further) (context : TypeEnv) (env : Env) → IsWellTypedEnv context env → ProcMembersHaveValues context site
    → IsWellTypedPart context.known (receiving_if span context (expr_pair x ∷ expr_pair c ∷ expr_pair p ∷ expr_pair d ∷ []))
    → Binds (types_at context) site more rest binds (receiving_if span context (expr_pair x ∷ expr_pair c ∷ expr_pair p ∷ expr_pair d ∷ [])).ty
    → (words : List Word) → GiveWords site (sites_in_act (at_channel c (λ name. TakesWordIf name p d)) ++ more) (do_act site (at_channel c (λ name. TakesWordIf name p d)) e binds rest env words).turns
receive_if_act more span site x c p d e binds rest context env h members well_typed b words =
    let seen_there = channel_seen context (expr_pair c) in
    let given = and_then (word_of seen_there) (λ w. Some (received w)) in
    let condition = alone context (expr_pair p) in
    let default = alone context (expr_pair d) in
    let bool = unless_type is_bool 15 (span_of (expr_pair p)) condition.ty in
    let wanted = wanted_faults (span_of (expr_pair d)) (word_of seen_there) default.ty in
    let f = effect_well_typed span context In (token_typing context (expr_pair x)) seen_there (condition ∷ default ∷ []) (bool ++ wanted) given well_typed in
    let k = channel_is span context In site members c f.site in
    let token = token_there x context env h f.token in
    let w = k.member.word in
    let g = both_give p d context env h f.beside f.reached in
    let rules = none_in bool wanted f.rules in
    let of = word_given context env d w k.member.declared g.second (word_of seen_there) k.word rules.1 in
    let types : all_some (condition.ty ∷ default.ty ∷ []) ≡ Some (g.first.0 ∷ g.second.0 ∷ []) = λ i. all_some (g.first.1 i ∷ g.second.1 i ∷ []) in
    let typed = f.typed ∙ given_type (token_typing context (expr_pair x)).ty token.0 token.1 (condition.ty ∷ default.ty ∷ []) (g.first.0 ∷ g.second.0 ∷ []) types given ∙ ap (λ o. and_then o (λ w. Some (received w))) k.word in
    let declared = received_declared (types_at context) w k.member.declared in
    let n : SiteName = record { member = k.name; sends = false } in
    let on = take_gives site more rest n binds (word_type_at site k.name) (receives site more rest binds context k.name k.channel_end k.member b typed) words in
    subst (λ y. GiveWords site (sites_in_act y ++ more) (do_act site y e binds rest env words).turns) (sym (named_act (at_channel c (λ name. TakesWordIf name p d)) c (λ name. TakesWordIf name p d) k.name k.named refl))
    (if_gives site more rest n binds (and_then (value_of p env) truth) words (take_word (word_type_at site k.name) binds rest words) on (and_then (value_of d env) (λ v. Some (pair_with v)))
    (given_value (λ v. BindsAndGives site more rest (binds v)) (and_then (value_of d env) (λ v. Some (pair_with v))) (pair_with g.second.2.value) (ap (λ o. and_then o (λ v. Some (pair_with v))) g.second.2.is)
    (b (received w) (pair_with g.second.2.value) typed (received_is w g.second.2.value of) declared)))

send_act : (more : List SiteName) (span : Span) (site : SiteEnv) (x c d e : Expr) (binds : Binder) (rest : Further) (context : TypeEnv) (env : Env) → IsWellTypedEnv context env → ProcMembersHaveValues context site
    → IsWellTypedPart context.known (sending span context (expr_pair x ∷ expr_pair c ∷ expr_pair d ∷ [])) → Binds (types_at context) site more rest binds (sending span context (expr_pair x ∷ expr_pair c ∷ expr_pair d ∷ [])).ty
    → (words : List Word) → GiveWords site (sites_in_act (at_channel c (λ name. SendsWord name d)) ++ more) (do_act site (at_channel c (λ name. SendsWord name d)) e binds rest env words).turns
send_act more span site x c d e binds rest context env h members well_typed b words =
    let seen_there = channel_seen context (expr_pair c) in
    let given = and_then (word_of seen_there) (λ w. Some ty.Token) in
    let word = alone context (expr_pair d) in
    let wanted = wanted_faults (span_of (expr_pair d)) (word_of seen_there) word.ty in
    let f = effect_well_typed span context Out (token_typing context (expr_pair x)) seen_there (word ∷ []) wanted given well_typed in
    let k = channel_is span context Out site members c f.site in
    let token = token_there x context env h f.token in
    let g = one_gives d context env h f.beside f.reached in
    let of = word_given context env d k.member.word k.member.declared g (word_of seen_there) k.word f.rules in
    let types : all_some (word.ty ∷ []) ≡ Some (g.0 ∷ []) = λ i. all_some (g.1 i ∷ []) in
    let typed = f.typed ∙ given_type (token_typing context (expr_pair x)).ty token.0 token.1 (word.ty ∷ []) (g.0 ∷ []) types given ∙ ap (λ o. and_then o (λ w. Some ty.Token)) k.word in
    subst (λ y. GiveWords site (sites_in_act y ++ more) (do_act site y e binds rest env words).turns) (sym (named_act (at_channel c (λ name. SendsWord name d)) c (λ name. SendsWord name d) k.name k.named refl))
    (send_gives site more rest (record { member = k.name; sends = true }) binds (value_of d env) (sent site context k.name k.channel_end k.member (value_of d env) g.2.value g.2.is of)
    (b ty.Token value.Token typed token_is (token_declared (types_at context))) words)

send_if_act : (more : List SiteName) (span : Span) (site : SiteEnv) (x c p d e : Expr) (binds : Binder) (rest : Further) (context : TypeEnv) (env : Env) → IsWellTypedEnv context env → ProcMembersHaveValues context site
    → IsWellTypedPart context.known (sending_if span context (expr_pair x ∷ expr_pair c ∷ expr_pair p ∷ expr_pair d ∷ []))
    → Binds (types_at context) site more rest binds (sending_if span context (expr_pair x ∷ expr_pair c ∷ expr_pair p ∷ expr_pair d ∷ [])).ty
    → (words : List Word) → GiveWords site (sites_in_act (at_channel c (λ name. SendsWordIf name p d)) ++ more) (do_act site (at_channel c (λ name. SendsWordIf name p d)) e binds rest env words).turns
send_if_act more span site x c p d e binds rest context env h members well_typed b words =
    let seen_there = channel_seen context (expr_pair c) in
    let given = and_then (word_of seen_there) (λ w. Some ty.Token) in
    let condition = alone context (expr_pair p) in
    let word = alone context (expr_pair d) in
    let bool = unless_type is_bool 15 (span_of (expr_pair p)) condition.ty in
    let wanted = wanted_faults (span_of (expr_pair d)) (word_of seen_there) word.ty in
    let f = effect_well_typed span context Out (token_typing context (expr_pair x)) seen_there (condition ∷ word ∷ []) (bool ++ wanted) given well_typed in
    let k = channel_is span context Out site members c f.site in
    let token = token_there x context env h f.token in
    let g = both_give p d context env h f.beside f.reached in
    let rules = none_in bool wanted f.rules in
    let of = word_given context env d k.member.word k.member.declared g.second (word_of seen_there) k.word rules.1 in
    let types : all_some (condition.ty ∷ word.ty ∷ []) ≡ Some (g.first.0 ∷ g.second.0 ∷ []) = λ i. all_some (g.first.1 i ∷ g.second.1 i ∷ []) in
    let typed = f.typed ∙ given_type (token_typing context (expr_pair x)).ty token.0 token.1 (condition.ty ∷ word.ty ∷ []) (g.first.0 ∷ g.second.0 ∷ []) types given ∙ ap (λ o. and_then o (λ w. Some ty.Token)) k.word in
    let after = b ty.Token value.Token typed token_is (token_declared (types_at context)) in
    let n : SiteName = record { member = k.name; sends = true } in
    let on = send_gives site more rest n binds (value_of d env) (sent site context k.name k.channel_end k.member (value_of d env) g.second.2.value g.second.2.is of) after words in
    subst (λ y. GiveWords site (sites_in_act y ++ more) (do_act site y e binds rest env words).turns) (sym (named_act (at_channel c (λ name. SendsWordIf name p d)) c (λ name. SendsWordIf name p d) k.name k.named refl))
    (if_gives site more rest n binds (and_then (value_of p env) truth) words (send_word (value_of d env) binds rest words) on (Some value.Token)
    (given_value (λ v. BindsAndGives site more rest (binds v)) (Some value.Token) value.Token refl after))

-- ---- any expression as a statement, or as the whole value of a `let`

pub act_gives : (more : List SiteName) (site : SiteEnv) (e : Expr) (binds : Binder) (rest : Further) (context : TypeEnv) (env : Env) → IsWellTypedEnv context env → ProcMembersHaveValues context site → IsWellTypedPart context.known ((expr_pair e).1 true context)
    → Binds (types_at context) site more rest binds ((expr_pair e).1 true context).ty → (words : List Word) → GiveWords site (sites_in_act (act_of e) ++ more) (do_act site (act_of e) e binds rest env words).turns
act_gives more site e binds rest context env h members well_typed b words =
    by_node (node_of e) refl (subst (IsWellTypedPart context.known) (expr_opened e true context) well_typed) (subst (λ (j : Judgement). Binds (types_at context) site more rest binds j.ty) (expr_opened e true context) b)
  where
    span : Span
    span = (out-Expr e).span

    Gives : SiteAct → Type 0
    Gives a = GiveWords site (sites_in_act a ++ more) (do_act site a e binds rest env words).turns

    Bound : Judgement → Type 0
    Bound j = Binds (types_at context) site more rest binds j.ty

    alone_gives : (x : NodeLayer) → node_of e ≡ x → IsWellTypedPart context.known (node_seen x span false context) → Bound (node_seen x span false context) → Gives Computes
    alone_gives x is f k =
        let same : (expr_pair e).1 false context ≡ node_seen x span false context = expr_opened e false context ∙ ap (λ y. node_seen y span false context) is in
        computes_gives more site e binds rest context env h (subst (IsWellTypedPart context.known) (sym same) f) (subst Bound (sym same) k) words

    by_receive : (es : List Expr) → IsWellTypedPart context.known (receiving span context (map expr_pair es)) → Bound (receiving span context (map expr_pair es)) → Gives (act_of_call Receives es)
    by_receive (x ∷ c ∷ []) f k = receive_act more span site x c e binds rest context env h members f k words
    by_receive [] f k = never_wrong_effect span context [] [] f
    by_receive (x ∷ []) f k = never_wrong_effect span context [] (map expr_pair (x ∷ [])) f
    by_receive (x ∷ c ∷ y ∷ es) f k = never_wrong_effect span context [] (map expr_pair (x ∷ c ∷ y ∷ es)) f

    by_receive_if : (es : List Expr) → IsWellTypedPart context.known (receiving_if span context (map expr_pair es)) → Bound (receiving_if span context (map expr_pair es)) → Gives (act_of_call ReceivesIf es)
    by_receive_if (x ∷ c ∷ p ∷ d ∷ []) f k = receive_if_act more span site x c p d e binds rest context env h members f k words
    by_receive_if [] f k = never_wrong_effect span context [] [] f
    by_receive_if (x ∷ []) f k = never_wrong_effect span context [] (map expr_pair (x ∷ [])) f
    by_receive_if (x ∷ c ∷ []) f k = never_wrong_effect span context [] (map expr_pair (x ∷ c ∷ [])) f
    by_receive_if (x ∷ c ∷ p ∷ []) f k = never_wrong_effect span context [] (map expr_pair (x ∷ c ∷ p ∷ [])) f
    by_receive_if (x ∷ c ∷ p ∷ d ∷ y ∷ es) f k = never_wrong_effect span context [] (map expr_pair (x ∷ c ∷ p ∷ d ∷ y ∷ es)) f

    by_send : (es : List Expr) → IsWellTypedPart context.known (sending span context (map expr_pair es)) → Bound (sending span context (map expr_pair es)) → Gives (act_of_call Sends es)
    by_send (x ∷ c ∷ d ∷ []) f k = send_act more span site x c d e binds rest context env h members f k words
    by_send [] f k = never_wrong_effect span context [] [] f
    by_send (x ∷ []) f k = never_wrong_effect span context [] (map expr_pair (x ∷ [])) f
    by_send (x ∷ c ∷ []) f k = never_wrong_effect span context [] (map expr_pair (x ∷ c ∷ [])) f
    by_send (x ∷ c ∷ d ∷ y ∷ es) f k = never_wrong_effect span context [] (map expr_pair (x ∷ c ∷ d ∷ y ∷ es)) f

    by_send_if : (es : List Expr) → IsWellTypedPart context.known (sending_if span context (map expr_pair es)) → Bound (sending_if span context (map expr_pair es)) → Gives (act_of_call SendsIf es)
    by_send_if (x ∷ c ∷ p ∷ d ∷ []) f k = send_if_act more span site x c p d e binds rest context env h members f k words
    by_send_if [] f k = never_wrong_effect span context [] [] f
    by_send_if (x ∷ []) f k = never_wrong_effect span context [] (map expr_pair (x ∷ [])) f
    by_send_if (x ∷ c ∷ []) f k = never_wrong_effect span context [] (map expr_pair (x ∷ c ∷ [])) f
    by_send_if (x ∷ c ∷ p ∷ []) f k = never_wrong_effect span context [] (map expr_pair (x ∷ c ∷ p ∷ [])) f
    by_send_if (x ∷ c ∷ p ∷ d ∷ y ∷ es) f k = never_wrong_effect span context [] (map expr_pair (x ∷ c ∷ p ∷ d ∷ y ∷ es)) f

    same_typing : (k : CallKind) → is_effect_kind k ≡ false → (f : Ident) (ns : List ArgPair) (es : List ExprPair) → call_typing k span f ns es false context ≡ call_typing k span f ns es true context
    same_typing Joins q f ns es = refl
    same_typing CountsLeading q f ns es = refl
    same_typing CountsTrailing q f ns es = refl
    same_typing Reverses q f ns es = refl
    same_typing AllOnes q f ns es = refl
    same_typing SomeOne q f ns es = refl
    same_typing Parity q f ns es = refl
    same_typing Updates q f ns es = refl
    same_typing Calls q f ns es = refl
    same_typing Receives q f ns es = absurd (true≢false q)
    same_typing ReceivesIf q f ns es = absurd (true≢false q)
    same_typing Sends q f ns es = absurd (true≢false q)
    same_typing SendsIf q f ns es = absurd (true≢false q)

    other : (k : CallKind) → is_effect_kind k ≡ false → (f : Ident) (ns : List Arg) (es : List Expr) → kind_of_call f.name ≡ k → node_of e ≡ Node-F.Call f ns es
        → IsWellTypedPart context.known (call_typing k span f (map arg_pair ns) (map expr_pair es) true context) → Bound (call_typing k span f (map arg_pair ns) (map expr_pair es) true context) → Gives Computes
    other k q f ns es kind is y z =
        let same : node_seen (Node-F.Call f ns es) span false context ≡ call_typing k span f (map arg_pair ns) (map expr_pair es) true context =
        ap (λ k. call_typing k span f (map arg_pair ns) (map expr_pair es) false context) kind ∙ same_typing k q f (map arg_pair ns) (map expr_pair es) in
        alone_gives (Node-F.Call f ns es) is (subst (IsWellTypedPart context.known) (sym same) y) (subst Bound (sym same) z)

    by_kind : (k : CallKind) (f : Ident) (ns : List Arg) (es : List Expr) → kind_of_call f.name ≡ k → node_of e ≡ Node-F.Call f ns es
        → IsWellTypedPart context.known (call_typing k span f (map arg_pair ns) (map expr_pair es) true context) → Bound (call_typing k span f (map arg_pair ns) (map expr_pair es) true context) → Gives (act_of_call k es)
    by_kind Receives f [] es q is y z = by_receive es y z
    by_kind Receives f (n ∷ ns) es q is y z = never_wrong_effect span context (given_parametric_args context (map arg_pair (n ∷ ns))) (map expr_pair es) y
    by_kind ReceivesIf f [] es q is y z = by_receive_if es y z
    by_kind ReceivesIf f (n ∷ ns) es q is y z = never_wrong_effect span context (given_parametric_args context (map arg_pair (n ∷ ns))) (map expr_pair es) y
    by_kind Sends f [] es q is y z = by_send es y z
    by_kind Sends f (n ∷ ns) es q is y z = never_wrong_effect span context (given_parametric_args context (map arg_pair (n ∷ ns))) (map expr_pair es) y
    by_kind SendsIf f [] es q is y z = by_send_if es y z
    by_kind SendsIf f (n ∷ ns) es q is y z = never_wrong_effect span context (given_parametric_args context (map arg_pair (n ∷ ns))) (map expr_pair es) y
    by_kind Joins f ns es q is y z = other Joins refl f ns es q is y z
    by_kind CountsLeading f ns es q is y z = other CountsLeading refl f ns es q is y z
    by_kind CountsTrailing f ns es q is y z = other CountsTrailing refl f ns es q is y z
    by_kind Reverses f ns es q is y z = other Reverses refl f ns es q is y z
    by_kind AllOnes f ns es q is y z = other AllOnes refl f ns es q is y z
    by_kind SomeOne f ns es q is y z = other SomeOne refl f ns es q is y z
    by_kind Parity f ns es q is y z = other Parity refl f ns es q is y z
    by_kind Updates f ns es q is y z = other Updates refl f ns es q is y z
    by_kind Calls f ns es q is y z = other Calls refl f ns es q is y z

    by_node : (x : NodeLayer) → node_of e ≡ x → IsWellTypedPart context.known (node_seen x span true context) → Bound (node_seen x span true context) → Gives (act_of_node x)
    by_node (Node-F.Call f ns es) is y z = by_kind (kind_of_call f.name) f ns es refl is y z
    by_node (Node-F.Node::Number n) is y z = alone_gives (Node-F.Node::Number n) is y z
    by_node (Node-F.Node::Bool p) is y z = alone_gives (Node-F.Node::Bool p) is y z
    by_node (Node-F.Node::Array o es dots) is y z = alone_gives (Node-F.Node::Array o es dots) is y z
    by_node (Node-F.Node::Name name) is y z = alone_gives (Node-F.Node::Name name) is y z
    by_node (Node-F.Node::Member c m) is y z = alone_gives (Node-F.Node::Member c m) is y z
    by_node (Node-F.Node::Tuple es) is y z = alone_gives (Node-F.Node::Tuple es) is y z
    by_node (Node-F.Struct c fs o) is y z = alone_gives (Node-F.Struct c fs o) is y z
    by_node (Node-F.Block c) is y z = alone_gives (Node-F.Block c) is y z
    by_node (Node-F.If c d x) is y z = alone_gives (Node-F.If c d x) is y z
    by_node (Node-F.Match x as') is y z = alone_gives (Node-F.Match x as') is y z
    by_node (Node-F.For f) is y z = alone_gives (Node-F.For f) is y z
    by_node (Node-F.Index x y') is y z = alone_gives (Node-F.Index x y') is y z
    by_node (Node-F.Slice x c d) is y z = alone_gives (Node-F.Slice x c d) is y z
    by_node (Node-F.Part x c ty) is y z = alone_gives (Node-F.Part x c ty) is y z
    by_node (Node-F.Field x name) is y z = alone_gives (Node-F.Field x name) is y z
    by_node (Node-F.Element x place k) is y z = alone_gives (Node-F.Element x place k) is y z
    by_node (Node-F.Prefix o x) is y z = alone_gives (Node-F.Prefix o x) is y z
    by_node (Node-F.Cast x ty) is y z = alone_gives (Node-F.Cast x ty) is y z
    by_node (Node-F.Binary o l r) is y z = alone_gives (Node-F.Binary o l r) is y z
