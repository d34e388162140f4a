-- Effects, and other values of statements at the top of `next`, become steps.
use Rattle.dslx_meaning.specs.declared.ty.DslxType.{DslxType}
use Rattle.dslx_meaning.specs.declared.ty.DslxType as ty
use mathlib.Core.Bool.{true≢false}
use Rattle.dslx_tree.specs.declared.block.Stmt.TheFolds.{fold_out-Node, fold_out-Expr}
use Rattle.dslx_meaning.specs.declared.ty.DslxType.TheVariants as rolls
use Rattle.dslx_meaning.specs.declared.ty.DslxType.TheOpen.{DslxType-F}
use Rattle.dslx_meaning.specs.declared.ty.DslxType.TheFolds.{fold-roll-DslxType}
use Rattle.dslx_core.specs.declared.step.Step.TheVariants as step
use Rattle.xb_span.specs.declared.span.Span.{Span}
use Rattle.std.specs.List.{list_all}
use Rattle.std.proofs.Common.{Bool, List, None, Option, Some, [], ap, false, not, refl, sym, true, ℕ, ◌||◌, ◌∙◌, ◌∷◌, ◌≡◌, subst, ◌++◌}
use Rattle.dslx_core.specs.Typing.Typed.WellTyped.{IsWellTypedEnv, types_at}
use Rattle.dslx_core.specs.Typing.Typed.Declared.{Declarations, IsDeclared, as_declared, declared_step}
use Rattle.dslx_core.specs.Typing.Typed.Complete.{IsWellTypedPart}
use Rattle.dslx_core.proofs.Lemmas.Typing.Typed.{or_false, tuple_declared}
use Rattle.dslx_tree.proofs.Lemmas.Folds.Levels.{NodeLevel, map_node, trees}
use Rattle.dslx_tree.proofs.Lemmas.Folds.Folds.{folds}
use Rattle.dslx_tree.specs.declared.process.End.{End}
use Rattle.dslx_tree.specs.declared.process.Direction.{Direction}
use Rattle.dslx_tree.specs.declared.expr.Expr.{Expr, out-Expr}
use Rattle.dslx_core.proofs.Lemmas.Typing.Sound.{none_in, not_broken, passed, all_in, all_in_three, none_in_three, settled_well_typed, own_expr}
use Rattle.dslx_meaning.specs.Rules.NodeRules.{expr_pair, typing_steps, node_typing}
use Rattle.dslx_meaning.specs.Rules.Typings.{typing_sorts}
use Rattle.dslx_meaning.specs.Rules.TypeEnvs.{ExprPair, Instance, Judgement, ChannelEnd, TypeEnv, alone, span_of, typed_in, within, GlobalEnv, faults_of_all, name_of_expr, one_and, plus_size, reached_of_all, size_of_all, types_of}
use Rattle.dslx_meaning.specs.Rules.CallRules.{channel_named, channel_end_at, channel_end_in, receiving, token_faults, token_typing, channel_seen, receiving_if, sending, sending_if, word_of, site_faults, effect_with, ChannelSeen, goes_there, has_site, channel_end_if}
use Rattle.dslx_meaning.specs.Rules.AggregateRules.{wanted_faults, when_all}
use Rattle.dslx_meaning.specs.declared.ty.DslxType.TheOpen.{DslxType-F}
use Rattle.dslx_meaning.specs.declared.ty.DslxType.TheFolds.{fold-roll-DslxType}
use Rattle.dslx_meaning.specs.Types.{received, same_type, plain_type}
use Rattle.dslx_meaning.specs.Lists.{and_then, where_true, with_both}
use Rattle.dslx_meaning.specs.Environment.{Env}
use Rattle.dslx_meaning.specs.Activation.{Computes, SiteAct, TakesWord, node_of, SendsWord, SendsWordIf, TakesWordIf, name_in_node, at_channel}
use Rattle.dslx_total.specs.Expressions.NextSteps.{MembersExist}
use Rattle.dslx_total.specs.Expressions.ExprLowering.{reaching}
use Rattle.dslx_total.specs.Expressions.Beside.{ScopeMatchesEnv}
use Rattle.dslx_total.proofs.OnExpressions.Parts.{LowersTo, alone_lowers_to, within_lowers_to}
use Rattle.dslx_total.proofs.OnExpressions.Joined.{seen, seeing, expression_part}
use Rattle.dslx_total.proofs.OnExpressions.Equal.{equal_of_text}
use Rattle.dslx_core.specs.Lowering.Trees.{lower_expression, of_type}
use Rattle.dslx_core.specs.Lowering.Steps.{BindsInScope, CoreMember, LoweredSteps, StepsLowering, lower_act, lower_compute, step_then, lower_receive, lower_send}
use Rattle.dslx_core.specs.Lowering.Patterns.{LoweredShape}
use Rattle.dslx_core.specs.Lowering.CoreScopes.{CoreScope}
use Rattle.dslx_core.specs.declared.step.Step.{Step}
use Rattle.xb_span.specs.declared.fault.Fault.{Fault}
use Rattle.dslx_tree.specs.declared.process.Direction.TheVariants.{In, Out}
use Rattle.dslx_meaning.specs.Rules.OperatorRules.{is_bool, unless_type}

-- ---- what an expression is judged to be at the top

abbrev pub node_seen : Expr → NodeLevel seen
node_seen e = map_node trees seen (folds seen seeing) (node_of e)

pub typing_at : (e : Expr) (on_top : Bool) (context : TypeEnv) → (expr_pair e).1 on_top context ≡ node_typing (node_seen e) (out-Expr e).span on_top context
typing_at e on_top context =
    (λ i. (fold_out-Expr seen.stmt seen.node seen.shape seen.type_node seen.block seen.bind seen.arg seen.arm seen.expr seen.field seen.loop seen.number seen.pattern seen.type_expr
    seeing.stmt seeing.node seeing.shape seeing.type_node seeing.block seeing.bind seeing.arg seeing.arm seeing.expr seeing.field seeing.loop seeing.number seeing.pattern seeing.type_expr e i).1 on_top context)
    ∙ (λ i. (fold_out-Node seen.stmt seen.node seen.shape seen.type_node seen.block seen.bind seen.arg seen.arm seen.expr seen.field seen.loop seen.number seen.pattern seen.type_expr
    seeing.stmt seeing.node seeing.shape seeing.type_node seeing.block seeing.bind seeing.arg seeing.arm seeing.expr seeing.field seeing.loop seeing.number seeing.pattern seeing.type_expr (out-Expr e).node i).1 (out-Expr e).span on_top context)

-- ---- steps

abbrev pub type_of_steps : Option LoweredSteps → Option DslxType
type_of_steps None = None
type_of_steps (Some l) = Some l.next.ty

one_step : (s : Step) (o : Option LoweredSteps) → type_of_steps (step_then s o) ≡ type_of_steps o
one_step s None = refl
one_step s (Some l) = refl

-- the channel of a site
pub record ChannelThere (context : TypeEnv) (e : ExprPair) (named : Option (List ℕ)) : Type 0 where
  pub name : List ℕ
  pub is : named ≡ Some name
  pub channel_end : ChannelEnd
  pub found : channel_end_in name context.members ≡ Some channel_end
  pub word : word_of (channel_named context e named) ≡ channel_end.word

pub channel_there : (context : TypeEnv) (e : ExprPair) (named : Option (List ℕ)) (span : Span) (direction : Direction) → site_faults span context direction (channel_named context e named) ≡ [] → ChannelThere context e named
channel_there context e None span direction f = absurd (true≢false (or_false true (has_site context None) (not_broken (true || has_site context None) 29 span f)).0)
channel_there context e (Some name) span direction f = by_local (typed_in name context.locals) refl
  where
    goes : not (goes_there direction (channel_end_at context name)) ≡ false
    goes = (or_false (not (goes_there direction (channel_end_at context name))) (has_site context (Some name)) (not_broken (not (goes_there direction (channel_end_at context name)) || has_site context (Some name)) 29 span f)).0

    by_channel_end : (o : Option ChannelEnd) → channel_end_in name context.members ≡ o → channel_end_at context name ≡ o → ChannelThere context e (Some name)
    by_channel_end None q r = absurd (true≢false (ap (λ o. not (goes_there direction o)) (sym r) ∙ goes))
    by_channel_end (Some o) q r = record { name = name; is = refl; channel_end = o; found = q; word = ap (λ (x : Option ChannelEnd). and_then x (λ (o : ChannelEnd). o.word)) r }

    by_local : (t : Option (Option DslxType)) → typed_in name context.locals ≡ t → ChannelThere context e (Some name)
    by_local (Some t) q = absurd (true≢false (ap (λ t. not (goes_there direction (channel_end_if t (channel_end_in name context.members)))) (sym q) ∙ goes))
    by_local None q = by_channel_end (channel_end_in name context.members) refl (ap (λ t. channel_end_if t (channel_end_in name context.members)) q)

-- an effect with which nothing is wrong
pub record EffectWellTyped (known : GlobalEnv) (span : Span) (context : TypeEnv) (direction : Direction) (t : Judgement) (c : ChannelSeen) (js : List Judgement) (wrong : List Fault) (given : Option DslxType) : Type 0 where
  pub token : t.faults ≡ []
  pub token_reached : list_all known.is_sound t.reached ≡ true
  pub others : faults_of_all js ≡ []
  pub others_reached : list_all known.is_sound (reached_of_all js) ≡ true
  pub more : wrong ≡ []
  pub site : site_faults span context direction c ≡ []
  pub ty : (effect_with span context direction t c js wrong given).ty ≡ and_then t.ty (λ u. when_all (types_of js) given)

pub effect_well_typed : (known : GlobalEnv) (span : Span) (context : TypeEnv) (direction : Direction) (t : Judgement) (c : ChannelSeen) (js : List Judgement) (wrong : List Fault) (given : Option DslxType)
    → IsWellTypedPart known (effect_with span context direction t c js wrong given) → EffectWellTyped known span context direction t c js wrong given
effect_well_typed known span context direction t c js wrong given well_typed =
    let sites = site_faults span context direction c in
    let parts = (t.faults ++ c.judgement.faults) ++ faults_of_all js in
    let s = settled_well_typed known span (and_then t.ty (λ u. when_all (types_of js) given)) ((parts ++ wrong) ++ sites) ((t.reached ++ c.judgement.reached) ++ reached_of_all js)
    (one_and (plus_size t.size (plus_size c.judgement.size (size_of_all js)))) well_typed in
    let p = none_in_three parts wrong sites s.faults in
    let q = none_in_three t.faults c.judgement.faults (faults_of_all js) p.0 in
    let r = all_in_three known.is_sound t.reached c.judgement.reached (reached_of_all js) s.reached in
    record { token = q.0; token_reached = r.0; others = q.2; others_reached = r.2; more = p.1; site = p.2; ty = s.ty }

abbrev act_named : (List ℕ → SiteAct) → Option (List ℕ) → SiteAct
act_named act None = Computes
act_named act (Some name) = act name

-- ---- what stands at the top

-- it has a type, and becomes steps: whatever they bind, the rest goes on behind it
pub record ActThere (types : Declarations) (outer : CoreScope) (ends : List End) (scope : CoreScope) (e : Expr) (act : SiteAct) (j : Judgement) : Type 0 where
  pub own : DslxType
  pub typed : j.ty ≡ Some own
  pub declared : IsDeclared types own
  pub steps : (binds : BindsInScope) (rest : StepsLowering) (s : LoweredShape) → binds scope own ≡ Some s → type_of_steps (lower_act outer ends act e binds rest scope) ≡ type_of_steps (rest s.scope)

pub token_declared : (types : Declarations) → IsDeclared types ty.Token
token_declared types = ap (as_declared types) (sym rolls.rolls-Token) ∙ fold-roll-DslxType DslxType (declared_step types) DslxType-F.Token

pub received_declared : (types : Declarations) (w : DslxType) → IsDeclared types w → IsDeclared types (received w)
received_declared types w d = tuple_declared types (ty.Token ∷ w ∷ []) (token_declared types, (d, tt))

module _ (here : Instance → Bool) (context : TypeEnv) (env : Env) (outer scope : CoreScope) (ends : List End) (h : IsWellTypedEnv context env) (at : ScopeMatchesEnv here context scope) (members : MembersExist context outer ends) where
  pub computes_there : (e : Expr) → IsWellTypedPart (reaching context.known here) ((expr_pair e).1 false context) → ActThere (types_at context) outer ends scope e Computes ((expr_pair e).1 false context)
  computes_there e well_typed =
      let b = within_lowers_to here context env scope (expr_pair e) (lower_expression e) (expression_part e) h at well_typed in
      record {
        own = b.expr.ty;
        typed = b.typed;
        declared = b.declared;
        steps = λ binds rest s q.
            ap (λ o. type_of_steps (and_then o (λ e. lower_compute e binds rest scope))) b.is
            ∙ ap (λ o. type_of_steps (and_then o (λ s. step_then (step.Bind b.expr.core s.shape) (rest s.scope)))) q
            ∙ one_step (step.Bind b.expr.core s.shape) (rest s.scope);
      }

  -- the token that an effect takes
  token_there : (t : Expr) → (token_typing context (expr_pair t)).faults ≡ [] → list_all here (token_typing context (expr_pair t)).reached ≡ true
      → (u : DslxType) × ((token_typing context (expr_pair t)).ty ≡ Some u)
  token_there t f r =
      let a = within context (expr_pair t) in
      let b = within_lowers_to here context env scope (expr_pair t) (lower_expression t) (expression_part t) h at (record { faults = (none_in a.faults (token_faults (span_of (expr_pair t)) a.ty) f).0; reached = r }) in
      (b.expr.ty, b.typed)

  value_there : (e : Expr) → (alone context (expr_pair e)).faults ≡ [] → list_all here (alone context (expr_pair e)).reached ≡ true → LowersTo (types_at context) (alone context (expr_pair e)) (lower_expression e scope)
  value_there e f r = alone_lowers_to here context env scope (expr_pair e) (lower_expression e) (expression_part e) h at f r

  -- a word of the member's type
  word_there : (e : Expr) (m : CoreMember) → IsDeclared (types_at context) m.word → (b : LowersTo (types_at context) (alone context (expr_pair e)) (lower_expression e scope)) (o : Option DslxType) → o ≡ Some m.word
      → wanted_faults (span_of (expr_pair e)) o (alone context (expr_pair e)).ty ≡ [] → of_type m.word (lower_expression e scope) ≡ Some b.expr
  word_there e m d b o q f =
      let same = passed (same_type m.word b.expr.ty) 9 (span_of (expr_pair e)) ((λ i. wanted_faults (span_of (expr_pair e)) (sym q i) (sym b.typed i)) ∙ f) in
      ap (of_type m.word) b.is ∙ ap (λ c. where_true c (Some b.expr)) (equal_of_text (types_at context) m.word b.expr.ty same d b.declared)

  -- the member and its words
  member_there : (c : Expr) (ch : ChannelThere context (expr_pair c) (name_of_expr (expr_pair c))) (act : List ℕ → SiteAct) → at_channel c act ≡ act ch.name
  member_there c ch act = ap (act_named act) (ap (λ x. name_in_node (node_of x)) (sym (own_expr typing_sorts typing_steps c)) ∙ ch.is)

  pub receiving_there : (span : Span) (e t c : Expr) → IsWellTypedPart (reaching context.known here) (receiving span context (expr_pair t ∷ expr_pair c ∷ []))
      → ActThere (types_at context) outer ends scope e (at_channel c TakesWord) (receiving span context (expr_pair t ∷ expr_pair c ∷ []))
  receiving_there span e t c well_typed =
      let channel = channel_seen context (expr_pair c) in
      let q = effect_well_typed (reaching context.known here) span context In (token_typing context (expr_pair t)) channel [] [] (and_then (word_of channel) (λ w. Some (received w))) well_typed in
      let tok = token_there t q.token q.token_reached in
      let ch = channel_there context (expr_pair c) (name_of_expr (expr_pair c)) span In q.site in
      let m = members ch.name ch.channel_end ch.found in
      let word : word_of channel ≡ Some m.member.word = ch.word ∙ m.word in
      subst (λ a. ActThere (types_at context) outer ends scope e a (receiving span context (expr_pair t ∷ expr_pair c ∷ []))) (sym (member_there c ch TakesWord))
      (record {
        own = received m.member.word;
        typed = q.ty ∙ (λ i. and_then (tok.1 i) (λ u. and_then (word i) (λ w. Some (received w))));
        declared = received_declared (types_at context) m.member.word m.declared;
        steps = λ binds rest s k.
            ap (λ o. type_of_steps (and_then o (λ m. lower_receive m None binds rest scope))) m.is
            ∙ ap (λ o. type_of_steps (and_then o (λ s. step_then (step.Receive (record { member = m.member.number; word = plain_type m.member.word; condition = None; shape = s.shape })) (rest s.scope)))) k
            ∙ one_step (step.Receive (record { member = m.member.number; word = plain_type m.member.word; condition = None; shape = s.shape })) (rest s.scope);
      })

  pub sending_there : (span : Span) (e t c x : Expr) → IsWellTypedPart (reaching context.known here) (sending span context (expr_pair t ∷ expr_pair c ∷ expr_pair x ∷ []))
      → ActThere (types_at context) outer ends scope e (at_channel c (λ name. SendsWord name x)) (sending span context (expr_pair t ∷ expr_pair c ∷ expr_pair x ∷ []))
  sending_there span e t c x well_typed =
      let channel = channel_seen context (expr_pair c) in
      let value = alone context (expr_pair x) in
      let q = effect_well_typed (reaching context.known here) span context Out (token_typing context (expr_pair t)) channel (value ∷ []) (wanted_faults (span_of (expr_pair x)) (word_of channel) value.ty) (and_then (word_of channel) (λ w. Some ty.Token)) well_typed in
      let tok = token_there t q.token q.token_reached in
      let ch = channel_there context (expr_pair c) (name_of_expr (expr_pair c)) span Out q.site in
      let m = members ch.name ch.channel_end ch.found in
      let word : word_of channel ≡ Some m.member.word = ch.word ∙ m.word in
      let b = value_there x (none_in value.faults [] q.others).0 (all_in here value.reached [] q.others_reached).0 in
      let of = word_there x m.member m.declared b (word_of channel) word q.more in
      subst (λ a. ActThere (types_at context) outer ends scope e a (sending span context (expr_pair t ∷ expr_pair c ∷ expr_pair x ∷ []))) (sym (member_there c ch (λ name. SendsWord name x)))
      (record {
        own = ty.Token;
        typed = q.ty ∙ (λ i. and_then (tok.1 i) (λ u. when_all (b.typed i ∷ []) (and_then (word i) (λ w. Some ty.Token))));
        declared = token_declared (types_at context);
        steps = λ binds rest s k.
            ap (λ o. type_of_steps (and_then o (λ m. and_then (of_type m.word (lower_expression x scope)) (λ word. lower_send m None word binds rest scope)))) m.is
            ∙ ap (λ o. type_of_steps (and_then o (λ word. lower_send m.member None word binds rest scope))) of
            ∙ ap (λ o. type_of_steps (and_then o (λ s. step_then (step.Send (record { member = m.member.number; condition = None; word = b.expr.core; shape = s.shape })) (rest s.scope)))) k
            ∙ one_step (step.Send (record { member = m.member.number; condition = None; word = b.expr.core; shape = s.shape })) (rest s.scope);
      })

  pub receiving_if_there : (span : Span) (e t c p x : Expr)
      → IsWellTypedPart (reaching context.known here) (receiving_if span context (expr_pair t ∷ expr_pair c ∷ expr_pair p ∷ expr_pair x ∷ []))
      → ActThere (types_at context) outer ends scope e (at_channel c (λ name. TakesWordIf name p x)) (receiving_if span context (expr_pair t ∷ expr_pair c ∷ expr_pair p ∷ expr_pair x ∷ []))
  receiving_if_there span e t c p x well_typed =
      let channel = channel_seen context (expr_pair c) in
      let test = alone context (expr_pair p) in
      let value = alone context (expr_pair x) in
      let bool = unless_type is_bool 15 (span_of (expr_pair p)) test.ty in
      let wrong = wanted_faults (span_of (expr_pair x)) (word_of channel) value.ty in
      let q = effect_well_typed (reaching context.known here) span context In (token_typing context (expr_pair t)) channel (test ∷ value ∷ []) (bool ++ wrong) (and_then (word_of channel) (λ w. Some (received w))) well_typed in
      let tok = token_there t q.token q.token_reached in
      let ch = channel_there context (expr_pair c) (name_of_expr (expr_pair c)) span In q.site in
      let m = members ch.name ch.channel_end ch.found in
      let word : word_of channel ≡ Some m.member.word = ch.word ∙ m.word in
      let f = none_in test.faults (value.faults ++ []) q.others in
      let r = all_in here test.reached (value.reached ++ []) q.others_reached in
      let a = value_there p f.0 r.0 in
      let b = value_there x (none_in value.faults [] f.1).0 (all_in here value.reached [] r.1).0 in
      let of = word_there x m.member m.declared b (word_of channel) word (none_in bool wrong q.more).1 in
      subst (λ a. ActThere (types_at context) outer ends scope e a (receiving_if span context (expr_pair t ∷ expr_pair c ∷ expr_pair p ∷ expr_pair x ∷ []))) (sym (member_there c ch (λ name. TakesWordIf name p x)))
      (record {
        own = received m.member.word;
        typed = q.ty ∙ (λ i. and_then (tok.1 i) (λ u. when_all (a.typed i ∷ b.typed i ∷ []) (and_then (word i) (λ w. Some (received w)))));
        declared = received_declared (types_at context) m.member.word m.declared;
        steps = λ binds rest s k.
            ap (λ o. type_of_steps (and_then o (λ m. with_both (lower_expression p scope) (of_type m.word (lower_expression x scope)) (λ p other. lower_receive m (Some (p, other)) binds rest scope)))) m.is
            ∙ (λ i. type_of_steps (with_both (a.is i) (of i) (λ p other. lower_receive m.member (Some (p, other)) binds rest scope)))
            ∙ ap (λ o. type_of_steps (and_then o (λ s. step_then (step.Receive (record { member = m.member.number; word = plain_type m.member.word; condition = Some (a.expr.core, b.expr.core); shape = s.shape })) (rest s.scope)))) k
            ∙ one_step (step.Receive (record { member = m.member.number; word = plain_type m.member.word; condition = Some (a.expr.core, b.expr.core); shape = s.shape })) (rest s.scope);
      })

  pub sending_if_there : (span : Span) (e t c p x : Expr)
      → IsWellTypedPart (reaching context.known here) (sending_if span context (expr_pair t ∷ expr_pair c ∷ expr_pair p ∷ expr_pair x ∷ []))
      → ActThere (types_at context) outer ends scope e (at_channel c (λ name. SendsWordIf name p x)) (sending_if span context (expr_pair t ∷ expr_pair c ∷ expr_pair p ∷ expr_pair x ∷ []))
  sending_if_there span e t c p x well_typed =
      let channel = channel_seen context (expr_pair c) in
      let test = alone context (expr_pair p) in
      let value = alone context (expr_pair x) in
      let bool = unless_type is_bool 15 (span_of (expr_pair p)) test.ty in
      let wrong = wanted_faults (span_of (expr_pair x)) (word_of channel) value.ty in
      let q = effect_well_typed (reaching context.known here) span context Out (token_typing context (expr_pair t)) channel (test ∷ value ∷ []) (bool ++ wrong) (and_then (word_of channel) (λ w. Some ty.Token)) well_typed in
      let tok = token_there t q.token q.token_reached in
      let ch = channel_there context (expr_pair c) (name_of_expr (expr_pair c)) span Out q.site in
      let m = members ch.name ch.channel_end ch.found in
      let word : word_of channel ≡ Some m.member.word = ch.word ∙ m.word in
      let f = none_in test.faults (value.faults ++ []) q.others in
      let r = all_in here test.reached (value.reached ++ []) q.others_reached in
      let a = value_there p f.0 r.0 in
      let b = value_there x (none_in value.faults [] f.1).0 (all_in here value.reached [] r.1).0 in
      let of = word_there x m.member m.declared b (word_of channel) word (none_in bool wrong q.more).1 in
      subst (λ a. ActThere (types_at context) outer ends scope e a (sending_if span context (expr_pair t ∷ expr_pair c ∷ expr_pair p ∷ expr_pair x ∷ []))) (sym (member_there c ch (λ name. SendsWordIf name p x)))
      (record {
        own = ty.Token;
        typed = q.ty ∙ (λ i. and_then (tok.1 i) (λ u. when_all (a.typed i ∷ b.typed i ∷ []) (and_then (word i) (λ w. Some ty.Token))));
        declared = token_declared (types_at context);
        steps = λ binds rest s k.
            ap (λ o. type_of_steps (and_then o (λ m. with_both (lower_expression p scope) (of_type m.word (lower_expression x scope)) (λ p word. lower_send m (Some p) word binds rest scope)))) m.is
            ∙ (λ i. type_of_steps (with_both (a.is i) (of i) (λ p word. lower_send m.member (Some p) word binds rest scope)))
            ∙ ap (λ o. type_of_steps (and_then o (λ s. step_then (step.Send (record { member = m.member.number; condition = Some a.expr.core; word = b.expr.core; shape = s.shape })) (rest s.scope)))) k
            ∙ one_step (step.Send (record { member = m.member.number; condition = Some a.expr.core; word = b.expr.core; shape = s.shape })) (rest s.scope);
      })
