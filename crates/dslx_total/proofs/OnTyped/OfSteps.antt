-- The steps of `next` have types.
use Rattle.std.proofs.Common.{Bool, List, [], false, true, if◌then◌else◌, map, Option, Some, None, ap, refl, subst, sym, ℕ, ◌∙◌, ◌∷◌, ◌≡◌, ◌++◌}
use Rattle.std.specs.List.{list_all}
use Rattle.xb_span.specs.declared.span.Span.{Span}
use Rattle.xb_value.specs.declared.ty.Ty.{Ty}
use Rattle.dslx_tree.proofs.Lemmas.Folds.Levels.{BlockLevel, Carriers, LetLevel, StmtLevel, map_bind, map_block, map_node, map_stmt, trees}
use Rattle.dslx_tree.proofs.Lemmas.Folds.Folds.{Steps, fold_arg, fold_bind, fold_block, fold_pattern, fold_stmt, fold_type_expr, folds}
use Rattle.dslx_tree.specs.declared.block.Block.{Block, out-Block}
use Rattle.dslx_tree.specs.declared.block.Let.{Let, out-Let}
use Rattle.dslx_tree.specs.declared.block.Stmt.{Stmt, out-Stmt}
use Rattle.dslx_tree.specs.declared.block.Stmt.TheFolds.{fold_out-Block, fold_out-Let, fold_out-Stmt}
use Rattle.dslx_tree.specs.declared.block.Stmt.TheOpen.{Node-F, Stmt-F}
use Rattle.dslx_tree.specs.declared.expr.Arg.{Arg}
use Rattle.dslx_tree.specs.declared.expr.Expr.{Expr, out-Expr}
use Rattle.dslx_tree.specs.declared.ident.Ident.{Ident}
use Rattle.dslx_tree.specs.declared.pattern.Pattern.{Pattern}
use Rattle.dslx_tree.specs.declared.process.Direction.TheVariants.{In, Out}
use Rattle.dslx_tree.specs.declared.process.End.{End}
use Rattle.dslx_tree.specs.declared.type_expr.TypeExpr.{TypeExpr}
use Rattle.dslx_meaning.specs.Activation.{Computes, NodeLayer, SendsWord, SendsWordIf, SiteAct, TakesWord, TakesWordIf, act_of, act_of_call, act_of_node, at_channel, name_in_node, node_of}
use Rattle.dslx_meaning.specs.Callees.{AllOnes, CallKind, Calls, CountsLeading, CountsTrailing, Joins, Parity, Receives, ReceivesIf, Reverses, Sends, SendsIf, SomeOne, Updates, kind_of_call}
use Rattle.dslx_meaning.specs.Environment.{Env}
use Rattle.dslx_meaning.specs.Lists.{and_then, where_true, with_both}
use Rattle.dslx_meaning.specs.Meaning.{TypeDen, written_type}
use Rattle.dslx_meaning.specs.Types.{plain_type, received, unit_type}
use Rattle.dslx_meaning.specs.declared.ty.DslxType.{DslxType}
use Rattle.dslx_meaning.specs.declared.ty.DslxType as ty
use Rattle.dslx_meaning.specs.Rules.AggregateRules.{wanted_faults, when_all}
use Rattle.dslx_meaning.specs.Rules.CallRules.{ParametricArgument, call_typing, channel_seen, given_parametric_args, held_typing, receiving, receiving_if, sending, sending_if, token_faults, token_typing, word_of, wrong_effect}
use Rattle.dslx_meaning.specs.Rules.ControlRules.{annotation_faults, annotation_reached, behind, bound_type, expr_statement_typing, last_typing, let_with, statements_typing, written_typing}
use Rattle.dslx_meaning.specs.Rules.EffectNames.{is_effect}
use Rattle.dslx_meaning.specs.Rules.NodeRules.{block_pair, expr_pair, node_typing, typing_steps}
use Rattle.dslx_meaning.specs.Rules.OperatorRules.{is_bool, unless_type}
use Rattle.dslx_meaning.specs.Rules.PatternRules.{pattern_alone}
use Rattle.dslx_meaning.specs.Rules.TypeEnvs.{ExprPair, GlobalEnv, Instance, Judgement, TypeEnv, all_alone, alone, has_broken, name_of_expr, no_token, one_and, plus_size, settled, span_of, within}
use Rattle.dslx_meaning.specs.Rules.Typings.{PatternSeen, StatementSeen, StatementTyping, TypePair, typing_sorts}
use Rattle.dslx_core.proofs.Lemmas.Lowering.{from_then, from_where}
use Rattle.dslx_core.proofs.Lemmas.Typing.Sound.{all_in, all_in_three, alone_well_typed, none_in, none_in_three, own_expr, pattern_gives, settled_well_typed, type_has_den, wrongly_called}
use Rattle.dslx_core.proofs.Lemmas.Typing.Typed.{same_some}
use Rattle.dslx_core.specs.declared.expr.Shape as shape
use Rattle.dslx_core.specs.Lowering.CoreScopes.{CoreScope}
use Rattle.dslx_core.specs.Lowering.EqualTypes.{equal_type}
use Rattle.dslx_core.specs.Lowering.Lowering.{LoweredExpr}
use Rattle.dslx_core.specs.Lowering.Patterns.{LoweredShape, lower_in_scope}
use Rattle.dslx_core.specs.Lowering.Steps.{BindsInScope, CoreMember, StepsLowering, binds_nothing, lower_act, lower_compute, lower_receive, lower_send, member_in, statement_steps, statements_steps}
use Rattle.dslx_core.specs.Lowering.Trees.{lower_expression, of_type}
use Rattle.dslx_core.specs.Typing.Sound.Sound.{TypeHasDenIf}
use Rattle.dslx_core.specs.Typing.Typed.Complete.{IsWellTypedPart}
use Rattle.dslx_core.specs.Typing.Typed.Declared.{Declarations, IsDeclared}
use Rattle.dslx_core.specs.Typing.Typed.WellTyped.{IsWellTypedEnv, types_at}
use Rattle.dslx_core.specs.Types.Designs.{WordTypes}
use Rattle.dslx_core.specs.Types.Typing.{FunctionTypes}
use Rattle.dslx_core.proofs.Lemmas.Types.{binds_wild}
use Rattle.dslx_total.proofs.Lemmas.Expressions.{ChannelThere, annotated_there, channel_there, effect_well_typed, expression_part, pattern_part, received_declared, some_value, stands_behind, token_declared, typed_behind, typing_at}
use Rattle.dslx_total.specs.Expressions.Beside.{ScopeMatchesEnv}
use Rattle.dslx_total.specs.Expressions.ExprLowering.{IsClean, reaching}
use Rattle.dslx_total.specs.Expressions.NextSteps.{MembersExist}
use Rattle.dslx_total.specs.Typed.Functions.{WordsOf}
use Rattle.dslx_total.specs.Typed.Scopes.{TypedIfThere, TypedScope, is_sound_type}
use Rattle.dslx_total.proofs.OnTyped.Joined.{become, becoming, expression_is_typed, pattern_is_typed, seeing, seen}
use Rattle.dslx_total.proofs.OnTyped.OnConstructs.{unit_core}
use Rattle.dslx_total.proofs.OnTyped.OnOneType.{one_by_test}
use Rattle.dslx_total.proofs.OnTyped.OnOperators.{bool_is_wide, unless_passed}
use Rattle.dslx_total.proofs.OnTyped.OnParts.{ExprTyped, TypedTo, alone_typed_to, within_typed_to}
use Rattle.dslx_total.proofs.OnTyped.OnSteps.{BehindTyped, StepsIfThere, compute_typed, if_both, if_word, member_sound, receive_if_typed, receive_typed, received_sound, send_if_typed, send_typed}
use Rattle.dslx_total.proofs.OnTyped.OnTypes.{plain_tuple, sound_token, sound_tuple}

-- ---- what stands at the top

-- it has a type, and becomes steps with types: whatever they bind, the rest goes on behind it
abbrev ActTyped : FunctionTypes → WordTypes → List Ty → Declarations → CoreScope → List End → CoreScope → Expr → SiteAct → Judgement → Type 0
ActTyped fs words ts types outer ends scope e act j = (binds : BindsInScope) (rest : StepsLowering)
    → ((t : DslxType) → j.ty ≡ Some t → IsDeclared types t → is_sound_type t ≡ true → (s : LoweredShape) → binds scope t ≡ Some s → BehindTyped fs words ts t s (rest s.scope))
    → StepsIfThere fs words ts (lower_act outer ends act e binds rest scope)

abbrev act_named : (List ℕ → SiteAct) → Option (List ℕ) → SiteAct
act_named act None = Computes
act_named act (Some name) = act name

wrong_any : {X : Type 0} (known : GlobalEnv) (span : Span) (context : TypeEnv) (given : List ParametricArgument) (es : List ExprPair) → IsWellTypedPart known (wrong_effect span context given es) → X
wrong_any known span context given [] well_typed = wrongly_called known span given [] [] well_typed
wrong_any known span context given (t ∷ []) well_typed = wrongly_called known span given (held_typing context t ∷ []) [] well_typed
wrong_any known span context given (t ∷ c ∷ es) well_typed = wrongly_called known span given (held_typing context t ∷ (channel_seen context c).judgement ∷ all_alone context es) [] well_typed

-- a word of the member's type
word_is : (m : CoreMember) (o : Option LoweredExpr) (b e : LoweredExpr) → o ≡ Some b → of_type m.word o ≡ Some e → (b ≡ e) × (m.word ≡ b.ty)
word_is m o b e is of =
    let a = from_then o (λ e. where_true (equal_type m.word e.ty) (Some e)) e of in
    let w = from_where (equal_type m.word a.0.ty) (Some a.0) e a.2 in
    let one = same_some b a.0 (sym is ∙ a.1) in
    (one ∙ same_some a.0 e w.1, one_by_test m.word b.ty (ap (λ (x : LoweredExpr). equal_type m.word x.ty) one ∙ w.0))

module _ (here : Instance → Bool) (context : TypeEnv) (env : Env) (outer scope : CoreScope) (ends : List End) (fs : FunctionTypes) (words : WordTypes) (ts : List Ty)
    (h : IsWellTypedEnv context env) (at : ScopeMatchesEnv here context scope) (members : MembersExist context outer ends) (scoped : TypedScope fs ts scope) (ws : WordsOf (member_in outer ends) words) (e : Expr) where
  expr_typed : (e : Expr) → ExprTyped (expr_pair e) (lower_expression e)
  expr_typed e = record { lowers = expression_part e; typed = expression_is_typed e }

  value_there : (e : Expr) → (alone context (expr_pair e)).faults ≡ [] → list_all here (alone context (expr_pair e)).reached ≡ true → TypedTo fs ts (types_at context) (alone context (expr_pair e)) (lower_expression e scope)
  value_there e f r = alone_typed_to here context env scope fs ts h at scoped (expr_pair e) (lower_expression e) (expr_typed e) f r

  token_there : (t : Expr) → (token_typing context (expr_pair t)).faults ≡ [] → list_all here (token_typing context (expr_pair t)).reached ≡ true → (u : DslxType) × ((token_typing context (expr_pair t)).ty ≡ Some u)
  token_there t f r =
      let a = within context (expr_pair t) in
      let b = within_typed_to here context env scope fs ts h at scoped (expr_pair t) (lower_expression t) (expr_typed t) (record { faults = (none_in a.faults (token_faults (span_of (expr_pair t)) a.ty) f).0; reached = r }) in
      (b.expr.ty, b.typed)

  named_there : (c : Expr) (ch : ChannelThere context (expr_pair c) (name_of_expr (expr_pair c))) (act : List ℕ → SiteAct) → at_channel c act ≡ act ch.name
  named_there c ch act = ap (act_named act) (ap (λ x. name_in_node (node_of x)) (sym (own_expr typing_sorts typing_steps c)) ∙ ch.is)

  computes_typed : IsWellTypedPart (reaching context.known here) ((expr_pair e).1 false context) → ActTyped fs words ts (types_at context) outer ends scope e Computes ((expr_pair e).1 false context)
  computes_typed well_typed binds rest k =
      let b = within_typed_to here context env scope fs ts h at scoped (expr_pair e) (lower_expression e) (expr_typed e) well_typed in
      subst (StepsIfThere fs words ts) (sym (ap (λ o. and_then o (λ e. lower_compute e binds rest scope)) b.is)) (compute_typed fs words ts b.expr binds rest scope b.core (k b.expr.ty b.typed b.declared b.core.sound))

  receiving_typed : (span : Span) (t c : Expr) → IsWellTypedPart (reaching context.known here) (receiving span context (expr_pair t ∷ expr_pair c ∷ []))
      → ActTyped fs words ts (types_at context) outer ends scope e (at_channel c TakesWord) (receiving span context (expr_pair t ∷ expr_pair c ∷ []))
  receiving_typed span t c well_typed =
      let channel = channel_seen context (expr_pair c) in
      let q = effect_well_typed (reaching context.known here) span context In (token_typing context (expr_pair t)) channel [] [] (and_then (word_of channel) (λ w. Some (received w))) well_typed in
      let tok = token_there t q.token q.token_reached in
      let ch = channel_there context (expr_pair c) (name_of_expr (expr_pair c)) span In q.site in
      let m = members ch.name ch.channel_end ch.found in
      let word : word_of channel ≡ Some m.member.word = ch.word ∙ m.word in
      let typed = q.ty ∙ (λ i. and_then (tok.1 i) (λ u. and_then (word i) (λ w. Some (received w)))) in
      subst (λ a. ActTyped fs words ts (types_at context) outer ends scope e a (receiving span context (expr_pair t ∷ expr_pair c ∷ []))) (sym (named_there c ch TakesWord))
      (λ binds rest k.
      subst (StepsIfThere fs words ts) (sym (ap (λ o. and_then o (λ m. lower_receive m None binds rest scope)) m.is))
      (receive_typed fs words ts m.member binds rest scope (ws ch.name m.member m.is)
      (k (received m.member.word) typed (received_declared (types_at context) m.member.word m.declared) (received_sound m.member.word (member_sound outer ends ch.name m.member m.is)))))

  sending_typed : (span : Span) (t c x : Expr) → IsWellTypedPart (reaching context.known here) (sending span context (expr_pair t ∷ expr_pair c ∷ expr_pair x ∷ []))
      → ActTyped fs words ts (types_at context) outer ends scope e (at_channel c (λ name. SendsWord name x)) (sending span context (expr_pair t ∷ expr_pair c ∷ expr_pair x ∷ []))
  sending_typed span t c x well_typed =
      let channel = channel_seen context (expr_pair c) in
      let value = alone context (expr_pair x) in
      let q = effect_well_typed (reaching context.known here) span context Out (token_typing context (expr_pair t)) channel (value ∷ []) (wanted_faults (span_of (expr_pair x)) (word_of channel) value.ty) (and_then (word_of channel) (λ w. Some ty.Token)) well_typed in
      let tok = token_there t q.token q.token_reached in
      let ch = channel_there context (expr_pair c) (name_of_expr (expr_pair c)) span Out q.site in
      let m = members ch.name ch.channel_end ch.found in
      let word : word_of channel ≡ Some m.member.word = ch.word ∙ m.word in
      let b = value_there x (none_in value.faults [] q.others).0 (all_in here value.reached [] q.others_reached).0 in
      let typed = q.ty ∙ (λ i. and_then (tok.1 i) (λ u. when_all (b.typed i ∷ []) (and_then (word i) (λ w. Some ty.Token)))) in
      subst (λ a. ActTyped fs words ts (types_at context) outer ends scope e a (sending span context (expr_pair t ∷ expr_pair c ∷ expr_pair x ∷ []))) (sym (named_there c ch (λ name. SendsWord name x)))
      (λ binds rest k.
      subst (StepsIfThere fs words ts) (sym (ap (λ o. and_then o (λ m. and_then (of_type m.word (lower_expression x scope)) (λ word. lower_send m None word binds rest scope))) m.is))
      (if_word fs words ts (of_type m.member.word (lower_expression x scope)) (λ word. lower_send m.member None word binds rest scope)
      (λ w of.
      let one = word_is m.member (lower_expression x scope) b.expr w b.is of in
      subst (λ w. StepsIfThere fs words ts (lower_send m.member None w binds rest scope)) one.0
      (send_typed fs words ts m.member b.expr binds rest scope (ws ch.name m.member m.is) b.core one.1 (k ty.Token typed (token_declared (types_at context)) sound_token)))))

  receiving_if_typed : (span : Span) (t c p x : Expr) → IsWellTypedPart (reaching context.known here) (receiving_if span context (expr_pair t ∷ expr_pair c ∷ expr_pair p ∷ expr_pair x ∷ []))
      → ActTyped fs words ts (types_at context) outer ends scope e (at_channel c (λ name. TakesWordIf name p x)) (receiving_if span context (expr_pair t ∷ expr_pair c ∷ expr_pair p ∷ expr_pair x ∷ []))
  receiving_if_typed span t c p x well_typed =
      let channel = channel_seen context (expr_pair c) in
      let test = alone context (expr_pair p) in
      let value = alone context (expr_pair x) in
      let bool = unless_type is_bool 15 (span_of (expr_pair p)) test.ty in
      let wrong = wanted_faults (span_of (expr_pair x)) (word_of channel) value.ty in
      let q = effect_well_typed (reaching context.known here) span context In (token_typing context (expr_pair t)) channel (test ∷ value ∷ []) (bool ++ wrong) (and_then (word_of channel) (λ w. Some (received w))) well_typed in
      let tok = token_there t q.token q.token_reached in
      let ch = channel_there context (expr_pair c) (name_of_expr (expr_pair c)) span In q.site in
      let m = members ch.name ch.channel_end ch.found in
      let word : word_of channel ≡ Some m.member.word = ch.word ∙ m.word in
      let f = none_in test.faults (value.faults ++ []) q.others in
      let r = all_in here test.reached (value.reached ++ []) q.others_reached in
      let a = value_there p f.0 r.0 in
      let b = value_there x (none_in value.faults [] f.1).0 (all_in here value.reached [] r.1).0 in
      let one_bit = bool_is_wide (types_at context) a.expr.ty a.declared (unless_passed is_bool 15 (span_of (expr_pair p)) test.ty a.expr.ty a.typed (none_in bool wrong q.more).0) in
      let typed = q.ty ∙ (λ i. and_then (tok.1 i) (λ u. when_all (a.typed i ∷ b.typed i ∷ []) (and_then (word i) (λ w. Some (received w))))) in
      subst (λ a. ActTyped fs words ts (types_at context) outer ends scope e a (receiving_if span context (expr_pair t ∷ expr_pair c ∷ expr_pair p ∷ expr_pair x ∷ []))) (sym (named_there c ch (λ name. TakesWordIf name p x)))
      (λ binds rest k.
      subst (StepsIfThere fs words ts) (sym (ap (λ o. and_then o (λ m. with_both (lower_expression p scope) (of_type m.word (lower_expression x scope)) (λ p other. lower_receive m (Some (p, other)) binds rest scope))) m.is))
      (if_both fs words ts (lower_expression p scope) (of_type m.member.word (lower_expression x scope)) (λ p other. lower_receive m.member (Some (p, other)) binds rest scope)
      (λ d w there of.
      let one = word_is m.member (lower_expression x scope) b.expr w b.is of in
      let other = same_some a.expr d (sym a.is ∙ there) in
      subst (λ d. StepsIfThere fs words ts (lower_receive m.member (Some (d, w)) binds rest scope)) other
      (subst (λ w. StepsIfThere fs words ts (lower_receive m.member (Some (a.expr, w)) binds rest scope)) one.0
      (receive_if_typed fs words ts m.member a.expr b.expr binds rest scope (ws ch.name m.member m.is) a.core one_bit b.core one.1
      (k (received m.member.word) typed (received_declared (types_at context) m.member.word m.declared) (received_sound m.member.word (member_sound outer ends ch.name m.member m.is))))))))

  sending_if_typed : (span : Span) (t c p x : Expr) → IsWellTypedPart (reaching context.known here) (sending_if span context (expr_pair t ∷ expr_pair c ∷ expr_pair p ∷ expr_pair x ∷ []))
      → ActTyped fs words ts (types_at context) outer ends scope e (at_channel c (λ name. SendsWordIf name p x)) (sending_if span context (expr_pair t ∷ expr_pair c ∷ expr_pair p ∷ expr_pair x ∷ []))
  sending_if_typed span t c p x well_typed =
      let channel = channel_seen context (expr_pair c) in
      let test = alone context (expr_pair p) in
      let value = alone context (expr_pair x) in
      let bool = unless_type is_bool 15 (span_of (expr_pair p)) test.ty in
      let wrong = wanted_faults (span_of (expr_pair x)) (word_of channel) value.ty in
      let q = effect_well_typed (reaching context.known here) span context Out (token_typing context (expr_pair t)) channel (test ∷ value ∷ []) (bool ++ wrong) (and_then (word_of channel) (λ w. Some ty.Token)) well_typed in
      let tok = token_there t q.token q.token_reached in
      let ch = channel_there context (expr_pair c) (name_of_expr (expr_pair c)) span Out q.site in
      let m = members ch.name ch.channel_end ch.found in
      let word : word_of channel ≡ Some m.member.word = ch.word ∙ m.word in
      let f = none_in test.faults (value.faults ++ []) q.others in
      let r = all_in here test.reached (value.reached ++ []) q.others_reached in
      let a = value_there p f.0 r.0 in
      let b = value_there x (none_in value.faults [] f.1).0 (all_in here value.reached [] r.1).0 in
      let one_bit = bool_is_wide (types_at context) a.expr.ty a.declared (unless_passed is_bool 15 (span_of (expr_pair p)) test.ty a.expr.ty a.typed (none_in bool wrong q.more).0) in
      let typed = q.ty ∙ (λ i. and_then (tok.1 i) (λ u. when_all (a.typed i ∷ b.typed i ∷ []) (and_then (word i) (λ w. Some ty.Token)))) in
      subst (λ a. ActTyped fs words ts (types_at context) outer ends scope e a (sending_if span context (expr_pair t ∷ expr_pair c ∷ expr_pair p ∷ expr_pair x ∷ []))) (sym (named_there c ch (λ name. SendsWordIf name p x)))
      (λ binds rest k.
      subst (StepsIfThere fs words ts) (sym (ap (λ o. and_then o (λ m. with_both (lower_expression p scope) (of_type m.word (lower_expression x scope)) (λ p word. lower_send m (Some p) word binds rest scope))) m.is))
      (if_both fs words ts (lower_expression p scope) (of_type m.member.word (lower_expression x scope)) (λ p word. lower_send m.member (Some p) word binds rest scope)
      (λ d w there of.
      let one = word_is m.member (lower_expression x scope) b.expr w b.is of in
      let other = same_some a.expr d (sym a.is ∙ there) in
      subst (λ d. StepsIfThere fs words ts (lower_send m.member (Some d) w binds rest scope)) other
      (subst (λ w. StepsIfThere fs words ts (lower_send m.member (Some a.expr) w binds rest scope)) one.0
      (send_if_typed fs words ts m.member a.expr b.expr binds rest scope (ws ch.name m.member m.is) a.core one_bit b.core one.1 (k ty.Token typed (token_declared (types_at context)) sound_token))))))

  -- ---- any expression at the top

  receives_at : (span : Span) (es : List Expr) → IsWellTypedPart (reaching context.known here) (receiving span context (map expr_pair es))
      → ActTyped fs words ts (types_at context) outer ends scope e (act_of_call Receives es) (receiving span context (map expr_pair es))
  receives_at span [] well_typed = wrong_any (reaching context.known here) span context [] [] well_typed
  receives_at span (t ∷ []) well_typed = wrong_any (reaching context.known here) span context [] (expr_pair t ∷ []) well_typed
  receives_at span (t ∷ c ∷ []) well_typed = receiving_typed span t c well_typed
  receives_at span (t ∷ c ∷ x ∷ es) well_typed = wrong_any (reaching context.known here) span context [] (map expr_pair (t ∷ c ∷ x ∷ es)) well_typed

  receives_if_at : (span : Span) (es : List Expr) → IsWellTypedPart (reaching context.known here) (receiving_if span context (map expr_pair es))
      → ActTyped fs words ts (types_at context) outer ends scope e (act_of_call ReceivesIf es) (receiving_if span context (map expr_pair es))
  receives_if_at span [] well_typed = wrong_any (reaching context.known here) span context [] [] well_typed
  receives_if_at span (t ∷ []) well_typed = wrong_any (reaching context.known here) span context [] (map expr_pair (t ∷ [])) well_typed
  receives_if_at span (t ∷ c ∷ []) well_typed = wrong_any (reaching context.known here) span context [] (map expr_pair (t ∷ c ∷ [])) well_typed
  receives_if_at span (t ∷ c ∷ p ∷ []) well_typed = wrong_any (reaching context.known here) span context [] (map expr_pair (t ∷ c ∷ p ∷ [])) well_typed
  receives_if_at span (t ∷ c ∷ p ∷ x ∷ []) well_typed = receiving_if_typed span t c p x well_typed
  receives_if_at span (t ∷ c ∷ p ∷ x ∷ y ∷ es) well_typed = wrong_any (reaching context.known here) span context [] (map expr_pair (t ∷ c ∷ p ∷ x ∷ y ∷ es)) well_typed

  sends_at : (span : Span) (es : List Expr) → IsWellTypedPart (reaching context.known here) (sending span context (map expr_pair es))
      → ActTyped fs words ts (types_at context) outer ends scope e (act_of_call Sends es) (sending span context (map expr_pair es))
  sends_at span [] well_typed = wrong_any (reaching context.known here) span context [] [] well_typed
  sends_at span (t ∷ []) well_typed = wrong_any (reaching context.known here) span context [] (map expr_pair (t ∷ [])) well_typed
  sends_at span (t ∷ c ∷ []) well_typed = wrong_any (reaching context.known here) span context [] (map expr_pair (t ∷ c ∷ [])) well_typed
  sends_at span (t ∷ c ∷ x ∷ []) well_typed = sending_typed span t c x well_typed
  sends_at span (t ∷ c ∷ x ∷ y ∷ es) well_typed = wrong_any (reaching context.known here) span context [] (map expr_pair (t ∷ c ∷ x ∷ y ∷ es)) well_typed

  sends_if_at : (span : Span) (es : List Expr) → IsWellTypedPart (reaching context.known here) (sending_if span context (map expr_pair es))
      → ActTyped fs words ts (types_at context) outer ends scope e (act_of_call SendsIf es) (sending_if span context (map expr_pair es))
  sends_if_at span [] well_typed = wrong_any (reaching context.known here) span context [] [] well_typed
  sends_if_at span (t ∷ []) well_typed = wrong_any (reaching context.known here) span context [] (map expr_pair (t ∷ [])) well_typed
  sends_if_at span (t ∷ c ∷ []) well_typed = wrong_any (reaching context.known here) span context [] (map expr_pair (t ∷ c ∷ [])) well_typed
  sends_if_at span (t ∷ c ∷ p ∷ []) well_typed = wrong_any (reaching context.known here) span context [] (map expr_pair (t ∷ c ∷ p ∷ [])) well_typed
  sends_if_at span (t ∷ c ∷ p ∷ x ∷ []) well_typed = sending_if_typed span t c p x well_typed
  sends_if_at span (t ∷ c ∷ p ∷ x ∷ y ∷ es) well_typed = wrong_any (reaching context.known here) span context [] (map expr_pair (t ∷ c ∷ p ∷ x ∷ y ∷ es)) well_typed

  -- what has a value alone is judged alike at the top and elsewhere
  alike_typed : (j : Judgement) → (expr_pair e).1 false context ≡ j → IsWellTypedPart (reaching context.known here) j → ActTyped fs words ts (types_at context) outer ends scope e Computes j
  alike_typed j q well_typed = subst (ActTyped fs words ts (types_at context) outer ends scope e Computes) q (computes_typed (subst (IsWellTypedPart (reaching context.known here)) (sym q) well_typed))

  act_typed : IsWellTypedPart (reaching context.known here) ((expr_pair e).1 true context) → ActTyped fs words ts (types_at context) outer ends scope e (act_of e) ((expr_pair e).1 true context)
  act_typed well_typed =
      subst (ActTyped fs words ts (types_at context) outer ends scope e (act_of e)) (sym (typing_at e true context))
      (by_node (node_of e) (typing_at e false context) (subst (IsWellTypedPart (reaching context.known here)) (typing_at e true context) well_typed))
    where
      span : Span
      span = (out-Expr e).span

      typing : NodeLayer → Bool → Judgement
      typing y on_top = node_typing (map_node trees seen (folds seen seeing) y) span on_top context

      by_call : (f : Ident) (parametric_args : List Arg) (es : List Expr) (k : CallKind) → (expr_pair e).1 false context ≡ call_typing k span f (map (fold_arg seen seeing) parametric_args) (map expr_pair es) false context
          → IsWellTypedPart (reaching context.known here) (call_typing k span f (map (fold_arg seen seeing) parametric_args) (map expr_pair es) true context)
          → ActTyped fs words ts (types_at context) outer ends scope e (act_of_call k es) (call_typing k span f (map (fold_arg seen seeing) parametric_args) (map expr_pair es) true context)
      by_call f [] es Receives q g = receives_at span es g
      by_call f (n ∷ ns) es Receives q g = wrong_any (reaching context.known here) span context (given_parametric_args context (map (fold_arg seen seeing) (n ∷ ns))) (map expr_pair es) g
      by_call f [] es ReceivesIf q g = receives_if_at span es g
      by_call f (n ∷ ns) es ReceivesIf q g = wrong_any (reaching context.known here) span context (given_parametric_args context (map (fold_arg seen seeing) (n ∷ ns))) (map expr_pair es) g
      by_call f [] es Sends q g = sends_at span es g
      by_call f (n ∷ ns) es Sends q g = wrong_any (reaching context.known here) span context (given_parametric_args context (map (fold_arg seen seeing) (n ∷ ns))) (map expr_pair es) g
      by_call f [] es SendsIf q g = sends_if_at span es g
      by_call f (n ∷ ns) es SendsIf q g = wrong_any (reaching context.known here) span context (given_parametric_args context (map (fold_arg seen seeing) (n ∷ ns))) (map expr_pair es) g
      by_call f parametric_args es Joins q g = alike_typed _ q g
      by_call f parametric_args es CountsLeading q g = alike_typed _ q g
      by_call f parametric_args es CountsTrailing q g = alike_typed _ q g
      by_call f parametric_args es Reverses q g = alike_typed _ q g
      by_call f parametric_args es AllOnes q g = alike_typed _ q g
      by_call f parametric_args es SomeOne q g = alike_typed _ q g
      by_call f parametric_args es Parity q g = alike_typed _ q g
      by_call f parametric_args es Updates q g = alike_typed _ q g
      by_call f parametric_args es Calls q g = alike_typed _ q g

      by_node : (y : NodeLayer) → (expr_pair e).1 false context ≡ typing y false → IsWellTypedPart (reaching context.known here) (typing y true)
          → ActTyped fs words ts (types_at context) outer ends scope e (act_of_node y) (typing y true)
      by_node (Node-F.Call f parametric_args es) q g = by_call f parametric_args es (kind_of_call f.name) q g
      by_node (Node-F.Node::Number n) q g = alike_typed _ q g
      by_node (Node-F.Node::Bool b) q g = alike_typed _ q g
      by_node (Node-F.Node::Array t es dots) q g = alike_typed _ q g
      by_node (Node-F.Node::Name name) q g = alike_typed _ q g
      by_node (Node-F.Node::Member x a) q g = alike_typed _ q g
      by_node (Node-F.Node::Tuple es) q g = alike_typed _ q g
      by_node (Node-F.Struct name fields rest) q g = alike_typed _ q g
      by_node (Node-F.Block b) q g = alike_typed _ q g
      by_node (Node-F.If test taken other) q g = alike_typed _ q g
      by_node (Node-F.Match x arms) q g = alike_typed _ q g
      by_node (Node-F.For loop) q g = alike_typed _ q g
      by_node (Node-F.Index x i) q g = alike_typed _ q g
      by_node (Node-F.Slice x a b) q g = alike_typed _ q g
      by_node (Node-F.Part x i t) q g = alike_typed _ q g
      by_node (Node-F.Field x name) q g = alike_typed _ q g
      by_node (Node-F.Element x place k) q g = alike_typed _ q g
      by_node (Node-F.Prefix o x) q g = alike_typed _ q g
      by_node (Node-F.Cast x t) q g = alike_typed _ q g
      by_node (Node-F.Binary o l r) q g = alike_typed _ q g

-- ---- statements

-- whatever stands behind a statement has types, if it has them there
record StepIsTyped (s : StatementTyping) (l : CoreScope → List End → StepsLowering → StepsLowering) : Type 0 where
  typed : (here : Instance → Bool) (context : TypeEnv) (env : Env) (outer scope : CoreScope) (ends : List End) (fs : FunctionTypes) (words : WordTypes) (ts : List Ty) → IsWellTypedEnv context env → ScopeMatchesEnv here context scope
      → MembersExist context outer ends → TypedScope fs ts scope → WordsOf (member_in outer ends) words → IsClean here (s true context).faults (s true context).reached → (rest : StepsLowering)
      → ((inner : Env) (beyond : CoreScope) (more : List Ty) → IsWellTypedEnv (s true context).context inner → ScopeMatchesEnv here (s true context).context beyond → MembersExist (s true context).context outer ends → TypedScope fs more beyond
      → StepsIfThere fs words more (rest beyond))
      → StepsIfThere fs words ts (l outer ends rest scope)

let_typed : (e : Expr) (written : Option TypePair) (f : Option TypeDen) → TypeHasDenIf written f → (p : Pattern)
    → StepIsTyped (λ on_top context. let_with context (expr_pair e).0 (span_of (expr_pair e)) ((expr_pair e).1 on_top context) (written_typing context written)
    (pattern_alone false context (bound_type (written_typing context written) ((expr_pair e).1 on_top context).ty) (fold_pattern seen seeing p)))
    (λ outer ends. lower_act outer ends (act_of e) e (lower_in_scope (fold_pattern become becoming p).1))
let_typed e written f st text = record {
  typed = λ here context env outer scope ends fs words ts h at members scoped ws clean rest goes.
      let p = fold_pattern seen seeing text in
      let l = (fold_pattern become becoming text).1 in
      let tree = (expr_pair e).0 in
      let value = (expr_pair e).1 true context in
      let span = span_of (expr_pair e) in
      let j = written_typing context written in
      let bound = pattern_alone false context (bound_type j value.ty) p in
      let q = none_in_three value.faults (annotation_faults span j value.ty) bound.faults clean.faults in
      let r = all_in_three here value.reached (annotation_reached j) bound.reached clean.reached in
      act_typed here context env outer scope ends fs words ts h at members scoped ws e (record { faults = q.0; reached = r.0 }) (lower_in_scope l) rest
      (λ t typing declared sound s is.
      let own = annotated_there here context env scope h at span written f st t (ap (annotation_faults span j) (sym typing) ∙ q.1) r.1 in
      let typed : bound_type j value.ty ≡ Some t = ap (bound_type j) typing ∙ own in
      let same : bound ≡ pattern_alone false context (Some t) p = ap (λ o. pattern_alone false context o p) typed in
      let one = (pattern_part text).lowers here false context t [] context.locals env scope scope h at at declared (record { faults = ap (λ (b : PatternSeen). b.faults) (sym same) ∙ q.2; reached = ap (λ (b : PatternSeen). list_all here b.reached) (sym same) ∙ r.2 }) in
      let v = some_value (types_at context) h.known.parts t declared in
      let inner = (pattern_gives text).behind false context t [] context.locals env v.0 h v.1 (ap (λ (b : PatternSeen). has_broken b.faults) (sym same) ∙ ap has_broken q.2) in
      let here_typed = subst (λ (b : PatternSeen). IsWellTypedEnv (behind context b.locals tree) inner.0) (sym same) (typed_behind context (pattern_alone false context (Some t) p).locals tree inner.0 inner.1) in
      let stands = subst (λ (b : PatternSeen). ScopeMatchesEnv here (behind context b.locals tree) one.shape.scope) (sym same) (stands_behind here context (pattern_alone false context (Some t) p).locals tree one.shape.scope one.behind) in
      let here_stands = subst (λ (s : LoweredShape). ScopeMatchesEnv here (behind context bound.locals tree) s.scope) (same_some one.shape s (sym one.is ∙ is)) stands in
      let taken = (pattern_is_typed text).typed context fs ts ts scope scope t s at.items scoped scoped sound is in
      record { more = taken.more; binds = taken.must false (bound_type j value.ty) [] context.locals q.2 refl; typed = goes inner.0 s.scope taken.more here_typed here_stands members taken.behind });
}

bare_typed : (e : Expr)
    → StepIsTyped (λ on_top context. record {
      context = behind context context.locals (expr_pair e).0;
      faults = (expr_statement_typing on_top (expr_pair e) ((expr_pair e).1 on_top context)).faults;
      reached = (expr_statement_typing on_top (expr_pair e) ((expr_pair e).1 on_top context)).reached;
      size = (expr_statement_typing on_top (expr_pair e) ((expr_pair e).1 on_top context)).size;
    })
    (λ outer ends. lower_act outer ends (act_of e) e binds_nothing)
bare_typed e = record {
  typed = λ here context env outer scope ends fs words ts h at members scoped ws clean rest goes.
      let j = (expr_pair e).1 true context in
      act_typed here context env outer scope ends fs words ts h at members scoped ws e (bare_well_typed (reaching context.known here) (is_effect (expr_pair e).0) j (record { faults = clean.faults; reached = clean.reached })) binds_nothing rest
      (λ t typing declared sound s is.
      subst (λ (s : LoweredShape). BehindTyped fs words ts t s (rest s.scope)) (same_some (record { shape = shape.Wild; scope = scope }) s is)
      (record {
        more = ts;
        binds = ap (λ q. q (plain_type t) ts) (binds_wild true);
        typed = goes env scope ts (typed_behind context context.locals (expr_pair e).0 env h) (stands_behind here context context.locals (expr_pair e).0 scope at) members scoped;
      }));
}
  where
    bare_well_typed : (known : GlobalEnv) (b : Bool) (j : Judgement) → IsWellTypedPart known (if b then j else no_token (span_of (expr_pair e)) j) → IsWellTypedPart known j
    bare_well_typed known true j well_typed = well_typed
    bare_well_typed known false j well_typed = (alone_well_typed known (span_of (expr_pair e)) j well_typed).well_typed

bind_at_top : (y : LetLevel trees)
    → StepIsTyped (seeing.bind (map_bind trees seen (folds seen seeing) y)).1 (λ outer ends. lower_act outer ends (act_of y.value) y.value (lower_in_scope (fold_pattern become becoming y.pattern).1))
bind_at_top y = by_type y.ty
  where
    with_type : Option TypeExpr → LetLevel trees
    with_type o = record { span = y.span; pattern = y.pattern; ty = o; value = y.value }

    by_type : (o : Option TypeExpr) → StepIsTyped (seeing.bind (map_bind trees seen (folds seen seeing) (with_type o))).1 (λ outer ends. lower_act outer ends (act_of y.value) y.value (lower_in_scope (fold_pattern become becoming y.pattern).1))
    by_type None = let_typed y.value None None tt y.pattern
    by_type (Some t) = let_typed y.value (Some (fold_type_expr seen seeing t)) (Some (written_type t)) (type_has_den t) y.pattern

let_at_top : (l : Let) → StepIsTyped (fold_bind seen seeing l).1 (λ outer ends. statement_steps outer ends (Stmt-F.Let l))
let_at_top l =
    subst (λ (x : Let × StatementTyping). StepIsTyped x.1 (λ outer ends. statement_steps outer ends (Stmt-F.Let l))) (sym (out_bind seen seeing l)) (bind_at_top (out-Let l))
  where
    out_bind : (c : Carriers) (s : Steps c) (l : Let) → fold_bind c s l ≡ s.bind (map_bind trees c (folds c s) (out-Let l))
    out_bind c s l =
        fold_out-Let c.stmt c.node c.shape c.type_node c.block c.bind c.arg c.arm c.expr c.field c.loop c.number c.pattern c.type_expr s.stmt s.node s.shape s.type_node s.block s.bind s.arg s.arm s.expr s.field s.loop s.number s.pattern s.type_expr l

statement_typed : (x : Stmt) → StepIsTyped (fold_stmt seen seeing x).1 (λ outer ends. statement_steps outer ends (out-Stmt x))
statement_typed x =
    subst (λ (y : Stmt × StatementTyping). StepIsTyped y.1 (λ outer ends. statement_steps outer ends (out-Stmt x))) (sym (out_stmt seen seeing x)) (by_layer (out-Stmt x))
  where
    out_stmt : (c : Carriers) (s : Steps c) (x : Stmt) → fold_stmt c s x ≡ s.stmt (map_stmt trees c (folds c s) (out-Stmt x))
    out_stmt c s x =
        fold_out-Stmt c.stmt c.node c.shape c.type_node c.block c.bind c.arg c.arm c.expr c.field c.loop c.number c.pattern c.type_expr s.stmt s.node s.shape s.type_node s.block s.bind s.arg s.arm s.expr s.field s.loop s.number s.pattern s.type_expr x

    by_layer : (y : StmtLevel trees) → StepIsTyped (seeing.stmt (map_stmt trees seen (folds seen seeing) y)).1 (λ outer ends. statement_steps outer ends y)
    by_layer (Stmt-F.Let l) = record { typed = (let_at_top l).typed }
    by_layer (Stmt-F.Bare e) = record { typed = (bare_typed e).typed }

abbrev typing_statements : List Stmt → StatementTyping
typing_statements ss = statements_typing (map (λ (s : Stmt × StatementTyping). s.1) (map (fold_stmt seen seeing) ss))

statements_typed : (ss : List Stmt) (last : Option Expr) (here : Instance → Bool) (context : TypeEnv) (env : Env) (outer scope : CoreScope) (ends : List End) (fs : FunctionTypes) (words : WordTypes) (ts : List Ty)
    → IsWellTypedEnv context env → ScopeMatchesEnv here context scope → MembersExist context outer ends → TypedScope fs ts scope → WordsOf (member_in outer ends) words
    → IsClean here (typing_statements ss true context).faults (typing_statements ss true context).reached
    → ((inner : Env) (beyond : CoreScope) (more : List Ty) → IsWellTypedEnv (typing_statements ss true context).context inner → ScopeMatchesEnv here (typing_statements ss true context).context beyond → TypedScope fs more beyond
    → StepsIfThere fs words more (statements_steps outer ends [] last beyond))
    → StepsIfThere fs words ts (statements_steps outer ends ss last scope)
statements_typed [] last here context env outer scope ends fs words ts h at members scoped ws clean goes = goes env scope ts h at scoped
statements_typed (s ∷ ss) last here context env outer scope ends fs words ts h at members scoped ws clean goes =
    let first = (fold_stmt seen seeing s).1 true context in
    let rest = typing_statements ss true first.context in
    let p = none_in first.faults rest.faults clean.faults in
    let q = all_in here first.reached rest.reached clean.reached in
    (statement_typed s).typed here context env outer scope ends fs words ts h at members scoped ws (record { faults = p.0; reached = q.0 }) (statements_steps outer ends ss last)
    (λ inner beyond more typed stands there scoped. statements_typed ss last here first.context inner outer beyond ends fs words more typed stands there scoped ws (record { faults = p.1; reached = q.1 }) goes)

-- ---- the block

last_steps : (fs : FunctionTypes) (words : WordTypes) (ts : List Ty) (o : Option LoweredExpr) → TypedIfThere fs ts o → StepsIfThere fs words ts (and_then o (λ e. Some (record { steps = []; next = e })))
last_steps fs words ts None h = tt
last_steps fs words ts (Some e) h = (h.core, h.sound)

pub block_of_next_typed : (b : Block) (here : Instance → Bool) (context : TypeEnv) (env : Env) (outer scope : CoreScope) (ends : List End) (fs : FunctionTypes) (words : WordTypes) (ts : List Ty)
    → IsWellTypedEnv context env → ScopeMatchesEnv here context scope → MembersExist context outer ends → TypedScope fs ts scope → WordsOf (member_in outer ends) words
    → IsWellTypedPart (reaching context.known here) ((block_pair b).1 true context) → StepsIfThere fs words ts (statements_steps outer ends (out-Block b).statements (out-Block b).value scope)
block_of_next_typed b here context env outer scope ends fs words ts h at members scoped ws well_typed = by_value (out-Block b).value (subst (IsWellTypedPart (reaching context.known here)) typing well_typed)
  where
    out_block : (c : Carriers) (s : Steps c) (x : Block) → fold_block c s x ≡ s.block (map_block trees c (folds c s) (out-Block x))
    out_block c s x =
        fold_out-Block c.stmt c.node c.shape c.type_node c.block c.bind c.arg c.arm c.expr c.field c.loop c.number c.pattern c.type_expr s.stmt s.node s.shape s.type_node s.block s.bind s.arg s.arm s.expr s.field s.loop s.number s.pattern s.type_expr x

    ss : List Stmt
    ss = (out-Block b).statements

    with_value : Option Expr → BlockLevel trees
    with_value o = record { span = (out-Block b).span; statements = ss; value = o }

    judgement : Option Expr → Judgement
    judgement o = (seeing.block (map_block trees seen (folds seen seeing) (with_value o))).1 true context

    typing : (block_pair b).1 true context ≡ judgement (out-Block b).value
    typing = λ i. (out_block seen seeing b i).1 true context

    walked : StatementSeen
    walked = typing_statements ss true context

    by_last : (o : Option Expr) (last : Judgement)
        → IsWellTypedPart (reaching context.known here) (settled (out-Block b).span last.ty (walked.faults ++ last.faults) (walked.reached ++ last.reached) (one_and (plus_size walked.size last.size)))
        → ((inner : Env) (beyond : CoreScope) (more : List Ty) → IsWellTypedEnv walked.context inner → ScopeMatchesEnv here walked.context beyond → TypedScope fs more beyond → IsWellTypedPart (reaching context.known here) last
        → StepsIfThere fs words more (statements_steps outer ends [] o beyond))
        → StepsIfThere fs words ts (statements_steps outer ends ss o scope)
    by_last o last well_typed goes =
        let s = settled_well_typed (reaching context.known here) (out-Block b).span last.ty (walked.faults ++ last.faults) (walked.reached ++ last.reached) (one_and (plus_size walked.size last.size)) well_typed in
        let p = none_in walked.faults last.faults s.faults in
        let q = all_in here walked.reached last.reached s.reached in
        statements_typed ss o here context env outer scope ends fs words ts h at members scoped ws (record { faults = p.0; reached = q.0 }) (λ inner beyond more typed stands scoped. goes inner beyond more typed stands scoped (record { faults = p.1; reached = q.1 }))

    by_value : (o : Option Expr) → IsWellTypedPart (reaching context.known here) (judgement o) → StepsIfThere fs words ts (statements_steps outer ends ss o scope)
    by_value None well_typed =
        by_last None (last_typing walked.context None) well_typed (λ inner beyond more typed stands scoped well_typed. let u = unit_core fs more unit_type (plain_tuple []) (sound_tuple []) in (u.core, u.sound))
    by_value (Some x) well_typed =
        by_last (Some x) (last_typing walked.context (Some (expr_pair x))) well_typed
        (λ inner beyond more typed stands scoped well_typed. last_steps fs words more (lower_expression x beyond)
        (expression_is_typed x here walked.context inner beyond fs more typed stands scoped
        (alone_well_typed (reaching walked.context.known here) (span_of (expr_pair x)) (within walked.context (expr_pair x)) (record { faults = well_typed.faults; reached = well_typed.reached })).well_typed))
