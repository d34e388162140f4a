-- What the block of `next` reaches with which nothing is wrong: effects at its top have types, so that the statements behind them do.
use Rattle.std.proofs.Common.{◌≡◌, ◌++◌, ◌+◌, ℕ, Bool, true, false, if◌then◌else◌, List, [], ◌∷◌, map, Option, Some, None, refl, sym, ap, subst, ◌∙◌}
use Rattle.std.specs.List.{list_all}
use Rattle.xb_span.specs.declared.fault.Fault.{Fault}
use Rattle.xb_span.specs.declared.span.Span.{Span}
use Rattle.dslx_tree.specs.declared.block.Block.{Block, out-Block}
use Rattle.dslx_tree.specs.declared.block.Let.{Let, out-Let}
use Rattle.dslx_tree.specs.declared.block.Stmt.{Stmt, out-Stmt}
use Rattle.dslx_tree.specs.declared.block.Stmt.TheFolds.{fold_out-Stmt, fold_out-Let, fold_out-Block}
use Rattle.dslx_tree.specs.declared.block.Stmt.TheOpen.{Node-F, Stmt-F}
use Rattle.dslx_tree.specs.declared.expr.Arg.{Arg}
use Rattle.dslx_tree.specs.declared.expr.Expr.{Expr, out-Expr}
use Rattle.dslx_tree.specs.declared.ident.Ident.{Ident}
use Rattle.dslx_tree.specs.declared.pattern.Pattern.{Pattern}
use Rattle.dslx_tree.specs.declared.process.Direction.{Direction}
use Rattle.dslx_tree.specs.declared.process.Direction.TheVariants.{In, Out}
use Rattle.dslx_tree.specs.declared.type_expr.TypeExpr.{TypeExpr}
use Rattle.dslx_tree.proofs.Lemmas.Folds.Folds.{Steps, fold_arg, fold_bind, fold_block, fold_pattern, fold_stmt, fold_type_expr, folds}
use Rattle.dslx_tree.proofs.Lemmas.Folds.Levels.{BlockLevel, Carriers, LetLevel, StmtLevel, map_bind, map_block, map_node, map_stmt, trees}
use Rattle.dslx_meaning.specs.Activation.{NodeLayer, node_of}
use Rattle.dslx_meaning.specs.Callees.{AllOnes, CallKind, Calls, CountsLeading, CountsTrailing, Joins, Parity, Receives, ReceivesIf, Reverses, Sends, SendsIf, SomeOne, Updates, kind_of_call}
use Rattle.dslx_meaning.specs.Environment.{Env}
use Rattle.dslx_meaning.specs.Lists.{and_then}
use Rattle.dslx_meaning.specs.Meaning.{TypeDen, denotation, written_type}
use Rattle.dslx_meaning.specs.Types.{received, unit_type}
use Rattle.dslx_meaning.specs.declared.ty.DslxType.{DslxType}
use Rattle.dslx_meaning.specs.declared.ty.DslxType as ty
use Rattle.dslx_meaning.specs.Rules.AggregateRules.{wanted_faults, when_all}
use Rattle.dslx_meaning.specs.Rules.CallRules.{ChannelSeen, ParametricArgument, call_typing, channel_end_at, channel_end_in, channel_named, channel_seen, effect_with, given_parametric_args, held_typing, named_channel, receiving, receiving_if, sending, sending_if, site_faults, token_faults, token_typing, word_of, wrong_effect}
use Rattle.dslx_meaning.specs.Rules.ControlRules.{annotation_faults, annotation_reached, annotation_size, behind, bound_type, expr_statement_typing, let_with, statements_typing, written_typing}
use Rattle.dslx_meaning.specs.Rules.EffectNames.{is_effect}
use Rattle.dslx_meaning.specs.Rules.NodeRules.{block_pair, expr_pair, node_typing}
use Rattle.dslx_meaning.specs.Rules.OperatorRules.{is_bool, unless_type}
use Rattle.dslx_meaning.specs.Rules.PatternRules.{pattern_alone}
use Rattle.dslx_meaning.specs.Rules.TypeEnvs.{ChannelEnd, ExprPair, GlobalEnv, Instance, Judgement, TypeEnv, all_alone, alone, faults_of_all, has_broken, name_of_expr, no_token, one_and, plus_size, size_if_typed, size_of_all, span_of, types_of, unless_broken, within}
use Rattle.dslx_meaning.specs.Rules.Typings.{PatternSeen, StatementSeen, StatementTyping, TypePair}
use Rattle.dslx_core.proofs.Lemmas.Typing.Sound.{all_in, all_in_three, alone_has, alone_well_typed, bound_known, expression_gives, none_in, none_in_three, pattern_gives, settled_well_typed, type_has_den, wrongly_called}
use Rattle.dslx_core.specs.Typing.Sound.Sound.{TypeHasDenIf}
use Rattle.dslx_core.specs.Typing.Typed.Complete.{IsWellTypedPart}
use Rattle.dslx_core.specs.Typing.Typed.Declared.{IsDeclared}
use Rattle.dslx_core.specs.Typing.Typed.Given.{IsSized}
use Rattle.dslx_core.specs.Typing.Typed.WellTyped.{IsWellTypedEnv, types_at}
use Rattle.dslx_total.proofs.OnExpressions.Inhabited.{some_value}
use Rattle.dslx_total.proofs.OnExpressions.Joined.{seeing, seen}
use Rattle.dslx_total.proofs.OnExpressions.OfControl.{typed_behind}
use Rattle.dslx_total.proofs.OnExpressions.OfEffects.{ChannelThere, channel_there, effect_well_typed, received_declared, token_declared, typing_at}
use Rattle.dslx_total.proofs.OnExpressions.Parts.{all_sound}
use Rattle.dslx_total.proofs.OnOwn.Joined.{expression_passes, pattern_of_text_passes, written_type_passes}
use Rattle.dslx_total.proofs.OnOwn.Passing.{CalleesPass, Passes, before_more, both_pass, join_three, unmarked}

-- the words of each member in scope have a type, one of the text
abbrev pub MembersTyped : TypeEnv → Type 0
MembersTyped context = (name : List ℕ) (o : ChannelEnd) → channel_end_in name context.members ≡ Some o → (t : DslxType) × (o.word ≡ Some t) × IsDeclared (types_at context) t

-- ---- sizes

plus_sized : (a b : Option ℕ) → IsSized a → IsSized b → IsSized (plus_size a b)
plus_sized a b p q = (p.0 + q.0, λ i. plus_size (p.1 i) (q.1 i))

one_sized : (a : Option ℕ) → IsSized a → IsSized (one_and a)
one_sized a p = (1 + p.0, ap one_and p.1)

-- what has a type has a size, where its parts do
sized_if : (o : Option DslxType) (t : DslxType) (size : Option ℕ) → o ≡ Some t → IsSized size → IsSized (size_if_typed o size)
sized_if o t size e p = (p.0, (λ i. size_if_typed (e i) size) ∙ p.1)

effect_sized : (span : Span) (context : TypeEnv) (direction : Direction) (t : Judgement) (c : ChannelSeen) (js : List Judgement) (wrong : List Fault) (given : Option DslxType) (u : DslxType) → (effect_with span context direction t c js wrong given).ty ≡ Some u → IsSized t.size
    → IsSized c.judgement.size → IsSized (size_of_all js) → IsSized (effect_with span context direction t c js wrong given).size
effect_sized span context direction t c js wrong given u e pt pc pj =
    let faults = (((t.faults ++ c.judgement.faults) ++ faults_of_all js) ++ wrong) ++ site_faults span context direction c in
    let rest = plus_size c.judgement.size (size_of_all js) in
    sized_if (unless_broken faults (and_then t.ty (λ u. when_all (types_of js) given))) u (one_and (plus_size t.size rest)) e
    (one_sized (plus_size t.size rest) (plus_sized t.size rest pt (plus_sized c.judgement.size (size_of_all js) pc pj)))

-- a channel that is there counts one
channel_sized : (context : TypeEnv) (e : ExprPair) → ChannelThere context e (name_of_expr e) → IsSized (channel_seen context e).judgement.size
channel_sized context e ch = (1, ap (λ o. (channel_named context e o).judgement.size) ch.is ∙ by_end (channel_end_at context ch.name))
  where
    by_end : (o : Option ChannelEnd) → (named_channel (span_of e) ch.name o).size ≡ Some 1
    by_end None = refl
    by_end (Some o) = refl

-- a type that is written counts nothing
written_sized : (context : TypeEnv) (env : Env) → IsWellTypedEnv context env → (span : Span) (written : Option TypePair) (f : Option TypeDen) → TypeHasDenIf written f → (t : Option DslxType) → annotation_faults span (written_typing context written) t ≡ []
    → list_all context.known.is_sound (annotation_reached (written_typing context written)) ≡ true → IsSized (annotation_size (written_typing context written))
written_sized context env h span None None k t e r = (0, refl)
written_sized context env h span None (Some f) k t e r = absurd k
written_sized context env h span (Some p) None k t e r = absurd k
written_sized context env h span (Some p) (Some f) k t e r =
    let j = p.1 context in
    let w = k.known context env h (record { faults = (none_in j.faults (wanted_faults span j.ty t) e).0; reached = r }) in
    (0, k.sized context w.0 w.1)

-- ---- types at the top

wrong_any : {X : Type 0} (known : GlobalEnv) (span : Span) (context : TypeEnv) (given : List ParametricArgument) (es : List ExprPair) → IsWellTypedPart known (wrong_effect span context given es) → X
wrong_any known span context given [] well_typed = wrongly_called known span given [] [] well_typed
wrong_any known span context given (t ∷ []) well_typed = wrongly_called known span given (held_typing context t ∷ []) [] well_typed
wrong_any known span context given (t ∷ c ∷ es) well_typed = wrongly_called known span given (held_typing context t ∷ (channel_seen context c).judgement ∷ all_alone context es) [] well_typed

module _ (context : TypeEnv) (env : Env) (h : IsWellTypedEnv context env) (members : MembersTyped context) where
  abbrev HasType : Judgement → Type 0
  HasType j = (t : DslxType) × (j.ty ≡ Some t) × IsDeclared (types_at context) t × IsSized j.size

  abbrev WellTyped : Judgement → Type 0
  WellTyped j = IsWellTypedPart context.known j

  token_there : (t : Expr) → (token_typing context (expr_pair t)).faults ≡ [] → list_all context.known.is_sound (token_typing context (expr_pair t)).reached ≡ true → (u : DslxType) × ((token_typing context (expr_pair t)).ty ≡ Some u) × IsSized (token_typing context (expr_pair t)).size
  token_there t f r =
      let a = within context (expr_pair t) in
      let g = (expression_gives t).gives context env h (record { faults = (none_in a.faults (token_faults (span_of (expr_pair t)) a.ty) f).0; reached = r }) in
      (g.0, g.1, g.3)

  value_there : (e : Expr) → (alone context (expr_pair e)).faults ≡ [] → list_all context.known.is_sound (alone context (expr_pair e)).reached ≡ true → (t : DslxType) × ((alone context (expr_pair e)).ty ≡ Some t) × IsSized (alone context (expr_pair e)).size
  value_there e f r = let g = alone_has context env (expr_pair e) (denotation e) (expression_gives e) h f r in (g.0, g.1, g.3)

  receiving_typed : (span : Span) (t c : Expr) → WellTyped (receiving span context (expr_pair t ∷ expr_pair c ∷ [])) → HasType (receiving span context (expr_pair t ∷ expr_pair c ∷ []))
  receiving_typed span t c well_typed =
      let channel = channel_seen context (expr_pair c) in
      let q = effect_well_typed context.known span context In (token_typing context (expr_pair t)) channel [] [] (and_then (word_of channel) (λ w. Some (received w))) well_typed in
      let tok = token_there t q.token q.token_reached in
      let ch = channel_there context (expr_pair c) (name_of_expr (expr_pair c)) span In q.site in
      let m = members ch.name ch.channel_end ch.found in
      let word : word_of channel ≡ Some m.0 = ch.word ∙ m.1 in
      let own = q.ty ∙ (λ i. and_then (tok.1 i) (λ u. and_then (word i) (λ w. Some (received w)))) in (
        received m.0,
        own,
        received_declared (types_at context) m.0 m.2,
        effect_sized span context In (token_typing context (expr_pair t)) channel [] [] (and_then (word_of channel) (λ w. Some (received w))) (received m.0) own tok.2 (channel_sized context (expr_pair c) ch) (0, refl),
      )

  sending_typed : (span : Span) (t c x : Expr) → WellTyped (sending span context (expr_pair t ∷ expr_pair c ∷ expr_pair x ∷ [])) → HasType (sending span context (expr_pair t ∷ expr_pair c ∷ expr_pair x ∷ []))
  sending_typed span t c x well_typed =
      let channel = channel_seen context (expr_pair c) in
      let value = alone context (expr_pair x) in
      let q = effect_well_typed context.known span context Out (token_typing context (expr_pair t)) channel (value ∷ []) (wanted_faults (span_of (expr_pair x)) (word_of channel) value.ty) (and_then (word_of channel) (λ w. Some ty.Token)) well_typed in
      let tok = token_there t q.token q.token_reached in
      let ch = channel_there context (expr_pair c) (name_of_expr (expr_pair c)) span Out q.site in
      let m = members ch.name ch.channel_end ch.found in
      let word : word_of channel ≡ Some m.0 = ch.word ∙ m.1 in
      let b = value_there x (none_in value.faults [] q.others).0 (all_in context.known.is_sound value.reached [] q.others_reached).0 in
      let own = q.ty ∙ (λ i. and_then (tok.1 i) (λ u. when_all (b.1 i ∷ []) (and_then (word i) (λ w. Some ty.Token)))) in (
        ty.Token,
        own,
        token_declared (types_at context),
        effect_sized span context Out (token_typing context (expr_pair t)) channel (value ∷ []) (wanted_faults (span_of (expr_pair x)) (word_of channel) value.ty) (and_then (word_of channel) (λ w. Some ty.Token)) ty.Token own tok.2 (channel_sized context (expr_pair c) ch)
            (plus_sized value.size (Some 0) b.2 (0, refl)),
      )

  receiving_if_typed : (span : Span) (t c p x : Expr) → WellTyped (receiving_if span context (expr_pair t ∷ expr_pair c ∷ expr_pair p ∷ expr_pair x ∷ [])) → HasType (receiving_if span context (expr_pair t ∷ expr_pair c ∷ expr_pair p ∷ expr_pair x ∷ []))
  receiving_if_typed span t c p x well_typed =
      let channel = channel_seen context (expr_pair c) in
      let condition = alone context (expr_pair p) in
      let value = alone context (expr_pair x) in
      let bool = unless_type is_bool 15 (span_of (expr_pair p)) condition.ty in
      let wrong = wanted_faults (span_of (expr_pair x)) (word_of channel) value.ty in
      let q = effect_well_typed context.known span context In (token_typing context (expr_pair t)) channel (condition ∷ value ∷ []) (bool ++ wrong) (and_then (word_of channel) (λ w. Some (received w))) well_typed in
      let tok = token_there t q.token q.token_reached in
      let ch = channel_there context (expr_pair c) (name_of_expr (expr_pair c)) span In q.site in
      let m = members ch.name ch.channel_end ch.found in
      let word : word_of channel ≡ Some m.0 = ch.word ∙ m.1 in
      let f = none_in condition.faults (value.faults ++ []) q.others in
      let r = all_in context.known.is_sound condition.reached (value.reached ++ []) q.others_reached in
      let a = value_there p f.0 r.0 in
      let b = value_there x (none_in value.faults [] f.1).0 (all_in context.known.is_sound value.reached [] r.1).0 in
      let own = q.ty ∙ (λ i. and_then (tok.1 i) (λ u. when_all (a.1 i ∷ b.1 i ∷ []) (and_then (word i) (λ w. Some (received w))))) in (
        received m.0,
        own,
        received_declared (types_at context) m.0 m.2,
        effect_sized span context In (token_typing context (expr_pair t)) channel (condition ∷ value ∷ []) (bool ++ wrong) (and_then (word_of channel) (λ w. Some (received w))) (received m.0) own tok.2 (channel_sized context (expr_pair c) ch)
            (plus_sized condition.size (plus_size value.size (Some 0)) a.2 (plus_sized value.size (Some 0) b.2 (0, refl))),
      )

  sending_if_typed : (span : Span) (t c p x : Expr) → WellTyped (sending_if span context (expr_pair t ∷ expr_pair c ∷ expr_pair p ∷ expr_pair x ∷ [])) → HasType (sending_if span context (expr_pair t ∷ expr_pair c ∷ expr_pair p ∷ expr_pair x ∷ []))
  sending_if_typed span t c p x well_typed =
      let channel = channel_seen context (expr_pair c) in
      let condition = alone context (expr_pair p) in
      let value = alone context (expr_pair x) in
      let bool = unless_type is_bool 15 (span_of (expr_pair p)) condition.ty in
      let wrong = wanted_faults (span_of (expr_pair x)) (word_of channel) value.ty in
      let q = effect_well_typed context.known span context Out (token_typing context (expr_pair t)) channel (condition ∷ value ∷ []) (bool ++ wrong) (and_then (word_of channel) (λ w. Some ty.Token)) well_typed in
      let tok = token_there t q.token q.token_reached in
      let ch = channel_there context (expr_pair c) (name_of_expr (expr_pair c)) span Out q.site in
      let m = members ch.name ch.channel_end ch.found in
      let word : word_of channel ≡ Some m.0 = ch.word ∙ m.1 in
      let f = none_in condition.faults (value.faults ++ []) q.others in
      let r = all_in context.known.is_sound condition.reached (value.reached ++ []) q.others_reached in
      let a = value_there p f.0 r.0 in
      let b = value_there x (none_in value.faults [] f.1).0 (all_in context.known.is_sound value.reached [] r.1).0 in
      let own = q.ty ∙ (λ i. and_then (tok.1 i) (λ u. when_all (a.1 i ∷ b.1 i ∷ []) (and_then (word i) (λ w. Some ty.Token)))) in (
        ty.Token,
        own,
        token_declared (types_at context),
        effect_sized span context Out (token_typing context (expr_pair t)) channel (condition ∷ value ∷ []) (bool ++ wrong) (and_then (word_of channel) (λ w. Some ty.Token)) ty.Token own tok.2 (channel_sized context (expr_pair c) ch)
            (plus_sized condition.size (plus_size value.size (Some 0)) a.2 (plus_sized value.size (Some 0) b.2 (0, refl))),
      )

  receives_at : (span : Span) (es : List Expr) → WellTyped (receiving span context (map expr_pair es)) → HasType (receiving span context (map expr_pair es))
  receives_at span [] well_typed = wrong_any context.known span context [] [] well_typed
  receives_at span (t ∷ []) well_typed = wrong_any context.known span context [] (expr_pair t ∷ []) well_typed
  receives_at span (t ∷ c ∷ []) well_typed = receiving_typed span t c well_typed
  receives_at span (t ∷ c ∷ x ∷ es) well_typed = wrong_any context.known span context [] (map expr_pair (t ∷ c ∷ x ∷ es)) well_typed

  receives_if_at : (span : Span) (es : List Expr) → WellTyped (receiving_if span context (map expr_pair es)) → HasType (receiving_if span context (map expr_pair es))
  receives_if_at span [] well_typed = wrong_any context.known span context [] [] well_typed
  receives_if_at span (t ∷ []) well_typed = wrong_any context.known span context [] (map expr_pair (t ∷ [])) well_typed
  receives_if_at span (t ∷ c ∷ []) well_typed = wrong_any context.known span context [] (map expr_pair (t ∷ c ∷ [])) well_typed
  receives_if_at span (t ∷ c ∷ p ∷ []) well_typed = wrong_any context.known span context [] (map expr_pair (t ∷ c ∷ p ∷ [])) well_typed
  receives_if_at span (t ∷ c ∷ p ∷ x ∷ []) well_typed = receiving_if_typed span t c p x well_typed
  receives_if_at span (t ∷ c ∷ p ∷ x ∷ y ∷ es) well_typed = wrong_any context.known span context [] (map expr_pair (t ∷ c ∷ p ∷ x ∷ y ∷ es)) well_typed

  sends_at : (span : Span) (es : List Expr) → WellTyped (sending span context (map expr_pair es)) → HasType (sending span context (map expr_pair es))
  sends_at span [] well_typed = wrong_any context.known span context [] [] well_typed
  sends_at span (t ∷ []) well_typed = wrong_any context.known span context [] (map expr_pair (t ∷ [])) well_typed
  sends_at span (t ∷ c ∷ []) well_typed = wrong_any context.known span context [] (map expr_pair (t ∷ c ∷ [])) well_typed
  sends_at span (t ∷ c ∷ x ∷ []) well_typed = sending_typed span t c x well_typed
  sends_at span (t ∷ c ∷ x ∷ y ∷ es) well_typed = wrong_any context.known span context [] (map expr_pair (t ∷ c ∷ x ∷ y ∷ es)) well_typed

  sends_if_at : (span : Span) (es : List Expr) → WellTyped (sending_if span context (map expr_pair es)) → HasType (sending_if span context (map expr_pair es))
  sends_if_at span [] well_typed = wrong_any context.known span context [] [] well_typed
  sends_if_at span (t ∷ []) well_typed = wrong_any context.known span context [] (map expr_pair (t ∷ [])) well_typed
  sends_if_at span (t ∷ c ∷ []) well_typed = wrong_any context.known span context [] (map expr_pair (t ∷ c ∷ [])) well_typed
  sends_if_at span (t ∷ c ∷ p ∷ []) well_typed = wrong_any context.known span context [] (map expr_pair (t ∷ c ∷ p ∷ [])) well_typed
  sends_if_at span (t ∷ c ∷ p ∷ x ∷ []) well_typed = sending_if_typed span t c p x well_typed
  sends_if_at span (t ∷ c ∷ p ∷ x ∷ y ∷ es) well_typed = wrong_any context.known span context [] (map expr_pair (t ∷ c ∷ p ∷ x ∷ y ∷ es)) well_typed

  -- what has a value alone is judged alike at the top and elsewhere
  alike_typed : (e : Expr) (j : Judgement) → (expr_pair e).1 false context ≡ j → WellTyped j → HasType j
  alike_typed e j q well_typed =
      let g = (expression_gives e).gives context env h (subst (IsWellTypedPart context.known) (sym q) well_typed) in
      (g.0, ap (λ (k : Judgement). k.ty) (sym q) ∙ g.1, g.2.declared, (g.3.0, ap (λ (k : Judgement). k.size) (sym q) ∙ g.3.1))

  pub typed_at_top : (e : Expr) → WellTyped ((expr_pair e).1 true context) → HasType ((expr_pair e).1 true context)
  typed_at_top e well_typed = subst HasType (sym (typing_at e true context)) (by_node (node_of e) (typing_at e false context) (subst WellTyped (typing_at e true context) well_typed))
    where
      span : Span
      span = (out-Expr e).span

      typing : NodeLayer → Bool → Judgement
      typing y on_top = node_typing (map_node trees seen (folds seen seeing) y) span on_top context

      by_call : (f : Ident) (parametric_args : List Arg) (es : List Expr) (k : CallKind) → (expr_pair e).1 false context ≡ call_typing k span f (map (fold_arg seen seeing) parametric_args) (map expr_pair es) false context
          → WellTyped (call_typing k span f (map (fold_arg seen seeing) parametric_args) (map expr_pair es) true context) → HasType (call_typing k span f (map (fold_arg seen seeing) parametric_args) (map expr_pair es) true context)
      by_call f [] es Receives q g = receives_at span es g
      by_call f (n ∷ ns) es Receives q g = wrong_any context.known span context (given_parametric_args context (map (fold_arg seen seeing) (n ∷ ns))) (map expr_pair es) g
      by_call f [] es ReceivesIf q g = receives_if_at span es g
      by_call f (n ∷ ns) es ReceivesIf q g = wrong_any context.known span context (given_parametric_args context (map (fold_arg seen seeing) (n ∷ ns))) (map expr_pair es) g
      by_call f [] es Sends q g = sends_at span es g
      by_call f (n ∷ ns) es Sends q g = wrong_any context.known span context (given_parametric_args context (map (fold_arg seen seeing) (n ∷ ns))) (map expr_pair es) g
      by_call f [] es SendsIf q g = sends_if_at span es g
      by_call f (n ∷ ns) es SendsIf q g = wrong_any context.known span context (given_parametric_args context (map (fold_arg seen seeing) (n ∷ ns))) (map expr_pair es) g
      by_call f parametric_args es Joins q g = alike_typed e _ q g
      by_call f parametric_args es CountsLeading q g = alike_typed e _ q g
      by_call f parametric_args es CountsTrailing q g = alike_typed e _ q g
      by_call f parametric_args es Reverses q g = alike_typed e _ q g
      by_call f parametric_args es AllOnes q g = alike_typed e _ q g
      by_call f parametric_args es SomeOne q g = alike_typed e _ q g
      by_call f parametric_args es Parity q g = alike_typed e _ q g
      by_call f parametric_args es Updates q g = alike_typed e _ q g
      by_call f parametric_args es Calls q g = alike_typed e _ q g

      by_node : (y : NodeLayer) → (expr_pair e).1 false context ≡ typing y false → WellTyped (typing y true) → HasType (typing y true)
      by_node (Node-F.Call f parametric_args es) q g = by_call f parametric_args es (kind_of_call f.name) q g
      by_node (Node-F.Node::Number n) q g = alike_typed e _ q g
      by_node (Node-F.Node::Bool b) q g = alike_typed e _ q g
      by_node (Node-F.Node::Array t es dots) q g = alike_typed e _ q g
      by_node (Node-F.Node::Name name) q g = alike_typed e _ q g
      by_node (Node-F.Node::Member x a) q g = alike_typed e _ q g
      by_node (Node-F.Node::Tuple es) q g = alike_typed e _ q g
      by_node (Node-F.Struct name fields rest) q g = alike_typed e _ q g
      by_node (Node-F.Block b) q g = alike_typed e _ q g
      by_node (Node-F.If condition taken other) q g = alike_typed e _ q g
      by_node (Node-F.Match x arms) q g = alike_typed e _ q g
      by_node (Node-F.For loop) q g = alike_typed e _ q g
      by_node (Node-F.Index x i) q g = alike_typed e _ q g
      by_node (Node-F.Slice x a b) q g = alike_typed e _ q g
      by_node (Node-F.Part x i t) q g = alike_typed e _ q g
      by_node (Node-F.Field x name) q g = alike_typed e _ q g
      by_node (Node-F.Element x place k) q g = alike_typed e _ q g
      by_node (Node-F.Prefix o x) q g = alike_typed e _ q g
      by_node (Node-F.Cast x t) q g = alike_typed e _ q g
      by_node (Node-F.Binary o l r) q g = alike_typed e _ q g

-- ---- statements

module _ (here test : Instance → Bool) where
  -- what it reaches passes, behind it the type environment is well typed, and it leaves members and what is known alone
  record StepPasses (s : StatementTyping) : Type 0 where
    passes : (context : TypeEnv) (env : Env) → IsWellTypedEnv context env → CalleesPass here test context.known → Passes here test (s true context).faults (s true context).reached
    goes : (context : TypeEnv) (env : Env) → IsWellTypedEnv context env → MembersTyped context → (s true context).faults ≡ [] → list_all context.known.is_sound (s true context).reached ≡ true
        → (inner : Env) × IsWellTypedEnv (s true context).context inner
    sized : (context : TypeEnv) (env : Env) → IsWellTypedEnv context env → MembersTyped context → (s true context).faults ≡ [] → list_all context.known.is_sound (s true context).reached ≡ true → IsSized (s true context).size
    known : (context : TypeEnv) → (s true context).context.known ≡ context.known
    members : (context : TypeEnv) → MembersTyped context → MembersTyped (s true context).context

  abbrev WrittenPasses : Option TypePair → Type 0
  WrittenPasses None = Unit {0}
  WrittenPasses (Some t) = (context : TypeEnv) (env : Env) → IsWellTypedEnv context env → CalleesPass here test context.known → Passes here test (t.1 context).faults (t.1 context).reached

  annotation_passes : (span : Span) (written : Option TypePair) → WrittenPasses written → (context : TypeEnv) (env : Env) → IsWellTypedEnv context env → CalleesPass here test context.known → (t : Option DslxType)
      → Passes here test (annotation_faults span (written_typing context written) t) (annotation_reached (written_typing context written))
  annotation_passes span None k context env h callees t = λ f r. refl
  annotation_passes span (Some w) k context env h callees t = before_more here test (w.1 context).faults _ (w.1 context).reached (k context env h callees)

  let_passes : (e : Expr) (written : Option TypePair) (f : Option TypeDen) → TypeHasDenIf written f → WrittenPasses written → (p : Pattern)
      → StepPasses (λ on_top context. let_with context (expr_pair e).0 (span_of (expr_pair e)) ((expr_pair e).1 on_top context) (written_typing context written)
      (pattern_alone false context (bound_type (written_typing context written) ((expr_pair e).1 on_top context).ty) (fold_pattern seen seeing p)))
  let_passes e written f st pw text = record {
    passes = λ context env h callees.
        let p = fold_pattern seen seeing text in
        let value = (expr_pair e).1 true context in
        let span = span_of (expr_pair e) in
        let j = written_typing context written in
        let wanted = bound_type j value.ty in
        let bound = pattern_alone false context wanted p in
        join_three here test value.faults (annotation_faults span j value.ty) bound.faults value.reached (annotation_reached j) bound.reached
        (expression_passes here test e true context env h callees) (annotation_passes span written pw context env h callees value.ty) (pattern_of_text_passes here test text false context wanted [] context.locals env h callees);
    goes = λ context env h members faults reached.
        let p = fold_pattern seen seeing text in
        let value = (expr_pair e).1 true context in
        let span = span_of (expr_pair e) in
        let j = written_typing context written in
        let bound = pattern_alone false context (bound_type j value.ty) p in
        let q = none_in_three value.faults (annotation_faults span j value.ty) bound.faults faults in
        let r = all_in_three context.known.is_sound value.reached (annotation_reached j) bound.reached reached in
        let a = typed_at_top context env h members e (record { faults = q.0; reached = r.0 }) in
        let own = bound_known context env h span written f st a.0 (ap (annotation_faults span j) (sym a.1) ∙ q.1) r.1 in
        let typed : bound_type j value.ty ≡ Some a.0 = ap (bound_type j) a.1 ∙ own in
        let same : bound ≡ pattern_alone false context (Some a.0) p = ap (λ o. pattern_alone false context o p) typed in
        let v = some_value (types_at context) h.known.parts a.0 a.2 in
        let inner = (pattern_gives text).behind false context a.0 [] context.locals env v.0 h v.1 (ap (λ (b : PatternSeen). has_broken b.faults) (sym same) ∙ ap has_broken q.2) in
        (inner.0, subst (λ (b : PatternSeen). IsWellTypedEnv (behind context b.locals (expr_pair e).0) inner.0) (sym same) (typed_behind context (pattern_alone false context (Some a.0) p).locals (expr_pair e).0 inner.0 inner.1));
    sized = λ context env h members faults reached.
        let value = (expr_pair e).1 true context in
        let span = span_of (expr_pair e) in
        let j = written_typing context written in
        let bound = pattern_alone false context (bound_type j value.ty) (fold_pattern seen seeing text) in
        let q = none_in_three value.faults (annotation_faults span j value.ty) bound.faults faults in
        let r = all_in_three context.known.is_sound value.reached (annotation_reached j) bound.reached reached in
        let a = typed_at_top context env h members e (record { faults = q.0; reached = r.0 }) in
        plus_sized (annotation_size j) (plus_size value.size (Some bound.size)) (written_sized context env h span written f st value.ty q.1 r.1) (plus_sized value.size (Some bound.size) a.3 (bound.size, refl));
    known = λ context. refl;
    members = λ context typed. typed;
  }

  bare_passes_so : (b : Bool) (span : Span) (j : Judgement) → Passes here test j.faults j.reached → Passes here test (if b then j else no_token span j).faults (if b then j else no_token span j).reached
  bare_passes_so true span j p = p
  bare_passes_so false span j p = unmarked here test span j p

  bare_sized : (known : GlobalEnv) (b : Bool) (span : Span) (j : Judgement) → IsWellTypedPart known (if b then j else no_token span j) → (IsWellTypedPart known j → IsSized j.size) → IsSized (if b then j else no_token span j).size
  bare_sized known true span j w f = f w
  bare_sized known false span j w f = let a = alone_well_typed known span j w in let s = f a.well_typed in (s.0, a.same_size ∙ s.1)

  bare_passes : (e : Expr)
      → StepPasses (λ on_top context. record {
        context = behind context context.locals (expr_pair e).0;
        faults = (expr_statement_typing on_top (expr_pair e) ((expr_pair e).1 on_top context)).faults;
        reached = (expr_statement_typing on_top (expr_pair e) ((expr_pair e).1 on_top context)).reached;
        size = (expr_statement_typing on_top (expr_pair e) ((expr_pair e).1 on_top context)).size;
      })
  bare_passes e = record {
    passes = λ context env h callees. bare_passes_so (is_effect (expr_pair e).0) (span_of (expr_pair e)) ((expr_pair e).1 true context) (expression_passes here test e true context env h callees);
    goes = λ context env h members faults reached. (env, typed_behind context context.locals (expr_pair e).0 env h);
    sized = λ context env h members faults reached.
        bare_sized context.known (is_effect (expr_pair e).0) (span_of (expr_pair e)) ((expr_pair e).1 true context) (record { faults = faults; reached = reached }) (λ w. (typed_at_top context env h members e w).3);
    known = λ context. refl;
    members = λ context typed. typed;
  }

  bind_passes : (y : LetLevel trees) → StepPasses (seeing.bind (map_bind trees seen (folds seen seeing) y)).1
  bind_passes y = by_type y.ty
    where
      with_type : Option TypeExpr → LetLevel trees
      with_type o = record { span = y.span; pattern = y.pattern; ty = o; value = y.value }

      by_type : (o : Option TypeExpr) → StepPasses (seeing.bind (map_bind trees seen (folds seen seeing) (with_type o))).1
      by_type None = let_passes y.value None None tt tt y.pattern
      by_type (Some t) = let_passes y.value (Some (fold_type_expr seen seeing t)) (Some (written_type t)) (type_has_den t) (written_type_passes here test t) y.pattern

  let_at_top : (l : Let) → StepPasses (fold_bind seen seeing l).1
  let_at_top l = subst (λ (x : Let × StatementTyping). StepPasses x.1) (sym (out_bind seen seeing l)) (bind_passes (out-Let l))
    where
      out_bind : (c : Carriers) (s : Steps c) (l : Let) → fold_bind c s l ≡ s.bind (map_bind trees c (folds c s) (out-Let l))
      out_bind c s l =
          fold_out-Let c.stmt c.node c.shape c.type_node c.block c.bind c.arg c.arm c.expr c.field c.loop c.number c.pattern c.type_expr s.stmt s.node s.shape s.type_node s.block s.bind s.arg s.arm s.expr s.field s.loop s.number s.pattern s.type_expr l

  statement_passes : (x : Stmt) → StepPasses (fold_stmt seen seeing x).1
  statement_passes x = subst (λ (y : Stmt × StatementTyping). StepPasses y.1) (sym (out_stmt seen seeing x)) (by_layer (out-Stmt x))
    where
      out_stmt : (c : Carriers) (s : Steps c) (x : Stmt) → fold_stmt c s x ≡ s.stmt (map_stmt trees c (folds c s) (out-Stmt x))
      out_stmt c s x =
          fold_out-Stmt c.stmt c.node c.shape c.type_node c.block c.bind c.arg c.arm c.expr c.field c.loop c.number c.pattern c.type_expr s.stmt s.node s.shape s.type_node s.block s.bind s.arg s.arm s.expr s.field s.loop s.number s.pattern s.type_expr x

      by_layer : (y : StmtLevel trees) → StepPasses (seeing.stmt (map_stmt trees seen (folds seen seeing) y)).1
      by_layer (Stmt-F.Let l) = let s = let_at_top l in record { passes = s.passes; goes = s.goes; sized = s.sized; known = s.known; members = s.members }
      by_layer (Stmt-F.Bare e) = let s = bare_passes e in record { passes = s.passes; goes = s.goes; sized = s.sized; known = s.known; members = s.members }

  abbrev typing_statements : List Stmt → StatementTyping
  typing_statements ss = statements_typing (map (λ (s : Stmt × StatementTyping). s.1) (map (fold_stmt seen seeing) ss))

  record StatementsDone (ss : List Stmt) (context : TypeEnv) : Type 0 where
    passes : list_all test (typing_statements ss true context).reached ≡ true
    inner : Env
    typed : IsWellTypedEnv (typing_statements ss true context).context inner
    sized : IsSized (typing_statements ss true context).size
    callees : CalleesPass here test (typing_statements ss true context).context.known

  statements_pass : (ss : List Stmt) (context : TypeEnv) (env : Env) → IsWellTypedEnv context env → CalleesPass here test context.known → MembersTyped context → (typing_statements ss true context).faults ≡ []
      → list_all here (typing_statements ss true context).reached ≡ true → StatementsDone ss context
  statements_pass [] context env h callees members f r = record { passes = refl; inner = env; typed = h; sized = (0, refl); callees = callees }
  statements_pass (s ∷ ss) context env h callees members f r =
      let step = statement_passes s in
      let first = (fold_stmt seen seeing s).1 true context in
      let rest = typing_statements ss true first.context in
      let p = none_in first.faults rest.faults f in
      let q = all_in here first.reached rest.reached r in
      let sound = all_sound here context.known.is_sound callees.sound first.reached q.0 in
      let on = step.goes context env h members p.0 sound in
      let more = statements_pass ss first.context on.0 on.1 (subst (CalleesPass here test) (sym (step.known context)) callees) (step.members context members) p.1 q.1 in
      record { passes = both_pass test first.reached rest.reached (step.passes context env h callees p.0 q.0) more.passes; inner = more.inner; typed = more.typed; sized = plus_sized first.size rest.size (step.sized context env h members p.0 sound) more.sized; callees = more.callees }

  -- ---- the block

  pub next_block_passes : (b : Block) (context : TypeEnv) (env : Env) → IsWellTypedEnv context env → CalleesPass here test context.known → MembersTyped context
      → Passes here test ((block_pair b).1 true context).faults ((block_pair b).1 true context).reached
  next_block_passes b context env h callees members = subst (λ (j : Judgement). Passes here test j.faults j.reached) (sym typing) (by_value (out-Block b).value)
    where
      out_block : (c : Carriers) (s : Steps c) (x : Block) → fold_block c s x ≡ s.block (map_block trees c (folds c s) (out-Block x))
      out_block c s x =
          fold_out-Block c.stmt c.node c.shape c.type_node c.block c.bind c.arg c.arm c.expr c.field c.loop c.number c.pattern c.type_expr s.stmt s.node s.shape s.type_node s.block s.bind s.arg s.arm s.expr s.field s.loop s.number s.pattern s.type_expr x

      ss : List Stmt
      ss = (out-Block b).statements

      with_value : Option Expr → BlockLevel trees
      with_value o = record { span = (out-Block b).span; statements = ss; value = o }

      judgement : Option Expr → Judgement
      judgement o = (seeing.block (map_block trees seen (folds seen seeing) (with_value o))).1 true context

      typing : (block_pair b).1 true context ≡ judgement (out-Block b).value
      typing = λ i. (out_block seen seeing b i).1 true context

      walked : StatementSeen
      walked = typing_statements ss true context

      by_value : (o : Option Expr) → Passes here test (judgement o).faults (judgement o).reached
      by_value None = λ e r.
          let p = none_in walked.faults [] (none_in (walked.faults ++ []) _ e).0 in
          let q = all_in here walked.reached [] r in
          both_pass test walked.reached [] (statements_pass ss context env h callees members p.0 q.0).passes refl
      by_value (Some x) = λ e r.
          let last = alone walked.context (expr_pair x) in
          let p = none_in walked.faults last.faults (none_in (walked.faults ++ last.faults) _ e).0 in
          let q = all_in here walked.reached last.reached r in
          let done = statements_pass ss context env h callees members p.0 q.0 in
          both_pass test walked.reached last.reached done.passes (unmarked here test (span_of (expr_pair x)) (within walked.context (expr_pair x)) (expression_passes here test x false walked.context done.inner done.typed done.callees) p.1 q.1)

  -- with which nothing is wrong has a size
  pub next_block_sized : (b : Block) (context : TypeEnv) (env : Env) → IsWellTypedEnv context env → CalleesPass here test context.known → MembersTyped context → ((block_pair b).1 true context).faults ≡ [] → list_all here ((block_pair b).1 true context).reached ≡ true
      → IsSized ((block_pair b).1 true context).size
  next_block_sized b context env h callees members f r = subst (λ (j : Judgement). j.faults ≡ [] → list_all here j.reached ≡ true → IsSized j.size) (sym typing) (by_value (out-Block b).value) f r
    where
      out_block : (c : Carriers) (s : Steps c) (x : Block) → fold_block c s x ≡ s.block (map_block trees c (folds c s) (out-Block x))
      out_block c s x =
          fold_out-Block c.stmt c.node c.shape c.type_node c.block c.bind c.arg c.arm c.expr c.field c.loop c.number c.pattern c.type_expr s.stmt s.node s.shape s.type_node s.block s.bind s.arg s.arm s.expr s.field s.loop s.number s.pattern s.type_expr x

      ss : List Stmt
      ss = (out-Block b).statements

      span : Span
      span = (out-Block b).span

      with_value : Option Expr → BlockLevel trees
      with_value o = record { span = span; statements = ss; value = o }

      judgement : Option Expr → Judgement
      judgement o = (seeing.block (map_block trees seen (folds seen seeing) (with_value o))).1 true context

      typing : (block_pair b).1 true context ≡ judgement (out-Block b).value
      typing = λ i. (out_block seen seeing b i).1 true context

      walked : StatementSeen
      walked = typing_statements ss true context

      by_value : (o : Option Expr) → (judgement o).faults ≡ [] → list_all here (judgement o).reached ≡ true → IsSized (judgement o).size
      by_value None e r =
          let size = one_and (plus_size walked.size (Some 0)) in
          let s = settled_well_typed context.known span (Some unit_type) (walked.faults ++ []) (walked.reached ++ []) size (record { faults = e; reached = all_sound here context.known.is_sound callees.sound (walked.reached ++ []) r }) in
          let done = statements_pass ss context env h callees members (none_in walked.faults [] s.faults).0 (all_in here walked.reached [] r).0 in
          sized_if (unless_broken (walked.faults ++ []) (Some unit_type)) unit_type size s.ty (one_sized (plus_size walked.size (Some 0)) (plus_sized walked.size (Some 0) done.sized (0, refl)))
      by_value (Some x) e r =
          let last = alone walked.context (expr_pair x) in
          let size = one_and (plus_size walked.size last.size) in
          let s = settled_well_typed context.known span last.ty (walked.faults ++ last.faults) (walked.reached ++ last.reached) size (record { faults = e; reached = all_sound here context.known.is_sound callees.sound (walked.reached ++ last.reached) r }) in
          let p = none_in walked.faults last.faults s.faults in
          let q = all_in here walked.reached last.reached r in
          let done = statements_pass ss context env h callees members p.0 q.0 in
          let g = alone_has walked.context done.inner (expr_pair x) (denotation x) (expression_gives x) done.typed p.1 (all_sound here walked.context.known.is_sound done.callees.sound last.reached q.1) in
          sized_if (unless_broken (walked.faults ++ last.faults) last.ty) g.0 size (s.ty ∙ g.1) (one_sized (plus_size walked.size last.size) (plus_sized walked.size last.size done.sized g.3))
