-- The induction on all sorts of parts of a tree: what has a size reaches an instance of each function that it mentions, and names no parametric
-- of unknown value.
use Rattle.std.proofs.Common.{◌≡◌, ◌&&◌, ◌||◌, ◌++◌, ◌+◌, ℕ, Bool, true, false, not, if◌then◌else◌, List, [], ◌∷◌, map, length, Option, Some, None, refl, sym, ap, subst, ◌∙◌}
use Rattle.xb_span.specs.declared.span.Span.{Span}
use Rattle.xb_span.specs.declared.fault.Fault.{Fault}
use Rattle.dslx_tree.specs.declared.block.Block.{Block}
use Rattle.dslx_tree.specs.declared.block.Stmt.{Stmt}
use Rattle.dslx_tree.specs.declared.block.Stmt.TheFolds.{fold_out-Expr, fold_out-Node}
use Rattle.dslx_tree.specs.declared.block.Stmt.TheOpen.{Stmt-F, Node-F, Shape-F, TypeNode-F}
use Rattle.dslx_tree.specs.declared.expr.Arg.{Arg}
use Rattle.dslx_tree.specs.declared.expr.Expr.{Expr, out-Expr}
use Rattle.dslx_tree.specs.declared.ident.Ident.{Ident}
use Rattle.dslx_tree.specs.declared.item.Struct.{Struct}
use Rattle.dslx_tree.specs.declared.pattern.Pattern.{Pattern}
use Rattle.dslx_tree.specs.declared.type_expr.TypeExpr.{TypeExpr}
use Rattle.dslx_tree.proofs.Lemmas.Folds.Folds.{fold_pattern, folds}
use Rattle.dslx_tree.proofs.Lemmas.Folds.Levels.{Carriers, trees, StmtLevel, NodeLevel, ShapeLevel, TypeNodeLevel, BlockLevel, LetLevel, ArmLevel, FieldValueLevel, ForLevel, NumberLevel, map_stmt, map_node, map_shape, map_type_node, map_block, map_bind, map_arm, map_field, map_loop, map_number}
use Rattle.dslx_tree.proofs.Lemmas.Folds.Related.{both, firsts, seconds, KeepRelated, related_arg, related_expr, related_block, related_pattern, related_type_expr}
use Rattle.dslx_meaning.specs.Activation.{NodeLayer, name_in_node, node_of}
use Rattle.dslx_meaning.specs.Callees.{kind_of_call}
use Rattle.dslx_meaning.specs.Items.{as_struct, item_named}
use Rattle.dslx_meaning.specs.Lists.{all_some, and_then, is_in, where_true, with_both}
use Rattle.dslx_meaning.specs.Meaning.{some_count, value_of}
use Rattle.dslx_meaning.specs.declared.ty.DslxType.{DslxType}
use Rattle.dslx_meaning.specs.declared.ty.DslxType as ty
use Rattle.dslx_meaning.specs.declared.value.UntypedLiteral.{UntypedLiteral}
use Rattle.dslx_meaning.specs.Rules.AggregateRules.{array_faults, array_in, element_alone, element_in, element_type, field_typing, number_typing, others_typing, pair_or_alone, range_faults, struct_if, struct_typing, wanted_faults, when_all}
use Rattle.dslx_meaning.specs.Rules.ConstantRules.{ConstantSeen, constant_of, constant_or_untyped, constant_typing, count_number, count_of, is_sound_here, is_unsigned, is_empty, untyped_typing, value_if_whole}
use Rattle.dslx_meaning.specs.Rules.ControlRules.{LoopSeen, all_known, alternatives_seen, annotated_type, annotation_reached, arm_typing, arm_values, arms_faults, arms_reached, arms_size, block_alone, bound_type, differ, first_of_types, has_several, index_type, last_typing, loop_faults, loop_parts_faults, loop_size, loop_type, loop_with, match_faults, not_exhaustive, one_alternative, same_ends, some_binds, span_of_block, statements_typing, turns_of, turns_size}
use Rattle.dslx_meaning.specs.Rules.EffectNames.{is_effect}
use Rattle.dslx_meaning.specs.Rules.Mentions as k
use Rattle.dslx_meaning.specs.Rules.Mentions.{AsStruct, AsType, Mention, Mentions, NamesBound, all_mentions, binders_mentions, bound_behind, is_of_use, mention, mentioned, mentioned_in_arg, mentioned_in_block, mentioned_in_type, mentions_if, statements_mentions, value_mention}
use Rattle.dslx_meaning.specs.Rules.NodeRules.{arg_pair, block_pair, expr_pair, second_of, type_pair}
use Rattle.dslx_meaning.specs.Rules.PatternRules.{first_part_type, is_there, other_part_types, part_types, parts_typing, pattern_alone, shape_faults, tuple_faults}
use Rattle.dslx_meaning.specs.Rules.TypeEnvs.{ExprPair, ExprTyping, Judgement, TypeEnv, Typed, alone, breaks, constant_env, faults_of_all, has_broken, no_token, one_and, plus_size, reached_of_all, size_of_all, span_of, typed_in, types_of, untyped_of, with_typed}
use Rattle.dslx_meaning.specs.Rules.TypeRules.{inner_type, inner_types, named_type}
use Rattle.dslx_meaning.specs.Rules.NameRules.{name_typing}
use Rattle.dslx_meaning.specs.Rules.Typings.{PatternTyping, StatementTyping, TypeExprTyping}
use Rattle.dslx_meaning.specs.Rules.OperatorRules.{is_bits, is_bits_or_enum, unless_type}
use Rattle.dslx_meaning.specs.Values.{unsigned_of}
use Rattle.dslx_core.specs.Typing.TypingRelations.Called.{named}
use Rattle.dslx_core.specs.Typing.TypingRelations.Cycles.{AllUsed}
use Rattle.dslx_core.specs.Typing.TypingRelations.Reached.{AllNamed}
use Rattle.dslx_core.proofs.OnTyping.OnCycles.Bare.{bare_mentions_nothing}
use Rattle.dslx_core.proofs.OnTyping.OnCycles.Joined.{no_names, not_true, pattern_judged, second_of_four}
use Rattle.dslx_core.proofs.OnTyping.OnCycles.Parts.{PatternJudged, front, in_neither, join, join_three, not_here}
use Rattle.dslx_core.proofs.OnTyping.OnDepends.Links.{Claims, claimed, typing, expr_typing, mentions, mention_steps, seen_stmt, seen_node, seen_shape, seen_type_node, seen_block, seen_bind, seen_arg, seen_arm, seen_expr, seen_field, seen_loop, seen_number, seen_pattern, seen_type_expr, mentioned_stmt, mentioned_node, mentioned_shape, mentioned_type_node, mentioned_block, mentioned_bind, mentioned_arg, mentioned_arm, mentioned_expr, mentioned_field, mentioned_loop, mentioned_number, mentioned_pattern, mentioned_type_expr}
use Rattle.dslx_core.proofs.OnTyping.OnSized.OfCalls.{EachNamed, EachSized, EachValued, call_sized}
use Rattle.dslx_core.proofs.OnTyping.OnSized.Locals.{valued_unlocal}
use Rattle.dslx_core.proofs.OnTyping.OnSized.Parts.{ArmSized, FieldSized, HasCalls, LoopSized, PatternSized, Sized, StatementSized, TypeSized, both_tests, each_there, first_there, named_parts, nothing_there, one_less, rest_sized, second_there, sized_inside, taken_sized, test_there, three_named, three_sizes, two_factors, two_sizes, two_there, typed_inside, typed_size, unlocal, unknown_behind, unmarked_size, unmarked_sized, value_named, LeavesUnknown, member_named}
use Rattle.dslx_core.proofs.OnTyping.OnTyped.TypingRelations.{none_some, or_false, rule_holds, same_some, three_unbroken, unbroken_parts}

abbrev sized : (List ℕ → Bool) → (List ℕ → Bool) → Claims
sized P U = record {
  stmt = StatementSized P U;
  node = λ j ms. (span : Span) → Sized P U (j span) ms;
  shape = λ p n. (span : Span) → PatternSized P U (p span) n;
  type_node = λ j ms. (span : Span) → TypeSized P U (j span) ms;
  block = Sized P U;
  bind = StatementSized P U;
  arg = λ e ms. Sized P U e.1 ms × ((number : UntypedLiteral) → untyped_of e ≡ Some number → (bound : List (List ℕ)) → AllUsed (named P U) (ms bound));
  arm = ArmSized P U;
  expr = Sized P U;
  field = FieldSized P U;
  loop = λ j ms. (span : Span) → LoopSized P U (j span) ms;
  number = λ j ms. (span : Span) → TypeSized P U (j span) ms;
  pattern = PatternSized P U;
  type_expr = TypeSized P U;
}

-- ---- a name alone

abbrev node_mentioned : NodeLayer → Mentions
node_mentioned x = k.node_mentions (map_node trees mentions (folds mentions mention_steps) x)

expr_opened : (e : Expr) → mentioned e ≡ node_mentioned (node_of e)
expr_opened e =
    fold_out-Expr NamesBound Mentions NamesBound Mentions Mentions NamesBound Mentions Mentions Mentions Mentions Mentions Mentions NamesBound Mentions
    k.stmt_mentions k.node_mentions k.shape_mentions k.type_mentions k.block_mentions k.let_mentions (λ a. a.value) k.arm_mentions (λ e. e.node) k.field_mentions k.for_mentions (λ n. mentions_if n.ty) (λ p. p.shape) (λ t. t.node) e
    ∙ fold_out-Node NamesBound Mentions NamesBound Mentions Mentions NamesBound Mentions Mentions Mentions Mentions Mentions Mentions NamesBound Mentions
    k.stmt_mentions k.node_mentions k.shape_mentions k.type_mentions k.block_mentions k.let_mentions (λ a. a.value) k.arm_mentions (λ e. e.node) k.field_mentions k.for_mentions (λ n. mentions_if n.ty) (λ p. p.shape) (λ t. t.node) (out-Expr e).node

-- what is a name mentions it as a value
node_named : (x : NodeLayer) (name : List ℕ) → name_in_node x ≡ Some name → node_mentioned x ≡ value_mention name
node_named (Node-F.Node::Name n) name q = λ i bound. value_mention (same_some n name q i) bound
node_named (Node-F.Node::Number n) name q = none_some name q
node_named (Node-F.Node::Bool bit) name q = none_some name q
node_named (Node-F.Node::Array t es dots) name q = none_some name q
node_named (Node-F.Node::Member enum a) name q = none_some name q
node_named (Node-F.Call f parametric_args es) name q = none_some name q
node_named (Node-F.Node::Tuple es) name q = none_some name q
node_named (Node-F.Struct s fields rest) name q = none_some name q
node_named (Node-F.Block block) name q = none_some name q
node_named (Node-F.If test taken other) name q = none_some name q
node_named (Node-F.Match x arms) name q = none_some name q
node_named (Node-F.For loop) name q = none_some name q
node_named (Node-F.Index x place) name q = none_some name q
node_named (Node-F.Slice x low high) name q = none_some name q
node_named (Node-F.Part x start t) name q = none_some name q
node_named (Node-F.Field x field) name q = none_some name q
node_named (Node-F.Element x at k) name q = none_some name q
node_named (Node-F.Prefix o x) name q = none_some name q
node_named (Node-F.Cast x t) name q = none_some name q
node_named (Node-F.Binary o l r) name q = none_some name q

expr_named : (e : Expr) (name : List ℕ) → name_in_node (node_of e) ≡ Some name → mentioned e ≡ value_mention name
expr_named e name q = expr_opened e ∙ node_named (node_of e) name q

-- where a pattern may not fail, it is no value
may_fail_here : {X : Type 0} (fs gs : List Fault) (span : Span) → has_broken ((fs ++ gs) ++ breaks 8 span ∷ []) ≡ false → X
may_fail_here fs gs span h = not_here (fs ++ gs) [] 8 span h

module _ (P U : List ℕ → Bool) where
  abbrev Q : k.Use → List ℕ → Bool
  Q = named P U

  abbrev Parts : Carriers
  Parts = both typing mentions (claimed (sized P U))

  abbrev ExprPart : Type 0
  ExprPart = Parts.expr

  abbrev ArgPart : Type 0
  ArgPart = Parts.arg

  abbrev FieldPart : Type 0
  FieldPart = Parts.field

  abbrev ArmPart : Type 0
  ArmPart = Parts.arm

  abbrev PatternPart : Type 0
  PatternPart = Parts.pattern

  abbrev TypePart : Type 0
  TypePart = Parts.type_expr

  abbrev StmtPart : Type 0
  StmtPart = Parts.stmt

  -- ---- expressions as what is around them sees them

  alone_sized : (bound : List (List ℕ)) (context : TypeEnv) (e : ExprPart) → LeavesUnknown U bound context → HasCalls P U (alone context e.0) (e.1 bound)
  alone_sized bound context e u h k = unmarked_sized P U (e.1 bound) (span_of e.0) (e.0.1 false context) (e.2.2 bound false context u) h k

  constant_sized : (bound : List (List ℕ)) (context : TypeEnv) (e : ExprPart) → LeavesUnknown U bound context → HasCalls P U (constant_of context e.0).judgement (e.1 bound)
  constant_sized bound context e u h k = alone_sized bound context e u (typed_size (constant_of context e.0).judgement.ty (alone context e.0).size h).1 k

  pub constant_valued : (context : TypeEnv) (e : ExprPair) (ms : List Mention) → HasCalls P U (alone context e) ms → is_there (constant_of context e).value ≡ true → AllNamed P (constant_of context e).judgement.reached → AllUsed Q ms
  constant_valued context e ms c h k = c (by_test (is_sound_here context.known j) h) k
    where
      j : Judgement
      j = constant_typing context e

      by_test : (b : Bool) → is_there (if b then value_if_whole j (value_of e.0 (constant_env context)) else None) ≡ true → is_there (alone context e).size ≡ true
      by_test true h =
          let v = value_of e.0 (constant_env context) in
          first_there j.size (λ n. v) (second_there j.ty (and_then j.size (λ n. v)) h)
      by_test false h = nothing_there h

  -- a number without a type mentions nothing
  number_alone : (bound : List (List ℕ)) (e : ExprPart) (number : UntypedLiteral) → untyped_of e.0 ≡ Some number → AllUsed Q (e.1 bound)
  number_alone bound e number q = subst (AllUsed Q) (sym ((λ i. (sym e.2.1 i) bound) ∙ bare_mentions_nothing e.0.0 number q bound)) tt

  abbrev constant_by : TypeEnv → ExprPair → Option UntypedLiteral → ConstantSeen
  constant_by context e None = constant_of context e
  constant_by context e (Some number) = record { judgement = untyped_typing; bare = Some number; value = None }

  untyped_sized : (bound : List (List ℕ)) (context : TypeEnv) (e : ExprPart) → LeavesUnknown U bound context → HasCalls P U (constant_or_untyped context e.0).judgement (e.1 bound)
  untyped_sized bound context e u h k = by_untyped (untyped_of e.0) refl h k
    where
      by_untyped : (o : Option UntypedLiteral) → untyped_of e.0 ≡ o → HasCalls P U (constant_by context e.0 o).judgement (e.1 bound)
      by_untyped None q h k = constant_sized bound context e u h k
      by_untyped (Some number) q h k = number_alone bound e number q

  pub count_valued : (context : TypeEnv) (e : ExprPair) (ms : List Mention) → HasCalls P U (alone context e) ms → ((number : UntypedLiteral) → untyped_of e ≡ Some number → AllUsed Q ms) → is_there (count_of context e).count ≡ true
      → AllNamed P (count_of context e).judgement.reached → AllUsed Q ms
  count_valued context e ms c n h k = by_untyped (untyped_of e) refl (first_there (count_number (constant_or_untyped context e)) some_count h) k
    where
      by_untyped : (o : Option UntypedLiteral) → untyped_of e ≡ o → is_there (count_number (constant_by context e o)) ≡ true → AllNamed P (constant_by context e o).judgement.reached → AllUsed Q ms
      by_untyped None q h k =
          let v = (constant_of context e).value in
          constant_valued context e ms c (first_there v unsigned_of (first_there (and_then v unsigned_of) (λ w. Some w.value) h)) k
      by_untyped (Some number) q h k = n number q

  -- what has a value names no local
  pub constant_unlocal : (bound : List (List ℕ)) (context : TypeEnv) (e : ExprPart) → is_there (constant_of context e.0).value ≡ true → AllUsed (unlocal context) (e.1 bound)
  constant_unlocal bound context e h = subst (λ (ms : Mentions). AllUsed (unlocal context) (ms bound)) e.2.1 (valued_unlocal context e.0 bound h)

  count_unlocal : (bound : List (List ℕ)) (context : TypeEnv) (e : ExprPart) → is_there (count_of context e.0).count ≡ true → AllUsed (unlocal context) (e.1 bound)
  count_unlocal bound context e h = by_untyped (untyped_of e.0) refl (first_there (count_number (constant_or_untyped context e.0)) some_count h)
    where
      by_untyped : (o : Option UntypedLiteral) → untyped_of e.0 ≡ o → is_there (count_number (constant_by context e.0 o)) ≡ true → AllUsed (unlocal context) (e.1 bound)
      by_untyped None q h =
          let v = (constant_of context e.0).value in
          constant_unlocal bound context e (first_there v unsigned_of (first_there (and_then v unsigned_of) (λ w. Some w.value) h))
      by_untyped (Some number) q h = subst (AllUsed (unlocal context)) (sym ((λ i. (sym e.2.1 i) bound) ∙ bare_mentions_nothing e.0.0 number q bound)) tt

  count_known : (bound : List (List ℕ)) (context : TypeEnv) (e : ExprPart) → LeavesUnknown U bound context → is_there (count_of context e.0).count ≡ true → AllNamed P (count_of context e.0).judgement.reached → AllUsed Q (e.1 bound)
  count_known bound context e u h k = count_valued context e.0 (e.1 bound) (alone_sized bound context e u) (λ number q. number_alone bound e number q) h k

  abbrev element_by : TypeEnv → Option DslxType → ExprPair → Option UntypedLiteral → Judgement
  element_by context wanted e None = let j = alone context e in record j { faults = j.faults ++ wanted_faults (span_of e) wanted j.ty }
  element_by context wanted e (Some number) = record untyped_typing { ty = wanted; faults = range_faults (span_of e) wanted number }

  element_sized : (bound : List (List ℕ)) (context : TypeEnv) (wanted : Option DslxType) (e : ExprPart) → LeavesUnknown U bound context → HasCalls P U (element_in context wanted e.0) (e.1 bound)
  element_sized bound context wanted e u h k = by_untyped (untyped_of e.0) refl h k
    where
      by_untyped : (o : Option UntypedLiteral) → untyped_of e.0 ≡ o → HasCalls P U (element_by context wanted e.0 o) (e.1 bound)
      by_untyped None q h k = alone_sized bound context e u h k
      by_untyped (Some number) q h k = number_alone bound e number q

  -- ---- lists of parts

  exprs_sized : (bound : List (List ℕ)) (context : TypeEnv) (ps : List ExprPart) → LeavesUnknown U bound context → EachSized P U bound context (map (λ (p : ExprPart). p.0) ps) (map (λ (p : ExprPart). p.1) ps)
  exprs_sized bound context [] u = tt
  exprs_sized bound context (p ∷ ps) u = (p.2.2 bound false context u, exprs_sized bound context ps u)

  exprs_named : (bound : List (List ℕ)) (context : TypeEnv) (ps : List ExprPart) → LeavesUnknown U bound context → EachNamed P U bound context (map (λ (p : ExprPart). p.0) ps) (map (λ (p : ExprPart). p.1) ps)
  exprs_named bound context [] u = tt
  exprs_named bound context (p ∷ ps) u = ((λ name q e. subst (λ (ms : Mentions). AllUsed Q (ms bound)) (sym (expr_named p.0.0 name q) ∙ p.2.1) (member_named P U bound context name u e)), exprs_named bound context ps u)

  args_valued : (bound : List (List ℕ)) (context : TypeEnv) (ps : List ArgPart) → LeavesUnknown U bound context → EachValued P U bound context (map (λ (p : ArgPart). p.0) ps) (map (λ (p : ArgPart). p.1) ps)
  args_valued bound context [] u = tt
  args_valued bound context (p ∷ ps) u = ((λ h k. constant_valued context p.0.1 (p.1 bound) (unmarked_sized P U (p.1 bound) (span_of p.0.1) (p.0.1.1 false context) (p.2.2.0 bound false context u)) h k), args_valued bound context ps u)

  elements_alone : (bound : List (List ℕ)) (context : TypeEnv) (ps : List ExprPart) → LeavesUnknown U bound context → is_there (size_of_all (map (element_alone context) (map (λ (p : ExprPart). p.0) ps))) ≡ true
      → AllNamed P (reached_of_all (map (element_alone context) (map (λ (p : ExprPart). p.0) ps))) → AllUsed Q (all_mentions (map (λ (p : ExprPart). p.1) ps) bound)
  elements_alone bound context [] u h k = tt
  elements_alone bound context (p ∷ ps) u h k =
      let rest = map (element_alone context) (map (λ (q : ExprPart). q.0) ps) in
      let r = two_sizes (alone context p.0).size (size_of_all rest) h in
      let n = named_parts P (alone context p.0).reached (reached_of_all rest) k in
      join Q (p.1 bound) (all_mentions (map (λ (q : ExprPart). q.1) ps) bound) (alone_sized bound context p u r.0 n.0) (elements_alone bound context ps u r.1 n.1)

  elements_in : (bound : List (List ℕ)) (context : TypeEnv) (wanted : Option DslxType) (ps : List ExprPart) → LeavesUnknown U bound context → is_there (size_of_all (map (element_in context wanted) (map (λ (p : ExprPart). p.0) ps))) ≡ true
      → AllNamed P (reached_of_all (map (element_in context wanted) (map (λ (p : ExprPart). p.0) ps))) → AllUsed Q (all_mentions (map (λ (p : ExprPart). p.1) ps) bound)
  elements_in bound context wanted [] u h k = tt
  elements_in bound context wanted (p ∷ ps) u h k =
      let rest = map (element_in context wanted) (map (λ (q : ExprPart). q.0) ps) in
      let r = two_sizes (element_in context wanted p.0).size (size_of_all rest) h in
      let n = named_parts P (element_in context wanted p.0).reached (reached_of_all rest) k in
      join Q (p.1 bound) (all_mentions (map (λ (q : ExprPart). q.1) ps) bound) (element_sized bound context wanted p u r.0 n.0) (elements_in bound context wanted ps u r.1 n.1)

  types_typed : (bound : List (List ℕ)) (context : TypeEnv) (ps : List TypePart) → LeavesUnknown U bound context → is_there (all_some (types_of (inner_types context (map (λ (p : TypePart). p.0) ps)))) ≡ true
      → AllNamed P (reached_of_all (inner_types context (map (λ (p : TypePart). p.0) ps))) → AllUsed Q (all_mentions (map (λ (p : TypePart). p.1) ps) bound)
  types_typed bound context [] u h k = tt
  types_typed bound context (p ∷ ps) u h k =
      let rest = inner_types context (map (λ (q : TypePart). q.0) ps) in
      let r = each_there (p.0.1 context).ty (types_of rest) h in
      let n = named_parts P (p.0.1 context).reached (reached_of_all rest) k in
      join Q (p.1 bound) (all_mentions (map (λ (q : TypePart). q.1) ps) bound) (p.2.2.typed bound context u r.0 n.0) (types_typed bound context ps u r.1 n.1)

  types_unlocal : (bound : List (List ℕ)) (context : TypeEnv) (ps : List TypePart) → is_there (all_some (types_of (inner_types context (map (λ (p : TypePart). p.0) ps)))) ≡ true
      → AllUsed (unlocal context) (all_mentions (map (λ (p : TypePart). p.1) ps) bound)
  types_unlocal bound context [] h = tt
  types_unlocal bound context (p ∷ ps) h =
      let r = each_there (p.0.1 context).ty (types_of (inner_types context (map (λ (q : TypePart). q.0) ps))) h in
      join (unlocal context) (p.1 bound) (all_mentions (map (λ (q : TypePart). q.1) ps) bound) (p.2.2.no_local bound context r.0) (types_unlocal bound context ps r.1)

  fields_sized : (bound : List (List ℕ)) (context : TypeEnv) (struct : Option DslxType) (ps : List FieldPart) → LeavesUnknown U bound context → is_there (size_of_all (map (field_typing context struct) (map second_of (map (λ (p : FieldPart). p.0) ps)))) ≡ true
      → AllNamed P (reached_of_all (map (field_typing context struct) (map second_of (map (λ (p : FieldPart). p.0) ps)))) → AllUsed Q (all_mentions (map (λ (p : FieldPart). p.1) ps) bound)
  fields_sized bound context struct [] u h k = tt
  fields_sized bound context struct (p ∷ ps) u h k =
      let rest = map (field_typing context struct) (map second_of (map (λ (q : FieldPart). q.0) ps)) in
      let r = two_sizes (field_typing context struct p.0.1).size (size_of_all rest) h in
      let n = named_parts P (field_typing context struct p.0.1).reached (reached_of_all rest) k in
      join Q (p.1 bound) (all_mentions (map (λ (q : FieldPart). q.1) ps) bound) (p.2.2 bound context struct u r.0 n.0) (fields_sized bound context struct ps u r.1 n.1)

  arms_sized : (bound : List (List ℕ)) (context : TypeEnv) (t : Option DslxType) (ps : List ArmPart) → LeavesUnknown U bound context → some_binds (map (arm_typing context t) (map second_of (map (λ (p : ArmPart). p.0) ps))) ≡ false
      → all_known (map (arm_typing context t) (map second_of (map (λ (p : ArmPart). p.0) ps))) ≡ true
      → is_there (arms_size (map (arm_typing context t) (map second_of (map (λ (p : ArmPart). p.0) ps)))) ≡ true
      → AllNamed P (arms_reached (map (arm_typing context t) (map second_of (map (λ (p : ArmPart). p.0) ps)))) → AllUsed Q (all_mentions (map (λ (p : ArmPart). p.1) ps) bound)
  arms_sized bound context t [] u b a h k = tt
  arms_sized bound context t (p ∷ ps) u b a h k =
      let arm = arm_typing context t p.0.1 in
      let rest = map (arm_typing context t) (map second_of (map (λ (q : ArmPart). q.0) ps)) in
      let c = or_false (has_several arm.patterns && arm.seen.binds) (some_binds rest) b in
      let known = both_tests arm.seen.is_known (all_known rest) a in
      let r = three_sizes (Some arm.seen.size) arm.value.size (arms_size rest) h in
      let n = named_parts P (arm.seen.reached ++ arm.value.reached) (arms_reached rest) k in
      join Q (p.1 bound) (all_mentions (map (λ (q : ArmPart). q.1) ps) bound) (p.2.2 bound context t u c.0 known.0 r.1 n.0) (arms_sized bound context t ps u c.1 known.1 r.2 n.1)

  -- ---- expressions

  struct_sized : (span : Span) (name : Ident) (fields : List FieldPart) (rest : Option ExprPair) (ms : Mentions)
      → ((bound : List (List ℕ)) (context : TypeEnv) (struct : Option DslxType) → LeavesUnknown U bound context → HasCalls P U (others_typing context struct rest) (ms bound))
      → (bound : List (List ℕ)) (context : TypeEnv) → LeavesUnknown U bound context → HasCalls P U (struct_typing span context name (map second_of (map (λ (p : FieldPart). p.0) fields)) rest)
      ((mention AsStruct name.name ++ all_mentions (map (λ (p : FieldPart). p.1) fields) bound) ++ ms bound)
  struct_sized span name fields rest ms others bound context u h k = by_struct (as_struct (item_named name.name context.known.whole.items)) h k
    where
      by_struct : (o : Option Struct) → HasCalls P U (struct_if span context name (map second_of (map (λ (p : FieldPart). p.0) fields)) rest o) ((mention AsStruct name.name ++ all_mentions (map (λ (p : FieldPart). p.1) fields) bound) ++ ms bound)
      by_struct None h k =
          let js = map (field_typing context None) (map second_of (map (λ (p : FieldPart). p.0) fields)) in
          let others_seen = others_typing context None rest in
          nothing_there (sized_inside (breaks 1 name.span ∷ (faults_of_all js ++ others_seen.faults)) None (one_and (plus_size (size_of_all js) others_seen.size)) h).1
      by_struct (Some declared) h k =
          let struct = context.known.items.struct_named name.name in
          let js = map (field_typing context struct) (map second_of (map (λ (p : FieldPart). p.0) fields)) in
          let others_seen = others_typing context struct rest in
          let own = (struct_if span context name (map second_of (map (λ (p : FieldPart). p.0) fields)) rest (Some declared)).ty in
          let r = two_sizes (size_of_all js) others_seen.size (rest_sized own (plus_size (size_of_all js) others_seen.size) h) in
          let n = named_parts P (reached_of_all js) others_seen.reached k in
          join_three Q (mention AsStruct name.name) (all_mentions (map (λ (p : FieldPart). p.1) fields) bound) (ms bound) (refl, tt) (fields_sized bound context struct fields u r.0 n.0) (others bound context struct u r.1 n.1)

  abbrev typing_of_node : NodeLevel Parts → Span → ExprTyping
  typing_of_node x = (expr_typing.node (map_node Parts typing (firsts typing mentions (claimed (sized P U))) x)).1

  abbrev mentions_of_node : NodeLevel Parts → Mentions
  mentions_of_node x = mention_steps.node (map_node Parts mentions (seconds typing mentions (claimed (sized P U))) x)

  node_sized : (x : NodeLevel Parts) (span : Span) → Sized P U (typing_of_node x span) (mentions_of_node x)
  node_sized (Node-F.Node::Number n) span bound on_top context u h k = (n.2.2 span).typed bound context u ((n.2.2 span).sized context h) k
  node_sized (Node-F.Node::Bool bit) span bound on_top context u h k = tt
  node_sized (Node-F.Node::Array None es dots) span bound on_top context u h k = elements_alone bound context es u (rest_sized (typing_of_node (Node-F.Node::Array None es dots) span on_top context).ty (size_of_all (map (element_alone context) (map (λ (p : ExprPart). p.0) es))) h) k
  node_sized (Node-F.Node::Array (Some t) es dots) span bound on_top context u h k =
      let ty = (t.0.1 context).ty in
      let wanted = element_type (and_then ty array_in) in
      let pairs = map (λ (p : ExprPart). p.0) es in
      let js = map (element_in context wanted) pairs in
      let faults = ((t.0.1 context).faults ++ faults_of_all js) ++ array_faults span ty (and_then ty array_in) (length pairs) dots in
      let r = sized_inside faults (when_all (types_of js) ty) (one_and (size_of_all js)) h in
      let n = named_parts P (t.0.1 context).reached (reached_of_all js) k in
      join Q (t.1 bound) (all_mentions (map (λ (p : ExprPart). p.1) es) bound) (t.2.2.typed bound context u (second_there (all_some (types_of js)) ty r.1) n.0) (elements_in bound context wanted es u (one_less (size_of_all js) r.2) n.1)
  node_sized (Node-F.Node::Name name) span bound on_top context u h k = value_named P U bound span context name u h
  node_sized (Node-F.Node::Member e a) span bound on_top context u h k = (refl, tt)
  node_sized (Node-F.Call f parametric_args es) span bound on_top context u h k =
      call_sized P U bound context (kind_of_call f.name) span f (map (λ (p : ArgPart). p.0) parametric_args) (map (λ (p : ArgPart). p.1) parametric_args) (map (λ (p : ExprPart). p.0) es) (map (λ (p : ExprPart). p.1) es)
      (args_valued bound context parametric_args u) (exprs_sized bound context es u) (exprs_named bound context es u) on_top h k
  node_sized (Node-F.Node::Tuple es) span bound on_top context u h k = elements_alone bound context es u (rest_sized (typing_of_node (Node-F.Node::Tuple es) span on_top context).ty (size_of_all (map (element_alone context) (map (λ (p : ExprPart). p.0) es))) h) k
  node_sized (Node-F.Struct name fields None) span bound on_top context u h k = struct_sized span name fields None (mentions_if None) (λ bound context struct u h k. tt) bound context u h k
  node_sized (Node-F.Struct name fields (Some rest)) span bound on_top context u h k = struct_sized span name fields (Some rest.0) (mentions_if (Some rest.1)) (λ bound context struct u h k. alone_sized bound context rest u h k) bound context u h k
  node_sized (Node-F.Block b) span bound on_top context u h k = b.2.2 bound false context u h k
  node_sized (Node-F.If c a b) span bound on_top context u h k =
      let condition = alone context c.0 in
      let first = block_alone context a.0 in
      let second = alone context b.0 in
      let r = three_sizes condition.size first.size second.size (rest_sized (typing_of_node (Node-F.If c a b) span on_top context).ty (plus_size condition.size (plus_size first.size second.size)) h) in
      let n = three_named P condition.reached first.reached second.reached k in
      join_three Q (c.1 bound) (a.1 bound) (b.1 bound) (alone_sized bound context c u r.0 n.0) (a.2.2 bound false context u r.1 n.1) (alone_sized bound context b u r.2 n.2)
  node_sized (Node-F.Match e arms) span bound on_top context u h k =
      let value = alone context e.0 in
      let js = map (arm_typing context value.ty) (map second_of (map (λ (p : ArmPart). p.0) arms)) in
      let faults = (value.faults ++ arms_faults js) ++ match_faults span context value.ty js in
      let ty = where_true (all_known js) (first_of_types (all_some (types_of (arm_values js)))) in
      let s = sized_inside faults (and_then value.ty (λ t. ty)) (one_and (plus_size value.size (arms_size js))) h in
      let r = two_sizes value.size (arms_size js) (one_less (plus_size value.size (arms_size js)) s.2) in
      let n = named_parts P value.reached (arms_reached js) k in
      join Q (e.1 bound) (all_mentions (map (λ (p : ArmPart). p.1) arms) bound) (alone_sized bound context e u r.0 n.0) (arms_sized bound context value.ty arms u (second_of_four (is_empty js) (some_binds js) (differ (all_some (types_of (arm_values js)))) (not_exhaustive context js value.ty)
      (rule_holds (is_empty js || some_binds js || differ (all_some (types_of (arm_values js))) || not_exhaustive context js value.ty) 24 span (unbroken_parts (value.faults ++ arms_faults js) (match_faults span context value.ty js) s.0).1)) (test_there (all_known js) (first_of_types (all_some (types_of (arm_values js)))) (second_there value.ty ty s.1)) r.1 n.1)
  node_sized (Node-F.For f) span bound on_top context u h k = f.2.2 span bound context u h k
  node_sized (Node-F.Index e place) span bound on_top context u h k =
      let whole = alone context e.0 in
      let at = alone context place.0 in
      let r = two_sizes whole.size at.size (rest_sized (typing_of_node (Node-F.Index e place) span on_top context).ty (plus_size whole.size at.size) h) in
      let n = named_parts P whole.reached at.reached k in
      join Q (e.1 bound) (place.1 bound) (alone_sized bound context e u r.0 n.0) (alone_sized bound context place u r.1 n.1)
  node_sized (Node-F.Slice e a b) span bound on_top context u h k =
      let whole = alone context e.0 in
      let from = constant_or_untyped context a.0 in
      let to = constant_or_untyped context b.0 in
      let r = three_sizes whole.size from.judgement.size to.judgement.size (rest_sized (typing_of_node (Node-F.Slice e a b) span on_top context).ty (plus_size whole.size (plus_size from.judgement.size to.judgement.size)) h) in
      let n = three_named P whole.reached from.judgement.reached to.judgement.reached k in
      join_three Q (e.1 bound) (a.1 bound) (b.1 bound) (alone_sized bound context e u r.0 n.0) (untyped_sized bound context a u r.1 n.1) (untyped_sized bound context b u r.2 n.2)
  node_sized (Node-F.Part e place t) span bound on_top context u h k =
      let whole = alone context e.0 in
      let start = alone context place.0 in
      let target = t.0.1 context in
      let three = (whole.faults ++ start.faults) ++ target.faults in
      let faults = ((three ++ unless_type is_bits 18 span whole.ty) ++ unless_type is_unsigned 18 span start.ty) ++ unless_type is_unsigned 18 span target.ty in
      let s = sized_inside faults (and_then whole.ty (λ w. and_then start.ty (λ u. target.ty))) (one_and (plus_size whole.size start.size)) h in
      let r = two_sizes whole.size start.size (one_less (plus_size whole.size start.size) s.2) in
      let n = three_named P whole.reached start.reached target.reached k in
      join_three Q (e.1 bound) (place.1 bound) (t.1 bound) (alone_sized bound context e u r.0 n.0) (alone_sized bound context place u r.1 n.1)
      (t.2.2.typed bound context u (second_there start.ty target.ty (second_there whole.ty (and_then start.ty (λ u. target.ty)) s.1)) n.2)
  node_sized (Node-F.Field e name) span bound on_top context u h k = alone_sized bound context e u (rest_sized (typing_of_node (Node-F.Field e name) span on_top context).ty ((alone context e.0).size) h) k
  node_sized (Node-F.Element e at place) span bound on_top context u h k = taken_sized P U (e.1 bound) place context e.0 (e.2.2 bound false context u) (rest_sized (typing_of_node (Node-F.Element e at place) span on_top context).ty ((pair_or_alone place context e.0).size) h) k
  node_sized (Node-F.Prefix o e) span bound on_top context u h k = alone_sized bound context e u (rest_sized (typing_of_node (Node-F.Prefix o e) span on_top context).ty ((alone context e.0).size) h) k
  node_sized (Node-F.Cast e t) span bound on_top context u h k =
      let whole = alone context e.0 in
      let target = t.0.1 context in
      let faults = ((whole.faults ++ target.faults) ++ unless_type is_bits_or_enum 20 span whole.ty) ++ unless_type is_bits 20 span target.ty in
      let s = sized_inside faults (and_then whole.ty (λ w. target.ty)) (one_and whole.size) h in
      let n = named_parts P whole.reached target.reached k in
      join Q (e.1 bound) (t.1 bound) (alone_sized bound context e u (one_less whole.size s.2) n.0) (t.2.2.typed bound context u (second_there whole.ty target.ty s.1) n.1)
  node_sized (Node-F.Binary o l r) span bound on_top context u h k =
      let left = alone context l.0 in
      let right = alone context r.0 in
      let s = two_sizes left.size right.size (rest_sized (typing_of_node (Node-F.Binary o l r) span on_top context).ty (plus_size left.size right.size) h) in
      let n = named_parts P left.reached right.reached k in
      join Q (l.1 bound) (r.1 bound) (alone_sized bound context l u s.0 n.0) (alone_sized bound context r u s.1 n.1)

  -- ---- types

  abbrev typing_of_type : TypeNodeLevel Parts → Span → TypeExprTyping
  typing_of_type x = (expr_typing.type_node (map_type_node Parts typing (firsts typing mentions (claimed (sized P U))) x)).1

  type_sized : (x : TypeNodeLevel Parts) (span : Span) → TypeSized P U (typing_of_type x span) (mention_steps.type_node (map_type_node Parts mentions (seconds typing mentions (claimed (sized P U))) x))
  type_sized (TypeNode-F.Bits signed width) span = record { sized = λ context h. (typed_size (typing_of_type (TypeNode-F.Bits signed width) span context).ty (Some 0) h).0; typed = λ bound context u h k. tt; no_local = λ bound context h. tt }
  type_sized (TypeNode-F.Wide signed e) span = record {
    sized = λ context h. (typed_size (typing_of_type (TypeNode-F.Wide signed e) span context).ty (Some 0) h).0;
    typed = λ bound context u h k.
        let n = count_of context e.0 in
        count_known bound context e u (first_there n.count (λ w. Some (ty.Bits signed w)) (typed_inside n.judgement.faults (and_then n.count (λ w. Some (ty.Bits signed w))) h).1) k;
    no_local = λ bound context h.
        let n = count_of context e.0 in
        count_unlocal bound context e (first_there n.count (λ w. Some (ty.Bits signed w)) (typed_inside n.judgement.faults (and_then n.count (λ w. Some (ty.Bits signed w))) h).1);
  }
  type_sized TypeNode-F.TypeNode::Bool span = record { sized = λ context h. (typed_size (typing_of_type TypeNode-F.TypeNode::Bool span context).ty (Some 0) h).0; typed = λ bound context u h k. tt; no_local = λ bound context h. tt }
  type_sized (TypeNode-F.TypeNode::Name name) span = record { sized = λ context h. by_use context (is_of_use AsType (item_named name context.known.whole.items)) h; typed = λ bound context u h k. (refl, tt); no_local = λ bound context h. (refl, tt) }
    where
      by_use : (context : TypeEnv) (b : Bool) → is_there (named_type span context name b).size ≡ true → is_there (named_type span context name b).ty ≡ true
      by_use context true h = (typed_size (named_type span context name true).ty (Some 0) h).0
      by_use context false h = (typed_size (named_type span context name false).ty (Some 0) h).0
  type_sized (TypeNode-F.TypeNode::Tuple ts) span = record {
    sized = λ context h. (typed_size (typing_of_type (TypeNode-F.TypeNode::Tuple ts) span context).ty (Some 0) h).0;
    typed = λ bound context u h k.
        let js = inner_types context (map (λ (p : TypePart). p.0) ts) in
        let whole = and_then (all_some (types_of js)) (λ ts. Some (ty.Tuple ts)) in
        types_typed bound context ts u (first_there (all_some (types_of js)) (λ ts. Some (ty.Tuple ts)) (typed_inside (faults_of_all js) whole h).1) k;
    no_local = λ bound context h.
        let js = inner_types context (map (λ (p : TypePart). p.0) ts) in
        let whole = and_then (all_some (types_of js)) (λ ts. Some (ty.Tuple ts)) in
        types_unlocal bound context ts (first_there (all_some (types_of js)) (λ ts. Some (ty.Tuple ts)) (typed_inside (faults_of_all js) whole h).1);
  }
  type_sized (TypeNode-F.TypeNode::Array t e) span = record {
    sized = λ context h. (typed_size (typing_of_type (TypeNode-F.TypeNode::Array t e) span context).ty (Some 0) h).0;
    typed = λ bound context u h k.
        let inner = inner_type context t.0 in
        let count = count_of context e.0 in
        let r = two_there inner.ty count.count (λ t n. Some (ty.Array t n)) (typed_inside (inner.faults ++ count.judgement.faults) (with_both inner.ty count.count (λ t n. Some (ty.Array t n))) h).1 in
        let n = named_parts P inner.reached count.judgement.reached k in
        join Q (t.1 bound) (e.1 bound) (t.2.2.typed bound context u r.0 n.0) (count_known bound context e u r.1 n.1);
    no_local = λ bound context h.
        let inner = inner_type context t.0 in
        let count = count_of context e.0 in
        let r = two_there inner.ty count.count (λ t n. Some (ty.Array t n)) (typed_inside (inner.faults ++ count.judgement.faults) (with_both inner.ty count.count (λ t n. Some (ty.Array t n))) h).1 in
        join (unlocal context) (t.1 bound) (e.1 bound) (t.2.2.no_local bound context r.0) (count_unlocal bound context e r.1);
  }

  -- ---- patterns

  parts_known : (ps : List PatternPart) (bound : List (List ℕ)) (may_fail : Bool) (context : TypeEnv) (ts : Option (List DslxType)) (names : List (List ℕ)) (locals : List Typed)
      → LeavesUnknown U bound context → (parts_typing may_fail context (map (λ (p : PatternPart). p.0) ps) ts names locals).is_known ≡ true → AllNamed P (parts_typing may_fail context (map (λ (p : PatternPart). p.0) ps) ts names locals).reached
      → AllUsed Q (binders_mentions (map (λ (p : PatternPart). p.1) ps) bound)
  parts_known [] bound may_fail context ts names locals u h k = tt
  parts_known (p ∷ ps) bound may_fail context ts names locals u h k =
      let first = p.0.1 may_fail context (first_part_type ts) names locals in
      let rest = parts_typing may_fail context (map (λ (q : PatternPart). q.0) ps) (other_part_types ts) first.names first.locals in
      let r = both_tests first.is_known rest.is_known h in
      let n = named_parts P first.reached rest.reached k in
      join Q (p.1.mentions bound) (binders_mentions (map (λ (q : PatternPart). q.1) ps) bound) (p.2.2.known bound may_fail context (first_part_type ts) names locals u r.0 n.0)
      (parts_known ps bound may_fail context (other_part_types ts) first.names first.locals u r.1 n.1)

  parts_sure : (ps : List PatternPart) (bound : List (List ℕ)) (context : TypeEnv) (ts : Option (List DslxType)) (names : List (List ℕ)) (locals : List Typed)
      → has_broken (parts_typing false context (map (λ (p : PatternPart). p.0) ps) ts names locals).faults ≡ false → AllUsed Q (binders_mentions (map (λ (p : PatternPart). p.1) ps) bound)
  parts_sure [] bound context ts names locals h = tt
  parts_sure (p ∷ ps) bound context ts names locals h =
      let first = p.0.1 false context (first_part_type ts) names locals in
      let r = unbroken_parts first.faults _ h in
      join Q (p.1.mentions bound) (binders_mentions (map (λ (q : PatternPart). q.1) ps) bound) (p.2.2.sure bound context (first_part_type ts) names locals r.0) (parts_sure ps bound context (other_part_types ts) first.names first.locals r.1)

  parts_unlocal : (ps : List PatternPart) (bound : List (List ℕ)) (may_fail : Bool) (context : TypeEnv) (ts : Option (List DslxType)) (names : List (List ℕ)) (locals : List Typed)
      → (parts_typing may_fail context (map (λ (p : PatternPart). p.0) ps) ts names locals).is_known ≡ true → AllUsed (unlocal context) (binders_mentions (map (λ (p : PatternPart). p.1) ps) bound)
  parts_unlocal [] bound may_fail context ts names locals h = tt
  parts_unlocal (p ∷ ps) bound may_fail context ts names locals h =
      let first = p.0.1 may_fail context (first_part_type ts) names locals in
      let rest = parts_typing may_fail context (map (λ (q : PatternPart). q.0) ps) (other_part_types ts) first.names first.locals in
      let r = both_tests first.is_known rest.is_known h in
      join (unlocal context) (p.1.mentions bound) (binders_mentions (map (λ (q : PatternPart). q.1) ps) bound) (p.2.2.no_local bound may_fail context (first_part_type ts) names locals r.0)
      (parts_unlocal ps bound may_fail context (other_part_types ts) first.names first.locals r.1)

  shape_sized : (x : ShapeLevel Parts) (span : Span) → PatternSized P U ((expr_typing.shape (map_shape Parts typing (firsts typing mentions (claimed (sized P U))) x)).1 span)
      (mention_steps.shape (map_shape Parts mentions (seconds typing mentions (claimed (sized P U))) x))
  shape_sized Shape-F.Wild span = record { known = λ bound may_fail context t names locals u h k. tt; sure = λ bound context t names locals h. tt; no_local = λ bound may_fail context t names locals h. tt }
  shape_sized (Shape-F.Shape::Bool bit) span = record { known = λ bound may_fail context t names locals u h k. tt; sure = λ bound context t names locals h. tt; no_local = λ bound may_fail context t names locals h. tt }
  shape_sized (Shape-F.Shape::Number n) span = record {
    known = λ bound may_fail context t names locals u h k. (n.2.2 span).typed bound context u h k;
    no_local = λ bound may_fail context t names locals h. (n.2.2 span).no_local bound context h;
    sure = λ bound context t names locals h.
        let own = n.0.1 span context in
        may_fail_here own.faults (shape_faults span t own.ty) span h;
  }
  shape_sized (Shape-F.Shape::Name name) span = record { known = λ bound may_fail context t names locals u h k. (refl, tt); sure = λ bound context t names locals h. (refl, tt); no_local = λ bound may_fail context t names locals h. (refl, tt) }
  shape_sized (Shape-F.Shape::Member e a) span = record { known = λ bound may_fail context t names locals u h k. (refl, tt); sure = λ bound context t names locals h. (refl, tt); no_local = λ bound may_fail context t names locals h. (refl, tt) }
  shape_sized (Shape-F.Shape::Tuple ps) span = record {
    known = λ bound may_fail context t names locals u h k. parts_known ps bound may_fail context (part_types (length (map (λ (p : PatternPart). p.0) ps)) t) names locals u h k;
    no_local = λ bound may_fail context t names locals h. parts_unlocal ps bound may_fail context (part_types (length (map (λ (p : PatternPart). p.0) ps)) t) names locals h;
    sure = λ bound context t names locals h.
        let pairs = map (λ (p : PatternPart). p.0) ps in
        let types = part_types (length pairs) t in
        parts_sure ps bound context types names locals (unbroken_parts (tuple_faults span t types) (parts_typing false context pairs types names locals).faults h).1;
  }

  -- ---- arms

  alternatives_known : (ps : List PatternPart) (bound : List (List ℕ)) (context : TypeEnv) (t : Option DslxType) → LeavesUnknown U bound context → (alternatives_seen context t (map (λ (p : PatternPart). p.0) ps)).is_known ≡ true
      → AllNamed P (alternatives_seen context t (map (λ (p : PatternPart). p.0) ps)).reached → AllUsed Q (binders_mentions (map (λ (p : PatternPart). p.1) ps) bound)
  alternatives_known [] bound context t u h k = tt
  alternatives_known (p ∷ ps) bound context t u h k =
      let rest = alternatives_seen context t (map (λ (q : PatternPart). q.0) ps) in
      let first = one_alternative context t p.0 rest in
      let r = both_tests first.is_known rest.is_known h in
      let n = named_parts P first.reached rest.reached k in
      join Q (p.1.mentions bound) (binders_mentions (map (λ (q : PatternPart). q.1) ps) bound) (p.2.2.known bound true context t [] rest.locals u r.0 n.0) (alternatives_known ps bound context t u r.1 n.1)

  -- what it binds: none but its names
  binds : (p : PatternPart) → PatternJudged (λ use_as name. true) p.0.1 p.1
  binds p =
      subst (λ (n : NamesBound). PatternJudged (λ use_as name. true) p.0.1 n) p.2.1
      (subst (λ (z : Pattern × PatternTyping). PatternJudged (λ use_as name. true) z.1 (fold_pattern mentions mention_steps p.0.0)) p.2.0 (pattern_judged (λ use_as name. true) p.0.0))

  abbrev alternatives_of : TypeEnv → Option DslxType → List PatternPart → List Typed
  alternatives_of context t ps = (alternatives_seen context t (map (λ (p : PatternPart). p.0) ps)).locals

  -- where none of them binds
  none_bound : (ps : List PatternPart) (context : TypeEnv) (t : Option DslxType) → (alternatives_seen context t (map (λ (p : PatternPart). p.0) ps)).binds ≡ false → alternatives_of context t ps ≡ context.locals
  none_bound [] context t h = refl
  none_bound (p ∷ ps) context t h =
      let rest = alternatives_seen context t (map (λ (q : PatternPart). q.0) ps) in
      let first = one_alternative context t p.0 rest in
      let r = or_false (not (is_empty first.names)) rest.binds h in
      ((binds p).none true context t [] rest.locals (no_names first.names (not_true (is_empty first.names) r.0))).1 ∙ none_bound ps context t r.1

  arm_locals : (ps : List PatternPart) (context : TypeEnv) (t : Option DslxType) → (has_several (map (λ (p : PatternPart). p.0) ps) && (alternatives_seen context t (map (λ (p : PatternPart). p.0) ps)).binds) ≡ false
      → (name : List ℕ) → is_in name (bound_behind (map (λ (p : PatternPart). p.1) ps)) ≡ false → typed_in name context.locals ≡ None → typed_in name (alternatives_of context t ps) ≡ None
  arm_locals [] context t h name q e = e
  arm_locals (p ∷ []) context t h name q e = (binds p).names true context t [] context.locals name q e
  arm_locals (p ∷ o ∷ ps) context t h name q e = ap (typed_in name) (none_bound (p ∷ o ∷ ps) context t h) ∙ e

  arm_sized : (x : ArmLevel Parts) → ArmSized P U (expr_typing.arm (map_arm Parts typing (firsts typing mentions (claimed (sized P U))) x)).1 (mention_steps.arm (map_arm Parts mentions (seconds typing mentions (claimed (sized P U))) x))
  arm_sized x bound context t u b a h k =
      let names = bound_behind (map (λ (p : PatternPart). p.1) x.patterns) in
      let seen = alternatives_seen context t (map (λ (p : PatternPart). p.0) x.patterns) in
      let n = named_parts P seen.reached (alone (with_typed context seen.locals) x.value.0).reached k in
      join Q (binders_mentions (map (λ (p : PatternPart). p.1) x.patterns) bound) (x.value.1 (names ++ bound)) (alternatives_known x.patterns bound context t u a n.0)
      (alone_sized (names ++ bound) (with_typed context seen.locals) x.value (unknown_behind U names bound context seen.locals context.used u (arm_locals x.patterns context t b)) h n.1)

  -- ---- statements and blocks

  bind_sized : (x : LetLevel Parts) → StatementSized P U (expr_typing.bind (map_bind Parts typing (firsts typing mentions (claimed (sized P U))) x)).1 (mention_steps.bind (map_bind Parts mentions (seconds typing mentions (claimed (sized P U))) x))
  bind_sized x = by_type x.ty
    where
      by_type : (o : Option TypePart)
          → StatementSized P U (expr_typing.bind (map_bind Parts typing (firsts typing mentions (claimed (sized P U))) (record { span = x.span; pattern = x.pattern; ty = o; value = x.value }))).1
          (mention_steps.bind (map_bind Parts mentions (seconds typing mentions (claimed (sized P U))) (record { span = x.span; pattern = x.pattern; ty = o; value = x.value })))
      by_type None = record {
        sized = λ bound on_top context u h f k.
            let value = x.value.0.1 on_top context in
            let seen = pattern_alone false context value.ty x.pattern.0 in
            let s = three_sizes (Some 0) value.size (Some seen.size) h in
            let r = three_unbroken value.faults [] seen.faults f in
            let n = three_named P value.reached [] seen.reached k in
            join_three Q [] (x.value.1 bound) (x.pattern.1.mentions bound) tt (x.value.2.2 bound on_top context u s.1 n.0) (x.pattern.2.2.sure bound context value.ty [] context.locals r.2);
        behind = λ bound on_top context u.
            unknown_behind U x.pattern.1.names bound context (pattern_alone false context (x.value.0.1 on_top context).ty x.pattern.0).locals _ u (λ name q h. (binds x.pattern).names false context (x.value.0.1 on_top context).ty [] context.locals name q h);
      }
      by_type (Some t) = record {
        sized = λ bound on_top context u h f k.
            let value = x.value.0.1 on_top context in
            let written = t.0.1 context in
            let wanted = bound_type (Some written) value.ty in
            let seen = pattern_alone false context wanted x.pattern.0 in
            let s = three_sizes written.size value.size (Some seen.size) h in
            let r = three_unbroken value.faults (written.faults ++ wanted_faults (span_of x.value.0) written.ty value.ty) seen.faults f in
            let n = three_named P value.reached written.reached seen.reached k in
            join_three Q (t.1 bound) (x.value.1 bound) (x.pattern.1.mentions bound) (t.2.2.typed bound context u (t.2.2.sized context s.0) n.1) (x.value.2.2 bound on_top context u s.1 n.0)
            (x.pattern.2.2.sure bound context wanted [] context.locals r.2);
        behind = λ bound on_top context u.
            let wanted = bound_type (Some (t.0.1 context)) (x.value.0.1 on_top context).ty in
            unknown_behind U x.pattern.1.names bound context (pattern_alone false context wanted x.pattern.0).locals _ u (λ name q h. (binds x.pattern).names false context wanted [] context.locals name q h);
      }

  stmt_sized : (x : StmtLevel Parts) → StatementSized P U (expr_typing.stmt (map_stmt Parts typing (firsts typing mentions (claimed (sized P U))) x)).1 (mention_steps.stmt (map_stmt Parts mentions (seconds typing mentions (claimed (sized P U))) x))
  stmt_sized (Stmt-F.Let l) = record { sized = l.2.2.sized; behind = l.2.2.behind }
  stmt_sized (Stmt-F.Bare e) = record {
    sized = λ bound on_top context u h f k. by_test (on_top && is_effect e.0.0) (e.0.1 on_top context) (e.1 bound) (e.2.2 bound on_top context u) h k;
    behind = λ bound on_top context u. unknown_behind U [] bound context context.locals _ u (λ name q h. h);
  }
    where
      by_test : (b : Bool) (j : Judgement) (ms : List Mention) → HasCalls P U j ms → HasCalls P U (if b then j else no_token (span_of e.0) j) ms
      by_test true j ms c h k = c h k
      by_test false j ms c h k = unmarked_sized P U ms (span_of e.0) j c h k

  abbrev typings_of : List StmtPart → List StatementTyping
  typings_of ss = map (λ (s : Stmt × StatementTyping). s.1) (map (λ (s : StmtPart). s.0) ss)

  -- all statements, and the last expression behind them
  statements_sized : (value : Option ExprPair) (ms : Mentions) → ((bound : List (List ℕ)) (context : TypeEnv) → LeavesUnknown U bound context → HasCalls P U (last_typing context value) (ms bound))
      → (ss : List StmtPart) (bound : List (List ℕ)) (on_top : Bool) (context : TypeEnv) → LeavesUnknown U bound context → is_there (statements_typing (typings_of ss) on_top context).size ≡ true → has_broken (statements_typing (typings_of ss) on_top context).faults ≡ false
      → AllNamed P (statements_typing (typings_of ss) on_top context).reached → HasCalls P U (last_typing (statements_typing (typings_of ss) on_top context).context value) (statements_mentions (map (λ (s : StmtPart). s.1) ss) ms bound)
  statements_sized value ms end [] bound on_top context u h f k g l = end bound context u g l
  statements_sized value ms end (x ∷ ss) bound on_top context u h f k g l =
      let first = x.0.1 on_top context in
      let rest = statements_typing (typings_of ss) on_top first.context in
      let s = two_sizes first.size rest.size h in
      let r = unbroken_parts first.faults rest.faults f in
      let n = named_parts P first.reached rest.reached k in
      join Q (x.1.mentions bound) (statements_mentions (map (λ (q : StmtPart). q.1) ss) ms (x.1.names ++ bound)) (x.2.2.sized bound on_top context u s.0 r.0 n.0)
      (statements_sized value ms end ss (x.1.names ++ bound) on_top first.context (x.2.2.behind bound on_top context u) s.1 r.1 n.1 g l)

  block_sized : (x : BlockLevel Parts) → Sized P U (expr_typing.block (map_block Parts typing (firsts typing mentions (claimed (sized P U))) x)).1 (mention_steps.block (map_block Parts mentions (seconds typing mentions (claimed (sized P U))) x))
  block_sized x = by_value x.value
    where
      whole : (value : Option ExprPair) (ms : Mentions) → ((bound : List (List ℕ)) (context : TypeEnv) → LeavesUnknown U bound context → HasCalls P U (last_typing context value) (ms bound)) → (bound : List (List ℕ)) (on_top : Bool) (context : TypeEnv) → LeavesUnknown U bound context
          → let walked = statements_typing (typings_of x.statements) on_top context in
          has_broken (walked.faults ++ (last_typing walked.context value).faults) ≡ false → is_there (plus_size walked.size (last_typing walked.context value).size) ≡ true
          → AllNamed P (walked.reached ++ (last_typing walked.context value).reached) → AllUsed Q (statements_mentions (map (λ (s : StmtPart). s.1) x.statements) ms bound)
      whole value ms end bound on_top context u f h k =
          let walked = statements_typing (typings_of x.statements) on_top context in
          let last = last_typing walked.context value in
          let s = two_sizes walked.size last.size h in
          let n = named_parts P walked.reached last.reached k in
          statements_sized value ms end x.statements bound on_top context u s.0 (unbroken_parts walked.faults last.faults f).0 n.0 s.1 n.1

      by_value : (o : Option ExprPart)
          → Sized P U (expr_typing.block (map_block Parts typing (firsts typing mentions (claimed (sized P U))) (record { span = x.span; statements = x.statements; value = o }))).1
          (mention_steps.block (map_block Parts mentions (seconds typing mentions (claimed (sized P U))) (record { span = x.span; statements = x.statements; value = o })))
      by_value None = λ bound on_top context u h k.
          let walked = statements_typing (typings_of x.statements) on_top context in
          let last = last_typing walked.context None in
          let r = sized_inside (walked.faults ++ last.faults) last.ty (one_and (plus_size walked.size last.size)) h in
          whole None (mentions_if None) (λ bound context u h k. tt) bound on_top context u r.0 (one_less (plus_size walked.size last.size) r.2) k
      by_value (Some e) = λ bound on_top context u h k.
          let walked = statements_typing (typings_of x.statements) on_top context in
          let last = last_typing walked.context (Some e.0) in
          let r = sized_inside (walked.faults ++ last.faults) last.ty (one_and (plus_size walked.size last.size)) h in
          whole (Some e.0) (mentions_if (Some e.1)) (λ bound context u h k. alone_sized bound context e u h k) bound on_top context u r.0 (one_less (plus_size walked.size last.size) r.2) k

  -- ---- loops, numbers and fields

  loop_sized : (x : ForLevel Parts) (span : Span) → LoopSized P U ((expr_typing.loop (map_loop Parts typing (firsts typing mentions (claimed (sized P U))) x)).1 span) (mention_steps.loop (map_loop Parts mentions (seconds typing mentions (claimed (sized P U))) x))
  loop_sized x span = by_type x.ty
    where
      index_at : TypeEnv → List Typed
      index_at context = (pattern_alone false context (same_ends (constant_of context x.from.0).judgement.ty (constant_of context x.to.0).judgement.ty) x.index.0).locals

      -- the loop by its annotation
      seen_at : TypeEnv → Option Judgement → LoopSeen
      seen_at context written =
          let from = constant_of context x.from.0 in
          let to = constant_of context x.to.0 in
          let start = alone context x.start.0 in
          let index = pattern_alone false context (same_ends from.judgement.ty to.judgement.ty) x.index.0 in
          let acc = pattern_alone false (with_typed context index.locals) start.ty x.accumulator.0 in
          record {
            from = from;
            to = to;
            written = written;
            start = start;
            index = index;
            acc = acc;
            body = block_alone (with_typed context acc.locals) x.body.0;
          }

      whole : (bound : List (List ℕ)) (context : TypeEnv) (written : Option Judgement) (typed : List Mention)
          → LeavesUnknown U bound context → (is_there (annotated_type written (alone context x.start.0).ty) ≡ true → AllNamed P (annotation_reached written) → AllUsed Q typed)
          → HasCalls P U (loop_with span (span_of_block x.body.0) (seen_at context written))
          ((((((x.from.1 bound ++ x.to.1 bound) ++ x.start.1 bound) ++ typed) ++ x.index.1.mentions bound) ++ x.accumulator.1.mentions bound) ++ x.body.1 ((x.accumulator.1.names ++ x.index.1.names) ++ bound))
      whole bound context written typed u annotated h k =
          let l = seen_at context written in
          let s = sized_inside (loop_parts_faults l ++ loop_faults span (span_of_block x.body.0) l) (loop_type l) (loop_size l) h in
          let sizes = two_sizes (plus_size l.from.judgement.size l.to.judgement.size) (plus_size l.start.size (turns_size l)) (one_less (plus_size (plus_size l.from.judgement.size l.to.judgement.size) (plus_size l.start.size (turns_size l))) s.2) in
          let ends = two_sizes l.from.judgement.size l.to.judgement.size sizes.0 in
          let inner = two_sizes l.start.size (turns_size l) sizes.1 in
          let body_size = (two_sizes (Some (1 + l.index.size + l.acc.size)) l.body.size (two_factors (turns_of l.from.value l.to.value) (plus_size (Some (1 + l.index.size + l.acc.size)) l.body.size) inner.1).1).1 in
          let annotation = and_then (annotated_type l.written l.start.ty) (λ u. l.start.ty) in
          let types = first_there (annotated_type l.written l.start.ty) (λ u. l.start.ty) (second_there l.body.ty annotation (second_there (index_type l) (and_then l.body.ty (λ t. annotation)) s.1)) in
          let three = (l.from.judgement.reached ++ l.to.judgement.reached) ++ l.start.reached in
          let four = three ++ annotation_reached written in
          let a = named_parts P ((four ++ l.index.reached) ++ l.acc.reached) l.body.reached k in
          let b = named_parts P (four ++ l.index.reached) l.acc.reached a.0 in
          let c = named_parts P four l.index.reached b.0 in
          let e = named_parts P three (annotation_reached written) c.0 in
          let g = three_named P l.from.judgement.reached l.to.judgement.reached l.start.reached e.0 in
          let parts = front (loop_parts_faults l) (loop_faults span (span_of_block x.body.0) l) s.0 in
          let five = (((l.from.judgement.faults ++ l.to.judgement.faults) ++ l.start.faults) ++ l.index.faults) ++ l.acc.faults in
          let f = unbroken_parts (((l.from.judgement.faults ++ l.to.judgement.faults) ++ l.start.faults) ++ l.index.faults) l.acc.faults (front five l.body.faults parts) in
          let o = unbroken_parts ((l.from.judgement.faults ++ l.to.judgement.faults) ++ l.start.faults) l.index.faults f.0 in
          let names = x.accumulator.1.names ++ x.index.1.names in
          let inner_context = with_typed context (index_at context) in
          let behind = unknown_behind U names bound context l.acc.locals context.used u (λ name q g.
          let r = in_neither name x.accumulator.1.names x.index.1.names q in
          (binds x.accumulator).names false inner_context l.start.ty [] (index_at context) name r.0 ((binds x.index).names false context (same_ends l.from.judgement.ty l.to.judgement.ty) [] context.locals name r.1 g)) in
          let one = join_three Q (x.from.1 bound) (x.to.1 bound) (x.start.1 bound) (constant_sized bound context x.from u ends.0 g.0) (constant_sized bound context x.to u ends.1 g.1) (alone_sized bound context x.start u inner.0 g.2) in
          let two = join Q ((x.from.1 bound ++ x.to.1 bound) ++ x.start.1 bound) typed one (annotated types e.1) in
          let upto = join Q (((x.from.1 bound ++ x.to.1 bound) ++ x.start.1 bound) ++ typed) (x.index.1.mentions bound) two (x.index.2.2.sure bound context (index_type l) [] context.locals o.1) in
          join_three Q ((((x.from.1 bound ++ x.to.1 bound) ++ x.start.1 bound) ++ typed) ++ x.index.1.mentions bound) (x.accumulator.1.mentions bound) (x.body.1 (names ++ bound)) upto
          (x.accumulator.2.2.sure bound (with_typed context (index_at context)) l.start.ty [] (index_at context) f.1) (x.body.2.2 (names ++ bound) false (with_typed context l.acc.locals) behind body_size a.1)

      by_type : (o : Option TypePart)
          → LoopSized P U ((expr_typing.loop (map_loop Parts typing (firsts typing mentions (claimed (sized P U))) (record { index = x.index; accumulator = x.accumulator; ty = o; from = x.from; to = x.to; body = x.body; start = x.start }))).1 span)
          (mention_steps.loop (map_loop Parts mentions (seconds typing mentions (claimed (sized P U))) (record { index = x.index; accumulator = x.accumulator; ty = o; from = x.from; to = x.to; body = x.body; start = x.start })))
      by_type None = λ bound context u h k. whole bound context None [] u (λ h k. tt) h k
      by_type (Some t) = λ bound context u h k. whole bound context (Some (t.0.1 context)) (t.1 bound) u (λ h k. t.2.2.typed bound context u h k) h k

  number_sized : (x : NumberLevel Parts) (span : Span) → TypeSized P U ((expr_typing.number (map_number Parts typing (firsts typing mentions (claimed (sized P U))) x)).1 span) (mention_steps.number (map_number Parts mentions (seconds typing mentions (claimed (sized P U))) x))
  number_sized x span = by_type x.ty
    where
      number : UntypedLiteral
      number = record { is_negative = x.is_negative; value = x.value }

      by_type : (o : Option TypePart)
          → TypeSized P U ((expr_typing.number (map_number Parts typing (firsts typing mentions (claimed (sized P U))) (record { ty = o; is_negative = x.is_negative; value = x.value }))).1 span)
          (mention_steps.number (map_number Parts mentions (seconds typing mentions (claimed (sized P U))) (record { ty = o; is_negative = x.is_negative; value = x.value })))
      by_type None = record { sized = λ context h. nothing_there h; typed = λ bound context u h k. tt; no_local = λ bound context h. tt }
      by_type (Some t) = record {
        sized = λ context h.
            (typed_size (number_typing span (Some (t.0.1 context)) number).ty (Some 1) h).0;
        typed = λ bound context u h k.
            t.2.2.typed bound context u (typed_inside ((t.0.1 context).faults ++ range_faults span (t.0.1 context).ty number) (t.0.1 context).ty h).1 k;
        no_local = λ bound context h.
            t.2.2.no_local bound context (typed_inside ((t.0.1 context).faults ++ range_faults span (t.0.1 context).ty number) (t.0.1 context).ty h).1;
      }

  field_sized : (x : FieldValueLevel Parts) → FieldSized P U (expr_typing.field (map_field Parts typing (firsts typing mentions (claimed (sized P U))) x)).1 (mention_steps.field (map_field Parts mentions (seconds typing mentions (claimed (sized P U))) x))
  field_sized x = by_value x.value
    where
      by_value : (o : Option ExprPart)
          → FieldSized P U (expr_typing.field (map_field Parts typing (firsts typing mentions (claimed (sized P U))) (record { name = x.name; value = o }))).1
          (mention_steps.field (map_field Parts mentions (seconds typing mentions (claimed (sized P U))) (record { name = x.name; value = o })))
      by_value None = λ bound context struct u h k. value_named P U bound x.name.span context x.name.name u (unmarked_size x.name.span (name_typing x.name.span context x.name.name) h)
      by_value (Some e) = λ bound context struct u h k. alone_sized bound context e u h k

  -- ---- the whole

  all_sized : KeepRelated typing mentions (claimed (sized P U)) expr_typing mention_steps
  all_sized = record {
    stmt = λ x. (seen_stmt (sized P U) x, mentioned_stmt (sized P U) x, stmt_sized x);
    node = λ x. (seen_node (sized P U) x, mentioned_node (sized P U) x, node_sized x);
    shape = λ x. (seen_shape (sized P U) x, mentioned_shape (sized P U) x, shape_sized x);
    type_node = λ x. (seen_type_node (sized P U) x, mentioned_type_node (sized P U) x, type_sized x);
    block = λ x. (seen_block (sized P U) x, mentioned_block (sized P U) x, block_sized x);
    bind = λ x. (seen_bind (sized P U) x, mentioned_bind (sized P U) x, bind_sized x);
    arg = λ x. (seen_arg (sized P U) x, mentioned_arg (sized P U) x, (x.value.2.2, λ number q bound. number_alone bound x.value number q));
    arm = λ x. (seen_arm (sized P U) x, mentioned_arm (sized P U) x, arm_sized x);
    expr = λ x. (seen_expr (sized P U) x, mentioned_expr (sized P U) x, x.node.2.2 x.span);
    field = λ x. (seen_field (sized P U) x, mentioned_field (sized P U) x, field_sized x);
    loop = λ x. (seen_loop (sized P U) x, mentioned_loop (sized P U) x, loop_sized x);
    number = λ x. (seen_number (sized P U) x, mentioned_number (sized P U) x, number_sized x);
    pattern = λ x. (seen_pattern (sized P U) x, mentioned_pattern (sized P U) x, x.shape.2.2 x.span);
    type_expr = λ x. (seen_type_expr (sized P U) x, mentioned_type_expr (sized P U) x, x.node.2.2 x.span);
  }

-- an expression, a block, a type and a pattern
pub expression_sized : (P U : List ℕ → Bool) (e : Expr) → Sized P U (expr_pair e).1 (mentioned e)
expression_sized P U e = (related_expr typing mentions (claimed (sized P U)) expr_typing mention_steps (all_sized P U) e).2

pub block_of_text_sized : (P U : List ℕ → Bool) (b : Block) → Sized P U (block_pair b).1 (mentioned_in_block b)
block_of_text_sized P U b = (related_block typing mentions (claimed (sized P U)) expr_typing mention_steps (all_sized P U) b).2

pub written_type_sized : (P U : List ℕ → Bool) (t : TypeExpr) → TypeSized P U (type_pair t).1 (mentioned_in_type t)
written_type_sized P U t = (related_type_expr typing mentions (claimed (sized P U)) expr_typing mention_steps (all_sized P U) t).2

pub pattern_sized : (P U : List ℕ → Bool) (p : Pattern) → PatternSized P U (fold_pattern typing expr_typing p).1 (fold_pattern mentions mention_steps p)
pattern_sized P U p = (related_pattern typing mentions (claimed (sized P U)) expr_typing mention_steps (all_sized P U) p).2

-- an argument, which may be a number without a type
pub argument_sized : (P U : List ℕ → Bool) (a : Arg) → Sized P U (arg_pair a).1.1 (mentioned_in_arg a) × ((number : UntypedLiteral) → untyped_of (arg_pair a).1 ≡ Some number → (bound : List (List ℕ)) → AllUsed (named P U) (mentioned_in_arg a bound))
argument_sized P U a = (related_arg typing mentions (claimed (sized P U)) expr_typing mention_steps (all_sized P U) a).2
