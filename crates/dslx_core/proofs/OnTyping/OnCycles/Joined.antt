-- The induction on all sorts of parts of a tree: rule 3 is judged at each mention.
use Rattle.std.proofs.Common.{◌≡◌, ◌&&◌, ◌||◌, ◌++◌, ℕ, Bool, true, false, not, if◌then◌else◌, List, [], ◌∷◌, map, length, Option, Some, None, refl, sym, ap, subst, ◌∙◌}
use mathlib.Core.Bool.{true≢false}
use Rattle.std.specs.Str.{bytes_eq}
use Rattle.xb_span.specs.declared.span.Span.{Span}
use Rattle.xb_span.specs.declared.fault.Fault.{Fault}
use Rattle.dslx_tree.specs.declared.block.Block.{Block}
use Rattle.dslx_tree.specs.declared.block.Stmt.{Stmt}
use Rattle.dslx_tree.specs.declared.block.Stmt.TheOpen.{Stmt-F, Node-F, Shape-F, TypeNode-F}
use Rattle.dslx_tree.specs.declared.expr.Arg.{Arg}
use Rattle.dslx_tree.specs.declared.expr.Expr.{Expr}
use Rattle.dslx_tree.specs.declared.ident.Ident.{Ident}
use Rattle.dslx_tree.specs.declared.item.Struct.{Struct}
use Rattle.dslx_tree.specs.declared.type_expr.TypeExpr.{TypeExpr}
use Rattle.dslx_tree.specs.declared.pattern.Pattern.{Pattern}
use Rattle.dslx_tree.proofs.Lemmas.Folds.Folds.{fold_pattern}
use Rattle.dslx_tree.proofs.Lemmas.Folds.Levels.{Carriers, StmtLevel, NodeLevel, ShapeLevel, TypeNodeLevel, BlockLevel, LetLevel, ArmLevel, FieldValueLevel, ForLevel, NumberLevel, map_stmt, map_node, map_shape, map_type_node, map_block, map_bind, map_arm, map_field, map_loop, map_number}
use Rattle.dslx_tree.proofs.Lemmas.Folds.Related.{both, firsts, seconds, KeepRelated, related_expr, related_block, related_pattern, related_type_expr}
use Rattle.dslx_meaning.specs.Callees.{kind_of_call}
use Rattle.dslx_meaning.specs.Items.{as_struct, item_named}
use Rattle.dslx_meaning.specs.Lists.{all_some, and_then, is_in}
use Rattle.dslx_meaning.specs.declared.ty.DslxType.{DslxType}
use Rattle.dslx_meaning.specs.declared.value.UntypedLiteral.{UntypedLiteral}
use Rattle.dslx_meaning.specs.Items.{name_of_field}
use Rattle.dslx_meaning.specs.Types.{same_type}
use Rattle.dslx_meaning.specs.Rules.OperatorRules.{binary_faults, is_bits, is_bits_or_enum, is_bool, one_bit_type, slice_faults, unless_type, unless_types}
use Rattle.dslx_meaning.specs.Rules.AggregateRules.{array_faults, field_type, first_type_of, has_twice, is_array, lacks_one, like_first, pair_or_alone, part_type, unknown_fields, written_fields, array_in, element_alone, element_in, element_type, field_typing, others_typing, range_faults, struct_if, struct_typing, wanted_faults}
use Rattle.dslx_meaning.specs.Rules.ConstantRules.{is_unsigned, ConstantSeen, constant_of, constant_or_untyped, count_of, count_type_faults, is_empty, untyped_typing}
use Rattle.dslx_meaning.specs.Rules.ControlRules.{match_typing, arm_values, differ, loop_annotation, not_exhaustive, span_of_block, turn_limit, turns_of, alternatives_seen, arm_typing, arms_faults, block_alone, bound_type, has_several, last_typing, match_faults, same_ends, some_binds, statements_typing, one_alternative}
use Rattle.dslx_meaning.specs.Rules.NameRules.{member_typing, name_typing}
use Rattle.dslx_meaning.specs.Rules.PatternRules.{constant_pattern, is_there, shape_faults, tuple_faults, first_part_type, name_pattern, other_part_types, part_types, parts_typing, pattern_alone}
use Rattle.dslx_meaning.specs.Rules.TypeEnvs.{type_limits, types_of, ExprPair, ExprTyping, Judgement, TypeEnv, Typed, alone, breaks, breaks_if, faults_of_all, has_broken, no_token, span_of, typed_in, untyped_of, with_typed, within}
use Rattle.dslx_meaning.specs.Rules.TypeRules.{inner_type, inner_types}
use Rattle.dslx_meaning.specs.Rules.Typings.{PatternTyping, StatementTyping}
use Rattle.dslx_meaning.specs.Rules.Mentions.{Use, AsPattern, AsStruct, AsType, Mention, Mentions, NamesBound, all_mentions, binders_mentions, binders_names, bound_behind, is_of_use, mention, mentions_if, mentioned, mentioned_in_block, mentioned_in_type, statements_mentions}
use Rattle.dslx_meaning.specs.Rules.NodeRules.{block_pair, expr_pair, second_of, type_pair}
use Rattle.dslx_core.specs.Typing.TypingRelations.Cycles.{AllUsed, BindersPass}
use Rattle.dslx_core.proofs.OnTyping.OnDepends.Links.{Claims, claimed, typing, expr_typing, mentions, mention_steps, seen_stmt, seen_node, seen_shape, seen_type_node, seen_block, seen_bind, seen_arg, seen_arm, seen_expr, seen_field, seen_loop, seen_number, seen_pattern, seen_type_expr, mentioned_stmt, mentioned_node, mentioned_shape, mentioned_type_node, mentioned_block, mentioned_bind, mentioned_arg, mentioned_arm, mentioned_expr, mentioned_field, mentioned_loop, mentioned_number, mentioned_pattern, mentioned_type_expr}
use Rattle.dslx_core.proofs.OnTyping.OnCycles.Bare.{bare_mentions_nothing}
use Rattle.dslx_core.proofs.OnTyping.OnCycles.OfCalls.{EachJudged, call_passes}
use Rattle.dslx_core.proofs.OnTyping.OnCycles.Parts.{ArmJudged, Behind, FieldJudged, Judged, PatternJudged, StatementJudged, TypeJudged, behind_more, constant_inside, front, in_neither, join, join_three, member_passes, not_here, passes, taken_apart, type_passes, unmarked, value_passes}
use Rattle.dslx_core.proofs.OnTyping.OnTyped.TypingRelations.{or_false, rule_holds, three_unbroken, unbroken_parts}

abbrev pub judged : (Use → List ℕ → Bool) → Claims
judged Q = record {
  stmt = StatementJudged Q;
  node = λ j ms. (span : Span) → Judged Q (j span) ms;
  shape = λ p n. (span : Span) → PatternJudged Q (p span) n;
  type_node = λ j ms. (span : Span) → TypeJudged Q (j span) ms;
  block = Judged Q;
  bind = StatementJudged Q;
  arg = λ e ms. Judged Q e.1 ms;
  arm = ArmJudged Q;
  expr = Judged Q;
  field = FieldJudged Q;
  loop = λ j ms. (span : Span) → TypeJudged Q (j span) ms;
  number = λ j ms. (span : Span) → TypeJudged Q (j span) ms;
  pattern = PatternJudged Q;
  type_expr = TypeJudged Q;
}

-- no name is bound
pub no_names : (names : List (List ℕ)) → is_empty names ≡ true → names ≡ []
no_names [] e = refl
no_names (n ∷ ns) e = absurd (true≢false (sym e))

pub not_true : (b : Bool) → not b ≡ false → b ≡ true
not_true true e = refl
not_true false e = absurd (true≢false e)

-- the second of four tests
pub second_of_four : (a b c d : Bool) → (((a || b) || c) || d) ≡ false → b ≡ false
second_of_four a b c d h = (or_false a b (or_false (a || b) c (or_false ((a || b) || c) d h).0).0).1

module _ (Q : Use → List ℕ → Bool) where
  abbrev Parts : Carriers
  Parts = both typing mentions (claimed (judged Q))

  abbrev ExprPart : Type 0
  ExprPart = Parts.expr

  abbrev ArgPart : Type 0
  ArgPart = Parts.arg

  abbrev FieldPart : Type 0
  FieldPart = Parts.field

  abbrev ArmPart : Type 0
  ArmPart = Parts.arm

  abbrev PatternPart : Type 0
  PatternPart = Parts.pattern

  abbrev TypePart : Type 0
  TypePart = Parts.type_expr

  abbrev StmtPart : Type 0
  StmtPart = Parts.stmt

  abbrev typing_of_node : NodeLevel Parts → Span → ExprTyping
  typing_of_node x = (expr_typing.node (map_node Parts typing (firsts typing mentions (claimed (judged Q))) x)).1

  abbrev mentions_of_node : NodeLevel Parts → Mentions
  mentions_of_node x = mention_steps.node (map_node Parts mentions (seconds typing mentions (claimed (judged Q))) x)

  -- ---- expressions as what is around them sees them

  alone_judged : (bound : List (List ℕ)) (context : TypeEnv) (e : ExprPart) → Behind Q bound context → has_broken (alone context e.0).faults ≡ false → AllUsed Q (e.1 bound)
  alone_judged bound context e s h = e.2.2 bound context s (unmarked (span_of e.0) (within context e.0) h)

  constant_judged : (bound : List (List ℕ)) (context : TypeEnv) (e : ExprPart) → Behind Q bound context → has_broken (constant_of context e.0).judgement.faults ≡ false → AllUsed Q (e.1 bound)
  constant_judged bound context e s h = alone_judged bound context e s (constant_inside context e.0 h)

  -- a number without a type mentions nothing
  number_alone : (bound : List (List ℕ)) (e : ExprPart) (number : UntypedLiteral) → untyped_of e.0 ≡ Some number → AllUsed Q (e.1 bound)
  number_alone bound e number q = subst (AllUsed Q) (sym ((λ i. (sym e.2.1 i) bound) ∙ bare_mentions_nothing e.0.0 number q bound)) tt

  abbrev constant_by : TypeEnv → ExprPair → Option UntypedLiteral → ConstantSeen
  constant_by context e None = constant_of context e
  constant_by context e (Some number) = record { judgement = untyped_typing; bare = Some number; value = None }

  untyped_judged : (bound : List (List ℕ)) (context : TypeEnv) (e : ExprPart) → Behind Q bound context → has_broken (constant_or_untyped context e.0).judgement.faults ≡ false → AllUsed Q (e.1 bound)
  untyped_judged bound context e s h = by_untyped (untyped_of e.0) refl h
    where
      by_untyped : (o : Option UntypedLiteral) → untyped_of e.0 ≡ o → has_broken (constant_by context e.0 o).judgement.faults ≡ false → AllUsed Q (e.1 bound)
      by_untyped None q g = constant_judged bound context e s g
      by_untyped (Some number) q g = number_alone bound e number q

  count_judged : (bound : List (List ℕ)) (context : TypeEnv) (e : ExprPart) → Behind Q bound context → has_broken (count_of context e.0).judgement.faults ≡ false → AllUsed Q (e.1 bound)
  count_judged bound context e s h =
      let c = constant_or_untyped context e.0 in
      untyped_judged bound context e s (front c.judgement.faults (count_type_faults (span_of e.0) c.judgement.ty) (front (c.judgement.faults ++ count_type_faults (span_of e.0) c.judgement.ty) _ h))

  abbrev element_by : TypeEnv → Option DslxType → ExprPair → Option UntypedLiteral → Judgement
  element_by context wanted e None = let j = alone context e in record j { faults = j.faults ++ wanted_faults (span_of e) wanted j.ty }
  element_by context wanted e (Some number) = record untyped_typing { ty = wanted; faults = range_faults (span_of e) wanted number }

  element_judged : (bound : List (List ℕ)) (context : TypeEnv) (wanted : Option DslxType) (e : ExprPart) → Behind Q bound context → has_broken (element_in context wanted e.0).faults ≡ false → AllUsed Q (e.1 bound)
  element_judged bound context wanted e s h = by_untyped (untyped_of e.0) refl h
    where
      by_untyped : (o : Option UntypedLiteral) → untyped_of e.0 ≡ o → has_broken (element_by context wanted e.0 o).faults ≡ false → AllUsed Q (e.1 bound)
      by_untyped None q g = alone_judged bound context e s (front (alone context e.0).faults _ g)
      by_untyped (Some number) q g = number_alone bound e number q

  -- ---- lists of parts

  exprs_judged : (bound : List (List ℕ)) (context : TypeEnv) (ps : List ExprPart) → Behind Q bound context → EachJudged Q bound context (map (λ (p : ExprPart). p.0) ps) (map (λ (p : ExprPart). p.1) ps)
  exprs_judged bound context [] s = tt
  exprs_judged bound context (p ∷ ps) s = (p.2.2 bound context s, exprs_judged bound context ps s)

  args_judged : (bound : List (List ℕ)) (context : TypeEnv) (ps : List ArgPart) → Behind Q bound context
      → EachJudged Q bound context (map (λ (a : Arg × ExprPair). a.1) (map (λ (p : ArgPart). p.0) ps)) (map (λ (p : ArgPart). p.1) ps)
  args_judged bound context [] s = tt
  args_judged bound context (p ∷ ps) s = (p.2.2 bound context s, args_judged bound context ps s)

  elements_alone : (bound : List (List ℕ)) (context : TypeEnv) (ps : List ExprPart) → Behind Q bound context → has_broken (faults_of_all (map (element_alone context) (map (λ (p : ExprPart). p.0) ps))) ≡ false
      → AllUsed Q (all_mentions (map (λ (p : ExprPart). p.1) ps) bound)
  elements_alone bound context [] s h = tt
  elements_alone bound context (p ∷ ps) s h =
      let r = unbroken_parts (element_alone context p.0).faults (faults_of_all (map (element_alone context) (map (λ (q : ExprPart). q.0) ps))) h in
      join Q (p.1 bound) (all_mentions (map (λ (q : ExprPart). q.1) ps) bound) (alone_judged bound context p s (front (alone context p.0).faults _ r.0)) (elements_alone bound context ps s r.1)

  elements_in : (bound : List (List ℕ)) (context : TypeEnv) (wanted : Option DslxType) (ps : List ExprPart) → Behind Q bound context → has_broken (faults_of_all (map (element_in context wanted) (map (λ (p : ExprPart). p.0) ps))) ≡ false
      → AllUsed Q (all_mentions (map (λ (p : ExprPart). p.1) ps) bound)
  elements_in bound context wanted [] s h = tt
  elements_in bound context wanted (p ∷ ps) s h =
      let r = unbroken_parts (element_in context wanted p.0).faults (faults_of_all (map (element_in context wanted) (map (λ (q : ExprPart). q.0) ps))) h in
      join Q (p.1 bound) (all_mentions (map (λ (q : ExprPart). q.1) ps) bound) (element_judged bound context wanted p s r.0) (elements_in bound context wanted ps s r.1)

  types_judged : (bound : List (List ℕ)) (context : TypeEnv) (ps : List TypePart) → Behind Q bound context → has_broken (faults_of_all (inner_types context (map (λ (p : TypePart). p.0) ps))) ≡ false
      → AllUsed Q (all_mentions (map (λ (p : TypePart). p.1) ps) bound)
  types_judged bound context [] s h = tt
  types_judged bound context (p ∷ ps) s h =
      let r = unbroken_parts (inner_type context p.0).faults (faults_of_all (inner_types context (map (λ (q : TypePart). q.0) ps))) h in
      join Q (p.1 bound) (all_mentions (map (λ (q : TypePart). q.1) ps) bound) (p.2.2 bound context s (front (p.0.1 context).faults _ r.0)) (types_judged bound context ps s r.1)

  fields_judged : (bound : List (List ℕ)) (context : TypeEnv) (struct : Option DslxType) (ps : List FieldPart) → Behind Q bound context
      → has_broken (faults_of_all (map (field_typing context struct) (map second_of (map (λ (p : FieldPart). p.0) ps)))) ≡ false → AllUsed Q (all_mentions (map (λ (p : FieldPart). p.1) ps) bound)
  fields_judged bound context struct [] s h = tt
  fields_judged bound context struct (p ∷ ps) s h =
      let r = unbroken_parts (field_typing context struct p.0.1).faults (faults_of_all (map (field_typing context struct) (map second_of (map (λ (q : FieldPart). q.0) ps)))) h in
      join Q (p.1 bound) (all_mentions (map (λ (q : FieldPart). q.1) ps) bound) (p.2.2 bound context struct s r.0) (fields_judged bound context struct ps s r.1)

  arms_judged : (bound : List (List ℕ)) (context : TypeEnv) (t : Option DslxType) (ps : List ArmPart) → Behind Q bound context → has_broken (arms_faults (map (arm_typing context t) (map second_of (map (λ (p : ArmPart). p.0) ps)))) ≡ false
      → some_binds (map (arm_typing context t) (map second_of (map (λ (p : ArmPart). p.0) ps))) ≡ false → AllUsed Q (all_mentions (map (λ (p : ArmPart). p.1) ps) bound)
  arms_judged bound context t [] s h b = tt
  arms_judged bound context t (p ∷ ps) s h b =
      let a = arm_typing context t p.0.1 in
      let rest = map (arm_typing context t) (map second_of (map (λ (q : ArmPart). q.0) ps)) in
      let r = unbroken_parts (a.seen.faults ++ a.value.faults) (arms_faults rest) h in
      let c = or_false (has_several a.patterns && a.seen.binds) (some_binds rest) b in
      join Q (p.1 bound) (all_mentions (map (λ (q : ArmPart). q.1) ps) bound) (p.2.2 bound context t s r.0 c.0) (arms_judged bound context t ps s r.1 c.1)

  -- ---- expressions

  struct_judged : (span : Span) (name : Ident) (fields : List FieldPart) (rest : Option ExprPair) (ms : Mentions)
      → ((bound : List (List ℕ)) (context : TypeEnv) (struct : Option DslxType) → Behind Q bound context → has_broken (others_typing context struct rest).faults ≡ false → AllUsed Q (ms bound))
      → (bound : List (List ℕ)) (context : TypeEnv) → Behind Q bound context → has_broken (struct_typing span context name (map second_of (map (λ (p : FieldPart). p.0) fields)) rest).faults ≡ false
      → AllUsed Q ((mention AsStruct name.name ++ all_mentions (map (λ (p : FieldPart). p.1) fields) bound) ++ ms bound)
  struct_judged span name fields rest ms others bound context s h = by_struct (as_struct (item_named name.name context.known.whole.items)) h
    where
      by_struct : (o : Option Struct) → has_broken (struct_if span context name (map second_of (map (λ (p : FieldPart). p.0) fields)) rest o).faults ≡ false
          → AllUsed Q ((mention AsStruct name.name ++ all_mentions (map (λ (p : FieldPart). p.1) fields) bound) ++ ms bound)
      by_struct None g = absurd (true≢false g)
      by_struct (Some declared) g =
          let struct = context.known.items.struct_named name.name in
          let cyclic = breaks_if (context.known.is_cyclic context.owner name.name) 3 name.span in
          let each = faults_of_all (map (field_typing context struct) (map second_of (map (λ (p : FieldPart). p.0) fields))) in
          let others_faults = (others_typing context struct rest).faults in
          let names = map name_of_field declared.fields in
          let given = map second_of (map (λ (p : FieldPart). p.0) fields) in
          let unknown = unknown_fields names given in
          let wrong = breaks_if (has_twice (written_fields given) || lacks_one names (written_fields given) (is_there rest)) 22 span in
          let r = three_unbroken cyclic each others_faults (front ((cyclic ++ each) ++ others_faults) unknown (front (((cyclic ++ each) ++ others_faults) ++ unknown) wrong (front ((((cyclic ++ each) ++ others_faults) ++ unknown) ++ wrong) _ g))) in
          join_three Q (mention AsStruct name.name) (all_mentions (map (λ (p : FieldPart). p.1) fields) bound) (ms bound) (passes Q bound context s AsStruct name.name name.span r.0, tt) (fields_judged bound context struct fields s r.1)
          (others bound context struct s r.2)

  node_judged : (x : NodeLevel Parts) (span : Span) → Judged Q (typing_of_node x span) (mentions_of_node x)
  node_judged (Node-F.Node::Number n) span bound context s h = n.2.2 span bound context s (front (n.0.1 span context).faults _ h)
  node_judged (Node-F.Node::Bool bit) span bound context s h = tt
  node_judged (Node-F.Node::Array None es dots) span bound context s h =
      let pairs = map (λ (p : ExprPart). p.0) es in
      let js = map (element_alone context) pairs in
      let like = like_first (first_type_of (types_of js)) pairs (types_of js) in
      let wrong = breaks_if (dots || is_empty pairs) 21 span in
      elements_alone bound context es s (front (faults_of_all js) like (front (faults_of_all js ++ like) wrong (front ((faults_of_all js ++ like) ++ wrong) _ h)))
  node_judged (Node-F.Node::Array (Some t) es dots) span bound context s h =
      let wanted = element_type (and_then (t.0.1 context).ty array_in) in
      let each = faults_of_all (map (element_in context wanted) (map (λ (p : ExprPart). p.0) es)) in
      let ty = (t.0.1 context).ty in
      let wrong = array_faults span ty (and_then ty array_in) (length (map (λ (p : ExprPart). p.0) es)) dots in
      let r = unbroken_parts (t.0.1 context).faults each (front ((t.0.1 context).faults ++ each) wrong (front (((t.0.1 context).faults ++ each) ++ wrong) _ h)) in
      join Q (t.1 bound) (all_mentions (map (λ (p : ExprPart). p.1) es) bound) (t.2.2 bound context s r.0) (elements_in bound context wanted es s r.1)
  node_judged (Node-F.Node::Name name) span bound context s h = value_passes Q bound span context name s h
  node_judged (Node-F.Node::Member e a) span bound context s h = member_passes Q bound context e a s (front (member_typing context e a).faults _ h)
  node_judged (Node-F.Call f parametric_args es) span bound context s h =
      call_passes Q bound context (kind_of_call f.name) span f (map (λ (p : ArgPart). p.0) parametric_args) (map (λ (p : ArgPart). p.1) parametric_args) (map (λ (p : ExprPart). p.0) es) (map (λ (p : ExprPart). p.1) es) s
      (args_judged bound context parametric_args s) (exprs_judged bound context es s) h
  node_judged (Node-F.Node::Tuple es) span bound context s h = elements_alone bound context es s (front (faults_of_all (map (element_alone context) (map (λ (p : ExprPart). p.0) es))) _ h)
  node_judged (Node-F.Struct name fields None) span bound context s h = struct_judged span name fields None (mentions_if None) (λ bound context struct s h. tt) bound context s h
  node_judged (Node-F.Struct name fields (Some rest)) span bound context s h =
      struct_judged span name fields (Some rest.0) (mentions_if (Some rest.1)) (λ bound context struct s h. alone_judged bound context rest s (front (alone context rest.0).faults _ h)) bound context s h
  node_judged (Node-F.Block b) span bound context s h = b.2.2 bound context s h
  node_judged (Node-F.If c a b) span bound context s h =
      let condition = alone context c.0 in
      let first = block_alone context a.0 in
      let second = alone context b.0 in
      let three = (condition.faults ++ first.faults) ++ second.faults in
      let one = unless_type is_bool 15 (span_of c.0) condition.ty in
      let two = unless_types same_type 25 span first.ty second.ty in
      let r = three_unbroken condition.faults first.faults second.faults (front three one (front (three ++ one) two (front ((three ++ one) ++ two) _ h))) in
      join_three Q (c.1 bound) (a.1 bound) (b.1 bound) (alone_judged bound context c s r.0) (a.2.2 bound context s r.1) (alone_judged bound context b s r.2)
  node_judged (Node-F.Match e arms) span bound context s h =
      let value = alone context e.0 in
      let js = map (arm_typing context value.ty) (map second_of (map (λ (p : ArmPart). p.0) arms)) in
      let wrong = match_faults span context value.ty js in
      let r = three_unbroken value.faults (arms_faults js) wrong (front ((value.faults ++ arms_faults js) ++ wrong) (type_limits span.to (match_typing span context e.0 (map second_of (map (λ (p : ArmPart). p.0) arms))).ty) h) in
      join Q (e.1 bound) (all_mentions (map (λ (p : ArmPart). p.1) arms) bound) (alone_judged bound context e s r.0)
      (arms_judged bound context value.ty arms s r.1 (second_of_four (is_empty js) (some_binds js) (differ (all_some (types_of (arm_values js)))) (not_exhaustive context js value.ty)
      (rule_holds (is_empty js || some_binds js || differ (all_some (types_of (arm_values js))) || not_exhaustive context js value.ty) 24 span r.2)))
  node_judged (Node-F.For f) span bound context s h = f.2.2 span bound context s h
  node_judged (Node-F.Index e place) span bound context s h =
      let whole = alone context e.0 in
      let at = alone context place.0 in
      let two = whole.faults ++ at.faults in
      let one = unless_type is_array 19 span whole.ty in
      let other = unless_type is_unsigned 19 span at.ty in
      let r = unbroken_parts whole.faults at.faults (front two one (front (two ++ one) other (front ((two ++ one) ++ other) _ h))) in
      join Q (e.1 bound) (place.1 bound) (alone_judged bound context e s r.0) (alone_judged bound context place s r.1)
  node_judged (Node-F.Slice e a b) span bound context s h =
      let whole = alone context e.0 in
      let from = constant_or_untyped context a.0 in
      let to = constant_or_untyped context b.0 in
      let three = (whole.faults ++ from.judgement.faults) ++ to.judgement.faults in
      let wrong = slice_faults span whole.ty from to in
      let r = three_unbroken whole.faults from.judgement.faults to.judgement.faults (front three wrong (front (three ++ wrong) _ h)) in
      join_three Q (e.1 bound) (a.1 bound) (b.1 bound) (alone_judged bound context e s r.0) (untyped_judged bound context a s r.1) (untyped_judged bound context b s r.2)
  node_judged (Node-F.Part e place t) span bound context s h =
      let whole = alone context e.0 in
      let start = alone context place.0 in
      let target = t.0.1 context in
      let three = (whole.faults ++ start.faults) ++ target.faults in
      let one = unless_type is_bits 18 span whole.ty in
      let two = unless_type is_unsigned 18 span start.ty in
      let other = unless_type is_unsigned 18 span target.ty in
      let r = three_unbroken whole.faults start.faults target.faults (front three one (front (three ++ one) two (front ((three ++ one) ++ two) other (front (((three ++ one) ++ two) ++ other) _ h)))) in
      join_three Q (e.1 bound) (place.1 bound) (t.1 bound) (alone_judged bound context e s r.0) (alone_judged bound context place s r.1) (t.2.2 bound context s r.2)
  node_judged (Node-F.Field e name) span bound context s h =
      let whole = alone context e.0 in
      let wrong = unless_type (λ t. is_there (field_type (Some t) name.name)) 19 span whole.ty in
      alone_judged bound context e s (front whole.faults wrong (front (whole.faults ++ wrong) _ h))
  node_judged (Node-F.Element e place n) span bound context s h =
      let whole = pair_or_alone n context e.0 in
      let wrong = unless_type (λ t. is_there (part_type t n)) 19 span whole.ty in
      e.2.2 bound context s (taken_apart n context e.0 (front whole.faults wrong (front (whole.faults ++ wrong) _ h)))
  node_judged (Node-F.Prefix o e) span bound context s h =
      let whole = alone context e.0 in
      let wrong = unless_type is_bits 11 span whole.ty in
      alone_judged bound context e s (front whole.faults wrong (front (whole.faults ++ wrong) _ h))
  node_judged (Node-F.Cast e t) span bound context s h =
      let whole = alone context e.0 in
      let target = t.0.1 context in
      let two = whole.faults ++ target.faults in
      let one = unless_type is_bits_or_enum 20 span whole.ty in
      let other = unless_type is_bits 20 span target.ty in
      let r = unbroken_parts whole.faults target.faults (front two one (front (two ++ one) other (front ((two ++ one) ++ other) _ h))) in
      join Q (e.1 bound) (t.1 bound) (alone_judged bound context e s r.0) (t.2.2 bound context s r.1)
  node_judged (Node-F.Binary o l r) span bound context s h =
      let left = alone context l.0 in
      let right = alone context r.0 in
      let wrong = binary_faults o span (span_of l.0) left.ty (span_of r.0) right.ty in
      let q = unbroken_parts left.faults right.faults (front (left.faults ++ right.faults) wrong (front ((left.faults ++ right.faults) ++ wrong) _ h)) in
      join Q (l.1 bound) (r.1 bound) (alone_judged bound context l s q.0) (alone_judged bound context r s q.1)

  -- ---- types

  type_judged : (x : TypeNodeLevel Parts) (span : Span) → TypeJudged Q ((expr_typing.type_node (map_type_node Parts typing (firsts typing mentions (claimed (judged Q))) x)).1 span)
      (mention_steps.type_node (map_type_node Parts mentions (seconds typing mentions (claimed (judged Q))) x))
  type_judged (TypeNode-F.Bits signed width) span bound context s h = tt
  type_judged (TypeNode-F.Wide signed e) span bound context s h = count_judged bound context e s (front (count_of context e.0).judgement.faults _ h)
  type_judged TypeNode-F.TypeNode::Bool span bound context s h = tt
  type_judged (TypeNode-F.TypeNode::Name name) span bound context s h = type_passes Q bound span context name (is_of_use AsType (item_named name context.known.whole.items)) s h
  type_judged (TypeNode-F.TypeNode::Tuple ts) span bound context s h = types_judged bound context ts s (front (faults_of_all (inner_types context (map (λ (p : TypePart). p.0) ts))) _ h)
  type_judged (TypeNode-F.TypeNode::Array t e) span bound context s h =
      let inner = inner_type context t.0 in
      let count = count_of context e.0 in
      let r = unbroken_parts inner.faults count.judgement.faults (front (inner.faults ++ count.judgement.faults) _ h) in
      join Q (t.1 bound) (e.1 bound) (t.2.2 bound context s (front (t.0.1 context).faults _ r.0)) (count_judged bound context e s r.1)

  -- ---- patterns

  -- where a pattern may not fail, it is no value
  may_fail_here : {X : Type 0} (fs gs : List Fault) (span : Span) → has_broken ((fs ++ gs) ++ breaks 8 span ∷ []) ≡ false → X
  may_fail_here fs gs span h = not_here (fs ++ gs) [] 8 span h

  name_judged : (span : Span) (name : List ℕ) → PatternJudged Q (λ may_fail context t names locals. name_pattern span may_fail context t names locals name (context.known.items.is_constant name)) (record { mentions = λ bound. mention AsPattern name; names = name ∷ [] })
  name_judged span name = record {
    may = λ bound context t names locals s h. may bound context t names locals s (context.known.items.is_constant name) refl h;
    sure = λ bound context t names locals s h. sure context t names locals s (context.known.items.is_constant name) refl h;
    names = λ may_fail context t names locals other q h. kept may_fail context t names locals other q h (context.known.items.is_constant name);
    none = λ may_fail context t names locals h. unbound may_fail context t names locals (context.known.items.is_constant name) h;
  }
    where
      may : (bound : List (List ℕ)) (context : TypeEnv) (t : Option DslxType) (names : List (List ℕ)) (locals : List Typed) → Behind Q bound context → (b : Bool) → context.known.items.is_constant name ≡ b
          → has_broken (name_pattern span true context t names locals name b).faults ≡ false → AllUsed Q (mention AsPattern name)
      may bound context t names locals s false q h = (s.binders name q, tt)
      may bound context t names locals s true q h =
          let own = constant_pattern span context name (context.known.items.constant name) in
          let wrong = shape_faults span t own.ty in
          (passes Q bound context s AsPattern name span (front own.faults wrong (front (own.faults ++ wrong) _ h)), tt)

      sure : (context : TypeEnv) (t : Option DslxType) (names : List (List ℕ)) (locals : List Typed) → BindersPass Q context → (b : Bool) → context.known.items.is_constant name ≡ b
          → has_broken (name_pattern span false context t names locals name b).faults ≡ false → AllUsed Q (mention AsPattern name)
      sure context t names locals s false q h = (s name q, tt)
      sure context t names locals s true q h =
          let own = constant_pattern span context name (context.known.items.constant name) in
          may_fail_here own.faults (shape_faults span t own.ty) span h

      kept : (may_fail : Bool) (context : TypeEnv) (t : Option DslxType) (names : List (List ℕ)) (locals : List Typed) (other : List ℕ) → is_in other (name ∷ []) ≡ false → typed_in other locals ≡ None
          → (b : Bool) → typed_in other (name_pattern span may_fail context t names locals name b).locals ≡ None
      kept may_fail context t names locals other q h true = h
      kept may_fail context t names locals other q h false = by_name (bytes_eq other name) q
        where
          by_name : (b : Bool) → (if b then true else false) ≡ false → (if b then Some t else typed_in other locals) ≡ None
          by_name true e = absurd (true≢false e)
          by_name false e = h

      unbound : (may_fail : Bool) (context : TypeEnv) (t : Option DslxType) (names : List (List ℕ)) (locals : List Typed) (b : Bool) → (name_pattern span may_fail context t names locals name b).names ≡ []
          → (names ≡ []) × ((name_pattern span may_fail context t names locals name b).locals ≡ locals)
      unbound may_fail context t names locals true h = (h, refl)
      unbound may_fail context t names locals false h = absurd (true≢false (sym (ap is_empty h)))

  -- the parts of a tuple
  parts_may : (ps : List PatternPart) (bound : List (List ℕ)) (context : TypeEnv) (ts : Option (List DslxType)) (names : List (List ℕ)) (locals : List Typed) → Behind Q bound context
      → has_broken (parts_typing true context (map (λ (p : PatternPart). p.0) ps) ts names locals).faults ≡ false → AllUsed Q (binders_mentions (map (λ (p : PatternPart). p.1) ps) bound)
  parts_may [] bound context ts names locals s h = tt
  parts_may (p ∷ ps) bound context ts names locals s h =
      let first = p.0.1 true context (first_part_type ts) names locals in
      let r = unbroken_parts first.faults _ h in
      join Q (p.1.mentions bound) (binders_mentions (map (λ (q : PatternPart). q.1) ps) bound) (p.2.2.may bound context (first_part_type ts) names locals s r.0) (parts_may ps bound context (other_part_types ts) first.names first.locals s r.1)

  parts_sure : (ps : List PatternPart) (bound : List (List ℕ)) (context : TypeEnv) (ts : Option (List DslxType)) (names : List (List ℕ)) (locals : List Typed) → BindersPass Q context
      → has_broken (parts_typing false context (map (λ (p : PatternPart). p.0) ps) ts names locals).faults ≡ false → AllUsed Q (binders_mentions (map (λ (p : PatternPart). p.1) ps) bound)
  parts_sure [] bound context ts names locals s h = tt
  parts_sure (p ∷ ps) bound context ts names locals s h =
      let first = p.0.1 false context (first_part_type ts) names locals in
      let r = unbroken_parts first.faults _ h in
      join Q (p.1.mentions bound) (binders_mentions (map (λ (q : PatternPart). q.1) ps) bound) (p.2.2.sure bound context (first_part_type ts) names locals s r.0) (parts_sure ps bound context (other_part_types ts) first.names first.locals s r.1)

  parts_names : (ps : List PatternPart) (may_fail : Bool) (context : TypeEnv) (ts : Option (List DslxType)) (names : List (List ℕ)) (locals : List Typed) (name : List ℕ) → is_in name (binders_names (map (λ (p : PatternPart). p.1) ps)) ≡ false
      → typed_in name locals ≡ None → typed_in name (parts_typing may_fail context (map (λ (p : PatternPart). p.0) ps) ts names locals).locals ≡ None
  parts_names [] may_fail context ts names locals name q h = h
  parts_names (p ∷ ps) may_fail context ts names locals name q h =
      let first = p.0.1 may_fail context (first_part_type ts) names locals in
      let r = in_neither name p.1.names (binders_names (map (λ (o : PatternPart). o.1) ps)) q in
      parts_names ps may_fail context (other_part_types ts) first.names first.locals name r.1 (p.2.2.names may_fail context (first_part_type ts) names locals name r.0 h)

  parts_none : (ps : List PatternPart) (may_fail : Bool) (context : TypeEnv) (ts : Option (List DslxType)) (names : List (List ℕ)) (locals : List Typed)
      → (parts_typing may_fail context (map (λ (p : PatternPart). p.0) ps) ts names locals).names ≡ [] → (names ≡ []) × ((parts_typing may_fail context (map (λ (p : PatternPart). p.0) ps) ts names locals).locals ≡ locals)
  parts_none [] may_fail context ts names locals h = (h, refl)
  parts_none (p ∷ ps) may_fail context ts names locals h =
      let first = p.0.1 may_fail context (first_part_type ts) names locals in
      let r = parts_none ps may_fail context (other_part_types ts) first.names first.locals h in
      let q = p.2.2.none may_fail context (first_part_type ts) names locals r.0 in
      (q.0, r.1 ∙ q.1)

  abbrev pattern_of_shape : ShapeLevel Parts → Span → PatternTyping
  pattern_of_shape x = (expr_typing.shape (map_shape Parts typing (firsts typing mentions (claimed (judged Q))) x)).1

  abbrev names_of_shape : ShapeLevel Parts → NamesBound
  names_of_shape x = mention_steps.shape (map_shape Parts mentions (seconds typing mentions (claimed (judged Q))) x)

  shape_judged : (x : ShapeLevel Parts) (span : Span) → PatternJudged Q (pattern_of_shape x span) (names_of_shape x)
  shape_judged Shape-F.Wild span = record {
    may = λ bound context t names locals s h. tt;
    sure = λ bound context t names locals s h. tt;
    names = λ may_fail context t names locals name q h. h;
    none = λ may_fail context t names locals h. (h, refl);
  }
  shape_judged (Shape-F.Shape::Bool bit) span = record {
    may = λ bound context t names locals s h. tt;
    sure = λ bound context t names locals s h. tt;
    names = λ may_fail context t names locals name q h. h;
    none = λ may_fail context t names locals h. (h, refl);
  }
  shape_judged (Shape-F.Shape::Number n) span = record {
    may = λ bound context t names locals s h.
        let own = n.0.1 span context in
        n.2.2 span bound context s (front own.faults (shape_faults span t own.ty) (front (own.faults ++ shape_faults span t own.ty) _ h));
    sure = λ bound context t names locals s h.
        let own = n.0.1 span context in
        may_fail_here own.faults (shape_faults span t own.ty) span h;
    names = λ may_fail context t names locals name q h. h;
    none = λ may_fail context t names locals h. (h, refl);
  }
  shape_judged (Shape-F.Shape::Name name) span = name_judged span name
  shape_judged (Shape-F.Shape::Member e a) span = record {
    may = λ bound context t names locals s h.
        let own = member_typing context e a in
        member_passes Q bound context e a s (front own.faults (shape_faults span t own.ty) (front (own.faults ++ shape_faults span t own.ty) _ h));
    sure = λ bound context t names locals s h.
        let own = member_typing context e a in
        may_fail_here own.faults (shape_faults span t own.ty) span h;
    names = λ may_fail context t names locals name q h. h;
    none = λ may_fail context t names locals h. (h, refl);
  }
  shape_judged (Shape-F.Shape::Tuple ps) span = record {
    may = λ bound context t names locals s h.
        let pairs = map (λ (p : PatternPart). p.0) ps in
        let types = part_types (length pairs) t in
        parts_may ps bound context types names locals s (unbroken_parts (tuple_faults span t types) (parts_typing true context pairs types names locals).faults h).1;
    sure = λ bound context t names locals s h.
        let pairs = map (λ (p : PatternPart). p.0) ps in
        let types = part_types (length pairs) t in
        parts_sure ps bound context types names locals s (unbroken_parts (tuple_faults span t types) (parts_typing false context pairs types names locals).faults h).1;
    names = λ may_fail context t names locals name q h. parts_names ps may_fail context (part_types (length (map (λ (p : PatternPart). p.0) ps)) t) names locals name q h;
    none = λ may_fail context t names locals h. parts_none ps may_fail context (part_types (length (map (λ (p : PatternPart). p.0) ps)) t) names locals h;
  }

  -- ---- arms

  abbrev alternatives_of : TypeEnv → Option DslxType → List PatternPart → List Typed
  alternatives_of context t ps = (alternatives_seen context t (map (λ (p : PatternPart). p.0) ps)).locals

  alternatives_judged : (ps : List PatternPart) (bound : List (List ℕ)) (context : TypeEnv) (t : Option DslxType) → Behind Q bound context → has_broken (alternatives_seen context t (map (λ (p : PatternPart). p.0) ps)).faults ≡ false
      → AllUsed Q (binders_mentions (map (λ (p : PatternPart). p.1) ps) bound)
  alternatives_judged [] bound context t s h = tt
  alternatives_judged (p ∷ ps) bound context t s h =
      let rest = alternatives_seen context t (map (λ (q : PatternPart). q.0) ps) in
      let r = unbroken_parts (one_alternative context t p.0 rest).faults rest.faults h in
      join Q (p.1.mentions bound) (binders_mentions (map (λ (q : PatternPart). q.1) ps) bound) (p.2.2.may bound context t [] rest.locals s r.0) (alternatives_judged ps bound context t s r.1)

  -- where none of them binds
  none_bound : (ps : List PatternPart) (context : TypeEnv) (t : Option DslxType) → (alternatives_seen context t (map (λ (p : PatternPart). p.0) ps)).binds ≡ false → alternatives_of context t ps ≡ context.locals
  none_bound [] context t h = refl
  none_bound (p ∷ ps) context t h =
      let rest = alternatives_seen context t (map (λ (q : PatternPart). q.0) ps) in
      let first = one_alternative context t p.0 rest in
      let r = or_false (not (is_empty first.names)) rest.binds h in
      (p.2.2.none true context t [] rest.locals (no_names first.names (not_true (is_empty first.names) r.0))).1 ∙ none_bound ps context t r.1

  arm_locals : (ps : List PatternPart) (context : TypeEnv) (t : Option DslxType) → (has_several (map (λ (p : PatternPart). p.0) ps) && (alternatives_seen context t (map (λ (p : PatternPart). p.0) ps)).binds) ≡ false
      → (name : List ℕ) → is_in name (bound_behind (map (λ (p : PatternPart). p.1) ps)) ≡ false → typed_in name context.locals ≡ None → typed_in name (alternatives_of context t ps) ≡ None
  arm_locals [] context t h name q e = e
  arm_locals (p ∷ []) context t h name q e = p.2.2.names true context t [] context.locals name q e
  arm_locals (p ∷ o ∷ ps) context t h name q e = ap (typed_in name) (none_bound (p ∷ o ∷ ps) context t h) ∙ e

  arm_judged : (x : ArmLevel Parts) → ArmJudged Q (expr_typing.arm (map_arm Parts typing (firsts typing mentions (claimed (judged Q))) x)).1 (mention_steps.arm (map_arm Parts mentions (seconds typing mentions (claimed (judged Q))) x))
  arm_judged x bound context t s h b =
      let names = bound_behind (map (λ (p : PatternPart). p.1) x.patterns) in
      let seen = alternatives_seen context t (map (λ (p : PatternPart). p.0) x.patterns) in
      let r = unbroken_parts seen.faults (alone (with_typed context seen.locals) x.value.0).faults h in
      join Q (binders_mentions (map (λ (p : PatternPart). p.1) x.patterns) bound) (x.value.1 (names ++ bound)) (alternatives_judged x.patterns bound context t s r.0)
      (alone_judged (names ++ bound) (with_typed context seen.locals) x.value (behind_more Q names bound context seen.locals context.used s (arm_locals x.patterns context t b)) r.1)

  -- ---- statements and blocks

  bind_judged : (x : LetLevel Parts) → StatementJudged Q (expr_typing.bind (map_bind Parts typing (firsts typing mentions (claimed (judged Q))) x)).1 (mention_steps.bind (map_bind Parts mentions (seconds typing mentions (claimed (judged Q))) x))
  bind_judged x = by_type x.ty
    where
      by_type : (o : Option TypePart)
          → StatementJudged Q (expr_typing.bind (map_bind Parts typing (firsts typing mentions (claimed (judged Q))) (record { span = x.span; pattern = x.pattern; ty = o; value = x.value }))).1
          (mention_steps.bind (map_bind Parts mentions (seconds typing mentions (claimed (judged Q))) (record { span = x.span; pattern = x.pattern; ty = o; value = x.value })))
      by_type None = record {
        judged = λ bound context s h.
            let value = x.value.0.1 false context in
            let seen = pattern_alone false context value.ty x.pattern.0 in
            let r = three_unbroken value.faults [] seen.faults h in
            join_three Q [] (x.value.1 bound) (x.pattern.1.mentions bound) tt (x.value.2.2 bound context s r.0) (x.pattern.2.2.sure bound context value.ty [] context.locals s.binders r.2);
        behind = λ bound context s.
            let value = x.value.0.1 false context in
            behind_more Q x.pattern.1.names bound context (pattern_alone false context value.ty x.pattern.0).locals _ s (λ name q h. x.pattern.2.2.names false context value.ty [] context.locals name q h);
      }
      by_type (Some t) = record {
        judged = λ bound context s h.
            let value = x.value.0.1 false context in
            let written = t.0.1 context in
            let wanted = bound_type (Some written) value.ty in
            let seen = pattern_alone false context wanted x.pattern.0 in
            let r = three_unbroken value.faults (written.faults ++ wanted_faults (span_of x.value.0) written.ty value.ty) seen.faults h in
            join_three Q (t.1 bound) (x.value.1 bound) (x.pattern.1.mentions bound) (t.2.2 bound context s (front written.faults _ r.1)) (x.value.2.2 bound context s r.0)
            (x.pattern.2.2.sure bound context wanted [] context.locals s.binders r.2);
        behind = λ bound context s.
            let wanted = bound_type (Some (t.0.1 context)) (x.value.0.1 false context).ty in
            behind_more Q x.pattern.1.names bound context (pattern_alone false context wanted x.pattern.0).locals _ s (λ name q h. x.pattern.2.2.names false context wanted [] context.locals name q h);
      }

  stmt_judged : (x : StmtLevel Parts) → StatementJudged Q (expr_typing.stmt (map_stmt Parts typing (firsts typing mentions (claimed (judged Q))) x)).1 (mention_steps.stmt (map_stmt Parts mentions (seconds typing mentions (claimed (judged Q))) x))
  stmt_judged (Stmt-F.Let l) = record { judged = l.2.2.judged; behind = l.2.2.behind }
  stmt_judged (Stmt-F.Bare e) = record {
    judged = λ bound context s h. e.2.2 bound context s (unmarked (span_of e.0) (e.0.1 false context) h);
    behind = λ bound context s. behind_more Q [] bound context context.locals _ s (λ name q h. h);
  }

  abbrev typings_of : List StmtPart → List StatementTyping
  typings_of ss = map (λ (s : Stmt × StatementTyping). s.1) (map (λ (s : StmtPart). s.0) ss)

  -- all statements, and the last expression behind them
  statements_judged : (value : Option ExprPair) (ms : Mentions) → ((bound : List (List ℕ)) (context : TypeEnv) → Behind Q bound context → has_broken (last_typing context value).faults ≡ false → AllUsed Q (ms bound))
      → (ss : List StmtPart) (bound : List (List ℕ)) (context : TypeEnv) → Behind Q bound context → has_broken (statements_typing (typings_of ss) false context).faults ≡ false
      → has_broken (last_typing (statements_typing (typings_of ss) false context).context value).faults ≡ false → AllUsed Q (statements_mentions (map (λ (s : StmtPart). s.1) ss) ms bound)
  statements_judged value ms end [] bound context s h g = end bound context s g
  statements_judged value ms end (x ∷ ss) bound context s h g =
      let first = x.0.1 false context in
      let r = unbroken_parts first.faults (statements_typing (typings_of ss) false first.context).faults h in
      join Q (x.1.mentions bound) (statements_mentions (map (λ (q : StmtPart). q.1) ss) ms (x.1.names ++ bound)) (x.2.2.judged bound context s r.0)
      (statements_judged value ms end ss (x.1.names ++ bound) first.context (x.2.2.behind bound context s) r.1 g)

  block_judged : (x : BlockLevel Parts) → Judged Q (expr_typing.block (map_block Parts typing (firsts typing mentions (claimed (judged Q))) x)).1 (mention_steps.block (map_block Parts mentions (seconds typing mentions (claimed (judged Q))) x))
  block_judged x = by_value x.value
    where
      walked_faults : TypeEnv → Option ExprPair → List Fault
      walked_faults context value =
          (statements_typing (typings_of x.statements) false context).faults ++ (last_typing (statements_typing (typings_of x.statements) false context).context value).faults

      whole : (value : Option ExprPair) (ms : Mentions) → ((bound : List (List ℕ)) (context : TypeEnv) → Behind Q bound context → has_broken (last_typing context value).faults ≡ false → AllUsed Q (ms bound))
          → (bound : List (List ℕ)) (context : TypeEnv) → Behind Q bound context
          → has_broken ((statements_typing (typings_of x.statements) false context).faults ++ (last_typing (statements_typing (typings_of x.statements) false context).context value).faults) ≡ false
          → AllUsed Q (statements_mentions (map (λ (s : StmtPart). s.1) x.statements) ms bound)
      whole value ms end bound context s h =
          let walked = statements_typing (typings_of x.statements) false context in
          let r = unbroken_parts walked.faults (last_typing walked.context value).faults h in
          statements_judged value ms end x.statements bound context s r.0 r.1

      by_value : (o : Option ExprPart)
          → Judged Q (expr_typing.block (map_block Parts typing (firsts typing mentions (claimed (judged Q))) (record { span = x.span; statements = x.statements; value = o }))).1
          (mention_steps.block (map_block Parts mentions (seconds typing mentions (claimed (judged Q))) (record { span = x.span; statements = x.statements; value = o })))
      by_value None = λ bound context s h. whole None (mentions_if None) (λ bound context s h. tt) bound context s (front (walked_faults context None) _ h)
      by_value (Some e) = λ bound context s h. whole (Some e.0) (mentions_if (Some e.1)) (λ bound context s h. alone_judged bound context e s h) bound context s (front (walked_faults context (Some e.0)) _ h)

  -- ---- loops, numbers and fields

  loop_judged : (x : ForLevel Parts) (span : Span) → TypeJudged Q ((expr_typing.loop (map_loop Parts typing (firsts typing mentions (claimed (judged Q))) x)).1 span) (mention_steps.loop (map_loop Parts mentions (seconds typing mentions (claimed (judged Q))) x))
  loop_judged x span = by_type x.ty
    where
      index_at : TypeEnv → List Typed
      index_at context = (pattern_alone false context (same_ends (constant_of context x.from.0).judgement.ty (constant_of context x.to.0).judgement.ty) x.index.0).locals

      accumulator_at : TypeEnv → List Typed
      accumulator_at context = (pattern_alone false (with_typed context (index_at context)) (alone context x.start.0).ty x.accumulator.0).locals

      -- what the parts but the annotation break
      parts_of : TypeEnv → List Fault
      parts_of context =
          ((((((constant_of context x.from.0).judgement.faults ++ (constant_of context x.to.0).judgement.faults) ++ (alone context x.start.0).faults)
          ++ (pattern_alone false context (same_ends (constant_of context x.from.0).judgement.ty (constant_of context x.to.0).judgement.ty) x.index.0).faults)
          ++ (pattern_alone false (with_typed context (index_at context)) (alone context x.start.0).ty x.accumulator.0).faults)
          ++ (block_alone (with_typed context (accumulator_at context)) x.body.0).faults)

      range_wrong : TypeEnv → List Fault
      range_wrong context = unless_types one_bit_type 26 span (constant_of context x.from.0).judgement.ty (constant_of context x.to.0).judgement.ty

      annotation_wrong : TypeEnv → Option Judgement → List Fault
      annotation_wrong context written = loop_annotation span written (same_ends (constant_of context x.from.0).judgement.ty (constant_of context x.to.0).judgement.ty) (alone context x.start.0).ty

      body_wrong : TypeEnv → List Fault
      body_wrong context = wanted_faults (span_of_block x.body.0) (alone context x.start.0).ty (block_alone (with_typed context (accumulator_at context)) x.body.0).ty

      turns_wrong : TypeEnv → List Fault
      turns_wrong context = turn_limit span.to (turns_of (constant_of context x.from.0).value (constant_of context x.to.0).value)

      -- what the loop itself breaks and passes
      wrong_in : TypeEnv → Option Judgement → List Fault
      wrong_in context written = ((range_wrong context ++ annotation_wrong context written) ++ body_wrong context) ++ turns_wrong context

      whole : (bound : List (List ℕ)) (context : TypeEnv) (typed : List Mention) → AllUsed Q typed → Behind Q bound context → has_broken (parts_of context) ≡ false
          → AllUsed Q ((((((x.from.1 bound ++ x.to.1 bound) ++ x.start.1 bound) ++ typed) ++ x.index.1.mentions bound) ++ x.accumulator.1.mentions bound) ++ x.body.1 ((x.accumulator.1.names ++ x.index.1.names) ++ bound))
      whole bound context typed own s h =
          let from = (constant_of context x.from.0).judgement in
          let to = (constant_of context x.to.0).judgement in
          let start = alone context x.start.0 in
          let counted = same_ends from.ty to.ty in
          let index = pattern_alone false context counted x.index.0 in
          let inner = with_typed context index.locals in
          let acc = pattern_alone false inner start.ty x.accumulator.0 in
          let last = with_typed context acc.locals in
          let five = (((from.faults ++ to.faults) ++ start.faults) ++ index.faults) ++ acc.faults in
          let a = unbroken_parts five (block_alone last x.body.0).faults h in
          let b = unbroken_parts (((from.faults ++ to.faults) ++ start.faults) ++ index.faults) acc.faults a.0 in
          let c = unbroken_parts ((from.faults ++ to.faults) ++ start.faults) index.faults b.0 in
          let e = three_unbroken from.faults to.faults start.faults c.0 in
          let names = x.accumulator.1.names ++ x.index.1.names in
          let behind = behind_more Q names bound context acc.locals context.used s (λ name q g.
          let r = in_neither name x.accumulator.1.names x.index.1.names q in
          x.accumulator.2.2.names false inner start.ty [] index.locals name r.0 (x.index.2.2.names false context counted [] context.locals name r.1 g)) in
          let one = join_three Q (x.from.1 bound) (x.to.1 bound) (x.start.1 bound) (constant_judged bound context x.from s e.0) (constant_judged bound context x.to s e.1) (alone_judged bound context x.start s e.2) in
          let two = join Q ((x.from.1 bound ++ x.to.1 bound) ++ x.start.1 bound) typed one own in
          let three = join Q (((x.from.1 bound ++ x.to.1 bound) ++ x.start.1 bound) ++ typed) (x.index.1.mentions bound) two (x.index.2.2.sure bound context counted [] context.locals s.binders c.1) in
          join_three Q ((((x.from.1 bound ++ x.to.1 bound) ++ x.start.1 bound) ++ typed) ++ x.index.1.mentions bound) (x.accumulator.1.mentions bound) (x.body.1 (names ++ bound)) three
          (x.accumulator.2.2.sure bound inner start.ty [] index.locals s.binders b.1) (x.body.2.2 (names ++ bound) last behind a.1)

      by_type : (o : Option TypePart)
          → TypeJudged Q ((expr_typing.loop (map_loop Parts typing (firsts typing mentions (claimed (judged Q))) (record { index = x.index; accumulator = x.accumulator; ty = o; from = x.from; to = x.to; body = x.body; start = x.start }))).1 span)
          (mention_steps.loop (map_loop Parts mentions (seconds typing mentions (claimed (judged Q))) (record { index = x.index; accumulator = x.accumulator; ty = o; from = x.from; to = x.to; body = x.body; start = x.start })))
      by_type None = λ bound context s h. whole bound context [] tt s (front (parts_of context) (wrong_in context None) (front (parts_of context ++ wrong_in context None) _ h))
      by_type (Some t) = λ bound context s h.
          let written = t.0.1 context in
          let r = unbroken_parts (parts_of context) (wrong_in context (Some written)) (front (parts_of context ++ wrong_in context (Some written)) _ h) in
          let q = three_unbroken (range_wrong context) (annotation_wrong context (Some written)) (body_wrong context) (front ((range_wrong context ++ annotation_wrong context (Some written)) ++ body_wrong context) (turns_wrong context) r.1) in
          whole bound context (t.1 bound) (t.2.2 bound context s (front written.faults _ q.1)) s r.0

  number_judged : (x : NumberLevel Parts) (span : Span) → TypeJudged Q ((expr_typing.number (map_number Parts typing (firsts typing mentions (claimed (judged Q))) x)).1 span) (mention_steps.number (map_number Parts mentions (seconds typing mentions (claimed (judged Q))) x))
  number_judged x span = by_type x.ty
    where
      by_type : (o : Option TypePart)
          → TypeJudged Q ((expr_typing.number (map_number Parts typing (firsts typing mentions (claimed (judged Q))) (record { ty = o; is_negative = x.is_negative; value = x.value }))).1 span)
          (mention_steps.number (map_number Parts mentions (seconds typing mentions (claimed (judged Q))) (record { ty = o; is_negative = x.is_negative; value = x.value })))
      by_type None = λ bound context s h. tt
      by_type (Some t) = λ bound context s h. t.2.2 bound context s (front (t.0.1 context).faults _ h)

  field_judged : (x : FieldValueLevel Parts) → FieldJudged Q (expr_typing.field (map_field Parts typing (firsts typing mentions (claimed (judged Q))) x)).1 (mention_steps.field (map_field Parts mentions (seconds typing mentions (claimed (judged Q))) x))
  field_judged x = by_value x.value
    where
      by_value : (o : Option ExprPart)
          → FieldJudged Q (expr_typing.field (map_field Parts typing (firsts typing mentions (claimed (judged Q))) (record { name = x.name; value = o }))).1
          (mention_steps.field (map_field Parts mentions (seconds typing mentions (claimed (judged Q))) (record { name = x.name; value = o })))
      by_value None = λ bound context struct s h.
          let j = name_typing x.name.span context x.name.name in
          value_passes Q bound x.name.span context x.name.name s (unmarked x.name.span j (front (no_token x.name.span j).faults _ h))
      by_value (Some e) = λ bound context struct s h. alone_judged bound context e s (front (alone context e.0).faults _ h)

  -- ---- the whole

  all_judged : KeepRelated typing mentions (claimed (judged Q)) expr_typing mention_steps
  all_judged = record {
    stmt = λ x. (seen_stmt (judged Q) x, mentioned_stmt (judged Q) x, stmt_judged x);
    node = λ x. (seen_node (judged Q) x, mentioned_node (judged Q) x, node_judged x);
    shape = λ x. (seen_shape (judged Q) x, mentioned_shape (judged Q) x, shape_judged x);
    type_node = λ x. (seen_type_node (judged Q) x, mentioned_type_node (judged Q) x, type_judged x);
    block = λ x. (seen_block (judged Q) x, mentioned_block (judged Q) x, block_judged x);
    bind = λ x. (seen_bind (judged Q) x, mentioned_bind (judged Q) x, bind_judged x);
    arg = λ x. (seen_arg (judged Q) x, mentioned_arg (judged Q) x, x.value.2.2);
    arm = λ x. (seen_arm (judged Q) x, mentioned_arm (judged Q) x, arm_judged x);
    expr = λ x. (seen_expr (judged Q) x, mentioned_expr (judged Q) x, x.node.2.2 x.span);
    field = λ x. (seen_field (judged Q) x, mentioned_field (judged Q) x, field_judged x);
    loop = λ x. (seen_loop (judged Q) x, mentioned_loop (judged Q) x, loop_judged x);
    number = λ x. (seen_number (judged Q) x, mentioned_number (judged Q) x, number_judged x);
    pattern = λ x. (seen_pattern (judged Q) x, mentioned_pattern (judged Q) x, x.shape.2.2 x.span);
    type_expr = λ x. (seen_type_expr (judged Q) x, mentioned_type_expr (judged Q) x, x.node.2.2 x.span);
  }

-- an expression, a block, a type and a pattern
pub expression_judged : (Q : Use → List ℕ → Bool) (e : Expr) → Judged Q (expr_pair e).1 (mentioned e)
expression_judged Q e = (related_expr typing mentions (claimed (judged Q)) expr_typing mention_steps (all_judged Q) e).2

pub block_of_text_judged : (Q : Use → List ℕ → Bool) (b : Block) → Judged Q (block_pair b).1 (mentioned_in_block b)
block_of_text_judged Q b = (related_block typing mentions (claimed (judged Q)) expr_typing mention_steps (all_judged Q) b).2

pub written_type_judged : (Q : Use → List ℕ → Bool) (t : TypeExpr) → TypeJudged Q (type_pair t).1 (mentioned_in_type t)
written_type_judged Q t = (related_type_expr typing mentions (claimed (judged Q)) expr_typing mention_steps (all_judged Q) t).2

pub pattern_judged : (Q : Use → List ℕ → Bool) (p : Pattern) → PatternJudged Q (fold_pattern typing expr_typing p).1 (fold_pattern mentions mention_steps p)
pattern_judged Q p = (related_pattern typing mentions (claimed (judged Q)) expr_typing mention_steps (all_judged Q) p).2
