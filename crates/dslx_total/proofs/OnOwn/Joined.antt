-- The induction on all sorts of parts of a tree: what each reaches with which nothing is wrong passes a test, where what is called does.
use Rattle.std.proofs.Common.{◌≡◌, ◌++◌, ◌&&◌, ◌||◌, ℕ, Bool, true, false, if◌then◌else◌, List, [], ◌∷◌, map, length, Option, Some, None, refl, sym, subst}
use Rattle.xb_span.specs.declared.span.Span.{Span}
use Rattle.dslx_tree.specs.declared.block.Block.{Block}
use Rattle.dslx_tree.specs.declared.block.Stmt.{Stmt}
use Rattle.dslx_tree.specs.declared.block.Stmt.TheOpen.{Stmt-F, Node-F, Shape-F, TypeNode-F}
use Rattle.dslx_tree.specs.declared.expr.Expr.{Expr}
use Rattle.dslx_tree.specs.declared.ident.Ident.{Ident}
use Rattle.dslx_tree.specs.declared.item.Struct.{Struct}
use Rattle.dslx_tree.specs.declared.pattern.Pattern.{Pattern}
use Rattle.dslx_tree.specs.declared.type_expr.TypeExpr.{TypeExpr}
use Rattle.dslx_tree.proofs.Lemmas.Folds.Levels.{Carriers, Maps, trees, ArmLevel, BlockLevel, FieldValueLevel, ForLevel, LetLevel, NodeLevel, NumberLevel, ShapeLevel, StmtLevel, TypeNodeLevel, map_arg, map_arm, map_bind, map_block, map_expr, map_field, map_loop, map_node, map_number, map_pattern, map_shape, map_stmt, map_type_expr, map_type_node}
use Rattle.dslx_tree.proofs.Lemmas.Folds.Folds.{fold_arg, fold_arm, fold_bind, fold_block, fold_expr, fold_field, fold_loop, fold_node, fold_number, fold_pattern, fold_shape, fold_stmt, fold_type_expr, fold_type_node, folds, fold_arg-roll, fold_arm-roll, fold_bind-roll, fold_block-roll, fold_expr-roll, fold_field-roll, fold_loop-roll, fold_node-roll, fold_number-roll, fold_pattern-roll, fold_shape-roll, fold_stmt-roll, fold_type_expr-roll, fold_type_node-roll}
use Rattle.dslx_meaning.specs.Callees.{kind_of_call}
use Rattle.dslx_meaning.specs.Environment.{Env}
use Rattle.dslx_meaning.specs.Items.{as_struct, item_named, name_of_field}
use Rattle.dslx_meaning.specs.Lists.{and_then}
use Rattle.dslx_meaning.specs.Meaning.{ExprDen, denotation, pattern_denotation}
use Rattle.dslx_meaning.specs.declared.ty.DslxType.{DslxType}
use Rattle.dslx_meaning.specs.Rules.AggregateRules.{array_faults, array_in, is_array, pair_or_alone, part_type, element_alone, element_in, element_type, field_type, field_typing, has_twice, lacks_one, like_first, others_typing, struct_if, struct_typing, unknown_fields, written_fields, first_type_of}
use Rattle.dslx_meaning.specs.Rules.ConstantRules.{constant_or_untyped, count_of, is_empty, is_unsigned}
use Rattle.dslx_meaning.specs.Rules.ControlRules.{annotation_faults, bound_type, span_of_block}
use Rattle.dslx_meaning.specs.Rules.EffectNames.{is_effect}
use Rattle.dslx_meaning.specs.Rules.Mentions.{AsType, is_of_use}
use Rattle.dslx_meaning.specs.Rules.NameRules.{member_typing, name_typing}
use Rattle.dslx_meaning.specs.Rules.NodeRules.{block_pair, expr_pair, second_of, type_pair}
use Rattle.dslx_meaning.specs.Rules.OperatorRules.{binary_faults, is_bits, is_bits_or_enum, slice_faults, unless_type}
use Rattle.dslx_meaning.specs.Rules.PatternRules.{first_part_type, is_there, name_pattern, other_part_types, part_types, parts_typing, pattern_alone, shape_faults, tuple_faults, one_value}
use Rattle.dslx_meaning.specs.Rules.TypeEnvs.{ExprPair, Instance, Judgement, TypeEnv, Typed, alone, breaks, breaks_if, faults_of_all, no_token, reached_of_all, span_of, types_of}
use Rattle.dslx_meaning.specs.Rules.TypeRules.{inner_type, inner_types, named_type}
use Rattle.dslx_meaning.specs.Rules.Typings.{ArgPair, FieldSeen, StatementTyping}
use Rattle.dslx_core.proofs.Lemmas.Typing.Sound.{HoldOn, TreeClaims, expression_gives, held, held_tree, holds_block, holds_expr, holds_pattern, holds_type_expr, pattern_gives, statement_gives, some_fault}
use Rattle.dslx_core.specs.Typing.Sound.Sound.{EachExprGives, EachPatternGives, ExprGives}
use Rattle.dslx_core.specs.Typing.Typed.WellTyped.{IsWellTypedEnv}
use Rattle.dslx_total.proofs.OnExpressions.Joined.{seeing, seen}
use Rattle.dslx_total.proofs.OnOwn.OfCalls.{call_passes}
use Rattle.dslx_total.proofs.OnOwn.OfControl.{ArmPasses, EachArmPasses, EachPatternPasses, EachStatementPasses, StatementGivesSome, WrittenPasses, block_passes, if_passes, loop_passes, match_passes}
use Rattle.dslx_total.proofs.OnOwn.Passing.{AlonePasses, CalleesPass, EachPasses, ExprPasses, FieldPasses, Passes, PatternPasses, StatementPasses, TypePasses, alone_passes, bare_passes, before_more, behind_more, count_passes, element_passes, join, join_three, member_passes, name_passes, taken_passes, unmarked}

-- what holds of one holds of what is the same
moved : {A : Type 0} (P : A → Type 0) {a b : A} → a ≡ b → P b → P a
moved P e p = subst P (sym e) p

module _ (here test : Instance → Bool) where
  abbrev passing : TreeClaims
  passing = record {
    stmt = λ x. StatementPasses here test (fold_stmt seen seeing x).1;
    node = λ x. (span : Span) → ExprPasses here test ((fold_node seen seeing x).1 span);
    shape = λ x. (span : Span) → PatternPasses here test ((fold_shape seen seeing x).1 span);
    type_node = λ x. (span : Span) → TypePasses here test ((fold_type_node seen seeing x).1 span);
    block = λ x. TypePasses here test ((fold_block seen seeing x).1 false);
    bind = λ x. StatementPasses here test (fold_bind seen seeing x).1;
    arg = λ x. ExprPasses here test (fold_arg seen seeing x).1.1 × ((d : ExprDen) × ExprGives (fold_arg seen seeing x).1 d);
    arm = λ x. ArmPasses here test (fold_arm seen seeing x).1;
    expr = λ x. ExprPasses here test (fold_expr seen seeing x).1;
    field = λ x. FieldPasses here test (fold_field seen seeing x).1;
    loop = λ x. (span : Span) → TypePasses here test ((fold_loop seen seeing x).1 span);
    number = λ x. (span : Span) → TypePasses here test ((fold_number seen seeing x).1 span);
    pattern = λ x. PatternPasses here test (fold_pattern seen seeing x).1;
    type_expr = λ x. TypePasses here test (fold_type_expr seen seeing x).1;
  }

  abbrev Held : Carriers
  Held = held passing

  abbrev tree : Maps Held trees
  tree = held_tree passing

  -- ---- lists of parts

  abbrev exprs_seen : List Held.expr → List ExprPair
  exprs_seen ps = map (fold_expr seen seeing) (map (λ (p : Held.expr). p.0) ps)

  abbrev args_seen : List Held.arg → List ArgPair
  args_seen ps = map (fold_arg seen seeing) (map (λ (p : Held.arg). p.0) ps)

  module _ (context : TypeEnv) (env : Env) (h : IsWellTypedEnv context env) (callees : CalleesPass here test context.known) where
    each_within : (ps : List Held.expr) → EachPasses here test context (exprs_seen ps)
    each_within [] = tt
    each_within (p ∷ ps) = (p.1 false context env h callees, each_within ps)

    each_arg : (ps : List Held.arg) → EachPasses here test context (map (λ (a : ArgPair). a.1) (args_seen ps))
    each_arg [] = tt
    each_arg (p ∷ ps) = (p.1.0 false context env h callees, each_arg ps)

    expr_alone : (p : Held.expr) → AlonePasses here test context (fold_expr seen seeing p.0)
    expr_alone p = alone_passes here test context (fold_expr seen seeing p.0) (p.1 false context env h callees)

    elements_pass : (es : List ExprPair) → EachPasses here test context es → Passes here test (faults_of_all (map (element_alone context) es)) (reached_of_all (map (element_alone context) es))
    elements_pass [] k = λ f r. refl
    elements_pass (e ∷ es) k =
        let a = alone context e in
        let j = element_alone context e in
        let js = map (element_alone context) es in
        join here test j.faults (faults_of_all js) j.reached (reached_of_all js) (before_more here test a.faults _ a.reached (alone_passes here test context e k.0)) (elements_pass es k.1)

    elements_in_pass : (wanted : Option DslxType) (es : List ExprPair) → EachPasses here test context es → Passes here test (faults_of_all (map (element_in context wanted) es)) (reached_of_all (map (element_in context wanted) es))
    elements_in_pass wanted [] k = λ f r. refl
    elements_in_pass wanted (e ∷ es) k =
        let j = element_in context wanted e in
        let js = map (element_in context wanted) es in
        join here test j.faults (faults_of_all js) j.reached (reached_of_all js) (element_passes here test context wanted e (alone_passes here test context e k.0)) (elements_in_pass wanted es k.1)

    types_pass : (ps : List Held.type_expr) → Passes here test (faults_of_all (inner_types context (map (fold_type_expr seen seeing) (map (λ (p : Held.type_expr). p.0) ps)))) (reached_of_all (inner_types context (map (fold_type_expr seen seeing) (map (λ (p : Held.type_expr). p.0) ps))))
    types_pass [] = λ f r. refl
    types_pass (p ∷ ps) =
        let t = fold_type_expr seen seeing p.0 in
        let js = inner_types context (map (fold_type_expr seen seeing) (map (λ (q : Held.type_expr). q.0) ps)) in
        join here test (inner_type context t).faults (faults_of_all js) (inner_type context t).reached (reached_of_all js) (before_more here test (t.1 context).faults _ (t.1 context).reached (p.1 context env h callees)) (types_pass ps)

    fields_pass : (struct : Option DslxType) (ps : List Held.field)
        → Passes here test (faults_of_all (map (field_typing context struct) (map second_of (map (fold_field seen seeing) (map (λ (p : Held.field). p.0) ps))))) (reached_of_all (map (field_typing context struct) (map second_of (map (fold_field seen seeing) (map (λ (p : Held.field). p.0) ps)))))
    fields_pass struct [] = λ f r. refl
    fields_pass struct (p ∷ ps) =
        let j = field_typing context struct (fold_field seen seeing p.0).1 in
        let js = map (field_typing context struct) (map second_of (map (fold_field seen seeing) (map (λ (q : Held.field). q.0) ps))) in
        join here test j.faults (faults_of_all js) j.reached (reached_of_all js) (p.1 context struct env h callees) (fields_pass struct ps)

    parts_pass : (may_fail : Bool) (ts : Option (List DslxType)) (names : List (List ℕ)) (locals : List Typed) (ps : List Held.pattern)
        → Passes here test (parts_typing may_fail context (map (fold_pattern seen seeing) (map (λ (p : Held.pattern). p.0) ps)) ts names locals).faults (parts_typing may_fail context (map (fold_pattern seen seeing) (map (λ (p : Held.pattern). p.0) ps)) ts names locals).reached
    parts_pass may_fail ts names locals [] = λ f r. refl
    parts_pass may_fail ts names locals (p ∷ ps) =
        let first = (fold_pattern seen seeing p.0).1 may_fail context (first_part_type ts) names locals in
        let rest = parts_typing may_fail context (map (fold_pattern seen seeing) (map (λ (q : Held.pattern). q.0) ps)) (other_part_types ts) first.names first.locals in
        join here test first.faults rest.faults first.reached rest.reached (p.1 may_fail context (first_part_type ts) names locals env h callees) (parts_pass may_fail (other_part_types ts) first.names first.locals ps)

    struct_passes : (span : Span) (name : Ident) (ps : List Held.field) (others : Option ExprPair) → ((struct : Option DslxType) → Passes here test (others_typing context struct others).faults (others_typing context struct others).reached)
        → Passes here test (struct_typing span context name (map second_of (map (fold_field seen seeing) (map (λ (p : Held.field). p.0) ps))) others).faults (struct_typing span context name (map second_of (map (fold_field seen seeing) (map (λ (p : Held.field). p.0) ps))) others).reached
    struct_passes span name ps others po = by_struct (as_struct (item_named name.name context.known.whole.items))
      where
        fields : List FieldSeen
        fields = map second_of (map (fold_field seen seeing) (map (λ (p : Held.field). p.0) ps))

        by_struct : (o : Option Struct) → Passes here test (struct_if span context name fields others o).faults (struct_if span context name fields others o).reached
        by_struct None = λ f r. some_fault (breaks 1 name.span) _ f
        by_struct (Some declared) =
            let struct = context.known.items.struct_named name.name in
            let js = map (field_typing context struct) fields in
            let rest = others_typing context struct others in
            let names = map name_of_field declared.fields in
            let cyclic = breaks_if (context.known.is_cyclic context.owner name.name) 3 name.span in
            let unknown = unknown_fields names fields in
            let two = (cyclic ++ faults_of_all js) ++ rest.faults in
            let wrong = breaks_if (has_twice (written_fields fields) || lacks_one names (written_fields fields) (is_there others)) 22 span in
            let reached = reached_of_all js ++ rest.reached in
            before_more here test ((two ++ unknown) ++ wrong) _ reached
            (before_more here test (two ++ unknown) wrong reached
            (before_more here test two unknown reached
            (join here test (cyclic ++ faults_of_all js) rest.faults (reached_of_all js) rest.reached (behind_more here test cyclic (faults_of_all js) (reached_of_all js) (fields_pass struct ps)) (po struct))))

  each_given : (ps : List Held.expr) → EachExprGives (exprs_seen ps) (map (λ (p : Held.expr). denotation p.0) ps)
  each_given [] = tt
  each_given (p ∷ ps) = (expression_gives p.0, each_given ps)

  each_arg_given : (ps : List Held.arg) → EachExprGives (map (λ (a : ArgPair). a.1) (args_seen ps)) (map (λ (p : Held.arg). p.1.1.0) ps)
  each_arg_given [] = tt
  each_arg_given (p ∷ ps) = (p.1.1.1, each_arg_given ps)

  each_pattern : (ps : List Held.pattern) → EachPatternPasses here test (map (fold_pattern seen seeing) (map (λ (p : Held.pattern). p.0) ps))
  each_pattern [] = tt
  each_pattern (p ∷ ps) = (p.1, each_pattern ps)

  each_pattern_gives : (ps : List Held.pattern) → EachPatternGives (map (fold_pattern seen seeing) (map (λ (p : Held.pattern). p.0) ps)) (map (λ (p : Held.pattern). pattern_denotation p.0) ps)
  each_pattern_gives [] = tt
  each_pattern_gives (p ∷ ps) = (pattern_gives p.0, each_pattern_gives ps)

  each_arm : (ps : List Held.arm) → EachArmPasses here test (map second_of (map (fold_arm seen seeing) (map (λ (p : Held.arm). p.0) ps)))
  each_arm [] = tt
  each_arm (p ∷ ps) = (p.1, each_arm ps)

  statement_gives_some : (s : Stmt) → StatementGivesSome here test (fold_stmt seen seeing s).1
  statement_gives_some s = (_, statement_gives s)

  each_stmt : (ps : List Held.stmt) → EachStatementPasses here test (map (λ (s : Stmt × StatementTyping). s.1) (map (fold_stmt seen seeing) (map (λ (p : Held.stmt). p.0) ps)))
  each_stmt [] = tt
  each_stmt (p ∷ ps) = ((p.1, statement_gives_some p.0), each_stmt ps)

  -- ---- expressions

  node_claim : (y : NodeLevel Held) (span : Span) → ExprPasses here test ((seeing.node (map_node trees seen (folds seen seeing) (map_node Held trees tree y))).1 span)
  node_claim (Node-F.Node::Number n) span on_top context env h callees = let j = (fold_number seen seeing n.0).1 span context in before_more here test j.faults _ j.reached (n.1 span context env h callees)
  node_claim (Node-F.Node::Bool b) span on_top context env h callees = λ f r. refl
  node_claim (Node-F.Node::Array None es dots) span on_top context env h callees =
      let js = map (element_alone context) (exprs_seen es) in
      let like = like_first (first_type_of (types_of js)) (exprs_seen es) (types_of js) in
      let count = breaks_if (dots || is_empty (exprs_seen es)) 21 span in
      before_more here test ((faults_of_all js ++ like) ++ count) _ (reached_of_all js)
      (before_more here test (faults_of_all js ++ like) count (reached_of_all js)
      (before_more here test (faults_of_all js) like (reached_of_all js) (elements_pass context env h callees (exprs_seen es) (each_within context env h callees es))))
  node_claim (Node-F.Node::Array (Some t) es dots) span on_top context env h callees =
      let j = (fold_type_expr seen seeing t.0).1 context in
      let parts = and_then j.ty array_in in
      let js = map (element_in context (element_type parts)) (exprs_seen es) in
      let count = array_faults span j.ty parts (length (exprs_seen es)) dots in
      let reached = j.reached ++ reached_of_all js in
      before_more here test ((j.faults ++ faults_of_all js) ++ count) _ reached
      (before_more here test (j.faults ++ faults_of_all js) count reached
      (join here test j.faults (faults_of_all js) j.reached (reached_of_all js) (t.1 context env h callees) (elements_in_pass context env h callees (element_type parts) (exprs_seen es) (each_within context env h callees es))))
  node_claim (Node-F.Node::Name name) span on_top context env h callees = name_passes here test span context name
  node_claim (Node-F.Node::Member e a) span on_top context env h callees = let j = member_typing context e a in before_more here test j.faults _ j.reached (member_passes here test context e a)
  node_claim (Node-F.Call f parametric_args es) span on_top context env h callees =
      call_passes here test context env h callees span f (args_seen parametric_args) (map (λ (p : Held.arg). p.1.1.0) parametric_args) (exprs_seen es) (map (λ (p : Held.expr). denotation p.0) es)
      (each_arg_given parametric_args) (each_given es) (each_arg context env h callees parametric_args) (each_within context env h callees es) (kind_of_call f.name) on_top
  node_claim (Node-F.Node::Tuple es) span on_top context env h callees =
      let js = map (element_alone context) (exprs_seen es) in
      before_more here test (faults_of_all js) _ (reached_of_all js) (elements_pass context env h callees (exprs_seen es) (each_within context env h callees es))
  node_claim (Node-F.Struct name fields None) span on_top context env h callees = struct_passes context env h callees span name fields None (λ struct f r. refl)
  node_claim (Node-F.Struct name fields (Some rest)) span on_top context env h callees =
      let a = alone context (fold_expr seen seeing rest.0) in
      struct_passes context env h callees span name fields (Some (fold_expr seen seeing rest.0)) (λ struct. before_more here test a.faults _ a.reached (expr_alone context env h callees rest))
  node_claim (Node-F.Block block) span on_top context env h callees = block.1 context env h callees
  node_claim (Node-F.If condition taken other) span on_top context env h callees =
      if_passes here test span context (fold_expr seen seeing condition.0) (fold_block seen seeing taken.0) (fold_expr seen seeing other.0) (expr_alone context env h callees condition) (taken.1 context env h callees) (expr_alone context env h callees other)
  node_claim (Node-F.Match e arms) span on_top context env h callees =
      match_passes here test context env h callees span (fold_expr seen seeing e.0) (denotation e.0) (map second_of (map (fold_arm seen seeing) (map (λ (p : Held.arm). p.0) arms))) (expression_gives e.0) (expr_alone context env h callees e) (each_arm arms)
  node_claim (Node-F.For loop) span on_top context env h callees = loop.1 span context env h callees
  node_claim (Node-F.Index e i) span on_top context env h callees =
      let a = alone context (fold_expr seen seeing e.0) in
      let c = alone context (fold_expr seen seeing i.0) in
      let array = unless_type is_array 19 span a.ty in
      let reached = a.reached ++ c.reached in
      before_more here test (((a.faults ++ c.faults) ++ array) ++ unless_type is_unsigned 19 span c.ty) _ reached
      (before_more here test ((a.faults ++ c.faults) ++ array) _ reached
      (before_more here test (a.faults ++ c.faults) array reached
      (join here test a.faults c.faults a.reached c.reached (expr_alone context env h callees e) (expr_alone context env h callees i))))
  node_claim (Node-F.Slice e low high) span on_top context env h callees =
      let a = alone context (fold_expr seen seeing e.0) in
      let c = constant_or_untyped context (fold_expr seen seeing low.0) in
      let d = constant_or_untyped context (fold_expr seen seeing high.0) in
      let three = (a.faults ++ c.judgement.faults) ++ d.judgement.faults in
      let reached = (a.reached ++ c.judgement.reached) ++ d.judgement.reached in
      before_more here test (three ++ slice_faults span a.ty c d) _ reached
      (before_more here test three (slice_faults span a.ty c d) reached
      (join_three here test a.faults c.judgement.faults d.judgement.faults a.reached c.judgement.reached d.judgement.reached (expr_alone context env h callees e)
      (bare_passes here test context (fold_expr seen seeing low.0) (expr_alone context env h callees low)) (bare_passes here test context (fold_expr seen seeing high.0) (expr_alone context env h callees high))))
  node_claim (Node-F.Part e start t) span on_top context env h callees =
      let a = alone context (fold_expr seen seeing e.0) in
      let c = alone context (fold_expr seen seeing start.0) in
      let j = (fold_type_expr seen seeing t.0).1 context in
      let three = (a.faults ++ c.faults) ++ j.faults in
      let bits = unless_type is_bits 18 span a.ty in
      let begin = unless_type is_unsigned 18 span c.ty in
      let target = unless_type is_unsigned 18 span j.ty in
      let reached = (a.reached ++ c.reached) ++ j.reached in
      before_more here test (((three ++ bits) ++ begin) ++ target) _ reached
      (before_more here test ((three ++ bits) ++ begin) target reached
      (before_more here test (three ++ bits) begin reached
      (before_more here test three bits reached
      (join_three here test a.faults c.faults j.faults a.reached c.reached j.reached (expr_alone context env h callees e) (expr_alone context env h callees start) (t.1 context env h callees)))))
  node_claim (Node-F.Field e name) span on_top context env h callees =
      let a = alone context (fold_expr seen seeing e.0) in
      let wrong = unless_type (λ t. is_there (field_type (Some t) name.name)) 19 span a.ty in
      before_more here test (a.faults ++ wrong) _ a.reached (before_more here test a.faults wrong a.reached (expr_alone context env h callees e))
  node_claim (Node-F.Element e at k) span on_top context env h callees =
      let a = pair_or_alone k context (fold_expr seen seeing e.0) in
      let wrong = unless_type (λ t. is_there (part_type t k)) 19 span a.ty in
      before_more here test (a.faults ++ wrong) _ a.reached (before_more here test a.faults wrong a.reached (taken_passes here test k context (fold_expr seen seeing e.0) (e.1 false context env h callees)))
  node_claim (Node-F.Prefix o e) span on_top context env h callees =
      let a = alone context (fold_expr seen seeing e.0) in
      let bits = unless_type is_bits 11 span a.ty in
      before_more here test (a.faults ++ bits) _ a.reached (before_more here test a.faults bits a.reached (expr_alone context env h callees e))
  node_claim (Node-F.Cast e t) span on_top context env h callees =
      let a = alone context (fold_expr seen seeing e.0) in
      let j = (fold_type_expr seen seeing t.0).1 context in
      let from = unless_type is_bits_or_enum 20 span a.ty in
      let to = unless_type is_bits 20 span j.ty in
      let reached = a.reached ++ j.reached in
      before_more here test (((a.faults ++ j.faults) ++ from) ++ to) _ reached
      (before_more here test ((a.faults ++ j.faults) ++ from) to reached
      (before_more here test (a.faults ++ j.faults) from reached
      (join here test a.faults j.faults a.reached j.reached (expr_alone context env h callees e) (t.1 context env h callees))))
  node_claim (Node-F.Binary o l r) span on_top context env h callees =
      let a = alone context (fold_expr seen seeing l.0) in
      let c = alone context (fold_expr seen seeing r.0) in
      let wrong = binary_faults o span (span_of (fold_expr seen seeing l.0)) a.ty (span_of (fold_expr seen seeing r.0)) c.ty in
      let reached = a.reached ++ c.reached in
      before_more here test ((a.faults ++ c.faults) ++ wrong) _ reached
      (before_more here test (a.faults ++ c.faults) wrong reached
      (join here test a.faults c.faults a.reached c.reached (expr_alone context env h callees l) (expr_alone context env h callees r)))

  -- ---- types and patterns

  named_passes : (span : Span) (context : TypeEnv) (name : List ℕ) (b : Bool) → Passes here test (named_type span context name b).faults (named_type span context name b).reached
  named_passes span context name true = λ f r. refl
  named_passes span context name false = λ f r. refl

  type_claim : (y : TypeNodeLevel Held) (span : Span) → TypePasses here test ((seeing.type_node (map_type_node trees seen (folds seen seeing) (map_type_node Held trees tree y))).1 span)
  type_claim (TypeNode-F.Bits s n) span context env h callees = λ f r. refl
  type_claim (TypeNode-F.Wide s e) span context env h callees =
      let n = count_of context (fold_expr seen seeing e.0) in
      before_more here test n.judgement.faults _ n.judgement.reached (count_passes here test context (fold_expr seen seeing e.0) (expr_alone context env h callees e))
  type_claim TypeNode-F.TypeNode::Bool span context env h callees = λ f r. refl
  type_claim (TypeNode-F.TypeNode::Name name) span context env h callees = named_passes span context name (is_of_use AsType (item_named name context.known.whole.items))
  type_claim (TypeNode-F.TypeNode::Tuple ts) span context env h callees =
      let js = inner_types context (map (fold_type_expr seen seeing) (map (λ (p : Held.type_expr). p.0) ts)) in
      before_more here test (faults_of_all js) _ (reached_of_all js) (types_pass context env h callees ts)
  type_claim (TypeNode-F.TypeNode::Array t e) span context env h callees =
      let p = fold_type_expr seen seeing t.0 in
      let j = inner_type context p in
      let n = count_of context (fold_expr seen seeing e.0) in
      before_more here test (j.faults ++ n.judgement.faults) _ (j.reached ++ n.judgement.reached)
      (join here test j.faults n.judgement.faults j.reached n.judgement.reached (before_more here test (p.1 context).faults _ (p.1 context).reached (t.1 context env h callees))
      (count_passes here test context (fold_expr seen seeing e.0) (expr_alone context env h callees e)))

  one_value_passes : (span : Span) (may_fail : Bool) (t : Option DslxType) (names : List (List ℕ)) (locals : List Typed) (own : Judgement) (known : Bool) → Passes here test own.faults own.reached
      → Passes here test (one_value span may_fail t names locals own known).faults (one_value span may_fail t names locals own known).reached
  one_value_passes span may_fail t names locals own known p =
      before_more here test (own.faults ++ shape_faults span t own.ty) _ own.reached (before_more here test own.faults (shape_faults span t own.ty) own.reached p)

  name_pattern_passes : (span : Span) (may_fail : Bool) (context : TypeEnv) (t : Option DslxType) (names : List (List ℕ)) (locals : List Typed) (name : List ℕ) (b : Bool)
      → Passes here test (name_pattern span may_fail context t names locals name b).faults (name_pattern span may_fail context t names locals name b).reached
  name_pattern_passes span may_fail context t names locals name true = λ f r. refl
  name_pattern_passes span may_fail context t names locals name false = λ f r. refl

  shape_claim : (y : ShapeLevel Held) (span : Span) → PatternPasses here test ((seeing.shape (map_shape trees seen (folds seen seeing) (map_shape Held trees tree y))).1 span)
  shape_claim Shape-F.Wild span may_fail context t names locals env h callees = λ f r. refl
  shape_claim (Shape-F.Shape::Bool b) span may_fail context t names locals env h callees = λ f r. refl
  shape_claim (Shape-F.Shape::Number n) span may_fail context t names locals env h callees =
      let own = (fold_number seen seeing n.0).1 span context in
      one_value_passes span may_fail t names locals own (is_there own.ty) (n.1 span context env h callees)
  shape_claim (Shape-F.Shape::Name name) span may_fail context t names locals env h callees = name_pattern_passes span may_fail context t names locals name (context.known.items.is_constant name)
  shape_claim (Shape-F.Shape::Member e a) span may_fail context t names locals env h callees =
      one_value_passes span may_fail t names locals (member_typing context e a) (is_there (context.known.items.member e.name a.name)) (member_passes here test context e a)
  shape_claim (Shape-F.Shape::Tuple ps) span may_fail context t names locals env h callees =
      let patterns = map (fold_pattern seen seeing) (map (λ (p : Held.pattern). p.0) ps) in
      let types = part_types (length patterns) t in
      let parts = parts_typing may_fail context patterns types names locals in
      behind_more here test (tuple_faults span t types) parts.faults parts.reached (parts_pass context env h callees may_fail types names locals ps)

  arm_claim : (y : ArmLevel Held) → ArmPasses here test (seeing.arm (map_arm trees seen (folds seen seeing) (map_arm Held trees tree y))).1
  arm_claim y = record { meanings = map (λ (p : Held.pattern). pattern_denotation p.0) y.patterns; give = each_pattern_gives y.patterns; patterns = each_pattern y.patterns; value = y.value.1 }

  -- ---- statements and blocks

  bind_claim : (y : LetLevel Held) → StatementPasses here test (seeing.bind (map_bind trees seen (folds seen seeing) (map_bind Held trees tree y))).1
  bind_claim y = by_type y.ty
    where
      with_type : Option Held.type_expr → LetLevel Held
      with_type o = record { span = y.span; pattern = y.pattern; ty = o; value = y.value }

      by_type : (o : Option Held.type_expr) → StatementPasses here test (seeing.bind (map_bind trees seen (folds seen seeing) (map_bind Held trees tree (with_type o)))).1
      by_type None = record {
        known = λ on_top context. refl;
        passes = λ on_top context env h callees.
            let value = (fold_expr seen seeing y.value.0).1 on_top context in
            let bound = pattern_alone false context value.ty (fold_pattern seen seeing y.pattern.0) in
            join_three here test value.faults [] bound.faults value.reached [] bound.reached (y.value.1 on_top context env h callees) (λ f r. refl) (y.pattern.1 false context value.ty [] context.locals env h callees);
      }
      by_type (Some t) = record {
        known = λ on_top context. refl;
        passes = λ on_top context env h callees.
            let value = (fold_expr seen seeing y.value.0).1 on_top context in
            let written = (fold_type_expr seen seeing t.0).1 context in
            let wanted = bound_type (Some written) value.ty in
            let bound = pattern_alone false context wanted (fold_pattern seen seeing y.pattern.0) in
            let annotation = annotation_faults (span_of (fold_expr seen seeing y.value.0)) (Some written) value.ty in
            join_three here test value.faults annotation bound.faults value.reached written.reached bound.reached (y.value.1 on_top context env h callees)
            (before_more here test written.faults _ written.reached (t.1 context env h callees)) (y.pattern.1 false context wanted [] context.locals env h callees);
      }

  bare_passes_so : (b : Bool) (span : Span) (j : Judgement) → Passes here test j.faults j.reached → Passes here test (if b then j else no_token span j).faults (if b then j else no_token span j).reached
  bare_passes_so true span j p = p
  bare_passes_so false span j p = unmarked here test span j p

  stmt_claim : (y : StmtLevel Held) → StatementPasses here test (seeing.stmt (map_stmt trees seen (folds seen seeing) (map_stmt Held trees tree y))).1
  stmt_claim (Stmt-F.Let l) = record { known = l.1.known; passes = l.1.passes }
  stmt_claim (Stmt-F.Bare e) = record {
    known = λ on_top context. refl;
    passes = λ on_top context env h callees.
        let p = fold_expr seen seeing e.0 in
        bare_passes_so (on_top && is_effect p.0) (span_of p) (p.1 on_top context) (e.1 on_top context env h callees);
  }

  block_claim : (y : BlockLevel Held) → TypePasses here test ((seeing.block (map_block trees seen (folds seen seeing) (map_block Held trees tree y))).1 false)
  block_claim y = by_value y.value
    where
      with_value : Option Held.expr → BlockLevel Held
      with_value o = record { span = y.span; statements = y.statements; value = o }

      ss : List StatementTyping
      ss = map (λ (s : Stmt × StatementTyping). s.1) (map (fold_stmt seen seeing) (map (λ (p : Held.stmt). p.0) y.statements))

      by_value : (o : Option Held.expr) → TypePasses here test ((seeing.block (map_block trees seen (folds seen seeing) (map_block Held trees tree (with_value o)))).1 false)
      by_value None = block_passes here test y.span ss None (each_stmt y.statements) (λ context env h callees f r. refl)
      by_value (Some e) = block_passes here test y.span ss (Some (fold_expr seen seeing e.0)) (each_stmt y.statements) (λ context env h callees. expr_alone context env h callees e)

  -- ---- loops, numbers and fields

  loop_claim : (y : ForLevel Held) (span : Span) → TypePasses here test ((seeing.loop (map_loop trees seen (folds seen seeing) (map_loop Held trees tree y))).1 span)
  loop_claim y span = by_type y.ty
    where
      with_type : Option Held.type_expr → ForLevel Held
      with_type o = record { index = y.index; accumulator = y.accumulator; ty = o; from = y.from; to = y.to; body = y.body; start = y.start }

      claim : (o : Option Held.type_expr)
          → ((context : TypeEnv) (env : Env) (h : IsWellTypedEnv context env) (callees : CalleesPass here test context.known) → WrittenPasses here test context env h callees (map_loop trees seen (folds seen seeing) (map_loop Held trees tree (with_type o))).ty)
          → TypePasses here test ((seeing.loop (map_loop trees seen (folds seen seeing) (map_loop Held trees tree (with_type o)))).1 span)
      claim o written context env h callees =
          loop_passes here test context env h callees span (span_of_block (fold_block seen seeing y.body.0)) (fold_expr seen seeing y.from.0) (fold_expr seen seeing y.to.0) (fold_expr seen seeing y.start.0)
          (denotation y.from.0) (denotation y.to.0) (denotation y.start.0) (map_loop trees seen (folds seen seeing) (map_loop Held trees tree (with_type o))).ty (fold_pattern seen seeing y.index.0) (fold_pattern seen seeing y.accumulator.0)
          (pattern_denotation y.index.0) (pattern_denotation y.accumulator.0) (fold_block seen seeing y.body.0) (expression_gives y.from.0) (expression_gives y.to.0) (expression_gives y.start.0)
          (expr_alone context env h callees y.from) (expr_alone context env h callees y.to) (expr_alone context env h callees y.start) (written context env h callees) (pattern_gives y.index.0) (pattern_gives y.accumulator.0) y.index.1 y.accumulator.1 y.body.1

      by_type : (o : Option Held.type_expr) → TypePasses here test ((seeing.loop (map_loop trees seen (folds seen seeing) (map_loop Held trees tree (with_type o)))).1 span)
      by_type None = claim None (λ context env h callees. tt)
      by_type (Some t) = claim (Some t) t.1

  number_claim : (y : NumberLevel Held) (span : Span) → TypePasses here test ((seeing.number (map_number trees seen (folds seen seeing) (map_number Held trees tree y))).1 span)
  number_claim y span = by_type y.ty
    where
      with_type : Option Held.type_expr → NumberLevel Held
      with_type o = record { ty = o; is_negative = y.is_negative; value = y.value }

      by_type : (o : Option Held.type_expr) → TypePasses here test ((seeing.number (map_number trees seen (folds seen seeing) (map_number Held trees tree (with_type o)))).1 span)
      by_type None = λ context env h callees f r. refl
      by_type (Some t) = λ context env h callees. let j = (fold_type_expr seen seeing t.0).1 context in before_more here test j.faults _ j.reached (t.1 context env h callees)

  field_claim : (y : FieldValueLevel Held) → FieldPasses here test (seeing.field (map_field trees seen (folds seen seeing) (map_field Held trees tree y))).1
  field_claim y = by_value y.value
    where
      with_value : Option Held.expr → FieldValueLevel Held
      with_value o = record { name = y.name; value = o }

      by_value : (o : Option Held.expr) → FieldPasses here test (seeing.field (map_field trees seen (folds seen seeing) (map_field Held trees tree (with_value o)))).1
      by_value None = λ context struct env h callees.
          let j = name_typing y.name.span context y.name.name in
          let own = no_token y.name.span j in
          before_more here test own.faults _ own.reached (unmarked here test y.name.span j (name_passes here test y.name.span context y.name.name))
      by_value (Some e) = λ context struct env h callees.
          let a = alone context (fold_expr seen seeing e.0) in
          before_more here test a.faults _ a.reached (expr_alone context env h callees e)

  -- ---- the whole

  all_pass : HoldOn passing
  all_pass = record {
    stmt = λ y. moved (λ p. StatementPasses here test p.1) (fold_stmt-roll seen seeing (map_stmt Held trees tree y)) (stmt_claim y);
    node = λ y span. moved (λ p. ExprPasses here test (p.1 span)) (fold_node-roll seen seeing (map_node Held trees tree y)) (node_claim y span);
    shape = λ y span. moved (λ p. PatternPasses here test (p.1 span)) (fold_shape-roll seen seeing (map_shape Held trees tree y)) (shape_claim y span);
    type_node = λ y span. moved (λ p. TypePasses here test (p.1 span)) (fold_type_node-roll seen seeing (map_type_node Held trees tree y)) (type_claim y span);
    block = λ y. moved (λ p. TypePasses here test (p.1 false)) (fold_block-roll seen seeing (map_block Held trees tree y)) (block_claim y);
    bind = λ y. moved (λ p. StatementPasses here test p.1) (fold_bind-roll seen seeing (map_bind Held trees tree y)) (bind_claim y);
    arg = λ y. moved (λ p. ExprPasses here test p.1.1 × ((d : ExprDen) × ExprGives p.1 d)) (fold_arg-roll seen seeing (map_arg Held trees tree y)) (y.value.1, (denotation y.value.0, expression_gives y.value.0));
    arm = λ y. moved (λ p. ArmPasses here test p.1) (fold_arm-roll seen seeing (map_arm Held trees tree y)) (arm_claim y);
    expr = λ y. moved (λ p. ExprPasses here test p.1) (fold_expr-roll seen seeing (map_expr Held trees tree y)) (y.node.1 y.span);
    field = λ y. moved (λ p. FieldPasses here test p.1) (fold_field-roll seen seeing (map_field Held trees tree y)) (field_claim y);
    loop = λ y span. moved (λ p. TypePasses here test (p.1 span)) (fold_loop-roll seen seeing (map_loop Held trees tree y)) (loop_claim y span);
    number = λ y span. moved (λ p. TypePasses here test (p.1 span)) (fold_number-roll seen seeing (map_number Held trees tree y)) (number_claim y span);
    pattern = λ y. moved (λ p. PatternPasses here test p.1) (fold_pattern-roll seen seeing (map_pattern Held trees tree y)) (y.shape.1 y.span);
    type_expr = λ y. moved (λ p. TypePasses here test p.1) (fold_type_expr-roll seen seeing (map_type_expr Held trees tree y)) (y.node.1 y.span);
  }

  pub expression_passes : (e : Expr) → ExprPasses here test (expr_pair e).1
  expression_passes = holds_expr passing all_pass

  pub block_of_text_passes : (b : Block) → TypePasses here test ((block_pair b).1 false)
  block_of_text_passes = holds_block passing all_pass

  pub pattern_of_text_passes : (p : Pattern) → PatternPasses here test (fold_pattern seen seeing p).1
  pattern_of_text_passes = holds_pattern passing all_pass

  pub written_type_passes : (t : TypeExpr) → TypePasses here test (type_pair t).1
  written_type_passes = holds_type_expr passing all_pass
