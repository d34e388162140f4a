-- The induction on all sorts of parts of a tree: each is judged alike where the same is known of what it mentions.
use Rattle.std.proofs.Common.{◌≡◌, ◌||◌, ◌++◌, ◌-◌, ℕ, Bool, true, false, if◌then◌else◌, List, [], ◌∷◌, map, length, Option, Some, None, refl, sym, ap, ◌∙◌}
use Rattle.std.specs.Str.{bytes_eq}
use Rattle.std.specs.List.{list_any}
use Rattle.xb_span.specs.declared.span.Span.{Span}
use Rattle.dslx_tree.specs.declared.block.Block.{Block}
use Rattle.dslx_tree.specs.declared.block.Stmt.{Stmt}
use Rattle.dslx_tree.specs.declared.block.Stmt.TheOpen.{Stmt-F, Node-F, Shape-F, TypeNode-F}
use Rattle.dslx_tree.specs.declared.expr.Expr.{Expr}
use Rattle.dslx_tree.specs.declared.ident.Ident.{Ident}
use Rattle.dslx_tree.specs.declared.type_expr.TypeExpr.{TypeExpr}
use Rattle.dslx_tree.proofs.Lemmas.Folds.Levels.{Carriers, StmtLevel, NodeLevel, ShapeLevel, TypeNodeLevel, BlockLevel, LetLevel, ArmLevel, FieldValueLevel, ForLevel, NumberLevel, map_stmt, map_node, map_shape, map_type_node, map_block, map_bind, map_arm, map_field, map_loop, map_number}
use Rattle.dslx_tree.proofs.Lemmas.Folds.Related.{both, firsts, seconds, KeepRelated, related_expr, related_block, related_type_expr}
use Rattle.dslx_meaning.specs.Callees.{CallKind, Calls, kind_of_call, is_text_function}
use Rattle.dslx_meaning.specs.Lists.{all_some, and_then, is_in, with_both}
use Rattle.dslx_meaning.specs.Meaning.{fitted}
use Rattle.dslx_meaning.specs.declared.ty.DslxType.{DslxType}
use Rattle.dslx_meaning.specs.declared.ty.DslxType as ty
use Rattle.dslx_meaning.specs.declared.value.DslxValue.{DslxValue}
use Rattle.dslx_meaning.specs.Rules.AggregateRules.{field_typing, field_part_typing, field_type, index_typing, number_typing, struct_typing, wanted_faults}
use Rattle.dslx_meaning.specs.Rules.CallRules.{call_typing}
use Rattle.dslx_meaning.specs.Rules.ConstantRules.{ConstantSeen, constant_of}
use Rattle.dslx_meaning.specs.Rules.ControlRules.{alternatives_seen, bound_type, expr_statement_typing, behind, if_typing, last_typing, loop_with, one_alternative, span_of_block, statements_typing, used_after}
use Rattle.dslx_meaning.specs.Rules.EffectNames.{effect_channel}
use Rattle.dslx_meaning.specs.Rules.TypeEnvs.{ExprPair, Judgement, ExprTyping, GlobalEnv, TypeEnv, Typed, alone, constant_env, faults_of_all, no_token, one_and, plus_size, reached_of_all, settled, span_of, types_of, with_typed, limited}
use Rattle.dslx_meaning.specs.Rules.Typings.{PatternTyping, PatternPair, TypeExprTyping, StatementTyping, StatementSeen}
use Rattle.dslx_meaning.specs.Rules.Mentions.{AsFunction, AsStruct, Mention, Mentions, NamesBound, all_mentions, binders_mentions, binders_names, bound_behind, mention, mentioned, mentioned_in_block, mentioned_in_type, mentions_if, statements_mentions}
use Rattle.dslx_meaning.specs.Rules.NodeRules.{block_pair, expr_pair, second_of, type_pair}
use Rattle.dslx_meaning.specs.Rules.OperatorRules.{binary_typing, bound_number, cast_typing, part_typing, prefix_typing, slice_faults}
use Rattle.dslx_meaning.specs.Rules.PatternRules.{first_part_type, is_there, name_pattern, one_value, other_part_types, part_types, parts_typing, pattern_alone, tuple_pattern}
use Rattle.dslx_meaning.specs.Rules.TypeRules.{array_of, counted_type}
use Rattle.dslx_core.specs.Typing.Depends.Alike.{CalleeAlikeFrom, MentionsAlike, NamesAlike, SeesFrom, in_globals}
use Rattle.dslx_core.proofs.OnTyping.OnDepends.Links.{Claims, claimed, typing, expr_typing, mentions, mention_steps, seen_stmt, seen_node, seen_shape, seen_type_node, seen_block, seen_bind, seen_arg, seen_arm, seen_expr, seen_field, seen_loop, seen_number, seen_pattern, seen_type_expr, mentioned_stmt, mentioned_node, mentioned_shape, mentioned_type_node, mentioned_block, mentioned_bind, mentioned_arg, mentioned_arm, mentioned_expr, mentioned_field, mentioned_loop, mentioned_number, mentioned_pattern, mentioned_type_expr}
use Rattle.dslx_core.proofs.OnTyping.OnDepends.OfCalls.{EachGivenSame, IfCalled, call_same}
use Rattle.dslx_core.proofs.OnTyping.OnDepends.OfControl.{ArmSame, EachArmSame, EachPatternSame, PatternKeeps, PatternSame, arm_same, behind_in_globals, let_same, loop_behind, loop_same, match_same, name_pattern_same, parts_same}
use Rattle.dslx_core.proofs.OnTyping.OnDepends.Scopes.{ExprAlike, Keeps, LocalsKeep, TypingsAgree, alike_parts, behind_names, constant_alike, first_part, fits_alike, locals_kept, names_join, second_part, value_alike, with_locals}
use Rattle.dslx_core.proofs.OnTyping.OnSized.Parts.{both_tests}
use Rattle.dslx_core.proofs.OnTyping.OnDepends.Same.{EachFieldSame, EachSame, EachTypeSame, FieldSame, OthersSame, alone_same, array_same, bare_same, constant_same, count_same, frozen, inner_same, inner_types_same, member_same, name_same, named_same, struct_same, tuple_same, untyped_same, element_same}

-- ---- what is to hold of each sort

abbrev pub TypeAlike : (List ℕ → Bool) → TypeExprTyping → Mentions → Type 0
TypeAlike P j ms = (bound : List (List ℕ)) (context : TypeEnv) (other : GlobalEnv) → SeesFrom P bound context other (ms bound) → j context ≡ j (in_globals context other)

-- a pattern, and the names in it, which are bound or constants of which the same is known
pub record PatternAlike (P : List ℕ → Bool) (p : PatternTyping) (n : NamesBound) : Type 0 where
  pub typing : (bound : List (List ℕ)) (context : TypeEnv) (other : GlobalEnv) → SeesFrom P bound context other (n.mentions bound) → PatternSame context other p
  pub names : (bound : List (List ℕ)) (owner : List ℕ) (a b : GlobalEnv) → MentionsAlike a b owner (n.mentions bound) → NamesAlike a b n.names
  pub keeps : (context : TypeEnv) → PatternKeeps context p

pub record StatementAlike (P : List ℕ → Bool) (s : StatementTyping) (n : NamesBound) : Type 0 where
  pub known : (on_top : Bool) (context : TypeEnv) → (s on_top context).context.known ≡ context.known
  pub owner : (on_top : Bool) (context : TypeEnv) → (s on_top context).context.owner ≡ context.owner
  pub typing : (bound : List (List ℕ)) (on_top : Bool) (context : TypeEnv) (other : GlobalEnv) → SeesFrom P bound context other (n.mentions bound)
      → s on_top (in_globals context other) ≡ behind_in_globals (s on_top context) other
  pub names : (bound : List (List ℕ)) (owner : List ℕ) (a b : GlobalEnv) → MentionsAlike a b owner (n.mentions bound) → NamesAlike a b n.names
  pub keeps : (on_top : Bool) (context : TypeEnv) → Keeps context (s on_top context).context

abbrev pub alike : (List ℕ → Bool) → Claims
alike P = record {
  stmt = StatementAlike P;
  node = λ j ms. (span : Span) → TypingsAgree P (j span) ms;
  shape = λ p n. (span : Span) → PatternAlike P (p span) n;
  type_node = λ j ms. (span : Span) → TypeAlike P (j span) ms;
  block = TypingsAgree P;
  bind = StatementAlike P;
  arg = ExprAlike P;
  arm = λ a ms. (bound : List (List ℕ)) (context : TypeEnv) (other : GlobalEnv) → SeesFrom P bound context other (ms bound) → ArmSame context other a;
  expr = TypingsAgree P;
  field = λ f ms. (bound : List (List ℕ)) (context : TypeEnv) (other : GlobalEnv) → SeesFrom P bound context other (ms bound) → FieldSame context other f;
  loop = λ j ms. (span : Span) → TypeAlike P (j span) ms;
  number = λ j ms. (span : Span) → TypeAlike P (j span) ms;
  pattern = PatternAlike P;
  type_expr = TypeAlike P;
}

module _ (P : List ℕ → Bool) where
  abbrev Parts : Carriers
  Parts = both typing mentions (claimed (alike P))

  abbrev ExprPart : Type 0
  ExprPart = Parts.expr

  abbrev ArgPart : Type 0
  ArgPart = Parts.arg

  abbrev FieldPart : Type 0
  FieldPart = Parts.field

  abbrev ArmPart : Type 0
  ArmPart = Parts.arm

  abbrev PatternPart : Type 0
  PatternPart = Parts.pattern

  abbrev TypePart : Type 0
  TypePart = Parts.type_expr

  abbrev StmtPart : Type 0
  StmtPart = Parts.stmt

  abbrev typing_of_node : NodeLevel Parts → Span → ExprTyping
  typing_of_node x = (expr_typing.node (map_node Parts typing (firsts typing mentions (claimed (alike P))) x)).1

  abbrev mentions_of_node : NodeLevel Parts → Mentions
  mentions_of_node x = mention_steps.node (map_node Parts mentions (seconds typing mentions (claimed (alike P))) x)

  -- what is seen alike
  abbrev Sees : List (List ℕ) → TypeEnv → GlobalEnv → List Mention → Type 0
  Sees bound context other ms = SeesFrom P bound context other ms

  one : (bound : List (List ℕ)) (context : TypeEnv) (other : GlobalEnv) (xs ys : List Mention) → Sees bound context other (xs ++ ys) → Sees bound context other xs
  one bound context other xs ys h = first_part P bound context other xs ys h

  two : (bound : List (List ℕ)) (context : TypeEnv) (other : GlobalEnv) (xs ys : List Mention) → Sees bound context other (xs ++ ys) → Sees bound context other ys
  two bound context other xs ys h = second_part P bound context other xs ys h

  -- ---- lists of parts

  expr_alike : (p : ExprPart) → ExprAlike P p.0 p.1
  expr_alike p = record { pair = p.2.0; mentions = p.2.1; typing = p.2.2 }

  exprs_alike : (bound : List (List ℕ)) (context : TypeEnv) (other : GlobalEnv) (ps : List ExprPart) → Sees bound context other (all_mentions (map (λ (p : ExprPart). p.1) ps) bound) → EachSame context other (map (λ (p : ExprPart). p.0) ps)
  exprs_alike bound context other [] h = tt
  exprs_alike bound context other (p ∷ ps) h =
      let rest = all_mentions (map (λ (q : ExprPart). q.1) ps) bound in
      (p.2.2 bound false context other (one bound context other (p.1 bound) rest h), exprs_alike bound context other ps (two bound context other (p.1 bound) rest h))

  args_alike : (bound : List (List ℕ)) (context : TypeEnv) (other : GlobalEnv) (ps : List ArgPart) → Sees bound context other (all_mentions (map (λ (p : ArgPart). p.1) ps) bound) → EachGivenSame context other (map (λ (p : ArgPart). p.0) ps)
  args_alike bound context other [] h = tt
  args_alike bound context other (p ∷ ps) h =
      let rest = all_mentions (map (λ (q : ArgPart). q.1) ps) bound in (
        constant_same P context other p.0.1 h.known (constant_alike P p.0.1 p.1 p.2.2 bound context other (one bound context other (p.1 bound) rest h)),
        args_alike bound context other ps (two bound context other (p.1 bound) rest h),
      )

  types_alike : (bound : List (List ℕ)) (context : TypeEnv) (other : GlobalEnv) (ps : List TypePart) → Sees bound context other (all_mentions (map (λ (p : TypePart). p.1) ps) bound) → EachTypeSame context other (map (λ (p : TypePart). p.0) ps)
  types_alike bound context other [] h = tt
  types_alike bound context other (p ∷ ps) h =
      let rest = all_mentions (map (λ (q : TypePart). q.1) ps) bound in
      (p.2.2 bound context other (one bound context other (p.1 bound) rest h), types_alike bound context other ps (two bound context other (p.1 bound) rest h))

  fields_alike : (bound : List (List ℕ)) (context : TypeEnv) (other : GlobalEnv) (ps : List FieldPart) → Sees bound context other (all_mentions (map (λ (p : FieldPart). p.1) ps) bound)
      → EachFieldSame context other (map second_of (map (λ (p : FieldPart). p.0) ps))
  fields_alike bound context other [] h = tt
  fields_alike bound context other (p ∷ ps) h =
      let rest = all_mentions (map (λ (q : FieldPart). q.1) ps) bound in
      (p.2.2 bound context other (one bound context other (p.1 bound) rest h), fields_alike bound context other ps (two bound context other (p.1 bound) rest h))

  arms_alike : (bound : List (List ℕ)) (context : TypeEnv) (other : GlobalEnv) (ps : List ArmPart) → Sees bound context other (all_mentions (map (λ (p : ArmPart). p.1) ps) bound)
      → EachArmSame context other (map second_of (map (λ (p : ArmPart). p.0) ps))
  arms_alike bound context other [] h = tt
  arms_alike bound context other (p ∷ ps) h =
      let rest = all_mentions (map (λ (q : ArmPart). q.1) ps) bound in
      (p.2.2 bound context other (one bound context other (p.1 bound) rest h), arms_alike bound context other ps (two bound context other (p.1 bound) rest h))

  patterns_alike : (bound : List (List ℕ)) (context : TypeEnv) (other : GlobalEnv) (ps : List PatternPart) → Sees bound context other (binders_mentions (map (λ (p : PatternPart). p.1) ps) bound)
      → EachPatternSame context other (map (λ (p : PatternPart). p.0) ps)
  patterns_alike bound context other [] h = tt
  patterns_alike bound context other (p ∷ ps) h =
      let rest = binders_mentions (map (λ (q : PatternPart). q.1) ps) bound in
      (p.2.2.typing bound context other (one bound context other (p.1.mentions bound) rest h), patterns_alike bound context other ps (two bound context other (p.1.mentions bound) rest h))

  binders_alike : (bound : List (List ℕ)) (owner : List ℕ) (a b : GlobalEnv) (ps : List PatternPart) → MentionsAlike a b owner (binders_mentions (map (λ (p : PatternPart). p.1) ps) bound)
      → NamesAlike a b (binders_names (map (λ (p : PatternPart). p.1) ps))
  binders_alike bound owner a b [] h = tt
  binders_alike bound owner a b (p ∷ ps) h =
      let rest = binders_mentions (map (λ (q : PatternPart). q.1) ps) bound in
      let r = alike_parts a b owner (p.1.mentions bound) rest h in
      names_join a b p.1.names (binders_names (map (λ (q : PatternPart). q.1) ps)) (p.2.2.names bound owner a b r.0) (binders_alike bound owner a b ps r.1)

  -- ---- expressions

  alone_alike : (bound : List (List ℕ)) (context : TypeEnv) (other : GlobalEnv) (e : ExprPart) → Sees bound context other (e.1 bound) → alone context e.0 ≡ alone (in_globals context other) e.0
  alone_alike bound context other e h = alone_same context other e.0 (e.2.2 bound false context other h)

  call_alike : (kind : CallKind) (span : Span) (name : Ident) (parametric_args : List ArgPart) (es : List ExprPart) (bound : List (List ℕ)) (on_top : Bool) (context : TypeEnv) (other : GlobalEnv)
      → Sees bound context other (((if is_text_function kind then mention AsFunction name.name else []) ++ all_mentions (map (λ (p : ArgPart). p.1) parametric_args) bound) ++ all_mentions (map (λ (p : ExprPart). p.1) es) bound)
      → call_typing kind span name (map (λ (p : ArgPart). p.0) parametric_args) (map (λ (p : ExprPart). p.0) es) on_top context
      ≡ call_typing kind span name (map (λ (p : ArgPart). p.0) parametric_args) (map (λ (p : ExprPart). p.0) es) on_top (in_globals context other)
  call_alike kind span name parametric_args es bound on_top context other h =
      let own : List Mention = if is_text_function kind then mention AsFunction name.name else [] in
      let given = all_mentions (map (λ (p : ArgPart). p.1) parametric_args) bound in
      let operands = all_mentions (map (λ (p : ExprPart). p.1) es) bound in
      let first = one bound context other (own ++ given) operands h in
      call_same P kind span name (map (λ (p : ArgPart). p.0) parametric_args) (map (λ (p : ExprPart). p.0) es) on_top context other h.known (args_alike bound context other parametric_args (two bound context other own given first))
      (exprs_alike bound context other es (two bound context other (own ++ given) operands h)) (by_kind kind (one bound context other own given first))
    where
      by_kind : (kind : CallKind) → Sees bound context other (if is_text_function kind then mention AsFunction name.name else [])
          → IfCalled kind (CalleeAlikeFrom context.known other context.owner name.name)
      by_kind Calls g = g.alike.0
      by_kind _ g = tt

  struct_alike : (span : Span) (name : Ident) (fields : List FieldPart) (rest : Option ExprPair) (ms : Mentions) → ((bound : List (List ℕ)) (context : TypeEnv) (other : GlobalEnv) → Sees bound context other (ms bound) → OthersSame context other rest)
      → (bound : List (List ℕ)) (context : TypeEnv) (other : GlobalEnv) → Sees bound context other ((mention AsStruct name.name ++ all_mentions (map (λ (p : FieldPart). p.1) fields) bound) ++ ms bound)
      → struct_typing span context name (map second_of (map (λ (p : FieldPart). p.0) fields)) rest ≡ struct_typing span (in_globals context other) name (map second_of (map (λ (p : FieldPart). p.0) fields)) rest
  struct_alike span name fields rest ms others bound context other h =
      let own = mention AsStruct name.name in
      let each = all_mentions (map (λ (p : FieldPart). p.1) fields) bound in
      let first = one bound context other (own ++ each) (ms bound) h in
      struct_same P span context other name (map second_of (map (λ (p : FieldPart). p.0) fields)) rest h.known (one bound context other own each first).alike.0
      (fields_alike bound context other fields (two bound context other own each first)) (others bound context other (two bound context other (own ++ each) (ms bound) h))

  -- a slice, by its bounds
  abbrev slice_by : Span → Judgement → ConstantSeen → ConstantSeen → Judgement
  slice_by span whole from to =
      settled span (and_then whole.ty (λ t. with_both (bound_number from) (bound_number to) (λ i j. Some (ty.Bits false (j - i)))))
      (whole.faults ++ from.judgement.faults ++ to.judgement.faults ++ slice_faults span whole.ty from to)
      (whole.reached ++ from.judgement.reached ++ to.judgement.reached)
      (one_and (plus_size whole.size (plus_size from.judgement.size to.judgement.size)))

  node_alike : (x : NodeLevel Parts) (span : Span) → TypingsAgree P (typing_of_node x span) (mentions_of_node x)
  node_alike (Node-F.Node::Number n) span bound on_top context other h = ap (limited span) (n.2.2 span bound context other h)
  node_alike (Node-F.Node::Bool bit) span bound on_top context other h = refl
  node_alike (Node-F.Node::Array None es dots) span bound on_top context other h = untyped_same span context other (map (λ (p : ExprPart). p.0) es) dots (exprs_alike bound context other es h)
  node_alike (Node-F.Node::Array (Some t) es dots) span bound on_top context other h =
      let rest = all_mentions (map (λ (p : ExprPart). p.1) es) bound in
      array_same span context other (t.0.1 context) (t.0.1 (in_globals context other)) (map (λ (p : ExprPart). p.0) es) dots (t.2.2 bound context other (one bound context other (t.1 bound) rest h))
      (exprs_alike bound context other es (two bound context other (t.1 bound) rest h))
  node_alike (Node-F.Node::Name name) span bound on_top context other h = name_same P span context other name h.known (value_alike context other bound name h.hidden h.alike)
  node_alike (Node-F.Node::Member e a) span bound on_top context other h = ap (limited span) (member_same P context other e a h.known h.alike.0)
  node_alike (Node-F.Call f parametric_args es) span bound on_top context other h = call_alike (kind_of_call f.name) span f parametric_args es bound on_top context other h
  node_alike (Node-F.Node::Tuple es) span bound on_top context other h = tuple_same span context other (map (λ (p : ExprPart). p.0) es) (exprs_alike bound context other es h)
  node_alike (Node-F.Struct name fields None) span bound on_top context other h = struct_alike span name fields None (mentions_if None) (λ bound context other h. tt) bound context other h
  node_alike (Node-F.Struct name fields (Some rest)) span bound on_top context other h = struct_alike span name fields (Some rest.0) (mentions_if (Some rest.1)) (λ bound context other h. rest.2.2 bound false context other h) bound context other h
  node_alike (Node-F.Block b) span bound on_top context other h = b.2.2 bound false context other h
  node_alike (Node-F.If c a b) span bound on_top context other h =
      let front = one bound context other (c.1 bound ++ a.1 bound) (b.1 bound) h in
      let test = c.2.2 bound false context other (one bound context other (c.1 bound) (a.1 bound) front) in
      let taken = a.2.2 bound false context other (two bound context other (c.1 bound) (a.1 bound) front) in
      let last = b.2.2 bound false context other (two bound context other (c.1 bound ++ a.1 bound) (b.1 bound) h) in
      λ i. if_typing span context (frozen c.0 (test i)) (a.0.0, λ on_top s. taken i) (frozen b.0 (last i))
  node_alike (Node-F.Match e arms) span bound on_top context other h =
      let rest = all_mentions (map (λ (p : ArmPart). p.1) arms) bound in
      match_same P span context other e.0 (map second_of (map (λ (p : ArmPart). p.0) arms)) h.known h.enums (e.2.2 bound false context other (one bound context other (e.1 bound) rest h))
      (arms_alike bound context other arms (two bound context other (e.1 bound) rest h))
  node_alike (Node-F.For f) span bound on_top context other h = f.2.2 span bound context other h
  node_alike (Node-F.Index e k) span bound on_top context other h =
      let whole = e.2.2 bound false context other (one bound context other (e.1 bound) (k.1 bound) h) in
      let place = k.2.2 bound false context other (two bound context other (e.1 bound) (k.1 bound) h) in
      λ i. index_typing span context (frozen e.0 (whole i)) (frozen k.0 (place i))
  node_alike (Node-F.Slice e a b) span bound on_top context other h =
      let front = one bound context other (e.1 bound ++ a.1 bound) (b.1 bound) h in
      let whole = alone_alike bound context other e (one bound context other (e.1 bound) (a.1 bound) front) in
      let from = bare_same P context other a.0 h.known (constant_alike P a.0 a.1 (expr_alike a) bound context other (two bound context other (e.1 bound) (a.1 bound) front)) in
      let to = bare_same P context other b.0 h.known (constant_alike P b.0 b.1 (expr_alike b) bound context other (two bound context other (e.1 bound ++ a.1 bound) (b.1 bound) h)) in
      λ i. slice_by span (whole i) (from i) (to i)
  node_alike (Node-F.Part e k t) span bound on_top context other h =
      let front = one bound context other (e.1 bound ++ k.1 bound) (t.1 bound) h in
      let whole = e.2.2 bound false context other (one bound context other (e.1 bound) (k.1 bound) front) in
      let start = k.2.2 bound false context other (two bound context other (e.1 bound) (k.1 bound) front) in
      let target = t.2.2 bound context other (two bound context other (e.1 bound ++ k.1 bound) (t.1 bound) h) in
      λ i. part_typing span context (frozen e.0 (whole i)) (frozen k.0 (start i)) (target i)
  node_alike (Node-F.Field e name) span bound on_top context other h = λ i. field_part_typing span context (frozen e.0 (e.2.2 bound false context other h i)) name
  node_alike (Node-F.Element e place k) span bound on_top context other h = element_same span context other e.0 k (e.2.2 bound false context other h)
  node_alike (Node-F.Prefix o e) span bound on_top context other h = λ i. prefix_typing span context (frozen e.0 (e.2.2 bound false context other h i))
  node_alike (Node-F.Cast e t) span bound on_top context other h =
      let source = e.2.2 bound false context other (one bound context other (e.1 bound) (t.1 bound) h) in
      let target = t.2.2 bound context other (two bound context other (e.1 bound) (t.1 bound) h) in
      λ i. cast_typing span context (frozen e.0 (source i)) (target i)
  node_alike (Node-F.Binary o l r) span bound on_top context other h =
      let left = l.2.2 bound false context other (one bound context other (l.1 bound) (r.1 bound) h) in
      let right = r.2.2 bound false context other (two bound context other (l.1 bound) (r.1 bound) h) in
      λ i. binary_typing span context o (frozen l.0 (left i)) (frozen r.0 (right i))

  -- ---- types and patterns

  type_alike : (x : TypeNodeLevel Parts) (span : Span) → TypeAlike P ((expr_typing.type_node (map_type_node Parts typing (firsts typing mentions (claimed (alike P))) x)).1 span)
      (mention_steps.type_node (map_type_node Parts mentions (seconds typing mentions (claimed (alike P))) x))
  type_alike (TypeNode-F.Bits signed width) span bound context other h = refl
  type_alike (TypeNode-F.Wide signed e) span bound context other h =
      ap (λ n. counted_type span (and_then n.count (λ w. Some (ty.Bits signed w))) [] n) (count_same P context other e.0 h.known (constant_alike P e.0 e.1 (expr_alike e) bound context other h))
  type_alike TypeNode-F.TypeNode::Bool span bound context other h = refl
  type_alike (TypeNode-F.TypeNode::Name name) span bound context other h = named_same P span context other name h.known h.alike.0
  type_alike (TypeNode-F.TypeNode::Tuple ts) span bound context other h =
      ap (λ js. settled span (and_then (all_some (types_of js)) (λ ts. Some (ty.Tuple ts))) (faults_of_all js) (reached_of_all js) (Some 0)) (inner_types_same context other (map (λ (p : TypePart). p.0) ts) (types_alike bound context other ts h))
  type_alike (TypeNode-F.TypeNode::Array t e) span bound context other h =
      let element = inner_same context other t.0 (t.2.2 bound context other (one bound context other (t.1 bound) (e.1 bound) h)) in
      let size = count_same P context other e.0 h.known (constant_alike P e.0 e.1 (expr_alike e) bound context other (two bound context other (t.1 bound) (e.1 bound) h)) in
      λ i. array_of span (element i) (size i)

  parts_keep : (context : TypeEnv) (ps : List PatternPart) (may_fail : Bool) (ts : Option (List DslxType)) (names : List (List ℕ)) (locals : List Typed) → LocalsKeep locals (parts_typing may_fail context (map (λ (p : PatternPart). p.0) ps) ts names locals).locals
  parts_keep context [] may_fail ts names locals name q = q
  parts_keep context (p ∷ ps) may_fail ts names locals name q =
      let first = p.0.1 may_fail context (first_part_type ts) names locals in
      parts_keep context ps may_fail (other_part_types ts) first.names first.locals name (p.2.2.keeps context may_fail (first_part_type ts) names locals name q)

  shape_alike : (x : ShapeLevel Parts) (span : Span) → PatternAlike P ((expr_typing.shape (map_shape Parts typing (firsts typing mentions (claimed (alike P))) x)).1 span)
      (mention_steps.shape (map_shape Parts mentions (seconds typing mentions (claimed (alike P))) x))
  shape_alike Shape-F.Wild span = record { typing = λ bound context other h may_fail t names locals. refl; names = λ bound owner a b h. tt; keeps = λ context may_fail t names locals name q. q }
  shape_alike (Shape-F.Shape::Bool bit) span = record { typing = λ bound context other h may_fail t names locals. refl; names = λ bound owner a b h. tt; keeps = λ context may_fail t names locals name q. q }
  shape_alike (Shape-F.Shape::Number n) span = record {
    typing = λ bound context other h may_fail t names locals. ap (λ (j : Judgement). one_value span may_fail t names locals j (is_there j.ty)) (n.2.2 span bound context other h);
    names = λ bound owner a b h. tt;
    keeps = λ context may_fail t names locals name q. q;
  }
  shape_alike (Shape-F.Shape::Name name) span = record {
    typing = λ bound context other h may_fail t names locals. name_pattern_same P span context other name h.known h.alike.0 may_fail t names locals;
    names = λ bound owner a b h. (h.0, tt);
    keeps = λ context may_fail t names locals other q. name_keeps context may_fail t names locals other q (context.known.items.is_constant name);
  }
    where
      name_keeps : (context : TypeEnv) (may_fail : Bool) (t : Option DslxType) (names : List (List ℕ)) (locals : List Typed) (other : List ℕ) → is_in other (map (λ (l : Typed). l.name) locals) ≡ true → (b : Bool)
          → is_in other (map (λ (l : Typed). l.name) (name_pattern span may_fail context t names locals name b).locals) ≡ true
      name_keeps context may_fail t names locals other q true = q
      name_keeps context may_fail t names locals other q false = by_first (bytes_eq other name)
        where
          by_first : (b : Bool) → (if b then true else is_in other (map (λ (l : Typed). l.name) locals)) ≡ true
          by_first true = refl
          by_first false = q
  shape_alike (Shape-F.Shape::Member e a) span = record {
    typing = λ bound context other h may_fail t names locals. λ i. one_value span may_fail t names locals (member_same P context other e a h.known h.alike.0 i) (is_there (h.alike.0.members a.name i));
    names = λ bound owner a b h. tt;
    keeps = λ context may_fail t names locals name q. q;
  }
  shape_alike (Shape-F.Shape::Tuple ps) span = record {
    typing = λ bound context other h may_fail t names locals.
        let qs = map (λ (p : PatternPart). p.0) ps in
        ap (tuple_pattern span t (part_types (length qs) t)) (parts_same context other qs (patterns_alike bound context other ps h) may_fail (part_types (length qs) t) names locals);
    names = λ bound owner a b h. binders_alike bound owner a b ps h;
    keeps = λ context may_fail t names locals. parts_keep context ps may_fail (part_types (length (map (λ (p : PatternPart). p.0) ps)) t) names locals;
  }

  -- what alternatives bind
  behind_alike : (bound : List (List ℕ)) (owner : List ℕ) (a b : GlobalEnv) (ps : List PatternPart) → MentionsAlike a b owner (binders_mentions (map (λ (p : PatternPart). p.1) ps) bound)
      → NamesAlike a b (bound_behind (map (λ (p : PatternPart). p.1) ps))
  behind_alike bound owner a b [] h = tt
  behind_alike bound owner a b (p ∷ []) h = p.2.2.names bound owner a b (alike_parts a b owner (p.1.mentions bound) [] h).0
  behind_alike bound owner a b (p ∷ q ∷ ps) h = tt

  fits_any : (bound : List (List ℕ)) (context : TypeEnv) (other : GlobalEnv) (t : Option DslxType) (ps : List PatternPart) → Sees bound context other (binders_mentions (map (λ (p : PatternPart). p.1) ps) bound)
      → (alternatives_seen context t (map (λ (p : PatternPart). p.0) ps)).is_known ≡ true → (v : DslxValue)
      → list_any (λ (p : PatternPair). is_there (fitted p.0 v (constant_env context))) (map (λ (p : PatternPart). p.0) ps)
      ≡ list_any (λ (p : PatternPair). is_there (fitted p.0 v (constant_env (in_globals context other)))) (map (λ (p : PatternPart). p.0) ps)
  fits_any bound context other t [] h k v = refl
  fits_any bound context other t (p ∷ ps) h k v =
      let rest = binders_mentions (map (λ (q : PatternPart). q.1) ps) bound in
      let behind = alternatives_seen context t (map (λ (q : PatternPart). q.0) ps) in
      let r = both_tests (one_alternative context t p.0 behind).is_known behind.is_known k in
      λ i. fits_alike P p.0.0 p.0 p.1 p.2.0 p.2.1 bound context other (one bound context other (p.1.mentions bound) rest h) true t [] behind.locals r.0 v i
      || fits_any bound context other t ps (two bound context other (p.1.mentions bound) rest h) r.1 v i

  -- alternatives add to the locals
  alternatives_keep : (context : TypeEnv) (t : Option DslxType) (ps : List PatternPart) → LocalsKeep context.locals (alternatives_seen context t (map (λ (p : PatternPart). p.0) ps)).locals
  alternatives_keep context t [] name q = q
  alternatives_keep context t (p ∷ ps) name q = p.2.2.keeps context true t [] (alternatives_seen context t (map (λ (o : PatternPart). o.0) ps)).locals name (alternatives_keep context t ps name q)

  arm_alike : (x : ArmLevel Parts) (bound : List (List ℕ)) (context : TypeEnv) (other : GlobalEnv)
      → Sees bound context other (mention_steps.arm (map_arm Parts mentions (seconds typing mentions (claimed (alike P))) x) bound)
      → ArmSame context other (expr_typing.arm (map_arm Parts typing (firsts typing mentions (claimed (alike P))) x)).1
  arm_alike x bound context other h =
      let own = binders_mentions (map (λ (p : PatternPart). p.1) x.patterns) bound in
      let names = bound_behind (map (λ (p : PatternPart). p.1) x.patterns) in
      let inner = x.value.1 (names ++ bound) in
      let first = one bound context other own inner h in
      let same_names = behind_alike bound context.owner context.known other x.patterns first.alike in
      let last = two bound context other own inner h in
      record {
        fits = λ t k v. fits_any bound context other t x.patterns first k v;
        typing = λ t. arm_same context other t (expr_typing.arm (map_arm Parts typing (firsts typing mentions (claimed (alike P))) x)).1 (patterns_alike bound context other x.patterns first)
            (let locals = (alternatives_seen context t (map (λ (p : PatternPart). p.0) x.patterns)).locals in
            x.value.2.2 (names ++ bound) false (with_typed context locals) other (with_locals P names bound context locals other inner (alternatives_keep context t x.patterns) same_names last));
      }

  -- ---- statements and blocks

  bind_alike : (x : LetLevel Parts) → StatementAlike P (expr_typing.bind (map_bind Parts typing (firsts typing mentions (claimed (alike P))) x)).1 (mention_steps.bind (map_bind Parts mentions (seconds typing mentions (claimed (alike P))) x))
  bind_alike x = by_type x.ty
    where
      by_type : (o : Option TypePart)
          → StatementAlike P (expr_typing.bind (map_bind Parts typing (firsts typing mentions (claimed (alike P))) (record { span = x.span; pattern = x.pattern; ty = o; value = x.value }))).1
          (mention_steps.bind (map_bind Parts mentions (seconds typing mentions (claimed (alike P))) (record { span = x.span; pattern = x.pattern; ty = o; value = x.value })))
      by_type None = record {
        known = λ on_top context. refl;
        owner = λ on_top context. refl;
        typing = λ bound on_top context other h.
            let_same context other x.value.0 (span_of x.value.0) on_top None None x.pattern.0 (x.value.2.2 bound on_top context other (one bound context other (x.value.1 bound) (x.pattern.1.mentions bound) h)) refl
            (x.pattern.2.2.typing bound context other (two bound context other (x.value.1 bound) (x.pattern.1.mentions bound) h));
        names = λ bound owner a b h. x.pattern.2.2.names bound owner a b (alike_parts a b owner (x.value.1 bound) (x.pattern.1.mentions bound) h).1;
        keeps = λ on_top context. locals_kept context (pattern_alone false context (x.value.0.1 on_top context).ty x.pattern.0).locals (used_after (effect_channel x.value.0.0) context.used)
            (x.pattern.2.2.keeps context false (x.value.0.1 on_top context).ty [] context.locals);
      }
      by_type (Some t) = record {
        known = λ on_top context. refl;
        owner = λ on_top context. refl;
        typing = λ bound on_top context other h.
            let front = one bound context other (t.1 bound ++ x.value.1 bound) (x.pattern.1.mentions bound) h in
            let_same context other x.value.0 (span_of x.value.0) on_top (Some (t.0.1 context)) (Some (t.0.1 (in_globals context other))) x.pattern.0
            (x.value.2.2 bound on_top context other (two bound context other (t.1 bound) (x.value.1 bound) front))
            (ap (λ j. Some j) (t.2.2 bound context other (one bound context other (t.1 bound) (x.value.1 bound) front)))
            (x.pattern.2.2.typing bound context other (two bound context other (t.1 bound ++ x.value.1 bound) (x.pattern.1.mentions bound) h));
        names = λ bound owner a b h. x.pattern.2.2.names bound owner a b (alike_parts a b owner (t.1 bound ++ x.value.1 bound) (x.pattern.1.mentions bound) h).1;
        keeps = λ on_top context. let wanted = bound_type (Some (t.0.1 context)) (x.value.0.1 on_top context).ty in
            locals_kept context (pattern_alone false context wanted x.pattern.0).locals (used_after (effect_channel x.value.0.0) context.used) (x.pattern.2.2.keeps context false wanted [] context.locals);
      }

  -- an expression as a statement
  abbrev bare_by : ExprPair → Bool → TypeEnv → Judgement → StatementSeen
  bare_by e on_top context j =
      let k = expr_statement_typing on_top e j in
      record { context = behind context context.locals e.0; faults = k.faults; reached = k.reached; size = k.size }

  stmt_alike : (x : StmtLevel Parts) → StatementAlike P (expr_typing.stmt (map_stmt Parts typing (firsts typing mentions (claimed (alike P))) x)).1 (mention_steps.stmt (map_stmt Parts mentions (seconds typing mentions (claimed (alike P))) x))
  stmt_alike (Stmt-F.Let l) = record { known = l.2.2.known; owner = l.2.2.owner; typing = l.2.2.typing; names = l.2.2.names; keeps = l.2.2.keeps }
  stmt_alike (Stmt-F.Bare e) = record {
    known = λ on_top context. refl;
    owner = λ on_top context. refl;
    typing = λ bound on_top context other h. sym (ap (bare_by e.0 on_top (in_globals context other)) (e.2.2 bound on_top context other h));
    names = λ bound owner a b h. tt;
    keeps = λ on_top context. locals_kept context context.locals (used_after (effect_channel e.0.0) context.used) (λ name q. q);
  }

  abbrev typings_of : List StmtPart → List StatementTyping
  typings_of ss = map (λ (s : Stmt × StatementTyping). s.1) (map (λ (s : StmtPart). s.0) ss)

  -- a statement, and the rest
  abbrev both_seen : StatementSeen → StatementSeen → StatementSeen
  both_seen first rest = record { context = rest.context; faults = first.faults ++ rest.faults; reached = first.reached ++ rest.reached; size = plus_size first.size rest.size }

  -- all statements, and the last expression behind them
  record WalkSame (ss : List StatementTyping) (value : Option ExprPair) (on_top : Bool) (context : TypeEnv) (other : GlobalEnv) : Type 0 where
    walked : statements_typing ss on_top (in_globals context other) ≡ behind_in_globals (statements_typing ss on_top context) other
    last : last_typing (statements_typing ss on_top context).context value ≡ last_typing (in_globals (statements_typing ss on_top context).context other) value

  statements_alike : (value : Option ExprPair) (ms : Mentions) → ((bound : List (List ℕ)) (context : TypeEnv) (other : GlobalEnv) → Sees bound context other (ms bound) → last_typing context value ≡ last_typing (in_globals context other) value)
      → (ss : List StmtPart) (bound : List (List ℕ)) (on_top : Bool) (context : TypeEnv) (other : GlobalEnv) → Sees bound context other (statements_mentions (map (λ (s : StmtPart). s.1) ss) ms bound)
      → WalkSame (typings_of ss) value on_top context other
  statements_alike value ms end [] bound on_top context other h = record { walked = refl; last = end bound context other h }
  statements_alike value ms end (s ∷ ss) bound on_top context other h =
      let behind = statements_mentions (map (λ (q : StmtPart). q.1) ss) ms (s.1.names ++ bound) in
      let own = one bound context other (s.1.mentions bound) behind h in
      let first = s.0.1 on_top context in
      let moved = behind_names P s.1.names bound context first.context other behind (s.2.2.known on_top context) (s.2.2.owner on_top context) (s.2.2.keeps on_top context) (s.2.2.names bound context.owner context.known other own.alike)
      (two bound context other (s.1.mentions bound) behind h) in
      let more = statements_alike value ms end ss (s.1.names ++ bound) on_top first.context other moved in
      record {
        walked = (λ i. let x = s.2.2.typing bound on_top context other own i in both_seen x (statements_typing (typings_of ss) on_top x.context)) ∙ (λ i. both_seen (behind_in_globals first other) (more.walked i));
        last = more.last;
      }

  block_alike : (x : BlockLevel Parts) → TypingsAgree P (expr_typing.block (map_block Parts typing (firsts typing mentions (claimed (alike P))) x)).1 (mention_steps.block (map_block Parts mentions (seconds typing mentions (claimed (alike P))) x))
  block_alike x = by_value x.value
    where
      -- a block, by its statements and its last expression
      block_by : StatementSeen → Judgement → Judgement
      block_by walked last = settled x.span last.ty (walked.faults ++ last.faults) (walked.reached ++ last.reached) (one_and (plus_size walked.size last.size))

      whole : (value : Option ExprPair) (ms : Mentions) → ((bound : List (List ℕ)) (context : TypeEnv) (other : GlobalEnv) → Sees bound context other (ms bound) → last_typing context value ≡ last_typing (in_globals context other) value)
          → (bound : List (List ℕ)) (on_top : Bool) (context : TypeEnv) (other : GlobalEnv) → Sees bound context other (statements_mentions (map (λ (s : StmtPart). s.1) x.statements) ms bound)
          → block_by (statements_typing (typings_of x.statements) on_top context) (last_typing (statements_typing (typings_of x.statements) on_top context).context value)
          ≡ block_by (statements_typing (typings_of x.statements) on_top (in_globals context other)) (last_typing (statements_typing (typings_of x.statements) on_top (in_globals context other)).context value)
      whole value ms end bound on_top context other h =
          let r = statements_alike value ms end x.statements bound on_top context other h in
          (λ i. block_by (statements_typing (typings_of x.statements) on_top context) (r.last i))
          ∙ (λ i. let walked = sym r.walked i in block_by walked (last_typing walked.context value))

      by_value : (o : Option ExprPart)
          → TypingsAgree P (expr_typing.block (map_block Parts typing (firsts typing mentions (claimed (alike P))) (record { span = x.span; statements = x.statements; value = o }))).1
          (mention_steps.block (map_block Parts mentions (seconds typing mentions (claimed (alike P))) (record { span = x.span; statements = x.statements; value = o })))
      by_value None = λ bound on_top context other h. whole None (mentions_if None) (λ bound context other h. refl) bound on_top context other h
      by_value (Some e) = λ bound on_top context other h. whole (Some e.0) (mentions_if (Some e.1)) (λ bound context other h. alone_alike bound context other e h) bound on_top context other h

  -- ---- loops, numbers and fields

  loop_alike : (x : ForLevel Parts) (span : Span) → TypeAlike P ((expr_typing.loop (map_loop Parts typing (firsts typing mentions (claimed (alike P))) x)).1 span) (mention_steps.loop (map_loop Parts mentions (seconds typing mentions (claimed (alike P))) x))
  loop_alike x span = by_type x.ty
    where
      whole : (bound : List (List ℕ)) (context : TypeEnv) (other : GlobalEnv) (typed : List Mention) (written written' : Option Judgement) → (Sees bound context other typed → written ≡ written')
          → Sees bound context other ((((((x.from.1 bound ++ x.to.1 bound) ++ x.start.1 bound) ++ typed) ++ x.index.1.mentions bound) ++ x.accumulator.1.mentions bound) ++ x.body.1 ((x.accumulator.1.names ++ x.index.1.names) ++ bound))
          → loop_with span (span_of_block x.body.0) (loop_behind context x.index.0 x.accumulator.0 x.body.0 (constant_of context x.from.0) (constant_of context x.to.0) (alone context x.start.0) written)
          ≡ loop_with span (span_of_block x.body.0) (loop_behind (in_globals context other) x.index.0 x.accumulator.0 x.body.0 (constant_of (in_globals context other) x.from.0) (constant_of (in_globals context other) x.to.0) (alone (in_globals context other) x.start.0) written')
      whole bound context other typed written written' own h =
          let names = x.accumulator.1.names ++ x.index.1.names in
          let ends = x.from.1 bound ++ x.to.1 bound in
          let three = ends ++ x.start.1 bound in
          let four = three ++ typed in
          let five = four ++ x.index.1.mentions bound in
          let six = five ++ x.accumulator.1.mentions bound in
          let a = one bound context other six (x.body.1 (names ++ bound)) h in
          let b = one bound context other five (x.accumulator.1.mentions bound) a in
          let c = one bound context other four (x.index.1.mentions bound) b in
          let d = one bound context other three typed c in
          let e = one bound context other ends (x.start.1 bound) d in
          let acc = two bound context other five (x.accumulator.1.mentions bound) a in
          let index = two bound context other four (x.index.1.mentions bound) b in
          let bound_names = names_join context.known other x.accumulator.1.names x.index.1.names (x.accumulator.2.2.names bound context.owner context.known other acc.alike) (x.index.2.2.names bound context.owner context.known other index.alike) in
          let last = two bound context other six (x.body.1 (names ++ bound)) h in
          let from = constant_same P context other x.from.0 h.known (constant_alike P x.from.0 x.from.1 (expr_alike x.from) bound context other (one bound context other (x.from.1 bound) (x.to.1 bound) e)) in
          let to = constant_same P context other x.to.0 h.known (constant_alike P x.to.0 x.to.1 (expr_alike x.to) bound context other (two bound context other (x.from.1 bound) (x.to.1 bound) e)) in
          let start = alone_alike bound context other x.start (two bound context other ends (x.start.1 bound) d) in
          let annotation = own (two bound context other three typed c) in
          ap (loop_with span (span_of_block x.body.0)) (loop_same context other (constant_of context x.from.0) (constant_of context x.to.0) (alone context x.start.0) written x.index.0 x.accumulator.0 x.body.0
          (x.index.2.2.typing bound context other index)
          (λ locals k. x.accumulator.2.2.typing bound (with_typed context locals) other (with_locals P [] bound context locals other (x.accumulator.1.mentions bound) k tt acc))
          (λ locals k. x.body.2.2 (names ++ bound) false (with_typed context locals) other (with_locals P names bound context locals other (x.body.1 (names ++ bound)) k bound_names last))
          (x.index.2.2.keeps context) (λ locals. x.accumulator.2.2.keeps (with_typed context locals))
          ∙ (λ i. loop_behind (in_globals context other) x.index.0 x.accumulator.0 x.body.0 (from i) (to i) (start i) (annotation i)))

      by_type : (o : Option TypePart)
          → TypeAlike P ((expr_typing.loop (map_loop Parts typing (firsts typing mentions (claimed (alike P))) (record { index = x.index; accumulator = x.accumulator; ty = o; from = x.from; to = x.to; body = x.body; start = x.start }))).1 span)
          (mention_steps.loop (map_loop Parts mentions (seconds typing mentions (claimed (alike P))) (record { index = x.index; accumulator = x.accumulator; ty = o; from = x.from; to = x.to; body = x.body; start = x.start })))
      by_type None = λ bound context other h. whole bound context other [] None None (λ q. refl) h
      by_type (Some t) = λ bound context other h. whole bound context other (t.1 bound) (Some (t.0.1 context)) (Some (t.0.1 (in_globals context other))) (λ q. ap (λ j. Some j) (t.2.2 bound context other q)) h

  number_alike : (x : NumberLevel Parts) (span : Span) → TypeAlike P ((expr_typing.number (map_number Parts typing (firsts typing mentions (claimed (alike P))) x)).1 span) (mention_steps.number (map_number Parts mentions (seconds typing mentions (claimed (alike P))) x))
  number_alike x span = by_type x.ty
    where
      by_type : (o : Option TypePart)
          → TypeAlike P ((expr_typing.number (map_number Parts typing (firsts typing mentions (claimed (alike P))) (record { ty = o; is_negative = x.is_negative; value = x.value }))).1 span)
          (mention_steps.number (map_number Parts mentions (seconds typing mentions (claimed (alike P))) (record { ty = o; is_negative = x.is_negative; value = x.value })))
      by_type None = λ bound context other h. refl
      by_type (Some t) = λ bound context other h. ap (λ j. number_typing span (Some j) (record { is_negative = x.is_negative; value = x.value })) (t.2.2 bound context other h)

  -- a field that is given by its name alone
  abbrev field_by_name : Ident → Option DslxType → Judgement → Judgement
  field_by_name name wanted j = let k = no_token name.span j in record k { faults = k.faults ++ wanted_faults name.span wanted k.ty }

  field_alike : (x : FieldValueLevel Parts) (bound : List (List ℕ)) (context : TypeEnv) (other : GlobalEnv)
      → Sees bound context other (mention_steps.field (map_field Parts mentions (seconds typing mentions (claimed (alike P))) x) bound)
      → FieldSame context other (expr_typing.field (map_field Parts typing (firsts typing mentions (claimed (alike P))) x)).1
  field_alike x = by_value x.value
    where
      by_value : (o : Option ExprPart) (bound : List (List ℕ)) (context : TypeEnv) (other : GlobalEnv)
          → Sees bound context other (mention_steps.field (map_field Parts mentions (seconds typing mentions (claimed (alike P))) (record { name = x.name; value = o })) bound)
          → FieldSame context other (expr_typing.field (map_field Parts typing (firsts typing mentions (claimed (alike P))) (record { name = x.name; value = o }))).1
      by_value None bound context other h struct =
          ap (field_by_name x.name (field_type struct x.name.name)) (name_same P x.name.span context other x.name.name h.known (value_alike context other bound x.name.name h.hidden h.alike))
      by_value (Some e) bound context other h struct = λ i. field_typing context struct (record { name = x.name; value = Some (frozen e.0 (e.2.2 bound false context other h i)) })

  -- ---- the whole

  all_alike : KeepRelated typing mentions (claimed (alike P)) expr_typing mention_steps
  all_alike = record {
    stmt = λ x. (seen_stmt (alike P) x, mentioned_stmt (alike P) x, stmt_alike x);
    node = λ x. (seen_node (alike P) x, mentioned_node (alike P) x, node_alike x);
    shape = λ x. (seen_shape (alike P) x, mentioned_shape (alike P) x, shape_alike x);
    type_node = λ x. (seen_type_node (alike P) x, mentioned_type_node (alike P) x, type_alike x);
    block = λ x. (seen_block (alike P) x, mentioned_block (alike P) x, block_alike x);
    bind = λ x. (seen_bind (alike P) x, mentioned_bind (alike P) x, bind_alike x);
    arg = λ x. (seen_arg (alike P) x, mentioned_arg (alike P) x, expr_alike x.value);
    arm = λ x. (seen_arm (alike P) x, mentioned_arm (alike P) x, arm_alike x);
    expr = λ x. (seen_expr (alike P) x, mentioned_expr (alike P) x, x.node.2.2 x.span);
    field = λ x. (seen_field (alike P) x, mentioned_field (alike P) x, field_alike x);
    loop = λ x. (seen_loop (alike P) x, mentioned_loop (alike P) x, loop_alike x);
    number = λ x. (seen_number (alike P) x, mentioned_number (alike P) x, number_alike x);
    pattern = λ x. (seen_pattern (alike P) x, mentioned_pattern (alike P) x, x.shape.2.2 x.span);
    type_expr = λ x. (seen_type_expr (alike P) x, mentioned_type_expr (alike P) x, x.node.2.2 x.span);
  }

-- an expression, a block and a type
pub expression_alike : (P : List ℕ → Bool) (e : Expr) → ExprAlike P (expr_pair e) (mentioned e)
expression_alike P e = let r = related_expr typing mentions (claimed (alike P)) expr_typing mention_steps (all_alike P) e in record { pair = r.0; mentions = r.1; typing = r.2 }

pub block_of_text_alike : (P : List ℕ → Bool) (b : Block) → TypingsAgree P (block_pair b).1 (mentioned_in_block b)
block_of_text_alike P b = (related_block typing mentions (claimed (alike P)) expr_typing mention_steps (all_alike P) b).2

pub written_type_alike : (P : List ℕ → Bool) (t : TypeExpr) → TypeAlike P (type_pair t).1 (mentioned_in_type t)
written_type_alike P t = (related_type_expr typing mentions (claimed (alike P)) expr_typing mention_steps (all_alike P) t).2
