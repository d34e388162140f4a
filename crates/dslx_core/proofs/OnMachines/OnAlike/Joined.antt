-- The induction on all sorts of parts of a tree: each is alike in two scopes that differ in what calls come to.
use Rattle.std.proofs.Common.{◌≡◌, Bool, List, [], ◌∷◌, map, Option, Some, None, refl, sym, subst, ◌∙◌}
use Rattle.dslx_tree.specs.declared.block.Block.{Block}
use Rattle.dslx_tree.specs.declared.block.Stmt.{Stmt}
use Rattle.dslx_tree.specs.declared.block.Stmt.TheOpen.{Stmt-F, Node-F}
use Rattle.dslx_tree.specs.declared.expr.Arg.{Arg}
use Rattle.dslx_tree.specs.declared.expr.Arm.{Arm}
use Rattle.dslx_tree.specs.declared.expr.Expr.{Expr}
use Rattle.dslx_tree.specs.declared.expr.FieldValue.{FieldValue}
use Rattle.dslx_tree.proofs.Lemmas.Folds.Levels.{Carriers, Maps, ArmLevel, BlockLevel, FieldValueLevel, ForLevel, LetLevel, NodeLevel, NumberLevel, ShapeLevel, StmtLevel, TypeNodeLevel, map_arm, map_bind, map_block, map_field, map_loop, map_node, map_number, map_number-twice, map_shape, map_shape-twice, map_stmt, map_type_node, map_type_node-twice}
use Rattle.dslx_tree.proofs.Lemmas.Folds.Related.{Relations, KeepRelated, both, firsts, related_block, related_expr}
use Rattle.dslx_meaning.specs.Callees.{kind_of_call}
use Rattle.dslx_meaning.specs.Lists.{and_then}
use Rattle.dslx_meaning.specs.Meaning.{denotation}
use Rattle.dslx_meaning.specs.Values.{bits_of}
use Rattle.dslx_meaning.specs.declared.ty.DslxType.{out-DslxType}
use Rattle.dslx_core.specs.Lowering.CoreScopes.{CoreScope, bound_at, constant_at}
use Rattle.dslx_core.specs.Lowering.Lowering.{lower_cast, literal, lower_part}
use Rattle.dslx_core.specs.Lowering.Patterns.{ExprLowering, ArmLowering}
use Rattle.dslx_core.specs.Lowering.Trees.{LoweredPair, FieldLowering, lower_all, lower_arm_part, lower_array, lower_bind, lower_block, lower_block_of_text, lower_expression, lower_field_part, lower_for, lower_last_value, lower_node, number_meaning, second_parts, lower_shape, lower_statements, lower_stmt, lower_type}
use Rattle.dslx_core.specs.Machines.Machine.Callees.{CalleesByName, with_callee}
use Rattle.dslx_core.proofs.Lemmas.Machines.Machine.Rebuilt.{become, becoming}
use Rattle.dslx_core.proofs.Lemmas.Machines.Machine.Steady.{KnowsNoCallee, PatternIsSteady, alone, nothing_more, number_steady, shape_steady, steady, type_steady}
use Rattle.dslx_core.proofs.Lemmas.Machines.Machine.Steady as s
use Rattle.dslx_core.proofs.OnMachines.OnAlike.OfCalls.{CallsAlike, call_alike}
use Rattle.dslx_core.proofs.OnMachines.OnAlike.OfLists.{Element, ElementsAlike, array_alike, tuple_alike}
use Rattle.dslx_core.proofs.OnMachines.OnAlike.OfOperators.{ExprsAlike, OneType, binary_alike, cast_alike, choice_alike, element_alike, field_alike, index_alike, part_alike, prefix_alike, slice_alike}
use Rattle.dslx_core.proofs.OnMachines.OnAlike.OfPatterns.{ArmIsAlike, EachArmIsAlike, EachIsSteady, IsAlike, let_alike, loop_alike, match_alike}
use Rattle.dslx_core.proofs.OnMachines.OnAlike.OfStructs.{EachFieldIsAlike, name_alike, struct_alike}
use Rattle.dslx_core.proofs.OnMachines.OnAlike.Relation.{EachAlike, alike_itself, both_there, then_same}

module _ (more : Bool) (c d : CalleesByName) (calls : CallsAlike more c d) where
  -- ---- what is to hold of each sort

  -- a statement, before whatever the rest of its block is
  abbrev StatementIsAlike : (ExprLowering → ExprLowering) → Type 0
  StatementIsAlike f = (rest : ExprLowering) → IsAlike more c d rest → IsAlike more c d (f rest)

  abbrev alike : Relations become alone
  alike = record {
    stmt = λ p u. StatementIsAlike p.1;
    node = λ p u. IsAlike more c d p.1;
    shape = λ p u. PatternIsSteady p.1;
    type_node = λ p u. KnowsNoCallee p.1;
    block = λ p u. IsAlike more c d p.1;
    bind = λ p u. StatementIsAlike p.1;
    arg = λ p u. Unit {0};
    arm = λ p u. ArmIsAlike more c d p.1;
    expr = λ p u. IsAlike more c d p.1;
    field = λ p u. IsAlike more c d p.1.value;
    loop = λ p u. IsAlike more c d p.1;
    number = λ p u. KnowsNoCallee p.1;
    pattern = λ p u. PatternIsSteady p.1;
    type_expr = λ p u. KnowsNoCallee p.1;
  }

  abbrev Parts : Carriers
  Parts = both become alone alike

  -- the tree of a part, and what it becomes
  abbrev first : Maps Parts become
  first = firsts become alone alike

  -- ---- types, numbers and patterns

  -- of the other sorts nothing is claimed where types and patterns are steady
  abbrev fewer : Maps Parts s.Part
  fewer = record {
    stmt = λ p. (p.0, p.1, tt);
    node = λ p. (p.0, p.1, tt);
    shape = λ p. p;
    type_node = λ p. p;
    block = λ p. (p.0, p.1, tt);
    bind = λ p. (p.0, p.1, tt);
    arg = λ p. (p.0, p.1, tt);
    arm = λ p. (p.0, p.1, tt);
    expr = λ p. (p.0, p.1, tt);
    field = λ p. (p.0, p.1, tt);
    loop = λ p. (p.0, p.1, tt);
    number = λ p. p;
    pattern = λ p. p;
    type_expr = λ p. p;
  }

  type_keeps : (x : TypeNodeLevel Parts) → KnowsNoCallee (lower_type (map_type_node Parts become first x))
  type_keeps x = subst (λ y. KnowsNoCallee (lower_type y)) (map_type_node-twice Parts s.Part become (firsts become alone steady) fewer x) (type_steady (map_type_node Parts s.Part fewer x))

  number_keeps : (x : NumberLevel Parts) → KnowsNoCallee (number_meaning (map_number Parts become first x))
  number_keeps x = subst (λ y. KnowsNoCallee (number_meaning y)) (map_number-twice Parts s.Part become (firsts become alone steady) fewer x) (number_steady (map_number Parts s.Part fewer x))

  shape_keeps : (x : ShapeLevel Parts) → PatternIsSteady (lower_shape (map_shape Parts become first x))
  shape_keeps x = subst (λ y. PatternIsSteady (lower_shape y)) (map_shape-twice Parts s.Part become (firsts become alone steady) fewer x) (shape_steady (map_shape Parts s.Part fewer x))

  -- what knows no calls is the same in both scopes
  same_at : {A : Type 0} (l : CoreScope → Option A) → KnowsNoCallee l → (scope : CoreScope) → l (with_callee c scope) ≡ l (with_callee d scope)
  same_at l h scope = h scope c ∙ sym (h scope d)

  -- ---- lists of parts

  abbrev pairs_of : List Parts.expr → List LoweredPair
  pairs_of ps = map (λ (p : Parts.expr). p.0) ps

  each_expr : (ps : List Parts.expr) (scope : CoreScope) → EachAlike more OneType (lower_all (with_callee c scope) (pairs_of ps)) (lower_all (with_callee d scope) (pairs_of ps))
  each_expr [] scope = tt
  each_expr (p ∷ ps) scope = (p.2 scope, each_expr ps scope)

  abbrev elements_at : CoreScope → List Parts.expr → List Element
  elements_at scope ps = map (λ (e : LoweredPair). ((denotation e.0).bare, e.1 scope)) (pairs_of ps)

  each_element : (ps : List Parts.expr) (scope : CoreScope) → ElementsAlike more (elements_at (with_callee c scope) ps) (elements_at (with_callee d scope) ps)
  each_element [] scope = tt
  each_element (p ∷ ps) scope = (refl, p.2 scope, each_element ps scope)

  abbrev fields_of : List Parts.field → List FieldLowering
  fields_of ps = map (λ (f : FieldValue × FieldLowering). f.1) (map (λ (p : Parts.field). p.0) ps)

  each_field : (ps : List Parts.field) → EachFieldIsAlike more c d (fields_of ps)
  each_field [] = tt
  each_field (p ∷ ps) = (p.2, each_field ps)

  abbrev arms_of : List Parts.arm → List ArmLowering
  arms_of ps = map (λ (a : Arm × ArmLowering). a.1) (map (λ (p : Parts.arm). p.0) ps)

  each_arm : (ps : List Parts.arm) → EachArmIsAlike more c d (arms_of ps)
  each_arm [] = tt
  each_arm (p ∷ ps) = (p.2, each_arm ps)

  each_pattern : (ps : List Parts.pattern) → EachIsSteady (second_parts (map (λ (p : Parts.pattern). p.0) ps))
  each_pattern [] = tt
  each_pattern (p ∷ ps) = (p.2, each_pattern ps)

  -- ---- expressions

  node_keeps : (x : NodeLevel Parts) → IsAlike more c d (lower_node (map_node Parts become first x))
  node_keeps (Node-F.Node::Number n) scope =
      subst (λ o. ExprsAlike more (and_then (n.0.1 (with_callee c scope)) literal) (and_then o literal)) (same_at n.0.1 n.2 scope) (alike_itself more OneType _ (λ e. refl))
  node_keeps (Node-F.Node::Bool b) scope = both_there more OneType _ _ refl
  node_keeps (Node-F.Node::Array None es dots) scope = array_alike more scope.count None _ _ dots (each_element es scope)
  node_keeps (Node-F.Node::Array (Some t) es dots) scope =
      subst (λ o. ExprsAlike more (lower_node (map_node Parts become first (Node-F.Node::Array (Some t) es dots)) (with_callee c scope)) (lower_array scope.count (Some o) (elements_at (with_callee d scope) es) dots))
      (same_at t.0.1 t.2 scope) (array_alike more scope.count (Some (t.0.1 (with_callee c scope))) _ _ dots (each_element es scope))
  node_keeps (Node-F.Node::Name name) scope = name_alike more c d name scope
  node_keeps (Node-F.Node::Member e a) scope = alike_itself more OneType (and_then (scope.known.items.member e.name a.name) literal) (λ e. refl)
  node_keeps (Node-F.Call f parametric_args es) scope =
      call_alike more c d calls (kind_of_call f.name) f.name scope (map (λ (a : Arg × Expr). constant_at scope a.1) (map (λ (p : Parts.arg). p.0) parametric_args)) _ _ (each_expr es scope)
  node_keeps (Node-F.Node::Tuple es) scope = tuple_alike more _ _ (each_expr es scope)
  node_keeps (Node-F.Struct name fields None) scope =
      then_same more OneType (scope.known.items.struct_named name.name) _ _ (λ t. struct_alike more c d (fields_of fields) (each_field fields) None tt scope (out-DslxType t))
  node_keeps (Node-F.Struct name fields (Some rest)) scope =
      then_same more OneType (scope.known.items.struct_named name.name) _ _ (λ t. struct_alike more c d (fields_of fields) (each_field fields) (Some rest.0.1) rest.2 scope (out-DslxType t))
  node_keeps (Node-F.Block b) scope = b.2 scope
  node_keeps (Node-F.If test taken other) scope = choice_alike more _ _ _ _ _ _ (test.2 scope) (taken.2 scope) (other.2 scope)
  node_keeps (Node-F.Match e arms) scope = match_alike more c d e.0.1 (arms_of arms) e.2 (each_arm arms) scope
  node_keeps (Node-F.For loop) scope = loop.2 scope
  node_keeps (Node-F.Index e i) scope = index_alike more _ _ _ _ (e.2 scope) (i.2 scope)
  node_keeps (Node-F.Slice e low high) scope = slice_alike more _ _ (bound_at scope low.0.0) (bound_at scope high.0.0) (e.2 scope)
  node_keeps (Node-F.Part e start t) scope =
      subst (λ o. ExprsAlike more (lower_part (e.0.1 (with_callee c scope)) (start.0.1 (with_callee c scope)) (t.0.1 (with_callee c scope))) (lower_part (e.0.1 (with_callee d scope)) (start.0.1 (with_callee d scope)) o))
      (same_at t.0.1 t.2 scope) (part_alike more _ _ _ _ (t.0.1 (with_callee c scope)) (e.2 scope) (start.2 scope))
  node_keeps (Node-F.Field e name) scope = field_alike more _ _ name.name (e.2 scope)
  node_keeps (Node-F.Element e span k) scope = element_alike more _ _ k (e.2 scope)
  node_keeps (Node-F.Prefix o e) scope = prefix_alike more o _ _ (e.2 scope)
  node_keeps (Node-F.Cast e t) scope =
      subst (λ o. ExprsAlike more (lower_cast (e.0.1 (with_callee c scope)) (t.0.1 (with_callee c scope))) (lower_cast (e.0.1 (with_callee d scope)) o)) (same_at t.0.1 t.2 scope)
      (cast_alike more _ _ (t.0.1 (with_callee c scope)) (e.2 scope))
  node_keeps (Node-F.Binary o l r) scope = binary_alike more o _ _ _ _ (l.2 scope) (r.2 scope)

  -- ---- statements, blocks, arms, loops and fields

  bind_keeps : (x : LetLevel Parts) → StatementIsAlike (lower_bind (map_bind Parts become first x))
  bind_keeps x rest h = let_alike more c d x.value.0.1 x.pattern.0.1 rest x.value.2 x.pattern.2 h

  stmt_keeps : (x : StmtLevel Parts) → StatementIsAlike (lower_stmt (map_stmt Parts become first x))
  stmt_keeps (Stmt-F.Let l) rest h = l.2 rest h
  stmt_keeps (Stmt-F.Bare e) rest h = h

  statements_keep : (ps : List Parts.stmt) (last : ExprLowering) → IsAlike more c d last → IsAlike more c d (lower_statements (map (λ (s : Stmt × (ExprLowering → ExprLowering)). s.1) (map (λ (p : Parts.stmt). p.0) ps)) last)
  statements_keep [] last h = h
  statements_keep (p ∷ ps) last h = p.2 _ (statements_keep ps last h)

  block_keeps : (x : BlockLevel Parts) → IsAlike more c d (lower_block (map_block Parts become first x))
  block_keeps x = by x.value
    where
      by : (o : Option Parts.expr) → IsAlike more c d (lower_block (map_block Parts become first (record { span = x.span; statements = x.statements; value = o })))
      by None = statements_keep x.statements (lower_last_value None) (λ scope. both_there more OneType _ _ refl)
      by (Some e) = statements_keep x.statements (lower_last_value (Some e.0)) e.2

  arm_keeps : (x : ArmLevel Parts) → ArmIsAlike more c d (lower_arm_part (map_arm Parts become first x))
  arm_keeps x = record { patterns = each_pattern x.patterns; value = x.value.2 }

  loop_keeps : (x : ForLevel Parts) → IsAlike more c d (lower_for (map_loop Parts become first x))
  loop_keeps x scope =
      loop_alike more c d x.start.0.1 x.from.0.1 (and_then (constant_at scope x.from.0.0) bits_of) (and_then (constant_at scope x.to.0.0) bits_of) x.index.0.1 x.accumulator.0.1 x.body.0.1 scope
      x.start.2 x.from.2 x.index.2 x.accumulator.2 x.body.2

  field_keeps : (x : FieldValueLevel Parts) → IsAlike more c d (lower_field_part (map_field Parts become first x)).value
  field_keeps x = by x.value
    where
      by : (o : Option Parts.expr) → IsAlike more c d (lower_field_part (map_field Parts become first (record { name = x.name; value = o }))).value
      by None = name_alike more c d x.name.name
      by (Some e) = e.2

  -- ---- the whole

  all_keep : KeepRelated become alone alike becoming nothing_more
  all_keep = record {
    stmt = stmt_keeps;
    node = node_keeps;
    shape = shape_keeps;
    type_node = type_keeps;
    block = block_keeps;
    bind = bind_keeps;
    arg = λ x. tt;
    arm = arm_keeps;
    expr = λ x. x.node.2;
    field = field_keeps;
    loop = loop_keeps;
    number = number_keeps;
    pattern = λ x. x.shape.2;
    type_expr = λ x. x.node.2;
  }

  pub expression_alike : (e : Expr) → IsAlike more c d (lower_expression e)
  expression_alike = related_expr become alone alike becoming nothing_more all_keep

  pub block_alike : (b : Block) → IsAlike more c d (lower_block_of_text b)
  block_alike = related_block become alone alike becoming nothing_more all_keep
