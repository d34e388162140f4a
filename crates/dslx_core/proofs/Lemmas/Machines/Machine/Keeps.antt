-- Each step in a body keeps what comes of it, whatever instances are still to be done.
use Rattle.dslx_core.specs.Machines.Machine.Arms.{shaped_at}
use Rattle.dslx_meaning.specs.Names.ConstMachine.Layers.{written}
use Rattle.dslx_meaning.specs.declared.value.SignedWord.{SignedWord}
use Rattle.dslx_meaning.specs.Operators.{number_value}
use Rattle.dslx_tree.specs.declared.type_expr.TypeExpr.{TypeExpr}
use Rattle.dslx_tree.specs.declared.expr.Number.{Number, out-Number}
use Rattle.std.proofs.Common.{◌≡◌, ℕ, suc, Bool, true, false, if◌then◌else◌, List, [], ◌∷◌, ◌++◌, Option, Some, None, refl, sym, ap, ◌∙◌}
use Rattle.dslx_tree.specs.declared.block.Block.{out-Block}
use Rattle.dslx_tree.specs.declared.block.Let.{out-Let}
use Rattle.dslx_tree.specs.declared.block.Stmt.{Stmt, out-Stmt}
use Rattle.dslx_tree.specs.declared.block.Stmt.TheOpen.{Stmt-F, Node-F}
use Rattle.dslx_tree.specs.declared.expr.Expr.{Expr}
use Rattle.dslx_tree.specs.declared.expr.For.{out-For, For}
use Rattle.dslx_meaning.specs.Activation.{NodeLayer, StmtLayer, node_of}
use Rattle.dslx_meaning.specs.Lists.{and_then, with_both}
use Rattle.dslx_meaning.specs.Values.{bool_value, bits_of}
use Rattle.dslx_meaning.specs.declared.value.DslxValue.{DslxValue}
use Rattle.dslx_core.proofs.Lemmas.Typing.Typed.{none_some}
use Rattle.dslx_core.specs.declared.expr.CoreExpr as core
use Rattle.dslx_core.specs.declared.expr.Shape.{Shape}
use Rattle.dslx_core.specs.Lowering.CoreScopes.{CoreScope, bound_at, constant_at}
use Rattle.dslx_core.specs.Lowering.Functions.{CoreInstance, Instantiated, callee_in, callee_of, instance_in, is_instance}
use Rattle.dslx_core.specs.Lowering.Lowering.{LoweredExpr, lower_binary, lower_cast, lower_choice, cores_of, lower_element, lower_field, lower_index, literal, lowered, lower_name, lower_part, lower_prefix, lower_slice, types_of_lowered}
use Rattle.dslx_core.specs.Lowering.Patterns.{ExprLowering, LoweredShape}
use Rattle.dslx_core.specs.Lowering.Trees.{lower_block_of_text, lower_expression, of_type, lower_type_of_text}
use Rattle.dslx_core.specs.Machines.Machine.Tasks as task
use Rattle.dslx_core.specs.Machines.Machine.Tasks.{LastMaker, MakesPrefix, MakesBinary, MakesCast, MakesSlice, MakesPart, MakesField, MakesElement, MakesIndexed, MakesChoice, LowerTask, OpenBody, InstanceEnv}
use Rattle.dslx_core.specs.Machines.Machine.Steps.{number_at, loop_made}
use Rattle.dslx_core.specs.Machines.Machine.Bodies.{scope_in, with_last, with_made}
use Rattle.dslx_core.specs.Machines.Machine.Machines.{missing_for, unless_done}
use Rattle.dslx_core.specs.Machines.Machine.Parts.{part_taken}
use Rattle.dslx_core.specs.Machines.Machine.Steps as s
use Rattle.dslx_core.specs.Machines.Machine.Steps.{bind_made, call_made, instance_of, loop_made, made_of_last, of_last, of_last_two, stepped}
use Rattle.dslx_core.proofs.OnMachines.OnMachine.LowersTo.{block_opened, expression_opened, last_lowers_to, node_lowers_to, statements_become, stmt_layer_lowers_to, stmt_opened}
use Rattle.dslx_core.proofs.OnMachines.OnMachine.OfArms.{arms_keep, bound_keeps, loop_keeps, taken_keeps}
use Rattle.dslx_core.proofs.OnMachines.OnMachine.OfParts.{array_keeps, call_keeps, fields_on_keep, gathers_keep, others_keep, struct_keeps, tuple_keeps}
use Rattle.dslx_core.specs.Machines.Machine.Reached.{ExtendsTable, at_table}
use Rattle.dslx_core.proofs.Lemmas.Machines.Machine.Scopes.{Spot, arms_in, does_all, done, end_of_next, having, let_in, loop_in, makes, spot_of}
use Rattle.dslx_core.proofs.OnMachines.OnMachine.Sequels.{gives_keep, one_next, taken_next, three_next, two_next, two_taken_next}
use Rattle.dslx_core.proofs.Lemmas.Machines.Machine.Steady.{type_anywhere}

-- ---- instances that are done

-- an instance that is found is found in each longer table
pub found_longer : (name : List ℕ) (parametric_args : List DslxValue) (n : ℕ) (table more : List CoreInstance) (p : ℕ × CoreInstance) → instance_in name parametric_args n table ≡ Some p
    → instance_in name parametric_args n (table ++ more) ≡ Some p
found_longer name parametric_args n [] more p e = none_some p e
found_longer name parametric_args n (c ∷ table) more p e = by (is_instance name parametric_args c) (found_longer name parametric_args (suc n) table more p) e
  where
    by : (b : Bool) → (instance_in name parametric_args (suc n) table ≡ Some p → instance_in name parametric_args (suc n) (table ++ more) ≡ Some p) → (if b then Some (n, c) else instance_in name parametric_args (suc n) table) ≡ Some p → (if b then Some (n, c) else instance_in name parametric_args (suc n) (table ++ more)) ≡ Some p
    by true rest e = e
    by false rest e = rest e

pub found_at : (context : InstanceEnv) (table : List CoreInstance) (i : Instantiated) (p : ℕ × CoreInstance) → ExtendsTable table context.table → instance_of context i ≡ Some p
    → instance_of (at_table context table) i ≡ Some p
found_at context table i p begins e = ap (λ t. instance_in i.name i.parametric_args 0 t) begins.is ∙ found_longer i.name i.parametric_args 0 context.table begins.more p e

-- an instance that isn't missing is the same in each longer table
done_at : (context : InstanceEnv) (table : List CoreInstance) (i : Instantiated) → ExtendsTable table context.table → unless_done (instance_of context i) i ≡ None
    → instance_of context i ≡ instance_of (at_table context table) i
done_at context table i begins there = by (instance_of context i) refl there
  where
    by : (o : Option (ℕ × CoreInstance)) → instance_of context i ≡ o → unless_done o i ≡ None → o ≡ instance_of (at_table context table) i
    by None e there = none_some i (sym there)
    by (Some p) e there = sym (found_at context table i p begins e)

-- ---- steps

module _ (context : InstanceEnv) (table : List CoreInstance) where
  abbrev at : InstanceEnv
  at = at_table context table

  -- what comes of a step, by what is made
  abbrev TableResult : Option OpenBody → Option LoweredExpr → OpenBody → Type 0
  TableResult next o body = end_of_next at next ≡ and_then (makes o (spot_of at body)) (does_all at body.todo)

  abbrev scope : OpenBody → CoreScope
  scope body = scope_in at body

  -- ---- expressions

  -- a number's type is the same whatever calls come to
  number_anywhere : (n : Number) (body : OpenBody) → number_at (scope_in context body) n ≡ number_at (scope body) n
  number_anywhere n body = by (out-Number n).ty
    where
      by : (o : Option TypeExpr)
          → and_then (and_then o (λ t. lower_type_of_text t (scope_in context body))) (λ t. number_value t (written n))
          ≡ and_then (and_then o (λ t. lower_type_of_text t (scope body))) (λ t. number_value t (written n))
      by None = refl
      by (Some t) = ap (λ o. and_then o (λ t. number_value t (written n))) (sym (type_anywhere t (scope_in context body) (callee_in context.text context.items table)))

  -- a loop whose patterns are taken one after another
  loop_is : (here : CoreScope) (f : For) (start index : LoweredExpr)
      → loop_in here f start index
      ≡ with_both (and_then (constant_at here (out-For f).from) bits_of) (and_then (constant_at here (out-For f).to) bits_of) (λ a b.
      and_then (shaped_at (out-For f).index here index.ty) (λ i. and_then (shaped_at (out-For f).accumulator i.scope start.ty) (λ acc.
      and_then (lower_block_of_text (out-For f).body acc.scope) (λ r. loop_made start a b i.shape acc.shape r))))
  loop_is here f start index =
      λ i. with_both (and_then (constant_at here (out-For f).from) bits_of) (and_then (constant_at here (out-For f).to) bits_of) (λ a b. by a b (shaped_at (out-For f).index here index.ty) i)
    where
      by_acc : (a b : SignedWord) (x : LoweredShape) (o : Option LoweredShape)
          → and_then (and_then o (λ acc. Some (x.shape, acc))) (λ (t : Shape × LoweredShape). and_then (lower_block_of_text (out-For f).body t.1.scope) (λ r. loop_made start a b t.0 t.1.shape r))
          ≡ and_then o (λ acc. and_then (lower_block_of_text (out-For f).body acc.scope) (λ r. loop_made start a b x.shape acc.shape r))
      by_acc a b x None = refl
      by_acc a b x (Some acc) = refl

      by : (a b : SignedWord) (o : Option LoweredShape)
          → and_then (and_then o (λ x. and_then (shaped_at (out-For f).accumulator x.scope start.ty) (λ acc. Some (x.shape, acc))))
          (λ (t : Shape × LoweredShape). and_then (lower_block_of_text (out-For f).body t.1.scope) (λ r. loop_made start a b t.0 t.1.shape r))
          ≡ and_then o (λ x. and_then (shaped_at (out-For f).accumulator x.scope start.ty) (λ acc. and_then (lower_block_of_text (out-For f).body acc.scope) (λ r. loop_made start a b x.shape acc.shape r)))
      by a b None = refl
      by a b (Some x) = by_acc a b x (shaped_at (out-For f).accumulator x.scope start.ty)

  node_keeps : (x : NodeLayer) (body : OpenBody) → TableResult (s.node_begins x context body) (node_lowers_to x (scope body)) body
  node_keeps (Node-F.Node::Number n) body =
      gives_keep context table (and_then (number_at (scope_in context body) n) literal) body
      ∙ ap (λ o. and_then (makes (and_then o literal) (spot_of at body)) (does_all at body.todo)) (number_anywhere n body)
  node_keeps (Node-F.Node::Bool b) body = gives_keep context table (literal (bool_value b)) body
  node_keeps (Node-F.Node::Array t es dots) body = array_keeps context table t es dots body
  node_keeps (Node-F.Node::Name name) body = gives_keep context table (lower_name name (scope body)) body
  node_keeps (Node-F.Node::Member e a) body = gives_keep context table (and_then (context.items.member e.name a.name) literal) body
  node_keeps (Node-F.Call f parametric_args es) body = call_keeps context table f.name parametric_args es body
  node_keeps (Node-F.Node::Tuple es) body = tuple_keeps context table es body
  node_keeps (Node-F.Struct x fields rest) body = struct_keeps context table (context.items.struct_named x.name) fields rest body
  node_keeps (Node-F.Block b) body = refl
  node_keeps (Node-F.If c a b) body =
      three_next lower_choice (lower_expression c (scope body)) (lower_block_of_text a) (lower_expression b) (spot_of at body) (does_all at body.todo) (λ b c. refl) (λ a c. refl) (λ a b. refl)
  node_keeps (Node-F.Match e arms) body = taken_next (λ here e. arms_in here e [] arms) (lower_expression e (scope body)) (spot_of at body) (does_all at body.todo)
  node_keeps (Node-F.For f) body =
      two_taken_next (λ here start index. loop_in here f start index) (lower_expression (out-For f).start (scope body)) (lower_expression (out-For f).from) (spot_of at body) (does_all at body.todo)
      ∙ (λ i. and_then (makes (with_both (lower_expression (out-For f).start (scope body)) (lower_expression (out-For f).from (scope body)) (λ start index. loop_is (scope body) f start index i)) (spot_of at body)) (does_all at body.todo))
  node_keeps (Node-F.Index e i) body = two_next (λ here e i. lower_index e i) (lower_expression e (scope body)) (lower_expression i) (spot_of at body) (does_all at body.todo) refl (λ a. refl)
  node_keeps (Node-F.Slice e a b) body =
      one_next (λ here e. lower_slice e (bound_at here a) (bound_at here b)) (lower_expression e (scope body)) (spot_of at body) (does_all at body.todo) refl
  node_keeps (Node-F.Part e i t) body =
      two_next (λ here e i. lower_part e i (lower_type_of_text t here)) (lower_expression e (scope body)) (lower_expression i) (spot_of at body) (does_all at body.todo) refl (λ a. refl)
  node_keeps (Node-F.Field e name) body = one_next (λ here e. lower_field e name.name) (lower_expression e (scope body)) (spot_of at body) (does_all at body.todo) refl
  node_keeps (Node-F.Element e span k) body = one_next (λ here e. lower_element e k) (lower_expression e (scope body)) (spot_of at body) (does_all at body.todo) refl
  node_keeps (Node-F.Prefix o e) body = one_next (λ here e. lower_prefix o e) (lower_expression e (scope body)) (spot_of at body) (does_all at body.todo) refl
  node_keeps (Node-F.Cast e t) body =
      one_next (λ here e. lower_cast e (lower_type_of_text t here)) (lower_expression e (scope body)) (spot_of at body) (does_all at body.todo) refl
  node_keeps (Node-F.Binary o l r) body = two_next (λ here l r. lower_binary o l r) (lower_expression l (scope body)) (lower_expression r) (spot_of at body) (does_all at body.todo) refl (λ a. refl)

  -- what is made of what was made last is the same whatever calls come to
  maker_anywhere : (maker : LastMaker) (made : List LoweredExpr) (body : OpenBody) → made_of_last maker (scope_in context body) made ≡ made_of_last maker (scope body) made
  maker_anywhere (MakesPrefix o) made body = refl
  maker_anywhere (MakesBinary o) made body = refl
  maker_anywhere (MakesCast t) made body = λ i. of_last made (λ e. lower_cast (Some e) (sym (type_anywhere t (scope_in context body) (callee_in context.text context.items table)) i))
  maker_anywhere (MakesSlice a b) made body = refl
  maker_anywhere (MakesPart t) made body = λ i. of_last_two made (λ e k. lower_part (Some e) (Some k) (sym (type_anywhere t (scope_in context body) (callee_in context.text context.items table)) i))
  maker_anywhere (MakesField name) made body = refl
  maker_anywhere (MakesElement k) made body = refl
  maker_anywhere MakesIndexed made body = refl
  maker_anywhere MakesChoice made body = refl

  makes_keep : (maker : LastMaker) (body : OpenBody)
      → end_of_next at (and_then (made_of_last maker (scope_in context body) body.made) (λ made. Some (with_made made body)))
      ≡ and_then (done at (task.Makes maker) (spot_of at body)) (does_all at body.todo)
  makes_keep maker body =
      ap (λ o. end_of_next at (and_then o (λ made. Some (with_made made body)))) (maker_anywhere maker body.made body) ∙ by (made_of_last maker (scope body) body.made)
    where
      by : (o : Option (List LoweredExpr))
          → end_of_next at (and_then o (λ made. Some (with_made made body))) ≡ and_then (and_then o (λ made. Some (having made (spot_of at body)))) (does_all at body.todo)
      by None = refl
      by (Some made) = refl

  -- ---- blocks

  last_keeps : (last : Option Expr) (body : OpenBody) → TableResult (s.last_begins last body) (last_lowers_to last (scope body)) body
  last_keeps None body = refl
  last_keeps (Some e) body = refl

  stmt_keeps : (x : StmtLayer) (ss : List Stmt) (last : Option Expr) (body : OpenBody) → TableResult (s.stmt_begins x ss last body) (stmt_layer_lowers_to x (statements_become ss last) (scope body)) body
  stmt_keeps (Stmt-F.Let l) ss last body =
      taken_next (λ here e. let_in here e (out-Let l).pattern ss last) (lower_expression (out-Let l).value (scope body)) (spot_of at body) (does_all at body.todo)
  stmt_keeps (Stmt-F.Bare e) ss last body = refl

  statements_keep : (ss : List Stmt) (last : Option Expr) (body : OpenBody) → TableResult (s.statements_begin ss last body) (statements_become ss last (scope body)) body
  statements_keep [] last body = last_keeps last body
  statements_keep (x ∷ ss) last body =
      stmt_keeps (out-Stmt x) ss last body
      ∙ ap (λ (f : ExprLowering → ExprLowering). and_then (makes (f (statements_become ss last) (scope body)) (spot_of at body)) (does_all at body.todo)) (sym (stmt_opened x))

  -- ---- what was made last

  last_made_keeps : (made : List LoweredExpr) (f : LoweredExpr → List LoweredExpr → Option OpenBody) (g : LoweredExpr → List LoweredExpr → Option Spot) (todo : List LowerTask)
      → ((e : LoweredExpr) (made : List LoweredExpr) → end_of_next at (f e made) ≡ and_then (g e made) (does_all at todo)) → end_of_next at (with_last made f) ≡ and_then (with_last made g) (does_all at todo)
  last_made_keeps [] f g todo keeps = refl
  last_made_keeps (e ∷ made) f g todo keeps = keeps e made

  -- what is made of a value that is there
  then_keeps : (o : Option LoweredExpr) (f : LoweredExpr → Option OpenBody) (g : LoweredExpr → Option LoweredExpr) (body : OpenBody) → ((e : LoweredExpr) → TableResult (f e) (g e) body)
      → TableResult (and_then o f) (and_then o g) body
  then_keeps None f g body keeps = refl
  then_keeps (Some e) f g body keeps = keeps e

  needed_keeps : (o : Option (ℕ × CoreInstance)) (body : OpenBody) → end_of_next at (and_then o (λ p. Some body)) ≡ and_then (and_then o (λ p. Some (spot_of at body))) (does_all at body.todo)
  needed_keeps None body = refl
  needed_keeps (Some p) body = refl

  -- ---- each step

  pub keeps : (d : LowerTask) (body : OpenBody) → ExtendsTable table context.table → missing_for d context ≡ None
      → end_of_next at (stepped d context body) ≡ and_then (done at d (spot_of at body)) (does_all at body.todo)
  keeps (task.LowersExpr e) body begins there =
      node_keeps (node_of e) body ∙ ap (λ o. and_then (makes o (spot_of at body)) (does_all at body.todo)) (sym (expression_opened e (scope body)))
  keeps (task.LowersBlock b) body begins there =
      statements_keep (out-Block b).statements (out-Block b).value body ∙ ap (λ o. and_then (makes o (spot_of at body)) (does_all at body.todo)) (sym (block_opened b (scope body)))
  keeps (task.LowersStatements ss last) body begins there = statements_keep ss last body
  keeps (task.Makes maker) body begins there = makes_keep maker body
  keeps (task.BindsValue p ss last) body begins there = last_made_keeps body.made _ _ body.todo (λ e made. bound_keeps context table e p ss last (with_made made body))
  keeps (task.MakesBind e x) body begins there = last_made_keeps body.made _ _ body.todo (λ r made. gives_keep context table (bind_made e x r) (with_made made body))
  keeps (task.Gathers before es maker) body begins there =
      last_made_keeps body.made _ _ body.todo (λ e made. then_keeps (part_taken maker e) _ _ (with_made made body) (λ e. gathers_keep context table (before ++ e ∷ []) es maker (with_made made body)))
  keeps (task.TakesOthers t fields ts written) body begins there = last_made_keeps body.made _ _ body.todo (λ e made. others_keep context table e t fields ts written (with_made made body))
  keeps (task.GathersFields work before t fields ts) body begins there =
      last_made_keeps body.made _ _ body.todo (λ e made. then_keeps (of_type t (Some e)) _ _ (with_made made body) (λ e. fields_on_keep context table work (before ++ e ∷ []) fields ts (with_made made body)))
  keeps (task.LowersArms arms) body begins there = last_made_keeps body.made _ _ body.todo (λ e made. arms_keep context table e [] arms (with_made made body))
  keeps (task.TakesArm work shapes) body begins there = last_made_keeps body.made _ _ body.todo (λ v made. taken_keeps context table work shapes v (with_made made body))
  keeps (task.LoopBegins f) body begins there =
      last_made_keeps body.made _ _ body.todo (λ index made. last_made_keeps made _ _ body.todo (λ start made. loop_keeps context table f start index (with_made made body)))
  keeps (task.MakesLoop start a b i acc) body begins there = last_made_keeps body.made _ _ body.todo (λ r made. gives_keep context table (loop_made start a b i acc r) (with_made made body))
  keeps (task.Restores n count) body begins there = refl
  keeps (task.NeedsInstance i) body begins there =
      needed_keeps (instance_of context i) body ∙ ap (λ o. and_then (and_then o (λ p. Some (spot_of at body))) (does_all at body.todo)) (done_at context table i begins there)
  keeps (task.CallsInstance i es) body begins there =
      gives_keep context table (call_made context i es) body
      ∙ ap (λ o. and_then (makes (and_then (and_then o (callee_of (types_of_lowered es))) (λ callee. lowered (core.Call callee.number (cores_of es)) callee.result)) (spot_of at body)) (does_all at body.todo)) (done_at context table i begins there)
