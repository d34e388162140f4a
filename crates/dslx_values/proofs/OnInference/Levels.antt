-- What written types infer, by what stands at their tops.
use Rattle.std.proofs.Common.{◌≡◌, [], map, refl, ap, ◌∙◌}
use Rattle.dslx_tree.specs.declared.block.Stmt.TheOpen.{Node-F, TypeNode-F}
use Rattle.dslx_tree.specs.declared.block.Stmt.TheFolds.{fold_out-Node, fold_out-TypeNode, fold_out-Expr, fold_out-TypeExpr}
use Rattle.dslx_tree.specs.declared.expr.Node.{out-Node}
use Rattle.dslx_tree.specs.declared.expr.Expr.{Expr, out-Expr}
use Rattle.dslx_tree.specs.declared.type_expr.TypeNode.{out-TypeNode}
use Rattle.dslx_tree.specs.declared.type_expr.TypeExpr.{TypeExpr, out-TypeExpr}
use Rattle.dslx_tree.proofs.Lemmas.Folds.Levels.{Carriers, Maps, TypeNodeLevel, trees, map_node, map_type_node}
use Rattle.dslx_tree.proofs.Lemmas.Folds.Folds.{Steps, folds, fold_expr}
use Rattle.dslx_meaning.specs.Inference.{Infers, Naming, Nil, infer_node, naming_node, infer_width, infer_tuple, infer_array, inferred_in}
use Rattle.dslx_meaning.specs.declared.ty.DslxType.{DslxType, out-DslxType}
use Rattle.dslx_values.specs.Inference.Inner.Names.{NodeTop, name_step, name_of}

abbrev inferences : Carriers
inferences = record {
  stmt = Nil;
  node = Naming;
  shape = Nil;
  type_node = Infers;
  block = Nil;
  bind = Nil;
  arg = Nil;
  arm = Nil;
  expr = Naming;
  field = Nil;
  loop = Nil;
  number = Nil;
  pattern = Nil;
  type_expr = Infers;
}

abbrev inference_steps : Steps inferences
inference_steps = record {
  stmt = λ s. tt;
  node = naming_node;
  shape = λ p. tt;
  type_node = infer_node;
  block = λ b. tt;
  bind = λ l. tt;
  arg = λ a. tt;
  arm = λ a. tt;
  expr = λ e. e.node;
  field = λ f. tt;
  loop = λ f. tt;
  number = λ n. tt;
  pattern = λ p. tt;
  type_expr = λ t. t.node;
}

abbrev each_infers : Maps trees inferences
each_infers = folds inferences inference_steps

abbrev naming : Expr → Naming
naming = fold_expr inferences inference_steps

-- ---- names

naming_at : (x : NodeTop) → naming_node (map_node trees inferences each_infers x) ≡ name_step x
naming_at (Node-F.Node::Number n) = refl
naming_at (Node-F.Node::Bool b) = refl
naming_at (Node-F.Node::Array ty es dots) = refl
naming_at (Node-F.Node::Name name) = refl
naming_at (Node-F.Node::Member e a) = refl
naming_at (Node-F.Call f numbers es) = refl
naming_at (Node-F.Node::Tuple es) = refl
naming_at (Node-F.Struct s fields rest) = refl
naming_at (Node-F.Block b) = refl
naming_at (Node-F.If c a b) = refl
naming_at (Node-F.Match e arms) = refl
naming_at (Node-F.For f) = refl
naming_at (Node-F.Index e i) = refl
naming_at (Node-F.Slice e a b) = refl
naming_at (Node-F.Part e i t) = refl
naming_at (Node-F.Field e name) = refl
naming_at (Node-F.Element e span k) = refl
naming_at (Node-F.Prefix o e) = refl
naming_at (Node-F.Cast e t) = refl
naming_at (Node-F.Binary o l r) = refl

naming_by_level : (e : Expr) → naming e ≡ name_of e
naming_by_level e =
    fold_out-Expr Nil Naming Nil Infers Nil Nil Nil Nil Naming Nil Nil Nil Nil Infers
    (λ s. tt) naming_node (λ p. tt) infer_node (λ b. tt) (λ l. tt) (λ a. tt) (λ a. tt) (λ e. e.node) (λ f. tt) (λ f. tt) (λ n. tt) (λ p. tt) (λ t. t.node) e
    ∙ fold_out-Node Nil Naming Nil Infers Nil Nil Nil Nil Naming Nil Nil Nil Nil Infers
    (λ s. tt) naming_node (λ p. tt) infer_node (λ b. tt) (λ l. tt) (λ a. tt) (λ a. tt) (λ e. e.node) (λ f. tt) (λ f. tt) (λ n. tt) (λ p. tt) (λ t. t.node) (out-Expr e).node
    ∙ naming_at (out-Node (out-Expr e).node)

-- ---- written types

abbrev pub infer_level : TypeNodeLevel trees → Infers
infer_level (TypeNode-F.Bits s w) t = []
infer_level (TypeNode-F.Wide s e) t = infer_width s (name_of e) (out-DslxType t)
infer_level TypeNode-F.TypeNode::Bool t = []
infer_level (TypeNode-F.TypeNode::Name name) t = []
infer_level (TypeNode-F.TypeNode::Tuple ts) t = infer_tuple (map inferred_in ts) (out-DslxType t)
infer_level (TypeNode-F.TypeNode::Array p e) t = infer_array (inferred_in p) (name_of e) (out-DslxType t)

infers_at : (x : TypeNodeLevel trees) (t : DslxType) → infer_node (map_type_node trees inferences each_infers x) t ≡ infer_level x t
infers_at (TypeNode-F.Bits s w) t = refl
infers_at (TypeNode-F.Wide s e) t = ap (λ n. infer_width s n (out-DslxType t)) (naming_by_level e)
infers_at TypeNode-F.TypeNode::Bool t = refl
infers_at (TypeNode-F.TypeNode::Name name) t = refl
infers_at (TypeNode-F.TypeNode::Tuple ts) t = refl
infers_at (TypeNode-F.TypeNode::Array p e) t = ap (λ n. infer_array (inferred_in p) n (out-DslxType t)) (naming_by_level e)

pub infers_by_level : (w : TypeExpr) (t : DslxType) → inferred_in w t ≡ infer_level (out-TypeNode (out-TypeExpr w).node) t
infers_by_level w t =
    ap (λ (f : Infers). f t)
    (fold_out-TypeExpr Nil Naming Nil Infers Nil Nil Nil Nil Naming Nil Nil Nil Nil Infers
    (λ s. tt) naming_node (λ p. tt) infer_node (λ b. tt) (λ l. tt) (λ a. tt) (λ a. tt) (λ e. e.node) (λ f. tt) (λ f. tt) (λ n. tt) (λ p. tt) (λ t. t.node) w
    ∙ fold_out-TypeNode Nil Naming Nil Infers Nil Nil Nil Nil Naming Nil Nil Nil Nil Infers
    (λ s. tt) naming_node (λ p. tt) infer_node (λ b. tt) (λ l. tt) (λ a. tt) (λ a. tt) (λ e. e.node) (λ f. tt) (λ f. tt) (λ n. tt) (λ p. tt) (λ t. t.node) (out-TypeExpr w).node)
    ∙ infers_at (out-TypeNode (out-TypeExpr w).node) t
