-- What written types infer and might infer, by what stands at their tops, and lists of it.
use Rattle.std.proofs.Common.{◌≡◌, ◌∙◌, ◌<◌, ◌≤◌, ◌+◌, ◌++◌, ◌∷◌, ◌==◌, ◌&&◌, ◌||◌, [], ℕ, zero, suc, Bool, true, false, not, List, Option, Some, None, arith, drop, eq-eqb, get_or, length, map, min, refl, sym, ap, if◌then◌else◌}
use Rattle.std.specs.List.{list_all}
use Rattle.std.specs.Str.{bytes_eq}
use Rattle.std.specs.Prelude.{Result, Ok, Err, OnOk}
use Rattle.std.proofs.Math.Seq.{drop-cons}
use Rattle.std.proofs.lemmas.List.{length-map}
use Rattle.dslx_tree.specs.declared.block.Stmt.TheOpen.{Node-F, TypeNode-F}
use Rattle.dslx_tree.specs.declared.block.Stmt.TheFolds.{fold_out-Node, fold_out-TypeNode, fold_out-Expr, fold_out-TypeExpr}
use Rattle.dslx_tree.specs.declared.expr.Node.{out-Node}
use Rattle.dslx_tree.specs.declared.expr.Expr.{Expr, out-Expr}
use Rattle.dslx_tree.specs.declared.item.Field.{Field}
use Rattle.dslx_tree.specs.declared.type_expr.TypeNode.{out-TypeNode}
use Rattle.dslx_tree.specs.declared.type_expr.TypeExpr.{TypeExpr, out-TypeExpr}
use Rattle.dslx_tree.proofs.Lemmas.Folds.Levels.{Carriers, Maps, NodeLevel, TypeNodeLevel, trees, map_node, map_type_node}
use Rattle.dslx_tree.proofs.Lemmas.Folds.Folds.{Steps, folds, fold_expr}
use Rattle.dslx_meaning.specs.Activation.{name_in_node}
use Rattle.dslx_meaning.specs.Inference.{Inferred as InferredNumber, Infers, Naming, Nil, infer_each, infer_node, naming_node, infer_width, infer_tuple, infer_array, inferred_in}
use Rattle.dslx_meaning.specs.Rules.CallRules.{NameList, all_listed, inferable_in, inferable_node, inferred_by, maybe_inferred, name_listed, naming_of, parametric_args_for}
use Rattle.dslx_meaning.specs.declared.ty.DslxType.{DslxType, out-DslxType}
use Rattle.dslx_meaning.specs.declared.ty.DslxType.TheOpen.{DslxType-F}
use Rattle.dslx_meaning.specs.declared.ty.DslxType.TheViews as views
use Rattle.dslx_check_rules.specs.Interned.{ItemNames, row_type}
use Rattle.dslx_check_rules.specs.declared.table.row.TypeId.{TypeId}
use Rattle.dslx_check_rules.specs.declared.table.row.TypeRow.{TypeRow}
use Rattle.dslx_check_rules.specs.declared.table.row.TypeRow.TheVariants as row
use Rattle.dslx_check_uses.specs.Inferring.{the_name}
use Rattle.dslx_check_uses.specs.Inner.Inferring.{agrees_with, inferred_if, level_of, maybe_if}

-- ---- names that expressions are alone, in each of the two folds

abbrev inferences : Carriers
inferences = record {
  stmt = Nil;
  node = Naming;
  shape = Nil;
  type_node = Infers;
  block = Nil;
  bind = Nil;
  arg = Nil;
  arm = Nil;
  expr = Naming;
  field = Nil;
  loop = Nil;
  number = Nil;
  pattern = Nil;
  type_expr = Infers;
}

abbrev inference_steps : Steps inferences
inference_steps = record {
  stmt = λ s. tt;
  node = naming_node;
  shape = λ p. tt;
  type_node = infer_node;
  block = λ b. tt;
  bind = λ l. tt;
  arg = λ a. tt;
  arm = λ a. tt;
  expr = λ e. e.node;
  field = λ f. tt;
  loop = λ f. tt;
  number = λ n. tt;
  pattern = λ p. tt;
  type_expr = λ t. t.node;
}

abbrev each_infers : Maps trees inferences
each_infers = folds inferences inference_steps

inferring_name : (x : NodeLevel trees) → naming_node (map_node trees inferences each_infers x) ≡ name_in_node x
inferring_name (Node-F.Node::Number n) = refl
inferring_name (Node-F.Node::Bool b) = refl
inferring_name (Node-F.Node::Array ty es dots) = refl
inferring_name (Node-F.Node::Name name) = refl
inferring_name (Node-F.Node::Member e a) = refl
inferring_name (Node-F.Call f numbers es) = refl
inferring_name (Node-F.Node::Tuple es) = refl
inferring_name (Node-F.Struct s fields rest) = refl
inferring_name (Node-F.Block b) = refl
inferring_name (Node-F.If c a b) = refl
inferring_name (Node-F.Match e arms) = refl
inferring_name (Node-F.For f) = refl
inferring_name (Node-F.Index e i) = refl
inferring_name (Node-F.Slice e a b) = refl
inferring_name (Node-F.Part e i t) = refl
inferring_name (Node-F.Field e name) = refl
inferring_name (Node-F.Element e span k) = refl
inferring_name (Node-F.Prefix o e) = refl
inferring_name (Node-F.Cast e t) = refl
inferring_name (Node-F.Binary o l r) = refl

inferring_expr : (e : Expr) → fold_expr inferences inference_steps e ≡ the_name e
inferring_expr e =
    fold_out-Expr Nil Naming Nil Infers Nil Nil Nil Nil Naming Nil Nil Nil Nil Infers
    (λ s. tt) naming_node (λ p. tt) infer_node (λ b. tt) (λ l. tt) (λ a. tt) (λ a. tt) (λ e. e.node) (λ f. tt) (λ f. tt) (λ n. tt) (λ p. tt) (λ t. t.node) e
    ∙ fold_out-Node Nil Naming Nil Infers Nil Nil Nil Nil Naming Nil Nil Nil Nil Infers
    (λ s. tt) naming_node (λ p. tt) infer_node (λ b. tt) (λ l. tt) (λ a. tt) (λ a. tt) (λ e. e.node) (λ f. tt) (λ f. tt) (λ n. tt) (λ p. tt) (λ t. t.node) (out-Expr e).node
    ∙ inferring_name (out-Node (out-Expr e).node)

-- ---- what written types infer

abbrev pub infer_level : TypeNodeLevel trees → Infers
infer_level (TypeNode-F.Bits s w) t = []
infer_level (TypeNode-F.Wide s e) t = infer_width s (the_name e) (out-DslxType t)
infer_level TypeNode-F.TypeNode::Bool t = []
infer_level (TypeNode-F.TypeNode::Name name) t = []
infer_level (TypeNode-F.TypeNode::Tuple ts) t = infer_tuple (map inferred_in ts) (out-DslxType t)
infer_level (TypeNode-F.TypeNode::Array p e) t = infer_array (inferred_in p) (the_name e) (out-DslxType t)

infers_at : (x : TypeNodeLevel trees) (t : DslxType) → infer_node (map_type_node trees inferences each_infers x) t ≡ infer_level x t
infers_at (TypeNode-F.Bits s w) t = refl
infers_at (TypeNode-F.Wide s e) t = ap (λ n. infer_width s n (out-DslxType t)) (inferring_expr e)
infers_at TypeNode-F.TypeNode::Bool t = refl
infers_at (TypeNode-F.TypeNode::Name name) t = refl
infers_at (TypeNode-F.TypeNode::Tuple ts) t = refl
infers_at (TypeNode-F.TypeNode::Array p e) t = ap (λ n. infer_array (inferred_in p) n (out-DslxType t)) (inferring_expr e)

pub infers_by_level : (w : TypeExpr) (t : DslxType) → inferred_in w t ≡ infer_level (out-TypeNode (out-TypeExpr w).node) t
infers_by_level w t =
    ap (λ (f : Infers). f t)
    (fold_out-TypeExpr Nil Naming Nil Infers Nil Nil Nil Nil Naming Nil Nil Nil Nil Infers
    (λ s. tt) naming_node (λ p. tt) infer_node (λ b. tt) (λ l. tt) (λ a. tt) (λ a. tt) (λ e. e.node) (λ f. tt) (λ f. tt) (λ n. tt) (λ p. tt) (λ t. t.node) w
    ∙ fold_out-TypeNode Nil Naming Nil Infers Nil Nil Nil Nil Naming Nil Nil Nil Nil Infers
    (λ s. tt) naming_node (λ p. tt) infer_node (λ b. tt) (λ l. tt) (λ a. tt) (λ a. tt) (λ e. e.node) (λ f. tt) (λ f. tt) (λ n. tt) (λ p. tt) (λ t. t.node) (out-TypeExpr w).node)
    ∙ infers_at (out-TypeNode (out-TypeExpr w).node) t

-- ---- which names they might infer

abbrev listings : Carriers
listings = record {
  stmt = Nil;
  node = Naming;
  shape = Nil;
  type_node = NameList;
  block = Nil;
  bind = Nil;
  arg = Nil;
  arm = Nil;
  expr = Naming;
  field = Nil;
  loop = Nil;
  number = Nil;
  pattern = Nil;
  type_expr = NameList;
}

abbrev listing_steps : Steps listings
listing_steps = record {
  stmt = λ s. tt;
  node = naming_of;
  shape = λ p. tt;
  type_node = inferable_node;
  block = λ b. tt;
  bind = λ l. tt;
  arg = λ a. tt;
  arm = λ a. tt;
  expr = λ e. e.node;
  field = λ f. tt;
  loop = λ f. tt;
  number = λ n. tt;
  pattern = λ p. tt;
  type_expr = λ t. t.node;
}

abbrev each_lists : Maps trees listings
each_lists = folds listings listing_steps

listing_name : (x : NodeLevel trees) → naming_of (map_node trees listings each_lists x) ≡ name_in_node x
listing_name (Node-F.Node::Number n) = refl
listing_name (Node-F.Node::Bool b) = refl
listing_name (Node-F.Node::Array ty es dots) = refl
listing_name (Node-F.Node::Name name) = refl
listing_name (Node-F.Node::Member e a) = refl
listing_name (Node-F.Call f numbers es) = refl
listing_name (Node-F.Node::Tuple es) = refl
listing_name (Node-F.Struct s fields rest) = refl
listing_name (Node-F.Block b) = refl
listing_name (Node-F.If c a b) = refl
listing_name (Node-F.Match e arms) = refl
listing_name (Node-F.For f) = refl
listing_name (Node-F.Index e i) = refl
listing_name (Node-F.Slice e a b) = refl
listing_name (Node-F.Part e i t) = refl
listing_name (Node-F.Field e name) = refl
listing_name (Node-F.Element e span k) = refl
listing_name (Node-F.Prefix o e) = refl
listing_name (Node-F.Cast e t) = refl
listing_name (Node-F.Binary o l r) = refl

listing_expr : (e : Expr) → fold_expr listings listing_steps e ≡ the_name e
listing_expr e =
    fold_out-Expr Nil Naming Nil NameList Nil Nil Nil Nil Naming Nil Nil Nil Nil NameList
    (λ s. tt) naming_of (λ p. tt) inferable_node (λ b. tt) (λ l. tt) (λ a. tt) (λ a. tt) (λ e. e.node) (λ f. tt) (λ f. tt) (λ n. tt) (λ p. tt) (λ t. t.node) e
    ∙ fold_out-Node Nil Naming Nil NameList Nil Nil Nil Nil Naming Nil Nil Nil Nil NameList
    (λ s. tt) naming_of (λ p. tt) inferable_node (λ b. tt) (λ l. tt) (λ a. tt) (λ a. tt) (λ e. e.node) (λ f. tt) (λ f. tt) (λ n. tt) (λ p. tt) (λ t. t.node) (out-Expr e).node
    ∙ listing_name (out-Node (out-Expr e).node)

abbrev pub list_level : TypeNodeLevel trees → NameList
list_level (TypeNode-F.Bits s w) = []
list_level (TypeNode-F.Wide s e) = name_listed (the_name e)
list_level TypeNode-F.TypeNode::Bool = []
list_level (TypeNode-F.TypeNode::Name name) = []
list_level (TypeNode-F.TypeNode::Tuple ts) = all_listed (map inferable_in ts)
list_level (TypeNode-F.TypeNode::Array p e) = inferable_in p ++ name_listed (the_name e)

lists_at : (x : TypeNodeLevel trees) → inferable_node (map_type_node trees listings each_lists x) ≡ list_level x
lists_at (TypeNode-F.Bits s w) = refl
lists_at (TypeNode-F.Wide s e) = ap name_listed (listing_expr e)
lists_at TypeNode-F.TypeNode::Bool = refl
lists_at (TypeNode-F.TypeNode::Name name) = refl
lists_at (TypeNode-F.TypeNode::Tuple ts) = refl
lists_at (TypeNode-F.TypeNode::Array p e) = ap (λ n. inferable_in p ++ name_listed n) (listing_expr e)

pub lists_by_level : (w : TypeExpr) → inferable_in w ≡ list_level (out-TypeNode (out-TypeExpr w).node)
lists_by_level w =
    fold_out-TypeExpr Nil Naming Nil NameList Nil Nil Nil Nil Naming Nil Nil Nil Nil NameList
    (λ s. tt) naming_of (λ p. tt) inferable_node (λ b. tt) (λ l. tt) (λ a. tt) (λ a. tt) (λ e. e.node) (λ f. tt) (λ f. tt) (λ n. tt) (λ p. tt) (λ t. t.node) w
    ∙ fold_out-TypeNode Nil Naming Nil NameList Nil Nil Nil Nil Naming Nil Nil Nil Nil NameList
    (λ s. tt) naming_of (λ p. tt) inferable_node (λ b. tt) (λ l. tt) (λ a. tt) (λ a. tt) (λ e. e.node) (λ f. tt) (λ f. tt) (λ n. tt) (λ p. tt) (λ t. t.node) (out-TypeExpr w).node
    ∙ lists_at (out-TypeNode (out-TypeExpr w).node)

-- ---- one after another

parted : {A : Type 0} (xs : List A) (i : ℕ) (x : A) → i < length xs → x ≡ get_or xs i x → drop i xs ≡ x ∷ drop (i + 1) xs
parted xs i x within e =
    let later : suc i ≡ i + 1 = omega arith in
    drop-cons xs i x within ∙ ap (λ y. y ∷ drop (suc i) xs) (sym e) ∙ ap (λ j. x ∷ drop j xs) later

any_get : {A : Type 0} (xs : List A) (i : ℕ) (c d : A) → i < length xs → get_or xs i c ≡ get_or xs i d
any_get [] i c d h = absurd (omega (arith, h))
any_get (x ∷ xs) zero c d h = refl
any_get (x ∷ xs) (suc i) c d h = any_get xs i c d (omega (arith, h))

pub each_next : (ps : List TypeExpr) (own : List TypeId) (g : TypeId → DslxType) (i : ℕ) (p : TypeExpr) (d : TypeId) → i < length ps → i < length own → p ≡ get_or ps i p
    → infer_each (map inferred_in (drop i ps)) (map g (drop i own)) ≡ inferred_in p (g (get_or own i d)) ++ infer_each (map inferred_in (drop (i + 1) ps)) (map g (drop (i + 1) own))
each_next ps own g i p d h k e = λ j. infer_each (map inferred_in (parted ps i p h e j)) (map g (parted own i (get_or own i d) k (any_get own i d (get_or own i d) k) j))

-- a tuple of as many
pub tuple_by : (parts : List TypeExpr) (own ids : List TypeId) (g : TypeId → DslxType) (level : DslxType-F DslxType) → level ≡ DslxType-F.Tuple (map g own) → ids ≡ own → length parts ≡ length own
    → infer_each (map inferred_in parts) (map g ids) ≡ infer_tuple (map inferred_in parts) level
tuple_by parts own ids g level is same long =
    let test : (length (map inferred_in parts) == length (map g own)) ≡ true = eq-eqb (length (map inferred_in parts)) (length (map g own)) (length-map parts inferred_in ∙ long ∙ sym (length-map own g)) in
    ap (λ l. infer_each (map inferred_in parts) (map g l)) same ∙ ap (λ b. if b then infer_each (map inferred_in parts) (map g own) else []) (sym test) ∙ ap (infer_tuple (map inferred_in parts)) (sym is)

-- ---- types by their rows

pub row_level : (names : ItemNames) (f : ℕ → DslxType) (r : TypeRow) → out-DslxType (row_type names f r) ≡ level_of names f r
row_level names f (row.Bits k) = views.outs-Bits k.signed k.width
row_level names f (row.Tuple ts) = views.outs-Tuple (map (λ (t : TypeId). f t.0) ts)
row_level names f (row.Array t n) = views.outs-Array (f t.0) n
row_level names f (row.Struct i ts) = views.outs-Struct (names.item i) (names.fields i) (map (λ (t : TypeId). f t.0) ts)
row_level names f (row.Enum i k) = views.outs-Enum (names.item i) k.signed k.width
row_level names f row.Token = views.outs-Token

-- ---- results

pub on_ok : {T E : Type 0} (r : Result T E) (P Q : Type 0) → (P → Q) → OnOk r P → OnOk r Q
on_ok (Ok t) P Q weaker h = weaker h
on_ok (Err e) P Q weaker h = tt

nothing_beside : (fs : List Infers) → infer_each fs [] ≡ []
nothing_beside [] = refl
nothing_beside (f ∷ fs) = refl

pub each_ended : (ps : List TypeExpr) (own : List TypeId) (g : TypeId → DslxType) (i : ℕ) → min (length ps) (length own) ≤ i → infer_each (map inferred_in (drop i ps)) (map g (drop i own)) ≡ []
each_ended [] own g zero h = refl
each_ended [] own g (suc i) h = refl
each_ended (p ∷ ps) [] g zero h = refl
each_ended (p ∷ ps) [] g (suc i) h = nothing_beside (map inferred_in (drop i ps))
each_ended (p ∷ ps) (t ∷ own) g zero h = let none : ⊥ = omega arith in absurd none
each_ended (p ∷ ps) (t ∷ own) g (suc i) h = let before : min (length ps) (length own) ≤ i = omega arith in each_ended ps own g i before

-- operands beside arguments
infers_first : (f : Field) (fs : List Field) (o : Option DslxType) (os : List (Option DslxType)) → inferred_by (f ∷ fs) (o ∷ os) ≡ inferred_if f.ty o ++ inferred_by fs os
infers_first f fs None os = refl
infers_first f fs (Some t) os = refl

might_first : (f : Field) (fs : List Field) (o : Option DslxType) (os : List (Option DslxType)) → maybe_inferred (f ∷ fs) (o ∷ os) ≡ maybe_if f.ty o ++ maybe_inferred fs os
might_first f fs None os = refl
might_first f fs (Some t) os = refl

module _ (fs : List Field) (os : List (Option TypeId)) (g : Option TypeId → Option DslxType) (i : ℕ) (f : Field) (d : Option TypeId) (h : i < length fs) (k : i < length os) (e : f ≡ get_or fs i f) where
  is : get_or os i d ≡ get_or os i (get_or os i d)
  is = any_get os i d (get_or os i d) k

  pub operand_next : inferred_by (drop i fs) (map g (drop i os)) ≡ inferred_if f.ty (g (get_or os i d)) ++ inferred_by (drop (i + 1) fs) (map g (drop (i + 1) os))
  operand_next = (λ j. inferred_by (parted fs i f h e j) (map g (parted os i (get_or os i d) k is j))) ∙ infers_first f (drop (i + 1) fs) (g (get_or os i d)) (map g (drop (i + 1) os))

  pub maybe_next : maybe_inferred (drop i fs) (map g (drop i os)) ≡ maybe_if f.ty (g (get_or os i d)) ++ maybe_inferred (drop (i + 1) fs) (map g (drop (i + 1) os))
  maybe_next = (λ j. maybe_inferred (parted fs i f h e j) (map g (parted os i (get_or os i d) k is j))) ∙ might_first f (drop (i + 1) fs) (g (get_or os i d)) (map g (drop (i + 1) os))

no_operand : (fs : List Field) → inferred_by fs [] ≡ []
no_operand [] = refl
no_operand (f ∷ fs) = refl

none_might : (fs : List Field) → maybe_inferred fs [] ≡ []
none_might [] = refl
none_might (f ∷ fs) = refl

pub operands_ended : (fs : List Field) (os : List (Option TypeId)) (g : Option TypeId → Option DslxType) (i : ℕ) → min (length fs) (length os) ≤ i → inferred_by (drop i fs) (map g (drop i os)) ≡ []
operands_ended [] os g zero h = refl
operands_ended [] os g (suc i) h = refl
operands_ended (f ∷ fs) [] g zero h = refl
operands_ended (f ∷ fs) [] g (suc i) h = no_operand (drop i fs)
operands_ended (f ∷ fs) (o ∷ os) g zero h = let none : ⊥ = omega arith in absurd none
operands_ended (f ∷ fs) (o ∷ os) g (suc i) h = let before : min (length fs) (length os) ≤ i = omega arith in operands_ended fs os g i before

pub maybe_ended : (fs : List Field) (os : List (Option TypeId)) (g : Option TypeId → Option DslxType) (i : ℕ) → min (length fs) (length os) ≤ i → maybe_inferred (drop i fs) (map g (drop i os)) ≡ []
maybe_ended [] os g zero h = refl
maybe_ended [] os g (suc i) h = refl
maybe_ended (f ∷ fs) [] g zero h = refl
maybe_ended (f ∷ fs) [] g (suc i) h = none_might (drop i fs)
maybe_ended (f ∷ fs) (o ∷ os) g zero h = let none : ⊥ = omega arith in absurd none
maybe_ended (f ∷ fs) (o ∷ os) g (suc i) h = let before : min (length fs) (length os) ≤ i = omega arith in maybe_ended fs os g i before

-- ---- numbers that are inferred for a name

one_by : (b : Bool) (m n : ℕ) (ns : List ℕ) → list_all (λ k. k == n) (if b then m ∷ ns else ns) ≡ ((not b || m == n) && list_all (λ k. k == n) ns)
one_by true m n ns = refl
one_by false m n ns = refl

pub one_next : (name : List ℕ) (n : ℕ) (i : InferredNumber) (is : List InferredNumber)
    → list_all (λ k. k == n) (parametric_args_for name (i ∷ is)) ≡ (agrees_with name n i && list_all (λ k. k == n) (parametric_args_for name is))
one_next name n i is = one_by (bytes_eq name i.name) i.number n (parametric_args_for name is)
