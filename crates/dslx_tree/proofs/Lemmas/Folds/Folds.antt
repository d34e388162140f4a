-- Folds over the trees of a text: what they come to at each kind of part.
use Rattle.std.proofs.Common.{◌≡◌, ℕ, Bool, List, Option, Some, None, map, sym, ap, ◌∙◌}
use Rattle.std.specs.Option.{option_map}
use Rattle.xb_span.specs.declared.span.Span.{Span}
use Rattle.dslx_tree.specs.declared.ident.Ident.{Ident}
use Rattle.dslx_tree.specs.declared.operator.Prefix.{Prefix}
use Rattle.dslx_tree.specs.declared.operator.Binary.{Binary}
use Rattle.dslx_tree.specs.declared.block.Stmt.TheOpen.{Stmt-F, Node-F, Shape-F, TypeNode-F}
use Rattle.dslx_tree.specs.declared.block.Stmt.TheFolds.{fold-roll-Stmt, fold-roll-Node, fold-roll-Shape, fold-roll-TypeNode, fold-roll-Block, fold-roll-Let, fold-roll-Arg, fold-roll-Arm, fold-roll-Expr, fold-roll-FieldValue, fold-roll-For, fold-roll-Number, fold-roll-Pattern, fold-roll-TypeExpr}
use Rattle.dslx_tree.specs.declared.block.Stmt.{Stmt, fold-Stmt, roll-Stmt}
use Rattle.dslx_tree.specs.declared.expr.Node.{Node, fold-Node, roll-Node}
use Rattle.dslx_tree.specs.declared.pattern.Shape.{Shape, fold-Shape, roll-Shape}
use Rattle.dslx_tree.specs.declared.type_expr.TypeNode.{TypeNode, fold-TypeNode, roll-TypeNode}
use Rattle.dslx_tree.specs.declared.block.Block.{Block, fold-Block, roll-Block}
use Rattle.dslx_tree.specs.declared.block.Let.{Let, fold-Let, roll-Let}
use Rattle.dslx_tree.specs.declared.expr.Arg.{Arg, fold-Arg, roll-Arg}
use Rattle.dslx_tree.specs.declared.expr.Arm.{Arm, fold-Arm, roll-Arm}
use Rattle.dslx_tree.specs.declared.expr.Expr.{Expr, fold-Expr, roll-Expr}
use Rattle.dslx_tree.specs.declared.expr.FieldValue.{FieldValue, fold-FieldValue, roll-FieldValue}
use Rattle.dslx_tree.specs.declared.expr.For.{For, fold-For, roll-For}
use Rattle.dslx_tree.specs.declared.expr.Number.{Number, fold-Number, roll-Number}
use Rattle.dslx_tree.specs.declared.pattern.Pattern.{Pattern, fold-Pattern, roll-Pattern}
use Rattle.dslx_tree.specs.declared.type_expr.TypeExpr.{TypeExpr, fold-TypeExpr, roll-TypeExpr}
use Rattle.dslx_tree.specs.declared.block.Stmt as stmt_of
use Rattle.dslx_tree.specs.declared.block.Stmt.TheVariants as stmt_rolls
use Rattle.dslx_tree.specs.declared.expr.Node as node_of
use Rattle.dslx_tree.specs.declared.expr.Node.TheVariants as node_rolls
use Rattle.dslx_tree.specs.declared.pattern.Shape as shape_of
use Rattle.dslx_tree.specs.declared.pattern.Shape.TheVariants as shape_rolls
use Rattle.dslx_tree.specs.declared.type_expr.TypeNode as type_node_of
use Rattle.dslx_tree.specs.declared.type_expr.TypeNode.TheVariants as type_node_rolls
use Rattle.dslx_tree.proofs.Lemmas.Folds.Levels.{Carriers, trees, Maps, StmtLevel, NodeLevel, ShapeLevel, TypeNodeLevel, BlockLevel, LetLevel, ArgLevel, ArmLevel, ExprLevel, FieldValueLevel, ForLevel, NumberLevel, PatternLevel, TypeExprLevel, map_stmt, map_node, map_shape, map_type_node, map_block, map_bind, map_arg, map_arm, map_expr, map_field, map_loop, map_number, map_pattern, map_type_expr}

-- what a part of each sort comes to, by what its parts come to
pub record Steps (c : Carriers) : Type 0 where
  pub stmt : StmtLevel c → c.stmt
  pub node : NodeLevel c → c.node
  pub shape : ShapeLevel c → c.shape
  pub type_node : TypeNodeLevel c → c.type_node
  pub block : BlockLevel c → c.block
  pub bind : LetLevel c → c.bind
  pub arg : ArgLevel c → c.arg
  pub arm : ArmLevel c → c.arm
  pub expr : ExprLevel c → c.expr
  pub field : FieldValueLevel c → c.field
  pub loop : ForLevel c → c.loop
  pub number : NumberLevel c → c.number
  pub pattern : PatternLevel c → c.pattern
  pub type_expr : TypeExprLevel c → c.type_expr

-- what a statement comes to
abbrev pub fold_stmt : (c : Carriers) → Steps c → Stmt → c.stmt
fold_stmt c s = fold-Stmt c.stmt c.node c.shape c.type_node c.block c.bind c.arg c.arm c.expr c.field c.loop c.number c.pattern c.type_expr s.stmt s.node s.shape s.type_node s.block s.bind s.arg s.arm s.expr s.field s.loop s.number s.pattern s.type_expr

-- what what an expression is comes to
abbrev pub fold_node : (c : Carriers) → Steps c → Node → c.node
fold_node c s = fold-Node c.stmt c.node c.shape c.type_node c.block c.bind c.arg c.arm c.expr c.field c.loop c.number c.pattern c.type_expr s.stmt s.node s.shape s.type_node s.block s.bind s.arg s.arm s.expr s.field s.loop s.number s.pattern s.type_expr

-- what what a pattern is comes to
abbrev pub fold_shape : (c : Carriers) → Steps c → Shape → c.shape
fold_shape c s = fold-Shape c.stmt c.node c.shape c.type_node c.block c.bind c.arg c.arm c.expr c.field c.loop c.number c.pattern c.type_expr s.stmt s.node s.shape s.type_node s.block s.bind s.arg s.arm s.expr s.field s.loop s.number s.pattern s.type_expr

-- what what a type is comes to
abbrev pub fold_type_node : (c : Carriers) → Steps c → TypeNode → c.type_node
fold_type_node c s = fold-TypeNode c.stmt c.node c.shape c.type_node c.block c.bind c.arg c.arm c.expr c.field c.loop c.number c.pattern c.type_expr s.stmt s.node s.shape s.type_node s.block s.bind s.arg s.arm s.expr s.field s.loop s.number s.pattern s.type_expr

-- what a block comes to
abbrev pub fold_block : (c : Carriers) → Steps c → Block → c.block
fold_block c s = fold-Block c.stmt c.node c.shape c.type_node c.block c.bind c.arg c.arm c.expr c.field c.loop c.number c.pattern c.type_expr s.stmt s.node s.shape s.type_node s.block s.bind s.arg s.arm s.expr s.field s.loop s.number s.pattern s.type_expr

-- what a `let` comes to
abbrev pub fold_bind : (c : Carriers) → Steps c → Let → c.bind
fold_bind c s = fold-Let c.stmt c.node c.shape c.type_node c.block c.bind c.arg c.arm c.expr c.field c.loop c.number c.pattern c.type_expr s.stmt s.node s.shape s.type_node s.block s.bind s.arg s.arm s.expr s.field s.loop s.number s.pattern s.type_expr

-- what an argument between `<` and `>` comes to
abbrev pub fold_arg : (c : Carriers) → Steps c → Arg → c.arg
fold_arg c s = fold-Arg c.stmt c.node c.shape c.type_node c.block c.bind c.arg c.arm c.expr c.field c.loop c.number c.pattern c.type_expr s.stmt s.node s.shape s.type_node s.block s.bind s.arg s.arm s.expr s.field s.loop s.number s.pattern s.type_expr

-- what an arm comes to
abbrev pub fold_arm : (c : Carriers) → Steps c → Arm → c.arm
fold_arm c s = fold-Arm c.stmt c.node c.shape c.type_node c.block c.bind c.arg c.arm c.expr c.field c.loop c.number c.pattern c.type_expr s.stmt s.node s.shape s.type_node s.block s.bind s.arg s.arm s.expr s.field s.loop s.number s.pattern s.type_expr

-- what an expression comes to
abbrev pub fold_expr : (c : Carriers) → Steps c → Expr → c.expr
fold_expr c s = fold-Expr c.stmt c.node c.shape c.type_node c.block c.bind c.arg c.arm c.expr c.field c.loop c.number c.pattern c.type_expr s.stmt s.node s.shape s.type_node s.block s.bind s.arg s.arm s.expr s.field s.loop s.number s.pattern s.type_expr

-- what a field of a struct value comes to
abbrev pub fold_field : (c : Carriers) → Steps c → FieldValue → c.field
fold_field c s = fold-FieldValue c.stmt c.node c.shape c.type_node c.block c.bind c.arg c.arm c.expr c.field c.loop c.number c.pattern c.type_expr s.stmt s.node s.shape s.type_node s.block s.bind s.arg s.arm s.expr s.field s.loop s.number s.pattern s.type_expr

-- what a loop comes to
abbrev pub fold_loop : (c : Carriers) → Steps c → For → c.loop
fold_loop c s = fold-For c.stmt c.node c.shape c.type_node c.block c.bind c.arg c.arm c.expr c.field c.loop c.number c.pattern c.type_expr s.stmt s.node s.shape s.type_node s.block s.bind s.arg s.arm s.expr s.field s.loop s.number s.pattern s.type_expr

-- what a number comes to
abbrev pub fold_number : (c : Carriers) → Steps c → Number → c.number
fold_number c s = fold-Number c.stmt c.node c.shape c.type_node c.block c.bind c.arg c.arm c.expr c.field c.loop c.number c.pattern c.type_expr s.stmt s.node s.shape s.type_node s.block s.bind s.arg s.arm s.expr s.field s.loop s.number s.pattern s.type_expr

-- what a pattern comes to
abbrev pub fold_pattern : (c : Carriers) → Steps c → Pattern → c.pattern
fold_pattern c s = fold-Pattern c.stmt c.node c.shape c.type_node c.block c.bind c.arg c.arm c.expr c.field c.loop c.number c.pattern c.type_expr s.stmt s.node s.shape s.type_node s.block s.bind s.arg s.arm s.expr s.field s.loop s.number s.pattern s.type_expr

-- what a written type comes to
abbrev pub fold_type_expr : (c : Carriers) → Steps c → TypeExpr → c.type_expr
fold_type_expr c s = fold-TypeExpr c.stmt c.node c.shape c.type_node c.block c.bind c.arg c.arm c.expr c.field c.loop c.number c.pattern c.type_expr s.stmt s.node s.shape s.type_node s.block s.bind s.arg s.arm s.expr s.field s.loop s.number s.pattern s.type_expr

-- what the parts of each sort come to
abbrev pub folds : (c : Carriers) → Steps c → Maps trees c
folds c s = record {
  stmt = fold_stmt c s;
  node = fold_node c s;
  shape = fold_shape c s;
  type_node = fold_type_node c s;
  block = fold_block c s;
  bind = fold_bind c s;
  arg = fold_arg c s;
  arm = fold_arm c s;
  expr = fold_expr c s;
  field = fold_field c s;
  loop = fold_loop c s;
  number = fold_number c s;
  pattern = fold_pattern c s;
  type_expr = fold_type_expr c s;
}

-- ---- one level

module _ (c : Carriers) (s : Steps c) where
  pub fold_stmt-roll : (x : StmtLevel trees) → fold_stmt c s (roll-Stmt x) ≡ s.stmt (map_stmt trees c (folds c s) x)
  fold_stmt-roll = fold-roll-Stmt c.stmt c.node c.shape c.type_node c.block c.bind c.arg c.arm c.expr c.field c.loop c.number c.pattern c.type_expr s.stmt s.node s.shape s.type_node s.block s.bind s.arg s.arm s.expr s.field s.loop s.number s.pattern s.type_expr

  pub fold_node-roll : (x : NodeLevel trees) → fold_node c s (roll-Node x) ≡ s.node (map_node trees c (folds c s) x)
  fold_node-roll = fold-roll-Node c.stmt c.node c.shape c.type_node c.block c.bind c.arg c.arm c.expr c.field c.loop c.number c.pattern c.type_expr s.stmt s.node s.shape s.type_node s.block s.bind s.arg s.arm s.expr s.field s.loop s.number s.pattern s.type_expr

  pub fold_shape-roll : (x : ShapeLevel trees) → fold_shape c s (roll-Shape x) ≡ s.shape (map_shape trees c (folds c s) x)
  fold_shape-roll = fold-roll-Shape c.stmt c.node c.shape c.type_node c.block c.bind c.arg c.arm c.expr c.field c.loop c.number c.pattern c.type_expr s.stmt s.node s.shape s.type_node s.block s.bind s.arg s.arm s.expr s.field s.loop s.number s.pattern s.type_expr

  pub fold_type_node-roll : (x : TypeNodeLevel trees) → fold_type_node c s (roll-TypeNode x) ≡ s.type_node (map_type_node trees c (folds c s) x)
  fold_type_node-roll = fold-roll-TypeNode c.stmt c.node c.shape c.type_node c.block c.bind c.arg c.arm c.expr c.field c.loop c.number c.pattern c.type_expr s.stmt s.node s.shape s.type_node s.block s.bind s.arg s.arm s.expr s.field s.loop s.number s.pattern s.type_expr

  pub fold_block-roll : (x : BlockLevel trees) → fold_block c s (roll-Block x) ≡ s.block (map_block trees c (folds c s) x)
  fold_block-roll = fold-roll-Block c.stmt c.node c.shape c.type_node c.block c.bind c.arg c.arm c.expr c.field c.loop c.number c.pattern c.type_expr s.stmt s.node s.shape s.type_node s.block s.bind s.arg s.arm s.expr s.field s.loop s.number s.pattern s.type_expr

  pub fold_bind-roll : (x : LetLevel trees) → fold_bind c s (roll-Let x) ≡ s.bind (map_bind trees c (folds c s) x)
  fold_bind-roll = fold-roll-Let c.stmt c.node c.shape c.type_node c.block c.bind c.arg c.arm c.expr c.field c.loop c.number c.pattern c.type_expr s.stmt s.node s.shape s.type_node s.block s.bind s.arg s.arm s.expr s.field s.loop s.number s.pattern s.type_expr

  pub fold_arg-roll : (x : ArgLevel trees) → fold_arg c s (roll-Arg x) ≡ s.arg (map_arg trees c (folds c s) x)
  fold_arg-roll = fold-roll-Arg c.stmt c.node c.shape c.type_node c.block c.bind c.arg c.arm c.expr c.field c.loop c.number c.pattern c.type_expr s.stmt s.node s.shape s.type_node s.block s.bind s.arg s.arm s.expr s.field s.loop s.number s.pattern s.type_expr

  pub fold_arm-roll : (x : ArmLevel trees) → fold_arm c s (roll-Arm x) ≡ s.arm (map_arm trees c (folds c s) x)
  fold_arm-roll = fold-roll-Arm c.stmt c.node c.shape c.type_node c.block c.bind c.arg c.arm c.expr c.field c.loop c.number c.pattern c.type_expr s.stmt s.node s.shape s.type_node s.block s.bind s.arg s.arm s.expr s.field s.loop s.number s.pattern s.type_expr

  pub fold_expr-roll : (x : ExprLevel trees) → fold_expr c s (roll-Expr x) ≡ s.expr (map_expr trees c (folds c s) x)
  fold_expr-roll = fold-roll-Expr c.stmt c.node c.shape c.type_node c.block c.bind c.arg c.arm c.expr c.field c.loop c.number c.pattern c.type_expr s.stmt s.node s.shape s.type_node s.block s.bind s.arg s.arm s.expr s.field s.loop s.number s.pattern s.type_expr

  pub fold_field-roll : (x : FieldValueLevel trees) → fold_field c s (roll-FieldValue x) ≡ s.field (map_field trees c (folds c s) x)
  fold_field-roll = fold-roll-FieldValue c.stmt c.node c.shape c.type_node c.block c.bind c.arg c.arm c.expr c.field c.loop c.number c.pattern c.type_expr s.stmt s.node s.shape s.type_node s.block s.bind s.arg s.arm s.expr s.field s.loop s.number s.pattern s.type_expr

  pub fold_loop-roll : (x : ForLevel trees) → fold_loop c s (roll-For x) ≡ s.loop (map_loop trees c (folds c s) x)
  fold_loop-roll = fold-roll-For c.stmt c.node c.shape c.type_node c.block c.bind c.arg c.arm c.expr c.field c.loop c.number c.pattern c.type_expr s.stmt s.node s.shape s.type_node s.block s.bind s.arg s.arm s.expr s.field s.loop s.number s.pattern s.type_expr

  pub fold_number-roll : (x : NumberLevel trees) → fold_number c s (roll-Number x) ≡ s.number (map_number trees c (folds c s) x)
  fold_number-roll = fold-roll-Number c.stmt c.node c.shape c.type_node c.block c.bind c.arg c.arm c.expr c.field c.loop c.number c.pattern c.type_expr s.stmt s.node s.shape s.type_node s.block s.bind s.arg s.arm s.expr s.field s.loop s.number s.pattern s.type_expr

  pub fold_pattern-roll : (x : PatternLevel trees) → fold_pattern c s (roll-Pattern x) ≡ s.pattern (map_pattern trees c (folds c s) x)
  fold_pattern-roll = fold-roll-Pattern c.stmt c.node c.shape c.type_node c.block c.bind c.arg c.arm c.expr c.field c.loop c.number c.pattern c.type_expr s.stmt s.node s.shape s.type_node s.block s.bind s.arg s.arm s.expr s.field s.loop s.number s.pattern s.type_expr

  pub fold_type_expr-roll : (x : TypeExprLevel trees) → fold_type_expr c s (roll-TypeExpr x) ≡ s.type_expr (map_type_expr trees c (folds c s) x)
  fold_type_expr-roll = fold-roll-TypeExpr c.stmt c.node c.shape c.type_node c.block c.bind c.arg c.arm c.expr c.field c.loop c.number c.pattern c.type_expr s.stmt s.node s.shape s.type_node s.block s.bind s.arg s.arm s.expr s.field s.loop s.number s.pattern s.type_expr

-- ---- each kind of part

module _ (c : Carriers) (s : Steps c) where
  pub fold_stmt-Let : (l : Let) → fold_stmt c s (stmt_of.Let l) ≡ s.stmt (Stmt-F.Let (fold_bind c s l))
  fold_stmt-Let l = ap (fold_stmt c s) (sym (stmt_rolls.rolls-Let l)) ∙ fold_stmt-roll c s (Stmt-F.Let l)

  pub fold_stmt-Bare : (e : Expr) → fold_stmt c s (stmt_of.Bare e) ≡ s.stmt (Stmt-F.Bare (fold_expr c s e))
  fold_stmt-Bare e = ap (fold_stmt c s) (sym (stmt_rolls.rolls-Bare e)) ∙ fold_stmt-roll c s (Stmt-F.Bare e)

  pub fold_node-Number : (n : Number) → fold_node c s (node_of.Number n) ≡ s.node (Node-F.Node::Number (fold_number c s n))
  fold_node-Number n = ap (fold_node c s) (sym (node_rolls.rolls-Number n)) ∙ fold_node-roll c s (Node-F.Node::Number n)

  pub fold_node-Bool : (bit : Bool) → fold_node c s (node_of.Bool bit) ≡ s.node (Node-F.Node::Bool bit)
  fold_node-Bool bit = ap (fold_node c s) (sym (node_rolls.rolls-Bool bit)) ∙ fold_node-roll c s (Node-F.Node::Bool bit)

  pub fold_node-Array : (ty : Option TypeExpr) (es : List Expr) (dots : Bool) → fold_node c s (node_of.Array ty es dots) ≡ s.node (Node-F.Node::Array (option_map (fold_type_expr c s) ty) (map (fold_expr c s) es) dots)
  fold_node-Array None es dots = ap (fold_node c s) (sym (node_rolls.rolls-Array None es dots)) ∙ fold_node-roll c s (Node-F.Node::Array None es dots)
  fold_node-Array (Some ty) es dots = ap (fold_node c s) (sym (node_rolls.rolls-Array (Some ty) es dots)) ∙ fold_node-roll c s (Node-F.Node::Array (Some ty) es dots)

  pub fold_node-Name : (name : List ℕ) → fold_node c s (node_of.Name name) ≡ s.node (Node-F.Node::Name name)
  fold_node-Name name = ap (fold_node c s) (sym (node_rolls.rolls-Name name)) ∙ fold_node-roll c s (Node-F.Node::Name name)

  pub fold_node-Member : (e : Ident) (a : Ident) → fold_node c s (node_of.Member e a) ≡ s.node (Node-F.Node::Member e a)
  fold_node-Member e a = ap (fold_node c s) (sym (node_rolls.rolls-Member e a)) ∙ fold_node-roll c s (Node-F.Node::Member e a)

  pub fold_node-Call : (callee : Ident) (numbers : List Arg) (es : List Expr) → fold_node c s (node_of.Call callee numbers es) ≡ s.node (Node-F.Call callee (map (fold_arg c s) numbers) (map (fold_expr c s) es))
  fold_node-Call callee numbers es = ap (fold_node c s) (sym (node_rolls.rolls-Call callee numbers es)) ∙ fold_node-roll c s (Node-F.Call callee numbers es)

  pub fold_node-Tuple : (es : List Expr) → fold_node c s (node_of.Tuple es) ≡ s.node (Node-F.Node::Tuple (map (fold_expr c s) es))
  fold_node-Tuple es = ap (fold_node c s) (sym (node_rolls.rolls-Tuple es)) ∙ fold_node-roll c s (Node-F.Node::Tuple es)

  pub fold_node-Struct : (name : Ident) (fields : List FieldValue) (rest : Option Expr) → fold_node c s (node_of.Struct name fields rest) ≡ s.node (Node-F.Struct name (map (fold_field c s) fields) (option_map (fold_expr c s) rest))
  fold_node-Struct name fields None = ap (fold_node c s) (sym (node_rolls.rolls-Struct name fields None)) ∙ fold_node-roll c s (Node-F.Struct name fields None)
  fold_node-Struct name fields (Some rest) = ap (fold_node c s) (sym (node_rolls.rolls-Struct name fields (Some rest))) ∙ fold_node-roll c s (Node-F.Struct name fields (Some rest))

  pub fold_node-Block : (block : Block) → fold_node c s (node_of.Block block) ≡ s.node (Node-F.Block (fold_block c s block))
  fold_node-Block block = ap (fold_node c s) (sym (node_rolls.rolls-Block block)) ∙ fold_node-roll c s (Node-F.Block block)

  pub fold_node-If : (test : Expr) (taken : Block) (other : Expr) → fold_node c s (node_of.If test taken other) ≡ s.node (Node-F.If (fold_expr c s test) (fold_block c s taken) (fold_expr c s other))
  fold_node-If test taken other = ap (fold_node c s) (sym (node_rolls.rolls-If test taken other)) ∙ fold_node-roll c s (Node-F.If test taken other)

  pub fold_node-Match : (e : Expr) (arms : List Arm) → fold_node c s (node_of.Match e arms) ≡ s.node (Node-F.Match (fold_expr c s e) (map (fold_arm c s) arms))
  fold_node-Match e arms = ap (fold_node c s) (sym (node_rolls.rolls-Match e arms)) ∙ fold_node-roll c s (Node-F.Match e arms)

  pub fold_node-For : (loop : For) → fold_node c s (node_of.For loop) ≡ s.node (Node-F.For (fold_loop c s loop))
  fold_node-For loop = ap (fold_node c s) (sym (node_rolls.rolls-For loop)) ∙ fold_node-roll c s (Node-F.For loop)

  pub fold_node-Index : (e : Expr) (place : Expr) → fold_node c s (node_of.Index e place) ≡ s.node (Node-F.Index (fold_expr c s e) (fold_expr c s place))
  fold_node-Index e place = ap (fold_node c s) (sym (node_rolls.rolls-Index e place)) ∙ fold_node-roll c s (Node-F.Index e place)

  pub fold_node-Slice : (e : Expr) (low : Expr) (high : Expr) → fold_node c s (node_of.Slice e low high) ≡ s.node (Node-F.Slice (fold_expr c s e) (fold_expr c s low) (fold_expr c s high))
  fold_node-Slice e low high = ap (fold_node c s) (sym (node_rolls.rolls-Slice e low high)) ∙ fold_node-roll c s (Node-F.Slice e low high)

  pub fold_node-Part : (e : Expr) (start : Expr) (t : TypeExpr) → fold_node c s (node_of.Part e start t) ≡ s.node (Node-F.Part (fold_expr c s e) (fold_expr c s start) (fold_type_expr c s t))
  fold_node-Part e start t = ap (fold_node c s) (sym (node_rolls.rolls-Part e start t)) ∙ fold_node-roll c s (Node-F.Part e start t)

  pub fold_node-Field : (e : Expr) (name : Ident) → fold_node c s (node_of.Field e name) ≡ s.node (Node-F.Field (fold_expr c s e) name)
  fold_node-Field e name = ap (fold_node c s) (sym (node_rolls.rolls-Field e name)) ∙ fold_node-roll c s (Node-F.Field e name)

  pub fold_node-Element : (e : Expr) (span : Span) (k : ℕ) → fold_node c s (node_of.Element e span k) ≡ s.node (Node-F.Element (fold_expr c s e) span k)
  fold_node-Element e span k = ap (fold_node c s) (sym (node_rolls.rolls-Element e span k)) ∙ fold_node-roll c s (Node-F.Element e span k)

  pub fold_node-Prefix : (o : Prefix) (e : Expr) → fold_node c s (node_of.Prefix o e) ≡ s.node (Node-F.Prefix o (fold_expr c s e))
  fold_node-Prefix o e = ap (fold_node c s) (sym (node_rolls.rolls-Prefix o e)) ∙ fold_node-roll c s (Node-F.Prefix o e)

  pub fold_node-Cast : (e : Expr) (t : TypeExpr) → fold_node c s (node_of.Cast e t) ≡ s.node (Node-F.Cast (fold_expr c s e) (fold_type_expr c s t))
  fold_node-Cast e t = ap (fold_node c s) (sym (node_rolls.rolls-Cast e t)) ∙ fold_node-roll c s (Node-F.Cast e t)

  pub fold_node-Binary : (o : Binary) (l : Expr) (r : Expr) → fold_node c s (node_of.Binary o l r) ≡ s.node (Node-F.Binary o (fold_expr c s l) (fold_expr c s r))
  fold_node-Binary o l r = ap (fold_node c s) (sym (node_rolls.rolls-Binary o l r)) ∙ fold_node-roll c s (Node-F.Binary o l r)

  pub fold_shape-Wild : fold_shape c s shape_of.Wild ≡ s.shape Shape-F.Wild
  fold_shape-Wild = ap (fold_shape c s) (sym (shape_rolls.rolls-Wild)) ∙ fold_shape-roll c s Shape-F.Wild

  pub fold_shape-Bool : (bit : Bool) → fold_shape c s (shape_of.Bool bit) ≡ s.shape (Shape-F.Shape::Bool bit)
  fold_shape-Bool bit = ap (fold_shape c s) (sym (shape_rolls.rolls-Bool bit)) ∙ fold_shape-roll c s (Shape-F.Shape::Bool bit)

  pub fold_shape-Number : (n : Number) → fold_shape c s (shape_of.Number n) ≡ s.shape (Shape-F.Shape::Number (fold_number c s n))
  fold_shape-Number n = ap (fold_shape c s) (sym (shape_rolls.rolls-Number n)) ∙ fold_shape-roll c s (Shape-F.Shape::Number n)

  pub fold_shape-Name : (name : List ℕ) → fold_shape c s (shape_of.Name name) ≡ s.shape (Shape-F.Shape::Name name)
  fold_shape-Name name = ap (fold_shape c s) (sym (shape_rolls.rolls-Name name)) ∙ fold_shape-roll c s (Shape-F.Shape::Name name)

  pub fold_shape-Member : (e : Ident) (a : Ident) → fold_shape c s (shape_of.Member e a) ≡ s.shape (Shape-F.Shape::Member e a)
  fold_shape-Member e a = ap (fold_shape c s) (sym (shape_rolls.rolls-Member e a)) ∙ fold_shape-roll c s (Shape-F.Shape::Member e a)

  pub fold_shape-Tuple : (ps : List Pattern) → fold_shape c s (shape_of.Tuple ps) ≡ s.shape (Shape-F.Shape::Tuple (map (fold_pattern c s) ps))
  fold_shape-Tuple ps = ap (fold_shape c s) (sym (shape_rolls.rolls-Tuple ps)) ∙ fold_shape-roll c s (Shape-F.Shape::Tuple ps)

  pub fold_type_node-Bits : (signed : Bool) (width : ℕ) → fold_type_node c s (type_node_of.Bits signed width) ≡ s.type_node (TypeNode-F.Bits signed width)
  fold_type_node-Bits signed width = ap (fold_type_node c s) (sym (type_node_rolls.rolls-Bits signed width)) ∙ fold_type_node-roll c s (TypeNode-F.Bits signed width)

  pub fold_type_node-Wide : (signed : Bool) (e : Expr) → fold_type_node c s (type_node_of.Wide signed e) ≡ s.type_node (TypeNode-F.Wide signed (fold_expr c s e))
  fold_type_node-Wide signed e = ap (fold_type_node c s) (sym (type_node_rolls.rolls-Wide signed e)) ∙ fold_type_node-roll c s (TypeNode-F.Wide signed e)

  pub fold_type_node-Bool : fold_type_node c s type_node_of.Bool ≡ s.type_node TypeNode-F.TypeNode::Bool
  fold_type_node-Bool = ap (fold_type_node c s) (sym (type_node_rolls.rolls-Bool)) ∙ fold_type_node-roll c s TypeNode-F.TypeNode::Bool

  pub fold_type_node-Name : (name : List ℕ) → fold_type_node c s (type_node_of.Name name) ≡ s.type_node (TypeNode-F.TypeNode::Name name)
  fold_type_node-Name name = ap (fold_type_node c s) (sym (type_node_rolls.rolls-Name name)) ∙ fold_type_node-roll c s (TypeNode-F.TypeNode::Name name)

  pub fold_type_node-Tuple : (ts : List TypeExpr) → fold_type_node c s (type_node_of.Tuple ts) ≡ s.type_node (TypeNode-F.TypeNode::Tuple (map (fold_type_expr c s) ts))
  fold_type_node-Tuple ts = ap (fold_type_node c s) (sym (type_node_rolls.rolls-Tuple ts)) ∙ fold_type_node-roll c s (TypeNode-F.TypeNode::Tuple ts)

  pub fold_type_node-Array : (t : TypeExpr) (e : Expr) → fold_type_node c s (type_node_of.Array t e) ≡ s.type_node (TypeNode-F.TypeNode::Array (fold_type_expr c s t) (fold_expr c s e))
  fold_type_node-Array t e = ap (fold_type_node c s) (sym (type_node_rolls.rolls-Array t e)) ∙ fold_type_node-roll c s (TypeNode-F.TypeNode::Array t e)
