-- One level of a tree of each sort of parts: what stands in the place of its parts may be anything.
use Rattle.std.proofs.Common.{◌≡◌, Option, Some, None, refl}
use Rattle.std.proofs.lemmas.Simd.{map-map}
use Rattle.dslx_tree.specs.declared.block.Stmt.TheOpen.{Stmt-F, Node-F, Shape-F, TypeNode-F, Block-F, Let-F, Arg-F, Arm-F, Expr-F, FieldValue-F, For-F, Number-F, Pattern-F, TypeExpr-F}
use Rattle.dslx_tree.specs.declared.block.Stmt.TheFolds.{map-Stmt, map-Node, map-Shape, map-TypeNode, map-Block, map-Let, map-Arg, map-Arm, map-Expr, map-FieldValue, map-For, map-Number, map-Pattern, map-TypeExpr}
use Rattle.dslx_tree.specs.declared.block.Stmt.{Stmt}
use Rattle.dslx_tree.specs.declared.expr.Node.{Node}
use Rattle.dslx_tree.specs.declared.pattern.Shape.{Shape}
use Rattle.dslx_tree.specs.declared.type_expr.TypeNode.{TypeNode}
use Rattle.dslx_tree.specs.declared.block.Block.{Block}
use Rattle.dslx_tree.specs.declared.block.Let.{Let}
use Rattle.dslx_tree.specs.declared.expr.Arg.{Arg}
use Rattle.dslx_tree.specs.declared.expr.Arm.{Arm}
use Rattle.dslx_tree.specs.declared.expr.Expr.{Expr}
use Rattle.dslx_tree.specs.declared.expr.FieldValue.{FieldValue}
use Rattle.dslx_tree.specs.declared.expr.For.{For}
use Rattle.dslx_tree.specs.declared.expr.Number.{Number}
use Rattle.dslx_tree.specs.declared.pattern.Pattern.{Pattern}
use Rattle.dslx_tree.specs.declared.type_expr.TypeExpr.{TypeExpr}

-- what stands for the parts of each sort
pub record Carriers : Type 1 where
  pub stmt : Type 0
  pub node : Type 0
  pub shape : Type 0
  pub type_node : Type 0
  pub block : Type 0
  pub bind : Type 0
  pub arg : Type 0
  pub arm : Type 0
  pub expr : Type 0
  pub field : Type 0
  pub loop : Type 0
  pub number : Type 0
  pub pattern : Type 0
  pub type_expr : Type 0

-- the trees themselves
abbrev pub trees : Carriers
trees = record {
  stmt = Stmt;
  node = Node;
  shape = Shape;
  type_node = TypeNode;
  block = Block;
  bind = Let;
  arg = Arg;
  arm = Arm;
  expr = Expr;
  field = FieldValue;
  loop = For;
  number = Number;
  pattern = Pattern;
  type_expr = TypeExpr;
}

-- one level of a statement
abbrev pub StmtLevel : Carriers → Type 0
StmtLevel c = Stmt-F c.stmt c.node c.shape c.type_node c.block c.bind c.arg c.arm c.expr c.field c.loop c.number c.pattern c.type_expr

-- one level of what an expression is
abbrev pub NodeLevel : Carriers → Type 0
NodeLevel c = Node-F c.stmt c.node c.shape c.type_node c.block c.bind c.arg c.arm c.expr c.field c.loop c.number c.pattern c.type_expr

-- one level of what a pattern is
abbrev pub ShapeLevel : Carriers → Type 0
ShapeLevel c = Shape-F c.stmt c.node c.shape c.type_node c.block c.bind c.arg c.arm c.expr c.field c.loop c.number c.pattern c.type_expr

-- one level of what a type is
abbrev pub TypeNodeLevel : Carriers → Type 0
TypeNodeLevel c = TypeNode-F c.stmt c.node c.shape c.type_node c.block c.bind c.arg c.arm c.expr c.field c.loop c.number c.pattern c.type_expr

-- one level of a block
abbrev pub BlockLevel : Carriers → Type 0
BlockLevel c = Block-F c.stmt c.node c.shape c.type_node c.block c.bind c.arg c.arm c.expr c.field c.loop c.number c.pattern c.type_expr

-- one level of a `let`
abbrev pub LetLevel : Carriers → Type 0
LetLevel c = Let-F c.stmt c.node c.shape c.type_node c.block c.bind c.arg c.arm c.expr c.field c.loop c.number c.pattern c.type_expr

-- one level of an argument between `<` and `>`
abbrev pub ArgLevel : Carriers → Type 0
ArgLevel c = Arg-F c.stmt c.node c.shape c.type_node c.block c.bind c.arg c.arm c.expr c.field c.loop c.number c.pattern c.type_expr

-- one level of an arm
abbrev pub ArmLevel : Carriers → Type 0
ArmLevel c = Arm-F c.stmt c.node c.shape c.type_node c.block c.bind c.arg c.arm c.expr c.field c.loop c.number c.pattern c.type_expr

-- one level of an expression
abbrev pub ExprLevel : Carriers → Type 0
ExprLevel c = Expr-F c.stmt c.node c.shape c.type_node c.block c.bind c.arg c.arm c.expr c.field c.loop c.number c.pattern c.type_expr

-- one level of a field of a struct value
abbrev pub FieldValueLevel : Carriers → Type 0
FieldValueLevel c = FieldValue-F c.stmt c.node c.shape c.type_node c.block c.bind c.arg c.arm c.expr c.field c.loop c.number c.pattern c.type_expr

-- one level of a loop
abbrev pub ForLevel : Carriers → Type 0
ForLevel c = For-F c.stmt c.node c.shape c.type_node c.block c.bind c.arg c.arm c.expr c.field c.loop c.number c.pattern c.type_expr

-- one level of a number
abbrev pub NumberLevel : Carriers → Type 0
NumberLevel c = Number-F c.stmt c.node c.shape c.type_node c.block c.bind c.arg c.arm c.expr c.field c.loop c.number c.pattern c.type_expr

-- one level of a pattern
abbrev pub PatternLevel : Carriers → Type 0
PatternLevel c = Pattern-F c.stmt c.node c.shape c.type_node c.block c.bind c.arg c.arm c.expr c.field c.loop c.number c.pattern c.type_expr

-- one level of a written type
abbrev pub TypeExprLevel : Carriers → Type 0
TypeExprLevel c = TypeExpr-F c.stmt c.node c.shape c.type_node c.block c.bind c.arg c.arm c.expr c.field c.loop c.number c.pattern c.type_expr

-- a function for the parts of each sort
pub record Maps (c d : Carriers) : Type 0 where
  pub stmt : c.stmt → d.stmt
  pub node : c.node → d.node
  pub shape : c.shape → d.shape
  pub type_node : c.type_node → d.type_node
  pub block : c.block → d.block
  pub bind : c.bind → d.bind
  pub arg : c.arg → d.arg
  pub arm : c.arm → d.arm
  pub expr : c.expr → d.expr
  pub field : c.field → d.field
  pub loop : c.loop → d.loop
  pub number : c.number → d.number
  pub pattern : c.pattern → d.pattern
  pub type_expr : c.type_expr → d.type_expr

-- one after the other
abbrev pub composed : (b c d : Carriers) → Maps c d → Maps b c → Maps b d
composed b c d f g = record {
  stmt = λ x. f.stmt (g.stmt x);
  node = λ x. f.node (g.node x);
  shape = λ x. f.shape (g.shape x);
  type_node = λ x. f.type_node (g.type_node x);
  block = λ x. f.block (g.block x);
  bind = λ x. f.bind (g.bind x);
  arg = λ x. f.arg (g.arg x);
  arm = λ x. f.arm (g.arm x);
  expr = λ x. f.expr (g.expr x);
  field = λ x. f.field (g.field x);
  loop = λ x. f.loop (g.loop x);
  number = λ x. f.number (g.number x);
  pattern = λ x. f.pattern (g.pattern x);
  type_expr = λ x. f.type_expr (g.type_expr x);
}

-- a statement with each part replaced
abbrev pub map_stmt : (c d : Carriers) → Maps c d → StmtLevel c → StmtLevel d
map_stmt c d f = map-Stmt c.stmt c.node c.shape c.type_node c.block c.bind c.arg c.arm c.expr c.field c.loop c.number c.pattern c.type_expr d.stmt d.node d.shape d.type_node d.block d.bind d.arg d.arm d.expr d.field d.loop d.number d.pattern d.type_expr f.stmt f.node f.shape f.type_node f.block f.bind f.arg f.arm f.expr f.field f.loop f.number f.pattern f.type_expr

-- what an expression is with each part replaced
abbrev pub map_node : (c d : Carriers) → Maps c d → NodeLevel c → NodeLevel d
map_node c d f = map-Node c.stmt c.node c.shape c.type_node c.block c.bind c.arg c.arm c.expr c.field c.loop c.number c.pattern c.type_expr d.stmt d.node d.shape d.type_node d.block d.bind d.arg d.arm d.expr d.field d.loop d.number d.pattern d.type_expr f.stmt f.node f.shape f.type_node f.block f.bind f.arg f.arm f.expr f.field f.loop f.number f.pattern f.type_expr

-- what a pattern is with each part replaced
abbrev pub map_shape : (c d : Carriers) → Maps c d → ShapeLevel c → ShapeLevel d
map_shape c d f = map-Shape c.stmt c.node c.shape c.type_node c.block c.bind c.arg c.arm c.expr c.field c.loop c.number c.pattern c.type_expr d.stmt d.node d.shape d.type_node d.block d.bind d.arg d.arm d.expr d.field d.loop d.number d.pattern d.type_expr f.stmt f.node f.shape f.type_node f.block f.bind f.arg f.arm f.expr f.field f.loop f.number f.pattern f.type_expr

-- what a type is with each part replaced
abbrev pub map_type_node : (c d : Carriers) → Maps c d → TypeNodeLevel c → TypeNodeLevel d
map_type_node c d f = map-TypeNode c.stmt c.node c.shape c.type_node c.block c.bind c.arg c.arm c.expr c.field c.loop c.number c.pattern c.type_expr d.stmt d.node d.shape d.type_node d.block d.bind d.arg d.arm d.expr d.field d.loop d.number d.pattern d.type_expr f.stmt f.node f.shape f.type_node f.block f.bind f.arg f.arm f.expr f.field f.loop f.number f.pattern f.type_expr

-- a block with each part replaced
abbrev pub map_block : (c d : Carriers) → Maps c d → BlockLevel c → BlockLevel d
map_block c d f = map-Block c.stmt c.node c.shape c.type_node c.block c.bind c.arg c.arm c.expr c.field c.loop c.number c.pattern c.type_expr d.stmt d.node d.shape d.type_node d.block d.bind d.arg d.arm d.expr d.field d.loop d.number d.pattern d.type_expr f.stmt f.node f.shape f.type_node f.block f.bind f.arg f.arm f.expr f.field f.loop f.number f.pattern f.type_expr

-- a `let` with each part replaced
abbrev pub map_bind : (c d : Carriers) → Maps c d → LetLevel c → LetLevel d
map_bind c d f = map-Let c.stmt c.node c.shape c.type_node c.block c.bind c.arg c.arm c.expr c.field c.loop c.number c.pattern c.type_expr d.stmt d.node d.shape d.type_node d.block d.bind d.arg d.arm d.expr d.field d.loop d.number d.pattern d.type_expr f.stmt f.node f.shape f.type_node f.block f.bind f.arg f.arm f.expr f.field f.loop f.number f.pattern f.type_expr

-- an argument between `<` and `>` with each part replaced
abbrev pub map_arg : (c d : Carriers) → Maps c d → ArgLevel c → ArgLevel d
map_arg c d f = map-Arg c.stmt c.node c.shape c.type_node c.block c.bind c.arg c.arm c.expr c.field c.loop c.number c.pattern c.type_expr d.stmt d.node d.shape d.type_node d.block d.bind d.arg d.arm d.expr d.field d.loop d.number d.pattern d.type_expr f.stmt f.node f.shape f.type_node f.block f.bind f.arg f.arm f.expr f.field f.loop f.number f.pattern f.type_expr

-- an arm with each part replaced
abbrev pub map_arm : (c d : Carriers) → Maps c d → ArmLevel c → ArmLevel d
map_arm c d f = map-Arm c.stmt c.node c.shape c.type_node c.block c.bind c.arg c.arm c.expr c.field c.loop c.number c.pattern c.type_expr d.stmt d.node d.shape d.type_node d.block d.bind d.arg d.arm d.expr d.field d.loop d.number d.pattern d.type_expr f.stmt f.node f.shape f.type_node f.block f.bind f.arg f.arm f.expr f.field f.loop f.number f.pattern f.type_expr

-- an expression with each part replaced
abbrev pub map_expr : (c d : Carriers) → Maps c d → ExprLevel c → ExprLevel d
map_expr c d f = map-Expr c.stmt c.node c.shape c.type_node c.block c.bind c.arg c.arm c.expr c.field c.loop c.number c.pattern c.type_expr d.stmt d.node d.shape d.type_node d.block d.bind d.arg d.arm d.expr d.field d.loop d.number d.pattern d.type_expr f.stmt f.node f.shape f.type_node f.block f.bind f.arg f.arm f.expr f.field f.loop f.number f.pattern f.type_expr

-- a field of a struct value with each part replaced
abbrev pub map_field : (c d : Carriers) → Maps c d → FieldValueLevel c → FieldValueLevel d
map_field c d f = map-FieldValue c.stmt c.node c.shape c.type_node c.block c.bind c.arg c.arm c.expr c.field c.loop c.number c.pattern c.type_expr d.stmt d.node d.shape d.type_node d.block d.bind d.arg d.arm d.expr d.field d.loop d.number d.pattern d.type_expr f.stmt f.node f.shape f.type_node f.block f.bind f.arg f.arm f.expr f.field f.loop f.number f.pattern f.type_expr

-- a loop with each part replaced
abbrev pub map_loop : (c d : Carriers) → Maps c d → ForLevel c → ForLevel d
map_loop c d f = map-For c.stmt c.node c.shape c.type_node c.block c.bind c.arg c.arm c.expr c.field c.loop c.number c.pattern c.type_expr d.stmt d.node d.shape d.type_node d.block d.bind d.arg d.arm d.expr d.field d.loop d.number d.pattern d.type_expr f.stmt f.node f.shape f.type_node f.block f.bind f.arg f.arm f.expr f.field f.loop f.number f.pattern f.type_expr

-- a number with each part replaced
abbrev pub map_number : (c d : Carriers) → Maps c d → NumberLevel c → NumberLevel d
map_number c d f = map-Number c.stmt c.node c.shape c.type_node c.block c.bind c.arg c.arm c.expr c.field c.loop c.number c.pattern c.type_expr d.stmt d.node d.shape d.type_node d.block d.bind d.arg d.arm d.expr d.field d.loop d.number d.pattern d.type_expr f.stmt f.node f.shape f.type_node f.block f.bind f.arg f.arm f.expr f.field f.loop f.number f.pattern f.type_expr

-- a pattern with each part replaced
abbrev pub map_pattern : (c d : Carriers) → Maps c d → PatternLevel c → PatternLevel d
map_pattern c d f = map-Pattern c.stmt c.node c.shape c.type_node c.block c.bind c.arg c.arm c.expr c.field c.loop c.number c.pattern c.type_expr d.stmt d.node d.shape d.type_node d.block d.bind d.arg d.arm d.expr d.field d.loop d.number d.pattern d.type_expr f.stmt f.node f.shape f.type_node f.block f.bind f.arg f.arm f.expr f.field f.loop f.number f.pattern f.type_expr

-- a written type with each part replaced
abbrev pub map_type_expr : (c d : Carriers) → Maps c d → TypeExprLevel c → TypeExprLevel d
map_type_expr c d f = map-TypeExpr c.stmt c.node c.shape c.type_node c.block c.bind c.arg c.arm c.expr c.field c.loop c.number c.pattern c.type_expr d.stmt d.node d.shape d.type_node d.block d.bind d.arg d.arm d.expr d.field d.loop d.number d.pattern d.type_expr f.stmt f.node f.shape f.type_node f.block f.bind f.arg f.arm f.expr f.field f.loop f.number f.pattern f.type_expr

-- ---- parts that are replaced twice

module _ (b c d : Carriers) (f : Maps c d) (g : Maps b c) where
  pub map_stmt-twice : (x : StmtLevel b) → map_stmt c d f (map_stmt b c g x) ≡ map_stmt b d (composed b c d f g) x
  map_stmt-twice (Stmt-F.Let l) = refl
  map_stmt-twice (Stmt-F.Bare e) = refl

  pub map_node-twice : (x : NodeLevel b) → map_node c d f (map_node b c g x) ≡ map_node b d (composed b c d f g) x
  map_node-twice (Node-F.Node::Number n) = refl
  map_node-twice (Node-F.Node::Bool bit) = refl
  map_node-twice (Node-F.Node::Array None es dots) = λ i. Node-F.Node::Array None (map-map f.expr g.expr es i) dots
  map_node-twice (Node-F.Node::Array (Some ty) es dots) = λ i. Node-F.Node::Array (Some (f.type_expr (g.type_expr ty))) (map-map f.expr g.expr es i) dots
  map_node-twice (Node-F.Node::Name name) = refl
  map_node-twice (Node-F.Node::Member e a) = refl
  map_node-twice (Node-F.Call callee numbers es) = λ i. Node-F.Call callee (map-map f.arg g.arg numbers i) (map-map f.expr g.expr es i)
  map_node-twice (Node-F.Node::Tuple es) = λ i. Node-F.Node::Tuple (map-map f.expr g.expr es i)
  map_node-twice (Node-F.Struct name fields None) = λ i. Node-F.Struct name (map-map f.field g.field fields i) None
  map_node-twice (Node-F.Struct name fields (Some rest)) = λ i. Node-F.Struct name (map-map f.field g.field fields i) (Some (f.expr (g.expr rest)))
  map_node-twice (Node-F.Block block) = refl
  map_node-twice (Node-F.If test taken other) = refl
  map_node-twice (Node-F.Match e arms) = λ i. Node-F.Match (f.expr (g.expr e)) (map-map f.arm g.arm arms i)
  map_node-twice (Node-F.For loop) = refl
  map_node-twice (Node-F.Index e place) = refl
  map_node-twice (Node-F.Slice e low high) = refl
  map_node-twice (Node-F.Part e start t) = refl
  map_node-twice (Node-F.Field e name) = refl
  map_node-twice (Node-F.Element e span k) = refl
  map_node-twice (Node-F.Prefix o e) = refl
  map_node-twice (Node-F.Cast e t) = refl
  map_node-twice (Node-F.Binary o l r) = refl

  pub map_shape-twice : (x : ShapeLevel b) → map_shape c d f (map_shape b c g x) ≡ map_shape b d (composed b c d f g) x
  map_shape-twice Shape-F.Wild = refl
  map_shape-twice (Shape-F.Shape::Bool bit) = refl
  map_shape-twice (Shape-F.Shape::Number n) = refl
  map_shape-twice (Shape-F.Shape::Name name) = refl
  map_shape-twice (Shape-F.Shape::Member e a) = refl
  map_shape-twice (Shape-F.Shape::Tuple ps) = λ i. Shape-F.Shape::Tuple (map-map f.pattern g.pattern ps i)

  pub map_type_node-twice : (x : TypeNodeLevel b) → map_type_node c d f (map_type_node b c g x) ≡ map_type_node b d (composed b c d f g) x
  map_type_node-twice (TypeNode-F.Bits signed width) = refl
  map_type_node-twice (TypeNode-F.Wide signed e) = refl
  map_type_node-twice TypeNode-F.TypeNode::Bool = refl
  map_type_node-twice (TypeNode-F.TypeNode::Name name) = refl
  map_type_node-twice (TypeNode-F.TypeNode::Tuple ts) = λ i. TypeNode-F.TypeNode::Tuple (map-map f.type_expr g.type_expr ts i)
  map_type_node-twice (TypeNode-F.TypeNode::Array t e) = refl

  pub map_block-twice : (x : BlockLevel b) → map_block c d f (map_block b c g x) ≡ map_block b d (composed b c d f g) x
  map_block-twice x = by_cases x.value
    where
      by_cases : (o : Option b.expr) → map_block c d f (map_block b c g (record { span = x.span; statements = x.statements; value = o })) ≡ map_block b d (composed b c d f g) (record { span = x.span; statements = x.statements; value = o })
      by_cases None = λ i. record { span = x.span; statements = map-map f.stmt g.stmt x.statements i; value = None }
      by_cases (Some y) = λ i. record { span = x.span; statements = map-map f.stmt g.stmt x.statements i; value = Some (f.expr (g.expr y)) }

  pub map_bind-twice : (x : LetLevel b) → map_bind c d f (map_bind b c g x) ≡ map_bind b d (composed b c d f g) x
  map_bind-twice x = by_cases x.ty
    where
      by_cases : (o : Option b.type_expr) → map_bind c d f (map_bind b c g (record { span = x.span; pattern = x.pattern; ty = o; value = x.value })) ≡ map_bind b d (composed b c d f g) (record { span = x.span; pattern = x.pattern; ty = o; value = x.value })
      by_cases None = refl
      by_cases (Some y) = refl

  pub map_arg-twice : (x : ArgLevel b) → map_arg c d f (map_arg b c g x) ≡ map_arg b d (composed b c d f g) x
  map_arg-twice x = refl

  pub map_arm-twice : (x : ArmLevel b) → map_arm c d f (map_arm b c g x) ≡ map_arm b d (composed b c d f g) x
  map_arm-twice x = λ i. record { patterns = map-map f.pattern g.pattern x.patterns i; value = f.expr (g.expr x.value) }

  pub map_expr-twice : (x : ExprLevel b) → map_expr c d f (map_expr b c g x) ≡ map_expr b d (composed b c d f g) x
  map_expr-twice x = refl

  pub map_field-twice : (x : FieldValueLevel b) → map_field c d f (map_field b c g x) ≡ map_field b d (composed b c d f g) x
  map_field-twice x = by_cases x.value
    where
      by_cases : (o : Option b.expr) → map_field c d f (map_field b c g (record { name = x.name; value = o })) ≡ map_field b d (composed b c d f g) (record { name = x.name; value = o })
      by_cases None = refl
      by_cases (Some y) = refl

  pub map_loop-twice : (x : ForLevel b) → map_loop c d f (map_loop b c g x) ≡ map_loop b d (composed b c d f g) x
  map_loop-twice x = by_cases x.ty
    where
      by_cases : (o : Option b.type_expr) → map_loop c d f (map_loop b c g (record { index = x.index; accumulator = x.accumulator; ty = o; from = x.from; to = x.to; body = x.body; start = x.start })) ≡ map_loop b d (composed b c d f g) (record { index = x.index; accumulator = x.accumulator; ty = o; from = x.from; to = x.to; body = x.body; start = x.start })
      by_cases None = refl
      by_cases (Some y) = refl

  pub map_number-twice : (x : NumberLevel b) → map_number c d f (map_number b c g x) ≡ map_number b d (composed b c d f g) x
  map_number-twice x = by_cases x.ty
    where
      by_cases : (o : Option b.type_expr) → map_number c d f (map_number b c g (record { ty = o; is_negative = x.is_negative; value = x.value })) ≡ map_number b d (composed b c d f g) (record { ty = o; is_negative = x.is_negative; value = x.value })
      by_cases None = refl
      by_cases (Some y) = refl

  pub map_pattern-twice : (x : PatternLevel b) → map_pattern c d f (map_pattern b c g x) ≡ map_pattern b d (composed b c d f g) x
  map_pattern-twice x = refl

  pub map_type_expr-twice : (x : TypeExprLevel b) → map_type_expr c d f (map_type_expr b c g x) ≡ map_type_expr b d (composed b c d f g) x
  map_type_expr-twice x = refl
