-- What each step does with a part of a tree: its own parts are to be visited, in order.
use Rattle.std.specs.Prelude.{ℕ, List, [], ◌∷◌, ◌++◌, length, Option, Some, None, if◌then◌else◌}
use Rattle.dslx_tree.specs.declared.block.Block.{Block, out-Block}
use Rattle.dslx_tree.specs.declared.block.Let.{out-Let}
use Rattle.dslx_tree.specs.declared.block.Stmt.{Stmt, out-Stmt}
use Rattle.dslx_tree.specs.declared.block.Stmt.TheOpen.{Stmt-F, Node-F, Shape-F, TypeNode-F}
use Rattle.dslx_tree.specs.declared.expr.Arg.{Arg, out-Arg}
use Rattle.dslx_tree.specs.declared.expr.Arm.{Arm, out-Arm}
use Rattle.dslx_tree.specs.declared.expr.Expr.{Expr}
use Rattle.dslx_tree.specs.declared.expr.FieldValue.{FieldValue, out-FieldValue}
use Rattle.dslx_tree.specs.declared.expr.For.{For, out-For}
use Rattle.dslx_tree.specs.declared.expr.Number.{out-Number}
use Rattle.dslx_tree.specs.declared.pattern.Pattern.{Pattern}
use Rattle.dslx_tree.specs.declared.type_expr.TypeExpr.{TypeExpr}
use Rattle.dslx_meaning.specs.Activation.{NodeLayer, StmtLayer, node_of}
use Rattle.dslx_meaning.specs.Lists.{is_in}
use Rattle.dslx_meaning.specs.Names.FirstNames.{first_names}
use Rattle.dslx_meaning.specs.Names.ConstMachine.Layers.{PatternLayer, TypeLayer, shape_of, type_of}
use Rattle.dslx_scope.specs.FreeNames.Tasks as task
use Rattle.dslx_scope.specs.FreeNames.Tasks.{FreeTask, FreeState}

-- these are to be visited first
abbrev pub visiting : List FreeTask → FreeState → FreeState
visiting more run = record run { todo = more ++ run.todo }

-- with a task less
abbrev pub with_todo : List FreeTask → FreeState → FreeState
with_todo todo run = record run { todo = todo }

-- a name that stands for a value
abbrev pub meets_name : List ℕ → FreeState → FreeState
meets_name name run = if is_in name run.bound then run else record run { found = run.found ++ name ∷ [] }

abbrev pub binding_name : List ℕ → FreeState → FreeState
binding_name name run = record run { bound = name ∷ run.bound }

abbrev pub keeping_names : ℕ → FreeState → FreeState
keeping_names n run = record run { bound = first_names n run.bound }

-- what is bound behind is no more bound than here
abbrev pub keeps_bound : FreeState → FreeTask
keeps_bound run = task.KeepsNames (length run.bound)

abbrev pub type_visited : Option TypeExpr → FreeState → FreeState
type_visited None run = run
type_visited (Some t) run = visiting (task.VisitsType t ∷ []) run

abbrev pub expr_visited : Option Expr → FreeState → FreeState
expr_visited None run = run
expr_visited (Some e) run = visiting (task.VisitsExpr e ∷ []) run

-- ---- types and patterns

abbrev pub type_opens : TypeLayer → FreeState → FreeState
type_opens (TypeNode-F.Wide s e) run = visiting (task.VisitsExpr e ∷ []) run
type_opens (TypeNode-F.TypeNode::Tuple ts) run = visiting (task.VisitsTypes ts ∷ []) run
type_opens (TypeNode-F.TypeNode::Array t e) run = visiting (task.VisitsType t ∷ task.VisitsExpr e ∷ []) run
type_opens _ run = run

abbrev pub types_open : List TypeExpr → FreeState → FreeState
types_open [] run = run
types_open (t ∷ ts) run = visiting (task.VisitsType t ∷ task.VisitsTypes ts ∷ []) run

abbrev pub shape_opens : PatternLayer → FreeState → FreeState
shape_opens (Shape-F.Shape::Number n) run = type_visited (out-Number n).ty run
shape_opens (Shape-F.Shape::Tuple ps) run = visiting (task.VisitsPatterns ps ∷ []) run
shape_opens _ run = run

abbrev pub patterns_open : List Pattern → FreeState → FreeState
patterns_open [] run = run
patterns_open (p ∷ ps) run = visiting (task.VisitsPattern p ∷ task.VisitsPatterns ps ∷ []) run

abbrev pub shape_binds : PatternLayer → FreeState → FreeState
shape_binds (Shape-F.Shape::Name name) run = binding_name name run
shape_binds (Shape-F.Shape::Tuple ps) run = visiting (task.BindsNamesOfAll ps ∷ []) run
shape_binds _ run = run

-- the names of the first one are bound last, so that they stand first
abbrev pub patterns_bind : List Pattern → FreeState → FreeState
patterns_bind [] run = run
patterns_bind (p ∷ ps) run = visiting (task.BindsNamesOfAll ps ∷ task.BindsNames p ∷ []) run

-- ---- expressions

abbrev pub loop_opens : For → FreeState → FreeState
loop_opens f run =
    visiting (task.VisitsExpr (out-For f).from ∷ task.VisitsExpr (out-For f).to ∷ task.VisitsExpr (out-For f).start ∷ [])
    (type_visited (out-For f).ty
    (visiting (task.VisitsPattern (out-For f).index ∷ task.VisitsPattern (out-For f).accumulator ∷ [])
    (visiting (task.BindsNames (out-For f).index ∷ task.BindsNames (out-For f).accumulator ∷ [])
    (visiting (task.VisitsBlock (out-For f).body ∷ keeps_bound run ∷ []) run))))

abbrev pub node_opens : NodeLayer → FreeState → FreeState
node_opens (Node-F.Node::Number n) run = type_visited (out-Number n).ty run
node_opens (Node-F.Node::Bool b) run = run
node_opens (Node-F.Node::Array ty es dots) run = type_visited ty (visiting (task.VisitsExprs es ∷ []) run)
node_opens (Node-F.Node::Name name) run = meets_name name run
node_opens (Node-F.Node::Member e a) run = run
node_opens (Node-F.Call f parametric_args es) run = visiting (task.VisitsArgs parametric_args ∷ task.VisitsExprs es ∷ []) run
node_opens (Node-F.Node::Tuple es) run = visiting (task.VisitsExprs es ∷ []) run
node_opens (Node-F.Struct s fields rest) run = visiting (task.VisitsFields fields ∷ []) (expr_visited rest run)
node_opens (Node-F.Block b) run = visiting (task.VisitsBlock b ∷ []) run
node_opens (Node-F.If c a b) run = visiting (task.VisitsExpr c ∷ task.VisitsBlock a ∷ task.VisitsExpr b ∷ []) run
node_opens (Node-F.Match e arms) run = visiting (task.VisitsExpr e ∷ task.VisitsArms arms ∷ []) run
node_opens (Node-F.For f) run = loop_opens f run
node_opens (Node-F.Index e i) run = visiting (task.VisitsExpr e ∷ task.VisitsExpr i ∷ []) run
node_opens (Node-F.Slice e a b) run = visiting (task.VisitsExpr e ∷ task.VisitsExpr a ∷ task.VisitsExpr b ∷ []) run
node_opens (Node-F.Part e i t) run = visiting (task.VisitsExpr e ∷ task.VisitsExpr i ∷ task.VisitsType t ∷ []) run
node_opens (Node-F.Field e name) run = visiting (task.VisitsExpr e ∷ []) run
node_opens (Node-F.Element e span k) run = visiting (task.VisitsExpr e ∷ []) run
node_opens (Node-F.Prefix o e) run = visiting (task.VisitsExpr e ∷ []) run
node_opens (Node-F.Cast e t) run = visiting (task.VisitsExpr e ∷ task.VisitsType t ∷ []) run
node_opens (Node-F.Binary o l r) run = visiting (task.VisitsExpr l ∷ task.VisitsExpr r ∷ []) run

abbrev pub exprs_open : List Expr → FreeState → FreeState
exprs_open [] run = run
exprs_open (e ∷ es) run = visiting (task.VisitsExpr e ∷ task.VisitsExprs es ∷ []) run

abbrev pub args_open : List Arg → FreeState → FreeState
args_open [] run = run
args_open (a ∷ as') run = visiting (task.VisitsExpr (out-Arg a).value ∷ task.VisitsArgs as' ∷ []) run

-- a field given by its name alone is what that name stands for
abbrev pub field_opens : List ℕ → Option Expr → FreeState → FreeState
field_opens name None run = meets_name name run
field_opens name (Some e) run = visiting (task.VisitsExpr e ∷ []) run

abbrev pub fields_open : List FieldValue → FreeState → FreeState
fields_open [] run = run
fields_open (f ∷ fs) run = field_opens (out-FieldValue f).name.name (out-FieldValue f).value (visiting (task.VisitsFields fs ∷ []) run)

-- ---- statements and arms

abbrev pub stmt_opens : StmtLayer → FreeState → FreeState
stmt_opens (Stmt-F.Let l) run =
    type_visited (out-Let l).ty (visiting (task.VisitsExpr (out-Let l).value ∷ task.VisitsPattern (out-Let l).pattern ∷ task.BindsNames (out-Let l).pattern ∷ []) run)
stmt_opens (Stmt-F.Bare e) run = visiting (task.VisitsExpr e ∷ []) run

abbrev pub statements_open : List Stmt → Option Expr → FreeState → FreeState
statements_open [] last run = expr_visited last run
statements_open (s ∷ ss) last run = stmt_opens (out-Stmt s) (visiting (task.VisitsStatements ss last ∷ []) run)

abbrev pub block_opens : Block → FreeState → FreeState
block_opens b run = visiting (task.VisitsStatements (out-Block b).statements (out-Block b).value ∷ keeps_bound run ∷ []) run

-- a value behind one pattern sees what that binds
abbrev pub value_behind : List Pattern → Expr → FreeState → FreeState
value_behind (p ∷ []) e run = visiting (task.BindsNames p ∷ task.VisitsExpr e ∷ keeps_bound run ∷ []) run
value_behind _ e run = visiting (task.VisitsExpr e ∷ []) run

abbrev pub arm_opens : Arm → FreeState → FreeState
arm_opens a run = visiting (task.VisitsPatterns (out-Arm a).patterns ∷ []) (value_behind (out-Arm a).patterns (out-Arm a).value run)

abbrev pub arms_open : List Arm → FreeState → FreeState
arms_open [] run = run
arms_open (a ∷ as') run = arm_opens a (visiting (task.VisitsArms as' ∷ []) run)

-- ---- one step

abbrev pub visited : FreeTask → FreeState → FreeState
visited (task.VisitsExpr e) run = node_opens (node_of e) run
visited (task.VisitsExprs es) run = exprs_open es run
visited (task.VisitsArgs as') run = args_open as' run
visited (task.VisitsFields fs) run = fields_open fs run
visited (task.VisitsType t) run = type_opens (type_of t) run
visited (task.VisitsTypes ts) run = types_open ts run
visited (task.VisitsBlock b) run = block_opens b run
visited (task.VisitsStatements ss last) run = statements_open ss last run
visited (task.VisitsArms as') run = arms_open as' run
visited (task.VisitsPattern p) run = shape_opens (shape_of p) run
visited (task.VisitsPatterns ps) run = patterns_open ps run
visited (task.BindsNames p) run = shape_binds (shape_of p) run
visited (task.BindsNamesOfAll ps) run = patterns_bind ps run
visited (task.KeepsNames n) run = keeping_names n run
