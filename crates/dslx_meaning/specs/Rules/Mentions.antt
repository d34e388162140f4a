-- What a text names, and which items reach which.
use Rattle.std.specs.Prelude.{ℕ, zero, suc, List, [], ◌∷◌, ◌++◌, ◌&&◌, ◌||◌, map, flat_map, Bool, true, false, Option, Some, None, length, if◌then◌else◌}
use Rattle.std.specs.Str.{bytes_eq}
use Rattle.std.specs.List.{list_any}
use Rattle.dslx_tree.specs.declared.block.Stmt.TheOpen.{Stmt-F, Node-F, Shape-F, TypeNode-F}
use Rattle.dslx_tree.specs.declared.block.Block.{Block, Block-F, fold-Block}
use Rattle.dslx_tree.specs.declared.block.Let.{Let-F}
use Rattle.dslx_tree.specs.declared.expr.Expr.{Expr, fold-Expr}
use Rattle.dslx_tree.specs.declared.expr.Arg.{Arg, fold-Arg}
use Rattle.dslx_tree.specs.declared.expr.Arm.{Arm-F}
use Rattle.dslx_tree.specs.declared.expr.For.{For-F}
use Rattle.dslx_tree.specs.declared.expr.FieldValue.{FieldValue-F}
use Rattle.dslx_tree.specs.declared.type_expr.TypeExpr.{TypeExpr, fold-TypeExpr}
use Rattle.dslx_tree.specs.declared.item.Module.{Module}
use Rattle.dslx_tree.specs.declared.item.Definition.{Definition}
use Rattle.dslx_tree.specs.declared.item.Definition.TheVariants as d
use Rattle.dslx_tree.specs.declared.item.Parametric.{Parametric}
use Rattle.dslx_tree.specs.declared.item.Field.{Field}
use Rattle.dslx_tree.specs.declared.item.Member.{Member}
use Rattle.dslx_tree.specs.declared.process.Proc.{Proc}
use Rattle.dslx_tree.specs.declared.process.End.{End}
use Rattle.dslx_tree.specs.declared.process.ConfigStatement.{ConfigStatement}
use Rattle.dslx_tree.specs.declared.process.ConfigStatement.TheVariants as config_statement
use Rattle.dslx_meaning.specs.Lists.{is_in}
use Rattle.dslx_meaning.specs.Callees.{is_text_function, kind_of_call}
use Rattle.dslx_meaning.specs.Items.{item_named}

-- what a name is used as
pub data Use : Type 0 where
  AsValue : Use
  -- in a pattern, where it is the name of a constant or binds
  AsPattern : Use
  AsType : Use
  AsFunction : Use
  AsProc : Use
  AsEnum : Use
  AsStruct : Use

pub record Mention : Type 0 where
  pub use_as : Use
  pub name : List ℕ

-- what a part mentions, by the names that are bound around it
abbrev pub Mentions : Type 0
Mentions = List (List ℕ) → List Mention

-- what a pattern or a statement mentions, and the names that it binds
pub record NamesBound : Type 0 where
  pub mentions : Mentions
  pub names : List (List ℕ)

-- one level of each sort that is looked at, whose parts mention this
abbrev pub StmtNames : Type 0
StmtNames = Stmt-F NamesBound Mentions NamesBound Mentions Mentions NamesBound Mentions Mentions Mentions Mentions Mentions Mentions NamesBound Mentions

abbrev pub NodeNames : Type 0
NodeNames = Node-F NamesBound Mentions NamesBound Mentions Mentions NamesBound Mentions Mentions Mentions Mentions Mentions Mentions NamesBound Mentions

abbrev pub ShapeNames : Type 0
ShapeNames = Shape-F NamesBound Mentions NamesBound Mentions Mentions NamesBound Mentions Mentions Mentions Mentions Mentions Mentions NamesBound Mentions

abbrev pub TypeNodeNames : Type 0
TypeNodeNames = TypeNode-F NamesBound Mentions NamesBound Mentions Mentions NamesBound Mentions Mentions Mentions Mentions Mentions Mentions NamesBound Mentions

abbrev pub BlockNames : Type 0
BlockNames = Block-F NamesBound Mentions NamesBound Mentions Mentions NamesBound Mentions Mentions Mentions Mentions Mentions Mentions NamesBound Mentions

abbrev pub LetNames : Type 0
LetNames = Let-F NamesBound Mentions NamesBound Mentions Mentions NamesBound Mentions Mentions Mentions Mentions Mentions Mentions NamesBound Mentions

abbrev pub ArmNames : Type 0
ArmNames = Arm-F NamesBound Mentions NamesBound Mentions Mentions NamesBound Mentions Mentions Mentions Mentions Mentions Mentions NamesBound Mentions

abbrev pub ForNames : Type 0
ForNames = For-F NamesBound Mentions NamesBound Mentions Mentions NamesBound Mentions Mentions Mentions Mentions Mentions Mentions NamesBound Mentions

abbrev pub FieldNames : Type 0
FieldNames = FieldValue-F NamesBound Mentions NamesBound Mentions Mentions NamesBound Mentions Mentions Mentions Mentions Mentions Mentions NamesBound Mentions

abbrev pub mention : Use → List ℕ → List Mention
mention as' name = record { use_as = as'; name = name } ∷ []

abbrev pub nowhere : Mentions
nowhere bound = []

abbrev pub all_mentions : List Mentions → Mentions
all_mentions [] bound = []
all_mentions (m ∷ ms) bound = m bound ++ all_mentions ms bound

abbrev pub mentions_if : Option Mentions → Mentions
mentions_if None bound = []
mentions_if (Some m) bound = m bound

-- a name that isn't bound
abbrev pub value_mention : List ℕ → Mentions
value_mention name bound = if is_in name bound then [] else mention AsValue name

abbrev pub binders_names : List NamesBound → List (List ℕ)
binders_names bs = flat_map (λ (b : NamesBound). b.names) bs

abbrev pub binders_mentions : List NamesBound → Mentions
binders_mentions bs = all_mentions (map (λ (b : NamesBound). b.mentions) bs)

abbrev pub shape_mentions : ShapeNames → NamesBound
shape_mentions Shape-F.Wild = record { mentions = nowhere; names = [] }
shape_mentions (Shape-F.Shape::Bool b) = record { mentions = nowhere; names = [] }
shape_mentions (Shape-F.Shape::Number n) = record { mentions = n; names = [] }
shape_mentions (Shape-F.Shape::Name name) = record { mentions = λ bound. mention AsPattern name; names = name ∷ [] }
shape_mentions (Shape-F.Shape::Member e a) = record { mentions = λ bound. mention AsEnum e.name; names = [] }
shape_mentions (Shape-F.Shape::Tuple ps) = record { mentions = binders_mentions ps; names = binders_names ps }

abbrev pub type_mentions : TypeNodeNames → Mentions
type_mentions (TypeNode-F.Bits s w) bound = []
type_mentions (TypeNode-F.Wide s e) bound = e bound
type_mentions TypeNode-F.TypeNode::Bool bound = []
type_mentions (TypeNode-F.TypeNode::Name name) bound = mention AsType name
type_mentions (TypeNode-F.TypeNode::Tuple ts) bound = all_mentions ts bound
type_mentions (TypeNode-F.TypeNode::Array t e) bound = t bound ++ e bound

-- statements in order, and what stands behind them
abbrev pub statements_mentions : List NamesBound → Mentions → Mentions
statements_mentions [] last bound = last bound
statements_mentions (s ∷ ss) last bound = s.mentions bound ++ statements_mentions ss last (s.names ++ bound)

abbrev pub node_mentions : NodeNames → Mentions
node_mentions (Node-F.Node::Number n) bound = n bound
node_mentions (Node-F.Node::Bool b) bound = []
node_mentions (Node-F.Node::Array ty es dots) bound = mentions_if ty bound ++ all_mentions es bound
node_mentions (Node-F.Node::Name name) bound = value_mention name bound
node_mentions (Node-F.Node::Member e a) bound = mention AsEnum e.name
node_mentions (Node-F.Call f parametric_args es) bound =
    (if is_text_function (kind_of_call f.name) then mention AsFunction f.name else []) ++ all_mentions parametric_args bound ++ all_mentions es bound
node_mentions (Node-F.Node::Tuple es) bound = all_mentions es bound
node_mentions (Node-F.Struct s fields rest) bound = mention AsStruct s.name ++ all_mentions fields bound ++ mentions_if rest bound
node_mentions (Node-F.Block b) bound = b bound
node_mentions (Node-F.If c a b) bound = c bound ++ a bound ++ b bound
node_mentions (Node-F.Match e arms) bound = e bound ++ all_mentions arms bound
node_mentions (Node-F.For f) bound = f bound
node_mentions (Node-F.Index e i) bound = e bound ++ i bound
node_mentions (Node-F.Slice e a b) bound = e bound ++ a bound ++ b bound
node_mentions (Node-F.Part e i t) bound = e bound ++ i bound ++ t bound
node_mentions (Node-F.Field e name) bound = e bound
node_mentions (Node-F.Element e span k) bound = e bound
node_mentions (Node-F.Prefix o e) bound = e bound
node_mentions (Node-F.Cast e t) bound = e bound ++ t bound
node_mentions (Node-F.Binary o l r) bound = l bound ++ r bound

abbrev pub stmt_mentions : StmtNames → NamesBound
stmt_mentions (Stmt-F.Let l) = l
stmt_mentions (Stmt-F.Bare e) = record { mentions = e; names = [] }

abbrev pub let_mentions : LetNames → NamesBound
let_mentions l = record { mentions = λ bound. mentions_if l.ty bound ++ l.value bound ++ l.pattern.mentions bound; names = l.pattern.names }

abbrev pub block_mentions : BlockNames → Mentions
block_mentions b = statements_mentions b.statements (mentions_if b.value)

-- what alternatives bind: one alone what is in it, several nothing
abbrev pub bound_behind : List NamesBound → List (List ℕ)
bound_behind (b ∷ []) = b.names
bound_behind _ = []

abbrev pub arm_mentions : ArmNames → Mentions
arm_mentions a bound = binders_mentions a.patterns bound ++ a.value (bound_behind a.patterns ++ bound)

abbrev pub for_mentions : ForNames → Mentions
for_mentions f bound =
    f.from bound ++ f.to bound ++ f.start bound ++ mentions_if f.ty bound ++ f.index.mentions bound ++ f.accumulator.mentions bound
    ++ f.body (f.accumulator.names ++ f.index.names ++ bound)

abbrev pub field_mentions : FieldNames → Mentions
field_mentions f = field_or_name f.value
  where
    field_or_name : Option Mentions → Mentions
    field_or_name None = value_mention f.name.name
    field_or_name (Some e) = e

-- what an expression mentions
abbrev pub mentioned : Expr → Mentions
mentioned = fold-Expr NamesBound Mentions NamesBound Mentions Mentions NamesBound Mentions Mentions Mentions Mentions Mentions Mentions NamesBound Mentions
    stmt_mentions node_mentions shape_mentions type_mentions block_mentions let_mentions (λ a. a.value) arm_mentions (λ e. e.node) field_mentions for_mentions (λ n. mentions_if n.ty) (λ p. p.shape) (λ t. t.node)

abbrev pub mentioned_in_block : Block → Mentions
mentioned_in_block = fold-Block NamesBound Mentions NamesBound Mentions Mentions NamesBound Mentions Mentions Mentions Mentions Mentions Mentions NamesBound Mentions
    stmt_mentions node_mentions shape_mentions type_mentions block_mentions let_mentions (λ a. a.value) arm_mentions (λ e. e.node) field_mentions for_mentions (λ n. mentions_if n.ty) (λ p. p.shape) (λ t. t.node)

abbrev pub mentioned_in_type : TypeExpr → Mentions
mentioned_in_type = fold-TypeExpr NamesBound Mentions NamesBound Mentions Mentions NamesBound Mentions Mentions Mentions Mentions Mentions Mentions NamesBound Mentions
    stmt_mentions node_mentions shape_mentions type_mentions block_mentions let_mentions (λ a. a.value) arm_mentions (λ e. e.node) field_mentions for_mentions (λ n. mentions_if n.ty) (λ p. p.shape) (λ t. t.node)

abbrev pub mentioned_in_arg : Arg → Mentions
mentioned_in_arg = fold-Arg NamesBound Mentions NamesBound Mentions Mentions NamesBound Mentions Mentions Mentions Mentions Mentions Mentions NamesBound Mentions
    stmt_mentions node_mentions shape_mentions type_mentions block_mentions let_mentions (λ a. a.value) arm_mentions (λ e. e.node) field_mentions for_mentions (λ n. mentions_if n.ty) (λ p. p.shape) (λ t. t.node)

-- ---- names that are free in an expression as values

abbrev pub value_names : List Mention → List (List ℕ)
value_names [] = []
value_names (m ∷ ms) = name_if m.use_as ++ value_names ms
  where
    name_if : Use → List (List ℕ)
    name_if AsValue = m.name ∷ []
    name_if _ = []

abbrev pub free_names : Expr → List (List ℕ)
free_names e = value_names (mentioned e [])

-- ---- what an item mentions

abbrev pub parametric_names : List Parametric → List (List ℕ)
parametric_names ps = map (λ (p : Parametric). p.name.name) ps

abbrev pub field_names : List Field → List (List ℕ)
field_names fs = map (λ (f : Field). f.name.name) fs

abbrev pub type_if : Option TypeExpr → Mentions
type_if None bound = []
type_if (Some t) bound = mentioned_in_type t bound

abbrev pub expr_if : Option Expr → Mentions
expr_if None bound = []
expr_if (Some e) bound = mentioned e bound

-- a parameter's type and default see the parameters before it
abbrev pub parametrics_mentions : List Parametric → Mentions
parametrics_mentions [] bound = []
parametrics_mentions (p ∷ ps) bound = mentioned_in_type p.ty bound ++ expr_if p.default bound ++ parametrics_mentions ps (p.name.name ∷ bound)

abbrev pub fields_mentions : List Field → Mentions
fields_mentions fs bound = flat_map (λ (f : Field). mentioned_in_type f.ty bound) fs

abbrev pub ends_mentions : List End → Mentions
ends_mentions es bound = flat_map (λ (e : End). mentioned_in_type e.word bound) es

abbrev pub arg_if : Option Arg → Mentions
arg_if None bound = []
arg_if (Some a) bound = mentioned_in_arg a bound

abbrev pub config_statement_mentions : ConfigStatement → Mentions
config_statement_mentions (config_statement.Channel c) bound = mentioned_in_type c.word bound ++ arg_if c.depth bound
config_statement_mentions (config_statement.Spawn s) bound = mention AsProc s.target.name ++ flat_map (λ a. mentioned_in_arg a bound) s.arguments

abbrev pub proc_mentions : Proc → List Mention
proc_mentions p =
    let parametric_args = parametric_names p.parametrics in
    parametrics_mentions p.parametrics [] ++ ends_mentions p.members parametric_args ++ ends_mentions p.config.ends parametric_args
    ++ flat_map (λ m. config_statement_mentions m parametric_args) p.config.config_statements
    ++ mentioned_in_block p.init parametric_args ++ mentioned_in_type p.next.ty parametric_args
    ++ mentioned_in_block p.next.body (p.next.state.name ∷ parametric_args)

abbrev pub definition_mentions : Definition → List Mention
definition_mentions (d.Function f) =
    let parametric_args = parametric_names f.parametrics in
    parametrics_mentions f.parametrics [] ++ fields_mentions f.arguments parametric_args ++ type_if f.result parametric_args
    ++ mentioned_in_block f.body (field_names f.arguments ++ parametric_args)
definition_mentions (d.Proc p) = proc_mentions p
definition_mentions (d.Constant c) = type_if c.ty [] ++ mentioned c.value []
definition_mentions (d.Alias a) = mentioned_in_type a.ty []
definition_mentions (d.Struct s) = fields_mentions s.fields []
definition_mentions (d.Enum e) = mentioned_in_type e.base [] ++ flat_map (λ (m : Member). mentioned m.value []) e.members

-- ---- which items reach which

-- the item is of the kind that the use is of
abbrev pub is_of_use : Use → Option Definition → Bool
is_of_use AsValue (Some (d.Constant c)) = true
is_of_use AsPattern (Some (d.Constant c)) = true
is_of_use AsType (Some (d.Alias a)) = true
is_of_use AsType (Some (d.Struct s)) = true
is_of_use AsType (Some (d.Enum e)) = true
is_of_use AsFunction (Some (d.Function f)) = true
is_of_use AsProc (Some (d.Proc p)) = true
is_of_use AsEnum (Some (d.Enum e)) = true
is_of_use AsStruct (Some (d.Struct s)) = true
is_of_use _ _ = false

-- the items that an item mentions
abbrev pub names_mentioned : Module → List Mention → List (List ℕ)
names_mentioned m [] = []
names_mentioned m (n ∷ ns) = if is_of_use n.use_as (item_named n.name m.items) then n.name ∷ names_mentioned m ns else names_mentioned m ns

abbrev pub mentions_of : Module → Option Definition → List (List ℕ)
mentions_of m None = []
mentions_of m (Some definition) = names_mentioned m (definition_mentions definition)

-- whether the first item reaches the second one by at most so many mentions
abbrev pub reaches_within : Module → ℕ → List ℕ → List ℕ → Bool
reaches_within m zero from to = false
reaches_within m (suc n) from to = list_any (λ next. bytes_eq next to || reaches_within m n next to) (mentions_of m (item_named from m.items))

-- whether an item reaches another: it mentions it, or something that reaches it
abbrev pub item_reaches : Module → List ℕ → List ℕ → Bool
item_reaches m from to = reaches_within m (length m.items) from to

-- whether two items are the same, or each reaches the other: a use of the one in the text of the other lies on a cycle, which rule 3 refuses
abbrev pub is_cyclic : Module → List ℕ → List ℕ → Bool
is_cyclic m owner target = bytes_eq target owner || (item_reaches m target owner && item_reaches m owner target)
