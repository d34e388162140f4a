-- What the walk does at each kind of part, by what stands at its top.
use Rattle.std.specs.Prelude.{ℕ, List, length, map, Option, Some, None}
use Rattle.std.specs.Option.{option_map}
use Rattle.dslx_tree.specs.declared.block.Block.{Block, out-Block}
use Rattle.dslx_tree.specs.declared.block.Let.{Let, out-Let}
use Rattle.dslx_tree.specs.declared.block.Stmt.TheOpen.{Stmt-F, Node-F, Shape-F, TypeNode-F}
use Rattle.dslx_tree.specs.declared.expr.Arm.{Arm, out-Arm}
use Rattle.dslx_tree.specs.declared.expr.Expr.{Expr}
use Rattle.dslx_tree.specs.declared.expr.For.{For, out-For}
use Rattle.dslx_meaning.specs.Activation.{NodeLayer, StmtLayer}
use Rattle.dslx_meaning.specs.Rules.Mentions.{AsEnum, AsPattern, AsStruct, AsType, bound_behind, mentioned, mentioned_in_arg, mentioned_in_block, mentioned_in_type}
use Rattle.dslx_meaning.specs.Names.ConstMachine.Layers.{PatternLayer, TypeLayer}
use Rattle.dslx_check_items.specs.Inner.Walks.{MentionWalk, binding, calling, keeping, mentioning, mentioning_all, mentioning_if, naming, running, valuing}
use Rattle.dslx_check_items.specs.Inner.Parts.{in_arm, in_field, in_loop, in_pattern, in_stmt, number_mentions, pattern_mentions, pattern_names}

-- ---- expressions: up to three parts, one after another

abbrev pub first_walk : NodeLayer → MentionWalk → MentionWalk
first_walk (Node-F.Node::Number n) w = mentioning (number_mentions n) w
first_walk (Node-F.Node::Bool b) w = w
first_walk (Node-F.Node::Array ty es dots) w = mentioning_if (option_map mentioned_in_type ty) w
first_walk (Node-F.Node::Name name) w = valuing name w
first_walk (Node-F.Node::Member e a) w = naming AsEnum e.name w
first_walk (Node-F.Call f parametric_args es) w = calling f.name w
first_walk (Node-F.Node::Tuple es) w = mentioning_all (map mentioned es) w
first_walk (Node-F.Struct s fields others) w = naming AsStruct s.name w
first_walk (Node-F.Block b) w = mentioning (mentioned_in_block b) w
first_walk (Node-F.If c a b) w = mentioning (mentioned c) w
first_walk (Node-F.Match e arms) w = mentioning (mentioned e) w
first_walk (Node-F.For f) w = mentioning (in_loop f) w
first_walk (Node-F.Index e i) w = mentioning (mentioned e) w
first_walk (Node-F.Slice e a b) w = mentioning (mentioned e) w
first_walk (Node-F.Part e i t) w = mentioning (mentioned e) w
first_walk (Node-F.Field e name) w = mentioning (mentioned e) w
first_walk (Node-F.Element e span k) w = mentioning (mentioned e) w
first_walk (Node-F.Prefix o e) w = mentioning (mentioned e) w
first_walk (Node-F.Cast e t) w = mentioning (mentioned e) w
first_walk (Node-F.Binary o l r) w = mentioning (mentioned l) w

abbrev pub second_walk : NodeLayer → MentionWalk → MentionWalk
second_walk (Node-F.Node::Array ty es dots) w = mentioning_all (map mentioned es) w
second_walk (Node-F.Call f parametric_args es) w = mentioning_all (map mentioned_in_arg parametric_args) w
second_walk (Node-F.Struct s fields others) w = mentioning_all (map in_field fields) w
second_walk (Node-F.If c a b) w = mentioning (mentioned_in_block a) w
second_walk (Node-F.Match e arms) w = mentioning_all (map in_arm arms) w
second_walk (Node-F.Index e i) w = mentioning (mentioned i) w
second_walk (Node-F.Slice e a b) w = mentioning (mentioned a) w
second_walk (Node-F.Part e i t) w = mentioning (mentioned i) w
second_walk (Node-F.Cast e t) w = mentioning (mentioned_in_type t) w
second_walk (Node-F.Binary o l r) w = mentioning (mentioned r) w
second_walk _ w = w

abbrev pub third_walk : NodeLayer → MentionWalk → MentionWalk
third_walk (Node-F.Call f parametric_args es) w = mentioning_all (map mentioned es) w
third_walk (Node-F.Struct s fields others) w = mentioning_if (option_map mentioned others) w
third_walk (Node-F.If c a b) w = mentioning (mentioned b) w
third_walk (Node-F.Slice e a b) w = mentioning (mentioned b) w
third_walk (Node-F.Part e i t) w = mentioning (mentioned_in_type t) w
third_walk _ w = w

abbrev pub node_walk : NodeLayer → MentionWalk → MentionWalk
node_walk x w = third_walk x (second_walk x (first_walk x w))

-- the value of a field; without one it is what its name stands for
abbrev pub field_walk : List ℕ → Option Expr → MentionWalk → MentionWalk
field_walk name None w = valuing name w
field_walk name (Some e) w = mentioning (mentioned e) w

-- ---- types and patterns

abbrev pub type_walk : TypeLayer → MentionWalk → MentionWalk
type_walk (TypeNode-F.Bits s width) w = w
type_walk (TypeNode-F.Wide s e) w = mentioning (mentioned e) w
type_walk TypeNode-F.TypeNode::Bool w = w
type_walk (TypeNode-F.TypeNode::Name name) w = naming AsType name w
type_walk (TypeNode-F.TypeNode::Tuple ts) w = mentioning_all (map mentioned_in_type ts) w
type_walk (TypeNode-F.TypeNode::Array t e) w = mentioning (mentioned e) (mentioning (mentioned_in_type t) w)

abbrev pub shape_walk : PatternLayer → MentionWalk → MentionWalk
shape_walk Shape-F.Wild w = w
shape_walk (Shape-F.Shape::Bool b) w = w
shape_walk (Shape-F.Shape::Number n) w = mentioning (number_mentions n) w
shape_walk (Shape-F.Shape::Name name) w = naming AsPattern name w
shape_walk (Shape-F.Shape::Member e a) w = naming AsEnum e.name w
shape_walk (Shape-F.Shape::Tuple ps) w = mentioning_all (map pattern_mentions ps) w

-- ---- statements, blocks, arms and loops: what they bind is forgotten behind them

abbrev pub let_walk : Let → MentionWalk → MentionWalk
let_walk l w =
    binding (pattern_names (out-Let l).pattern)
    (mentioning (pattern_mentions (out-Let l).pattern) (mentioning (mentioned (out-Let l).value) (mentioning_if (option_map mentioned_in_type (out-Let l).ty) w)))

abbrev pub stmt_walk : StmtLayer → MentionWalk → MentionWalk
stmt_walk (Stmt-F.Let l) w = let_walk l w
stmt_walk (Stmt-F.Bare e) w = mentioning (mentioned e) w

abbrev pub block_walk : Block → MentionWalk → MentionWalk
block_walk b w = keeping (length w.bound) (mentioning_if (option_map mentioned (out-Block b).value) (running (map in_stmt (out-Block b).statements) w))

abbrev pub arm_walk : Arm → MentionWalk → MentionWalk
arm_walk a w =
    keeping (length w.bound)
    (mentioning (mentioned (out-Arm a).value) (binding (bound_behind (map in_pattern (out-Arm a).patterns)) (mentioning_all (map pattern_mentions (out-Arm a).patterns) w)))

abbrev pub bounds_walk : For → MentionWalk → MentionWalk
bounds_walk f w =
    mentioning (pattern_mentions (out-For f).accumulator) (mentioning (pattern_mentions (out-For f).index) (mentioning_if (option_map mentioned_in_type (out-For f).ty)
    (mentioning (mentioned (out-For f).start) (mentioning (mentioned (out-For f).to) (mentioning (mentioned (out-For f).from) w)))))

abbrev pub loop_walk : For → MentionWalk → MentionWalk
loop_walk f w =
    keeping (length w.bound)
    (mentioning (mentioned_in_block (out-For f).body) (binding (pattern_names (out-For f).accumulator) (binding (pattern_names (out-For f).index) (bounds_walk f w))))
