-- Each step keeps the names that come of the machine.
use Rattle.std.proofs.Common.{◌≡◌, ℕ, Bool, true, false, if◌then◌else◌, List, [], ◌∷◌, ◌++◌, length, map, Option, Some, None, refl, sym, ap, ◌∙◌}
use Rattle.std.proofs.lemmas.List.{append_assoc, append-nil}
use Rattle.dslx_tree.specs.declared.block.Block.{Block, out-Block}
use Rattle.dslx_tree.specs.declared.block.Let.{out-Let}
use Rattle.dslx_tree.specs.declared.block.Stmt.{Stmt, out-Stmt}
use Rattle.dslx_tree.specs.declared.block.Stmt.TheOpen.{Stmt-F, Node-F, Shape-F, TypeNode-F}
use Rattle.dslx_tree.specs.declared.expr.Arg.{Arg, out-Arg}
use Rattle.dslx_tree.specs.declared.expr.Arm.{Arm, out-Arm}
use Rattle.dslx_tree.specs.declared.expr.Expr.{Expr}
use Rattle.dslx_tree.specs.declared.expr.FieldValue.{FieldValue, out-FieldValue}
use Rattle.dslx_tree.specs.declared.expr.For.{For, out-For}
use Rattle.dslx_tree.specs.declared.expr.Number.{Number, out-Number}
use Rattle.dslx_tree.specs.declared.pattern.Pattern.{Pattern}
use Rattle.dslx_tree.specs.declared.type_expr.TypeExpr.{TypeExpr}
use Rattle.dslx_meaning.specs.Activation.{NodeLayer, StmtLayer, node_of}
use Rattle.dslx_meaning.specs.Callees.{is_text_function, kind_of_call}
use Rattle.dslx_meaning.specs.Lists.{is_in}
use Rattle.dslx_meaning.specs.Rules.Mentions.{AsFunction, Mention, Mentions, NamesBound, all_mentions, binders_mentions, binders_names, bound_behind, mention, mentioned, mentioned_in_arg, mentioned_in_block, mentioned_in_type, value_mention, value_names}
use Rattle.dslx_meaning.specs.Names.ConstMachine.Layers.{PatternLayer, TypeLayer, shape_of, type_of}
use Rattle.dslx_meaning.specs.Names.FirstNames.{first_names}
use Rattle.dslx_meaning.proofs.Lemmas.Names.FirstNames.{back_to}
use Rattle.dslx_scope.specs.FreeNames.Found.{all_found, bound_by, bound_by_statements, mentioned_by, names_of_tasks}
use Rattle.dslx_scope.specs.FreeNames.Mentioned.{in_arm, in_field, in_pattern, in_statements, in_stmt}
use Rattle.dslx_scope.specs.FreeNames.Steps as s
use Rattle.dslx_scope.specs.FreeNames.Steps.{visited, visiting}
use Rattle.dslx_scope.specs.FreeNames.Tasks as task
use Rattle.dslx_scope.specs.FreeNames.Tasks.{FreeTask, FreeState}
use Rattle.dslx_scope.proofs.OnFreeNames.Named.{in_seven, in_three, in_two}
use Rattle.dslx_scope.proofs.OnFreeNames.Opened.{arg_opened, arm_opened, bind_opened, block_opened, expr_opened, field_mentioned, field_opened, in_loop, in_shape, in_stmt_layer, expr_mentions_if, loop_opened, node_mentioned, number_mentions, number_opened, pattern_opened, stmt_opened, type_mentioned, type_mentions_if, type_opened}

-- what is mentioned here, and then what is to be done
abbrev pub here : List Mention → FreeState → List (List ℕ)
here ms run = run.found ++ (value_names ms ++ names_of_tasks run.todo run.bound)

-- ---- one part, two or three

two_parts : (ms ns : List Mention) (run : FreeState) → run.found ++ (value_names ms ++ (value_names ns ++ names_of_tasks run.todo run.bound)) ≡ here (ms ++ ns) run
two_parts ms ns run = ap (λ (names : List (List ℕ)). run.found ++ names) (sym (in_two ms ns (names_of_tasks run.todo run.bound)))

three_parts : (ls ms ns : List Mention) (run : FreeState)
    → run.found ++ (value_names ls ++ (value_names ms ++ (value_names ns ++ names_of_tasks run.todo run.bound))) ≡ here (ls ++ ms ++ ns) run
three_parts ls ms ns run = ap (λ (names : List (List ℕ)). run.found ++ names) (sym (in_three ls ms ns (names_of_tasks run.todo run.bound)))

type_if : (o : Option TypeExpr) (run : FreeState) → all_found (s.type_visited o run) ≡ here (type_mentions_if o run.bound) run
type_if None run = refl
type_if (Some t) run = refl

meets_keep : (name : List ℕ) (run : FreeState) → all_found (s.meets_name name run) ≡ here (value_mention name run.bound) run
meets_keep name run = by (is_in name run.bound) refl
  where
    by : (b : Bool) → is_in name run.bound ≡ b → all_found (s.meets_name name run) ≡ here (value_mention name run.bound) run
    by true e = rw e refl
    by false e = rw e (append_assoc run.found (name ∷ []) (names_of_tasks run.todo run.bound))

-- ---- types and patterns

type_keeps : (x : TypeLayer) (run : FreeState) → all_found (s.type_opens x run) ≡ here (type_mentioned x run.bound) run
type_keeps (TypeNode-F.Bits sign w) run = refl
type_keeps (TypeNode-F.Wide sign e) run = refl
type_keeps TypeNode-F.TypeNode::Bool run = refl
type_keeps (TypeNode-F.TypeNode::Name name) run = refl
type_keeps (TypeNode-F.TypeNode::Tuple ts) run = refl
type_keeps (TypeNode-F.TypeNode::Array t e) run = two_parts (mentioned_in_type t run.bound) (mentioned e run.bound) run

types_keep : (ts : List TypeExpr) (run : FreeState) → all_found (s.types_open ts run) ≡ here (all_mentions (map mentioned_in_type ts) run.bound) run
types_keep [] run = refl
types_keep (t ∷ ts) run = two_parts (mentioned_in_type t run.bound) (all_mentions (map mentioned_in_type ts) run.bound) run

number_keeps : (n : Number) (run : FreeState) → all_found (s.type_visited (out-Number n).ty run) ≡ here (number_mentions n run.bound) run
number_keeps n run = type_if (out-Number n).ty run ∙ ap (λ (m : Mentions). here (m run.bound) run) (sym (number_opened n))

shape_keeps : (x : PatternLayer) (run : FreeState) → all_found (s.shape_opens x run) ≡ here ((in_shape x).mentions run.bound) run
shape_keeps Shape-F.Wild run = refl
shape_keeps (Shape-F.Shape::Bool b) run = refl
shape_keeps (Shape-F.Shape::Number n) run = number_keeps n run
shape_keeps (Shape-F.Shape::Name name) run = refl
shape_keeps (Shape-F.Shape::Member e a) run = refl
shape_keeps (Shape-F.Shape::Tuple ps) run = refl

patterns_keep : (ps : List Pattern) (run : FreeState) → all_found (s.patterns_open ps run) ≡ here (binders_mentions (map in_pattern ps) run.bound) run
patterns_keep [] run = refl
patterns_keep (p ∷ ps) run = two_parts ((in_pattern p).mentions run.bound) (binders_mentions (map in_pattern ps) run.bound) run

-- the names of a task in a scope where more is bound
abbrev pub where_bound : List (List ℕ) → FreeState → List (List ℕ)
where_bound names run = run.found ++ names_of_tasks run.todo (names ++ run.bound)

shape_binds_keep : (x : PatternLayer) (run : FreeState) → all_found (s.shape_binds x run) ≡ where_bound (in_shape x).names run
shape_binds_keep Shape-F.Wild run = refl
shape_binds_keep (Shape-F.Shape::Bool b) run = refl
shape_binds_keep (Shape-F.Shape::Number n) run = refl
shape_binds_keep (Shape-F.Shape::Name name) run = refl
shape_binds_keep (Shape-F.Shape::Member e a) run = refl
shape_binds_keep (Shape-F.Shape::Tuple ps) run = refl

patterns_bind_keep : (ps : List Pattern) (run : FreeState) → all_found (s.patterns_bind ps run) ≡ where_bound (binders_names (map in_pattern ps)) run
patterns_bind_keep [] run = refl
patterns_bind_keep (p ∷ ps) run =
    ap (λ (bound : List (List ℕ)). run.found ++ names_of_tasks run.todo bound) (sym (append_assoc (in_pattern p).names (binders_names (map in_pattern ps)) run.bound))

-- ---- loops

-- what is found in a loop, by what is bound in its body and behind it
abbrev pub loop_found : For → FreeState → List (List ℕ) → List (List ℕ) → List (List ℕ)
loop_found f run inner behind =
    run.found ++ (value_names (mentioned (out-For f).from run.bound) ++ (value_names (mentioned (out-For f).to run.bound) ++ (value_names (mentioned (out-For f).start run.bound)
    ++ (value_names (type_mentions_if (out-For f).ty run.bound) ++ (value_names ((in_pattern (out-For f).index).mentions run.bound) ++ (value_names ((in_pattern (out-For f).accumulator).mentions run.bound)
    ++ (value_names (mentioned_in_block (out-For f).body inner) ++ names_of_tasks run.todo behind)))))))

typed_behind : (a b c : Expr) (o : Option TypeExpr) (run : FreeState) → all_found (visiting (task.VisitsExpr a ∷ task.VisitsExpr b ∷ task.VisitsExpr c ∷ []) (s.type_visited o run))
    ≡ run.found ++ (value_names (mentioned a run.bound) ++ (value_names (mentioned b run.bound) ++ (value_names (mentioned c run.bound)
    ++ (value_names (type_mentions_if o run.bound) ++ names_of_tasks run.todo run.bound))))
typed_behind a b c None run = refl
typed_behind a b c (Some t) run = refl

-- its patterns, its body, and what is forgotten behind it
abbrev pub behind_bounds : For → FreeState → FreeState
behind_bounds f run =
    visiting (task.VisitsPattern (out-For f).index ∷ task.VisitsPattern (out-For f).accumulator ∷ [])
    (visiting (task.BindsNames (out-For f).index ∷ task.BindsNames (out-For f).accumulator ∷ [])
    (visiting (task.VisitsBlock (out-For f).body ∷ s.keeps_bound run ∷ []) run))

abbrev pub names_of_patterns : For → List (List ℕ)
names_of_patterns f = (in_pattern (out-For f).accumulator).names ++ (in_pattern (out-For f).index).names

-- where the names of both patterns are bound, which are forgotten behind it
loop_bound : (f : For) (run : FreeState)
    → loop_found f run ((in_pattern (out-For f).accumulator).names ++ ((in_pattern (out-For f).index).names ++ run.bound))
    (first_names (length run.bound) ((in_pattern (out-For f).accumulator).names ++ ((in_pattern (out-For f).index).names ++ run.bound)))
    ≡ loop_found f run (names_of_patterns f ++ run.bound) run.bound
loop_bound f run =
    ap (λ (inner : List (List ℕ)). loop_found f run inner (first_names (length run.bound) inner))
    (sym (append_assoc (in_pattern (out-For f).accumulator).names (in_pattern (out-For f).index).names run.bound))
    ∙ ap (loop_found f run (names_of_patterns f ++ run.bound)) (back_to (names_of_patterns f) run.bound)

loop_keeps : (f : For) (run : FreeState) → all_found (s.loop_opens f run) ≡ here (in_loop f run.bound) run
loop_keeps f run =
    typed_behind (out-For f).from (out-For f).to (out-For f).start (out-For f).ty (behind_bounds f run)
    ∙ loop_bound f run
    ∙ ap (λ (names : List (List ℕ)). run.found ++ names)
    (sym (in_seven (mentioned (out-For f).from run.bound) (mentioned (out-For f).to run.bound) (mentioned (out-For f).start run.bound) (type_mentions_if (out-For f).ty run.bound)
    ((in_pattern (out-For f).index).mentions run.bound) ((in_pattern (out-For f).accumulator).mentions run.bound) (mentioned_in_block (out-For f).body (names_of_patterns f ++ run.bound))
    (names_of_tasks run.todo run.bound)))
    ∙ ap (λ (m : Mentions). here (m run.bound) run) (sym (loop_opened f))

-- ---- expressions

call_keeps : (c : Bool) (name : List ℕ) (ms ns : List Mention) (run : FreeState)
    → here (ms ++ ns) run ≡ here ((if c then mention AsFunction name else []) ++ ms ++ ns) run
call_keeps true name ms ns run = refl
call_keeps false name ms ns run = refl

struct_keeps : (fields : List FieldValue) (rest : Option Expr) (run : FreeState)
    → all_found (visiting (task.VisitsFields fields ∷ []) (s.expr_visited rest run)) ≡ here (all_mentions (map in_field fields) run.bound ++ expr_mentions_if rest run.bound) run
struct_keeps fields None run = ap (λ (ms : List Mention). here ms run) (sym (append-nil (all_mentions (map in_field fields) run.bound)))
struct_keeps fields (Some e) run = two_parts (all_mentions (map in_field fields) run.bound) (mentioned e run.bound) run

node_keeps : (x : NodeLayer) (run : FreeState) → all_found (s.node_opens x run) ≡ here (node_mentioned x run.bound) run
node_keeps (Node-F.Node::Number n) run = number_keeps n run
node_keeps (Node-F.Node::Bool b) run = refl
node_keeps (Node-F.Node::Array None es dots) run = refl
node_keeps (Node-F.Node::Array (Some t) es dots) run = two_parts (mentioned_in_type t run.bound) (all_mentions (map mentioned es) run.bound) run
node_keeps (Node-F.Node::Name name) run = meets_keep name run
node_keeps (Node-F.Node::Member e a) run = refl
node_keeps (Node-F.Call f parametric_args es) run =
    two_parts (all_mentions (map mentioned_in_arg parametric_args) run.bound) (all_mentions (map mentioned es) run.bound) run
    ∙ call_keeps (is_text_function (kind_of_call f.name)) f.name (all_mentions (map mentioned_in_arg parametric_args) run.bound) (all_mentions (map mentioned es) run.bound) run
node_keeps (Node-F.Node::Tuple es) run = refl
node_keeps (Node-F.Struct x fields None) run = struct_keeps fields None run
node_keeps (Node-F.Struct x fields (Some rest)) run = struct_keeps fields (Some rest) run
node_keeps (Node-F.Block b) run = refl
node_keeps (Node-F.If c a b) run = three_parts (mentioned c run.bound) (mentioned_in_block a run.bound) (mentioned b run.bound) run
node_keeps (Node-F.Match e arms) run = two_parts (mentioned e run.bound) (all_mentions (map in_arm arms) run.bound) run
node_keeps (Node-F.For f) run = loop_keeps f run
node_keeps (Node-F.Index e i) run = two_parts (mentioned e run.bound) (mentioned i run.bound) run
node_keeps (Node-F.Slice e a b) run = three_parts (mentioned e run.bound) (mentioned a run.bound) (mentioned b run.bound) run
node_keeps (Node-F.Part e i t) run = three_parts (mentioned e run.bound) (mentioned i run.bound) (mentioned_in_type t run.bound) run
node_keeps (Node-F.Field e name) run = refl
node_keeps (Node-F.Element e span k) run = refl
node_keeps (Node-F.Prefix o e) run = refl
node_keeps (Node-F.Cast e t) run = two_parts (mentioned e run.bound) (mentioned_in_type t run.bound) run
node_keeps (Node-F.Binary o l r) run = two_parts (mentioned l run.bound) (mentioned r run.bound) run

exprs_keep : (es : List Expr) (run : FreeState) → all_found (s.exprs_open es run) ≡ here (all_mentions (map mentioned es) run.bound) run
exprs_keep [] run = refl
exprs_keep (e ∷ es) run = two_parts (mentioned e run.bound) (all_mentions (map mentioned es) run.bound) run

args_keep : (as' : List Arg) (run : FreeState) → all_found (s.args_open as' run) ≡ here (all_mentions (map mentioned_in_arg as') run.bound) run
args_keep [] run = refl
args_keep (a ∷ as') run =
    two_parts (mentioned (out-Arg a).value run.bound) (all_mentions (map mentioned_in_arg as') run.bound) run
    ∙ ap (λ (m : Mentions). here (m run.bound ++ all_mentions (map mentioned_in_arg as') run.bound) run) (sym (arg_opened a))

field_keeps : (name : List ℕ) (o : Option Expr) (fs : List FieldValue) (run : FreeState) → all_found (s.field_opens name o (visiting (task.VisitsFields fs ∷ []) run))
    ≡ run.found ++ (value_names (field_mentioned name o run.bound) ++ (value_names (all_mentions (map in_field fs) run.bound) ++ names_of_tasks run.todo run.bound))
field_keeps name None fs run = meets_keep name (visiting (task.VisitsFields fs ∷ []) run)
field_keeps name (Some e) fs run = refl

fields_keep : (fs : List FieldValue) (run : FreeState) → all_found (s.fields_open fs run) ≡ here (all_mentions (map in_field fs) run.bound) run
fields_keep [] run = refl
fields_keep (f ∷ fs) run =
    field_keeps (out-FieldValue f).name.name (out-FieldValue f).value fs run
    ∙ two_parts (field_mentioned (out-FieldValue f).name.name (out-FieldValue f).value run.bound) (all_mentions (map in_field fs) run.bound) run
    ∙ ap (λ (m : Mentions). here (m run.bound ++ all_mentions (map in_field fs) run.bound) run) (sym (field_opened f))

-- ---- statements and blocks

-- what is found in statements, by what the first one mentions and binds
abbrev pub statement_found : NamesBound → List Stmt → Option Expr → FreeState → List (List ℕ)
statement_found n ss last run =
    run.found ++ (value_names (n.mentions run.bound) ++ (value_names (in_statements ss last (n.names ++ run.bound)) ++ names_of_tasks run.todo (bound_by_statements ss (n.names ++ run.bound))))

let_parts : (o : Option TypeExpr) (p : Pattern) (e : Expr) (run : FreeState)
    → all_found (s.type_visited o (visiting (task.VisitsExpr e ∷ task.VisitsPattern p ∷ task.BindsNames p ∷ []) run))
    ≡ run.found ++ (value_names (type_mentions_if o run.bound ++ mentioned e run.bound ++ (in_pattern p).mentions run.bound) ++ names_of_tasks run.todo ((in_pattern p).names ++ run.bound))
let_parts o p e run =
    type_if o (visiting (task.VisitsExpr e ∷ task.VisitsPattern p ∷ task.BindsNames p ∷ []) run)
    ∙ ap (λ (names : List (List ℕ)). run.found ++ names)
    (sym (in_three (type_mentions_if o run.bound) (mentioned e run.bound) ((in_pattern p).mentions run.bound) (names_of_tasks run.todo ((in_pattern p).names ++ run.bound))))

stmt_keeps : (x : StmtLayer) (ss : List Stmt) (last : Option Expr) (run : FreeState)
    → all_found (s.stmt_opens x (visiting (task.VisitsStatements ss last ∷ []) run)) ≡ statement_found (in_stmt_layer x) ss last run
stmt_keeps (Stmt-F.Let l) ss last run =
    let_parts (out-Let l).ty (out-Let l).pattern (out-Let l).value (visiting (task.VisitsStatements ss last ∷ []) run)
    ∙ ap (λ (n : NamesBound). statement_found n ss last run) (sym (bind_opened l))
stmt_keeps (Stmt-F.Bare e) ss last run = refl

statements_keep : (ss : List Stmt) (last : Option Expr) (run : FreeState)
    → all_found (s.statements_open ss last run) ≡ run.found ++ (value_names (in_statements ss last run.bound) ++ names_of_tasks run.todo (bound_by_statements ss run.bound))
statements_keep [] None run = refl
statements_keep [] (Some e) run = refl
statements_keep (x ∷ ss) last run =
    stmt_keeps (out-Stmt x) ss last run
    ∙ ap (λ (n : NamesBound). statement_found n ss last run) (sym (stmt_opened x))
    ∙ ap (λ (names : List (List ℕ)). run.found ++ names)
    (sym (in_two ((in_stmt x).mentions run.bound) (in_statements ss last ((in_stmt x).names ++ run.bound)) (names_of_tasks run.todo (bound_by_statements ss ((in_stmt x).names ++ run.bound)))))

-- behind statements
back_behind : (ss : List Stmt) (names bound : List (List ℕ)) → first_names (length bound) (bound_by_statements ss (names ++ bound)) ≡ bound
back_behind [] names bound = back_to names bound
back_behind (x ∷ ss) names bound =
    ap (λ (inner : List (List ℕ)). first_names (length bound) (bound_by_statements ss inner)) (sym (append_assoc (in_stmt x).names names bound))
    ∙ back_behind ss ((in_stmt x).names ++ names) bound

block_keeps : (b : Block) (run : FreeState) → all_found (s.block_opens b run) ≡ here (mentioned_in_block b run.bound) run
block_keeps b run =
    ap (λ (behind : List (List ℕ)). run.found ++ (value_names (in_statements (out-Block b).statements (out-Block b).value run.bound) ++ names_of_tasks run.todo behind))
    (back_behind (out-Block b).statements [] run.bound)
    ∙ ap (λ (m : Mentions). here (m run.bound) run) (sym (block_opened b))

-- ---- arms

arm_parts : (ps : List Pattern) (e : Expr) (run : FreeState) → all_found (visiting (task.VisitsPatterns ps ∷ []) (s.value_behind ps e run))
    ≡ run.found ++ (value_names (binders_mentions (map in_pattern ps) run.bound) ++ (value_names (mentioned e (bound_behind (map in_pattern ps) ++ run.bound)) ++ names_of_tasks run.todo run.bound))
arm_parts [] e run = refl
arm_parts (p ∷ []) e run =
    ap (λ (behind : List (List ℕ)). run.found ++ (value_names (binders_mentions (in_pattern p ∷ []) run.bound) ++ (value_names (mentioned e ((in_pattern p).names ++ run.bound)) ++ names_of_tasks run.todo behind)))
    (back_to (in_pattern p).names run.bound)
arm_parts (p ∷ q ∷ ps) e run = refl

arms_keep : (as' : List Arm) (run : FreeState) → all_found (s.arms_open as' run) ≡ here (all_mentions (map in_arm as') run.bound) run
arms_keep [] run = refl
arms_keep (a ∷ as') run =
    arm_parts (out-Arm a).patterns (out-Arm a).value (visiting (task.VisitsArms as' ∷ []) run)
    ∙ three_parts (binders_mentions (map in_pattern (out-Arm a).patterns) run.bound) (mentioned (out-Arm a).value (bound_behind (map in_pattern (out-Arm a).patterns) ++ run.bound))
    (all_mentions (map in_arm as') run.bound) run
    ∙ ap (λ (m : Mentions). here (m run.bound ++ all_mentions (map in_arm as') run.bound) run) (sym (arm_opened a))

-- ---- each step

pub keeps : (d : FreeTask) (run : FreeState) → run.found ++ (value_names (mentioned_by d run.bound) ++ names_of_tasks run.todo (bound_by d run.bound)) ≡ all_found (visited d run)
keeps (task.VisitsExpr e) run = ap (λ (m : Mentions). here (m run.bound) run) (expr_opened e) ∙ sym (node_keeps (node_of e) run)
keeps (task.VisitsExprs es) run = sym (exprs_keep es run)
keeps (task.VisitsArgs as') run = sym (args_keep as' run)
keeps (task.VisitsFields fs) run = sym (fields_keep fs run)
keeps (task.VisitsType t) run = ap (λ (m : Mentions). here (m run.bound) run) (type_opened t) ∙ sym (type_keeps (type_of t) run)
keeps (task.VisitsTypes ts) run = sym (types_keep ts run)
keeps (task.VisitsBlock b) run = sym (block_keeps b run)
keeps (task.VisitsStatements ss last) run = sym (statements_keep ss last run)
keeps (task.VisitsArms as') run = sym (arms_keep as' run)
keeps (task.VisitsPattern p) run = ap (λ (n : NamesBound). here (n.mentions run.bound) run) (pattern_opened p) ∙ sym (shape_keeps (shape_of p) run)
keeps (task.VisitsPatterns ps) run = sym (patterns_keep ps run)
keeps (task.BindsNames p) run = ap (λ (n : NamesBound). where_bound n.names run) (pattern_opened p) ∙ sym (shape_binds_keep (shape_of p) run)
keeps (task.BindsNamesOfAll ps) run = sym (patterns_bind_keep ps run)
keeps (task.KeepsNames n) run = refl
