-- What each step does where an instance is lowered.
use Rattle.std.specs.Prelude.{ℕ, List, [], ◌∷◌, ◌++◌, ◌&&◌, ◌^◌, nat_lt, Option, Some, None}
use Rattle.dslx_tree.specs.declared.block.Block.{out-Block}
use Rattle.dslx_tree.specs.declared.block.Let.{out-Let}
use Rattle.dslx_tree.specs.declared.block.Stmt.{Stmt, out-Stmt}
use Rattle.dslx_tree.specs.declared.block.Stmt.TheOpen.{Stmt-F, Node-F}
use Rattle.dslx_tree.specs.declared.expr.Expr.{Expr}
use Rattle.dslx_tree.specs.declared.expr.For.{For, out-For}
use Rattle.dslx_tree.specs.declared.expr.Number.{Number, out-Number}
use Rattle.dslx_tree.specs.declared.pattern.Pattern.{Pattern}
use Rattle.dslx_meaning.specs.Activation.{NodeLayer, StmtLayer, node_of}
use Rattle.dslx_meaning.specs.Lists.{and_then, where_true, with_both}
use Rattle.dslx_meaning.specs.Meaning.{turn_count}
use Rattle.dslx_meaning.specs.Types.{unit_type}
use Rattle.dslx_meaning.specs.Values.{bits_of, bool_value}
use Rattle.dslx_meaning.specs.Operators.{number_value}
use Rattle.dslx_meaning.specs.declared.ty.DslxType.{DslxType, out-DslxType}
use Rattle.dslx_meaning.specs.declared.value.DslxValue.{DslxValue}
use Rattle.dslx_meaning.specs.declared.value.SignedWord.{SignedWord}
use Rattle.dslx_core.specs.declared.expr.CoreExpr as core
use Rattle.dslx_core.specs.declared.expr.Shape.{Shape}
use Rattle.dslx_meaning.specs.Names.ConstMachine.Layers.{written}
use Rattle.dslx_core.specs.Lowering.CoreScopes.{CoreScope, bound_at, constant_at}
use Rattle.dslx_core.specs.Lowering.EqualTypes.{equal_type}
use Rattle.dslx_core.specs.Lowering.Functions.{CoreInstance, Instantiated, callee_of, instance_in}
use Rattle.dslx_core.specs.Lowering.Lowering.{LoweredExpr, lower_binary, lower_cast, lower_choice, cores_of, lower_element, lower_field, lower_index, literal, lowered, lower_name, lower_part, lower_prefix, lower_slice, types_of_lowered}
use Rattle.dslx_core.specs.Lowering.Patterns.{LoweredShape}
use Rattle.dslx_core.specs.Lowering.Trees.{of_type, lower_type_of_text}
use Rattle.dslx_core.specs.Machines.Machine.Tasks as task
use Rattle.dslx_core.specs.Machines.Machine.Tasks.{LastMaker, MakesPrefix, MakesBinary, MakesCast, MakesSlice, MakesPart, MakesField, MakesElement, MakesIndexed, MakesChoice, MakesTuple, CallsWith, LowerTask, OpenBody, InstanceEnv}
use Rattle.dslx_core.specs.Machines.Machine.Bodies.{bound_as, doing, gives, scope_in, restored, restores, with_last, with_made}
use Rattle.dslx_core.specs.Machines.Machine.Parts.{array_begins, fields_on, gathers, others_taken, part_taken, struct_begins}
use Rattle.dslx_core.specs.Machines.Machine.Arms.{arm_taken, arms_on, shaped_at}

-- ---- expressions

-- a number of a type that is written
abbrev pub number_at : CoreScope → Number → Option DslxValue
number_at scope n = and_then (and_then (out-Number n).ty (λ t. lower_type_of_text t scope)) (λ t. number_value t (written n))

abbrev pub node_begins : NodeLayer → InstanceEnv → OpenBody → Option OpenBody
node_begins (Node-F.Node::Number n) context body = gives (and_then (number_at (scope_in context body) n) literal) body
node_begins (Node-F.Node::Bool b) context body = gives (literal (bool_value b)) body
node_begins (Node-F.Node::Array t es dots) context body = array_begins t context es dots body
node_begins (Node-F.Node::Name name) context body = gives (lower_name name (scope_in context body)) body
node_begins (Node-F.Node::Member e a) context body = gives (and_then (context.items.member e.name a.name) literal) body
node_begins (Node-F.Call f parametric_args es) context body = gathers context [] es (CallsWith f.name parametric_args) body
node_begins (Node-F.Node::Tuple es) context body = gathers context [] es MakesTuple body
node_begins (Node-F.Struct s fields rest) context body = and_then (context.items.struct_named s.name) (λ t. struct_begins context fields rest (out-DslxType t) body)
node_begins (Node-F.Block b) context body = Some (doing (task.LowersBlock b ∷ []) body)
node_begins (Node-F.If c a b) context body = Some (doing (task.LowersExpr c ∷ task.LowersBlock a ∷ task.LowersExpr b ∷ task.Makes MakesChoice ∷ []) body)
node_begins (Node-F.Match e arms) context body = Some (doing (task.LowersExpr e ∷ task.LowersArms arms ∷ []) body)
node_begins (Node-F.For f) context body = Some (doing (task.LowersExpr (out-For f).start ∷ task.LowersExpr (out-For f).from ∷ task.LoopBegins f ∷ []) body)
node_begins (Node-F.Index e i) context body = Some (doing (task.LowersExpr e ∷ task.LowersExpr i ∷ task.Makes MakesIndexed ∷ []) body)
node_begins (Node-F.Slice e a b) context body = Some (doing (task.LowersExpr e ∷ task.Makes (MakesSlice a b) ∷ []) body)
node_begins (Node-F.Part e i t) context body = Some (doing (task.LowersExpr e ∷ task.LowersExpr i ∷ task.Makes (MakesPart t) ∷ []) body)
node_begins (Node-F.Field e name) context body = Some (doing (task.LowersExpr e ∷ task.Makes (MakesField name.name) ∷ []) body)
node_begins (Node-F.Element e span k) context body = Some (doing (task.LowersExpr e ∷ task.Makes (MakesElement k) ∷ []) body)
node_begins (Node-F.Prefix o e) context body = Some (doing (task.LowersExpr e ∷ task.Makes (MakesPrefix o) ∷ []) body)
node_begins (Node-F.Cast e t) context body = Some (doing (task.LowersExpr e ∷ task.Makes (MakesCast t) ∷ []) body)
node_begins (Node-F.Binary o l r) context body = Some (doing (task.LowersExpr l ∷ task.LowersExpr r ∷ task.Makes (MakesBinary o) ∷ []) body)

abbrev pub of_last : List LoweredExpr → (LoweredExpr → Option LoweredExpr) → Option (List LoweredExpr)
of_last [] f = None
of_last (e ∷ made) f = and_then (f e) (λ r. Some (r ∷ made))

-- the first one was made first
abbrev pub of_last_two : List LoweredExpr → (LoweredExpr → LoweredExpr → Option LoweredExpr) → Option (List LoweredExpr)
of_last_two (b ∷ a ∷ made) f = and_then (f a b) (λ r. Some (r ∷ made))
of_last_two _ f = None

abbrev pub of_last_three : List LoweredExpr → (LoweredExpr → LoweredExpr → LoweredExpr → Option LoweredExpr) → Option (List LoweredExpr)
of_last_three (c ∷ b ∷ a ∷ made) f = and_then (f a b c) (λ r. Some (r ∷ made))
of_last_three _ f = None

abbrev pub made_of_last : LastMaker → CoreScope → List LoweredExpr → Option (List LoweredExpr)
made_of_last (MakesPrefix o) scope made = of_last made (λ e. lower_prefix o (Some e))
made_of_last (MakesBinary o) scope made = of_last_two made (λ l r. lower_binary o (Some l) (Some r))
made_of_last (MakesCast t) scope made = of_last made (λ e. lower_cast (Some e) (lower_type_of_text t scope))
made_of_last (MakesSlice a b) scope made = of_last made (λ e. lower_slice (Some e) (bound_at scope a) (bound_at scope b))
made_of_last (MakesPart t) scope made = of_last_two made (λ e i. lower_part (Some e) (Some i) (lower_type_of_text t scope))
made_of_last (MakesField name) scope made = of_last made (λ e. lower_field (Some e) name)
made_of_last (MakesElement k) scope made = of_last made (λ e. lower_element (Some e) k)
made_of_last MakesIndexed scope made = of_last_two made (λ e i. lower_index (Some e) (Some i))
made_of_last MakesChoice scope made = of_last_three made (λ c a b. lower_choice (Some c) (Some a) (Some b))

-- ---- blocks

-- the value of an expression that stands as a statement isn't used
abbrev pub stmt_begins : StmtLayer → List Stmt → Option Expr → OpenBody → Option OpenBody
stmt_begins (Stmt-F.Let l) ss last body = Some (doing (task.LowersExpr (out-Let l).value ∷ task.BindsValue (out-Let l).pattern ss last ∷ []) body)
stmt_begins (Stmt-F.Bare e) ss last body = Some (doing (task.LowersStatements ss last ∷ []) body)

abbrev pub last_begins : Option Expr → OpenBody → Option OpenBody
last_begins None body = gives (lowered (core.Tuple []) unit_type) body
last_begins (Some e) body = Some (doing (task.LowersExpr e ∷ []) body)

abbrev pub statements_begin : List Stmt → Option Expr → OpenBody → Option OpenBody
statements_begin [] last body = last_begins last body
statements_begin (s ∷ ss) last body = stmt_begins (out-Stmt s) ss last body

abbrev pub value_bound : InstanceEnv → LoweredExpr → Pattern → List Stmt → Option Expr → OpenBody → Option OpenBody
value_bound context e p ss last body =
    and_then (shaped_at p (scope_in context body) e.ty) (λ s. Some (bound_as s.scope (doing (task.LowersStatements ss last ∷ task.MakesBind e s.shape ∷ restores body ∷ []) body)))

-- a value that is bound to a shape for another
abbrev pub bind_made : LoweredExpr → Shape → LoweredExpr → Option LoweredExpr
bind_made e s r = lowered (core.Bind e.core s r.core) r.ty

-- ---- loops

-- what an index and what is accumulated bind
abbrev pub turn_shaped : CoreScope → For → DslxType → DslxType → Option (Shape × LoweredShape)
turn_shaped scope f index acc =
    and_then (shaped_at (out-For f).index scope index) (λ i. and_then (shaped_at (out-For f).accumulator i.scope acc) (λ acc. Some (i.shape, acc)))

abbrev pub loop_begins : For → LoweredExpr → LoweredExpr → InstanceEnv → OpenBody → Option OpenBody
loop_begins f start index context body =
    with_both (and_then (constant_at (scope_in context body) (out-For f).from) bits_of) (and_then (constant_at (scope_in context body) (out-For f).to) bits_of) (λ a b.
    and_then (turn_shaped (scope_in context body) f index.ty start.ty) (λ t.
    Some (bound_as t.1.scope (doing (task.LowersBlock (out-For f).body ∷ task.MakesLoop start a b t.0 t.1.shape ∷ restores body ∷ []) body))))

abbrev pub loop_made : LoweredExpr → SignedWord → SignedWord → Shape → Shape → LoweredExpr → Option LoweredExpr
loop_made start a b i acc body =
    where_true (equal_type start.ty body.ty && nat_lt (turn_count a b) (2 ^ 64)) (lowered (core.Loop (turn_count a b) a.word i acc body.core start.core) start.ty)

-- ---- calls

abbrev pub instance_of : InstanceEnv → Instantiated → Option (ℕ × CoreInstance)
instance_of context i = instance_in i.name i.parametric_args 0 context.table

abbrev pub call_made : InstanceEnv → Instantiated → List LoweredExpr → Option LoweredExpr
call_made context i es =
    and_then (and_then (instance_of context i) (callee_of (types_of_lowered es))) (λ callee. lowered (core.Call callee.number (cores_of es)) callee.result)

-- ---- one step

abbrev pub stepped : LowerTask → InstanceEnv → OpenBody → Option OpenBody
stepped (task.LowersExpr e) context body = node_begins (node_of e) context body
stepped (task.LowersBlock b) context body = statements_begin (out-Block b).statements (out-Block b).value body
stepped (task.LowersStatements ss last) context body = statements_begin ss last body
stepped (task.Makes maker) context body = and_then (made_of_last maker (scope_in context body) body.made) (λ made. Some (with_made made body))
stepped (task.BindsValue p ss last) context body = with_last body.made (λ e made. value_bound context e p ss last (with_made made body))
stepped (task.MakesBind e s) context body = with_last body.made (λ r made. gives (bind_made e s r) (with_made made body))
stepped (task.Gathers before es maker) context body =
    with_last body.made (λ e made. and_then (part_taken maker e) (λ e. gathers context (before ++ e ∷ []) es maker (with_made made body)))
stepped (task.TakesOthers t fields ts written) context body = with_last body.made (λ e made. others_taken context e t fields ts written (with_made made body))
stepped (task.GathersFields work before t fields ts) context body =
    with_last body.made (λ e made. and_then (of_type t (Some e)) (λ e. fields_on context work (before ++ e ∷ []) fields ts (with_made made body)))
stepped (task.LowersArms arms) context body = with_last body.made (λ e made. arms_on context e [] arms (with_made made body))
stepped (task.TakesArm work shapes) context body = with_last body.made (λ v made. arm_taken context work shapes v (with_made made body))
stepped (task.LoopBegins f) context body = with_last body.made (λ index made. with_last made (λ start made. loop_begins f start index context (with_made made body)))
stepped (task.MakesLoop start a b i acc) context body = with_last body.made (λ r made. gives (loop_made start a b i acc r) (with_made made body))
stepped (task.Restores n count) context body = Some (restored n count body)
stepped (task.NeedsInstance i) context body = and_then (instance_of context i) (λ p. Some body)
stepped (task.CallsInstance i es) context body = gives (call_made context i es) body
